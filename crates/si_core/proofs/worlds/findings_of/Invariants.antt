use Rattle.std.proofs.Common.{◌≡◌, List, length}
use Rattle.si_model.specs.declared.edits.Edit.{Edit}
use Rattle.si_model.specs.Journals.{IsAccepted}
use Rattle.si_model.specs.Parts.{Present}
use Rattle.si_shard.specs.Laws.{findings_below}
use Rattle.si_core.specs.Worlds.{AllFollow, AreFoundOf}
use Rattle.si_core.proofs.worlds.findings_of.Given as goal

abbrev pub invariant-loop-place : goal.invariant-loop-place
invariant-loop-place l = (J : List Edit) (P : Present) → IsAccepted J → AllFollow J l.shards → AreFoundOf J P l.shards → l.found.items ≡ findings_below l.place (length l.shards) P
