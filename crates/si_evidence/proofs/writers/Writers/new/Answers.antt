use Rattle.std.proofs.Common.{[], ◌∷◌, ◌++◌, ap, subst, sym, length, length-append, arith, ◌<◌, ◌≡◌, ◌∙◌, List}
use Rattle.std.specs.Prelude.{slice_index_or}
use Rattle.std.specs.List.{Contains}
use Rattle.si_model.specs.declared.transactions.Txn.{Txn}
use Rattle.si_model.specs.KeyTexts.{shard_number}
use Rattle.si_evidence.proofs.Buckets.{all_empty, some_more}
use Rattle.si_evidence.proofs.writers.Writers.new.Goals as goal

pub loop-turn-preserved : goal.loop-turn-preserved
loop-turn-preserved c =
    some_more c.loop-turn.buckets.items c.push-in-loop-turn.new.self.items c.new-in-loop-turn.result c.new-in-loop-turn.ensures c.in_ok-push-2.ensures.items c.loop-turn.invariant

pub returns : goal.returns
returns c = λ x T at. c.loop-turn.invariant.1 (shard_number x (length c.loop-turn.buckets.items)) T at
