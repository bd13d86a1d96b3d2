use Rattle.std.proofs.Common.{◌≡◌, take}
use Rattle.si_model.specs.declared.findings.Finding.{Finding}
use Rattle.si_shard.specs.Counts.{told_times}
use Rattle.si_shard.specs.KeyNotes.{times_in}
use Rattle.si_shard.proofs.merging.count_each.Given as goal

abbrev pub invariant-loop-finding : goal.invariant-loop-finding
invariant-loop-finding l = (f : Finding) → told_times l.counts f ≡ times_in f (take l.finding-index l.found)
