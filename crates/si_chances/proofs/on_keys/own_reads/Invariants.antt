use Rattle.std.proofs.Common.{◌≡◌, take, sum_by}
use Rattle.si_chances.specs.Summaries.{own_reads}
use Rattle.si_chances.proofs.on_keys.own_reads.Given as goal

abbrev pub invariant-loop-part : goal.invariant-loop-part
invariant-loop-part l = l.count ≡ sum_by own_reads (take l.part-index l.parts)
