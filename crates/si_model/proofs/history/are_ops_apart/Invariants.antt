use Rattle.std.proofs.Common.{◌≡◌, drop}
use Rattle.si_model.specs.HistoryTests.{pairwise, ops_apart}
use Rattle.si_model.proofs.history.are_ops_apart.Given as goal

abbrev pub invariant-loop-place : goal.invariant-loop-place
invariant-loop-place l = pairwise ops_apart (drop l.place l.ops) ≡ pairwise ops_apart l.ops
