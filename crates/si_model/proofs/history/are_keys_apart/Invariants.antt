use Rattle.std.proofs.Common.{◌≡◌, drop}
use Rattle.si_model.specs.HistoryTests.{pairwise, keys_apart}
use Rattle.si_model.proofs.history.are_keys_apart.Given as goal

abbrev pub invariant-loop-place : goal.invariant-loop-place
invariant-loop-place l = pairwise keys_apart (drop l.place l.pairs) ≡ pairwise keys_apart l.pairs
