use Rattle.std.proofs.Common.{◌≡◌, drop}
use Rattle.si_model.specs.HistoryTests.{pairwise, txns_apart}
use Rattle.si_model.proofs.history.are_txns_apart.Given as goal

abbrev pub invariant-loop-place : goal.invariant-loop-place
invariant-loop-place l = pairwise txns_apart (drop l.place l.txns) ≡ pairwise txns_apart l.txns
