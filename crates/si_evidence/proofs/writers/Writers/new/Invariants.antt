use Rattle.std.proofs.Common.{◌<◌, ℕ, [], length}
use Rattle.std.specs.Prelude.{slice_index_or}
use Rattle.std.specs.List.{Contains}
use Rattle.si_model.specs.declared.transactions.Txn.{Txn}
use Rattle.si_evidence.proofs.writers.Writers.new.Given as goal

abbrev pub invariant-loop-turn : goal.invariant-loop-turn
invariant-loop-turn l = (0 < length l.buckets.items) × ((i : ℕ) (T : Txn) → Contains (slice_index_or l.buckets.items i []) T → ⊥)
