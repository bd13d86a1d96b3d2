use Rattle.std.proofs.Common.{◌≡◌, drop}
use Rattle.si_model.specs.Edits.{first_at, twice_at}
use Rattle.si_model.proofs.plain.twice_refusal.Given as goal

abbrev pub invariant-loop-place : goal.invariant-loop-place
invariant-loop-place l = first_at (twice_at l.ops) l.place (drop l.place l.ops) ≡ first_at (twice_at l.ops) 0 l.ops
