use Rattle.std.proofs.Common.{◌≡◌, drop}
use Rattle.si_model.specs.Edits.{first_at, taken_at}
use Rattle.si_model.proofs.refusals.taken_refusal.Given as goal

abbrev pub invariant-loop-place : goal.invariant-loop-place
invariant-loop-place g l = first_at (taken_at (g.H.Holders.present l.holders).txns) l.place (drop l.place l.ops) ≡ first_at (taken_at (g.H.Holders.present l.holders).txns) 0 l.ops
