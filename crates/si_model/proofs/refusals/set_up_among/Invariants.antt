use Rattle.std.proofs.Common.{◌≡◌, drop}
use Rattle.si_model.specs.Edits.{first_at, set_up_at}
use Rattle.si_model.proofs.refusals.set_up_among.Given as goal

abbrev pub invariant-loop-place : goal.invariant-loop-place
invariant-loop-place g l = first_at (set_up_at (g.H.Holders.present l.holders).initial) l.place (drop l.place l.ops) ≡ first_at (set_up_at (g.H.Holders.present l.holders).initial) 0 l.ops
