use Rattle.std.proofs.Common.{◌≡◌, drop, take}
use Rattle.si_model.specs.Edits.{first_at, twice_at}
use Rattle.si_accept.proofs.OwnWrites.{IsSeen}
use Rattle.si_accept.proofs.twice.indexed_refusal.Given as goal

abbrev pub invariant-loop-place : goal.invariant-loop-place
invariant-loop-place l = record {
  seen : IsSeen (take l.place l.ops) l.seen;
  rest : first_at (twice_at l.ops) l.place (drop l.place l.ops) ≡ first_at (twice_at l.ops) 0 l.ops;
}
