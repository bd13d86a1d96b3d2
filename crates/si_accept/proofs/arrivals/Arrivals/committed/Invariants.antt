use Rattle.std.proofs.Common.{◌≡◌, ◌+◌, ◌≤◌, drop, nat_eq}
use Rattle.std.specs.HashMap.{get}
use Rattle.std.specs.List.{filter_map, enumerate_from}
use Rattle.si_accept.specs.Arrivals.{present_at, present_in}
use Rattle.si_accept.specs.Statuses.{committed_among}
use Rattle.si_accept.proofs.arrivals.Arrivals.committed.Given as goal

-- what was counted, and what is left to count; at most one was counted of each edit
abbrev pub invariant-loop-place : goal.invariant-loop-place
invariant-loop-place l = record {
  sum : l.count + committed_among (filter_map (present_at (get nat_eq l.self-inside.places) (get nat_eq l.self-inside.resolved)) (enumerate_from l.place (drop l.place l.edit-items))) ≡ committed_among (present_in (get nat_eq l.self-inside.places) (get nat_eq l.self-inside.resolved) l.edit-items);
  few : l.count ≤ l.place;
}
