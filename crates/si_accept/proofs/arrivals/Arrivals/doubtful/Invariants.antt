use Rattle.std.proofs.Common.{◌≡◌, ◌++◌, drop, nat_eq}
use Rattle.std.specs.HashMap.{get}
use Rattle.std.specs.List.{filter_map, enumerate_from}
use Rattle.si_accept.specs.Arrivals.{present_at, present_in}
use Rattle.si_accept.specs.Statuses.{doubtful_among}
use Rattle.si_accept.proofs.arrivals.Arrivals.doubtful.Given as goal

-- what was found, and what is left to find
abbrev pub invariant-loop-place : goal.invariant-loop-place
invariant-loop-place l = l.ids.items ++ doubtful_among (filter_map (present_at (get nat_eq l.self-inside.places) (get nat_eq l.self-inside.resolved)) (enumerate_from l.place (drop l.place l.edit-items))) ≡ doubtful_among (present_in (get nat_eq l.self-inside.places) (get nat_eq l.self-inside.resolved) l.edit-items)
