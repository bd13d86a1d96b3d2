use Rattle.std.proofs.Common.{◌≡◌, take}
use Rattle.std.specs.List.{filter_map}
use Rattle.std.specs.Ordering.{eq_by_cmp}
use Rattle.si_model.specs.Versions.{last_write}
use Rattle.si_judge.specs.Indexes.{read_at}
use Rattle.si_judge.specs.Maps.{AreInserted}
use Rattle.si_judge.specs.KeptReads.{AreInOrder, own_at, kept_read_cmp}
use Rattle.si_judge.proofs.kept_reads.KeptReads.insert_of.Given as goal

abbrev pub invariant-loop-placed : goal.invariant-loop-placed
invariant-loop-placed l = (l.own ≡ last_write (take l.placed-index l.part.accesses))
    × AreInserted (eq_by_cmp kept_read_cmp) (own_at l.initial.self) (filter_map (read_at l.part) (take l.placed-index l.part.accesses)) (own_at l.self)
    × (AreInOrder l.initial.self → AreInOrder l.self)
