use Rattle.si_judge.proofs.RisingValues.{once}
use Rattle.si_judge.proofs.versions.Versions.index_tree.Goals as goal

pub first_commits-requires : goal.first_commits-requires
first_commits-requires c = once c.self.inside.timeline c.as_flat.ensures.rising (c.self.invariant.0 c.if-not-self.false)
