use Rattle.std.proofs.Common.{◌∙◌}
use Rattle.si_judge.proofs.Nearest.{nearest_seen}
use Rattle.si_judge.proofs.indexes.Indexes.sight_of.Goals as goal

pub returns-in-Some-clause-seen : goal.returns-in-Some-clause-seen
returns-in-Some-clause-seen c = λ M is.
    let near = c.in-Some.ensures in
    c.sight_of_nearest.ensures ∙ nearest_seen c.args.self.now is c.args.read (c.in-Some.commit, c.in-Some.version) near.0 near.1 near.2
