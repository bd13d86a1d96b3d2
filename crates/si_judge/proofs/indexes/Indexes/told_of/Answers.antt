use Rattle.std.proofs.Common.{◌∙◌, ap₂}
use Rattle.si_judge.specs.Sights.{later_with, source_with}
use Rattle.si_judge.proofs.indexes.Indexes.told_of.Goals as goal

pub returns-in-None-clause-source : goal.returns-in-None-clause-source
returns-in-None-clause-source c = λ M is. c.told_by_version.ensures.source ∙ ap₂ source_with c.in-None.ensures (c.version_of.ensures M is)

pub returns-in-None-clause-later : goal.returns-in-None-clause-later
returns-in-None-clause-later c = λ M is. c.told_by_version.ensures.later ∙ ap₂ (later_with c.args.read) c.in-None.ensures (c.version_of.ensures M is)
