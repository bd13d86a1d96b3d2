use Rattle.std.proofs.Common.{◌∙◌, ap, sym}
use Rattle.si_judge.specs.Sights.{version_in}
use Rattle.si_judge.proofs.Told.{found_once, once}
use Rattle.si_judge.proofs.indexes.Indexes.version_of.Goals as goal

pub returns : goal.returns
returns c = λ M is. found_once c.args.self.now.timeline c.in_ok-value.field-0 c.of_value.result (once c.args.self.now is) c.of_value.ensures
    ∙ ap (version_in c.args.self.now) (sym c.in_ok-value.was)
