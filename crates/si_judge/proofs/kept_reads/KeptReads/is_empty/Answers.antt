use Rattle.std.proofs.Common.{◌∙◌, ap, sym}
use Rattle.si_judge.specs.KeptReads.{with_own}
use Rattle.si_judge.proofs.OwnApart.{none_with_own}
use Rattle.si_judge.proofs.kept_reads.KeptReads.is_empty.Goals as goal

pub returns : goal.returns
returns c = (
  (λ empty. sym c.self.view_is ∙ ap (with_own c.self.inside.own) (c.is_empty.ensures.0 empty)),
  (λ none. c.is_empty.ensures.1 (none_with_own c.self.inside.own c.self.inside.all (c.self.view_is ∙ none))),
)
