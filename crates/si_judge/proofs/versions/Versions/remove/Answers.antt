use Rattle.std.proofs.Common.{refl, subst, sym}
use Rattle.std.specs.Option.{MatchOption}
use Rattle.std.specs.Prelude.{⊤}
use Rattle.si_timeline.specs.Timelines.{Lacks}
use Rattle.si_judge.specs.Commits.{AreCommitsOf}
use Rattle.si_judge.proofs.RisingValues.{rise_without}
use Rattle.si_judge.proofs.versions.Versions.remove.Goals as goal

pub invariant_of-self : goal.invariant_of-self
invariant_of-self c = (
  λ rises. rise_without c.remove-version.new.self c.self.inside.timeline c.args.commit c.remove-version.result c.remove-version.ensures.removed (c.self.invariant.0 rises),
  c.commits_without.ensures c.remove-version.new.self c.self.inside.timeline c.args.commit c.remove-version.result c.remove-version.ensures.removed c.remove-version.ensures.gone refl
      (subst (λ o. MatchOption o ⊤ (λ b. AreCommitsOf c.self.inside.timeline b.value)) (sym c.take-commits.ensures.value) c.self.invariant.1),
)

pub returns-clause-gone : goal.returns-clause-gone
returns-clause-gone c = subst (λ ds. Lacks ds c.args.commit) (sym c.index_tree.ensures) c.remove-version.ensures.gone
