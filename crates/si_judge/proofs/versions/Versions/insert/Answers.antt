use Rattle.std.proofs.Common.{subst, sym}
use Rattle.std.specs.Option.{MatchOption}
use Rattle.std.specs.Prelude.{⊤}
use Rattle.si_timeline.specs.Timelines.{Adds, Lacks, ValuesRise}
use Rattle.si_judge.specs.Commits.{AreCommitsOf, FitsRising}
use Rattle.si_judge.proofs.Commits.{came_with}
use Rattle.si_judge.proofs.RisingValues.{rise_with}
use Rattle.si_judge.proofs.versions.Versions.insert.Goals as goal

pub insert-requires : goal.insert-requires
insert-requires c = subst (λ ds. Lacks ds c.args.commit) (sym c.self.view_is) c.requires.lacks

pub commits_with-requires-clause-once : goal.commits_with-requires-clause-once
commits_with-requires-clause-once c = c.requires.once c.insert.new.self (subst (λ ds. Adds c.args.commit c.args.version ds c.insert.new.self) c.self.view_is c.in_ok-insert.ensures.ok)

pub commits_with-requires-clause-came : goal.commits_with-requires-clause-came
commits_with-requires-clause-came c = came_with (λ b. b.value) c.self.inside.timeline c.insert.new.self c.args.commit c.args.version c.take-commits.result c.in_ok-insert.ensures.ok
    (subst (λ o. MatchOption o ⊤ (λ b. AreCommitsOf c.self.inside.timeline b.value)) (sym c.take-commits.ensures.value) c.self.invariant.1)

pub invariant_of-self : goal.invariant_of-self
invariant_of-self c = (
  λ rises. subst ValuesRise (sym c.in_err-insert.ensures.err) (c.self.invariant.0 rises),
  subst (λ o. MatchOption o ⊤ (λ b. AreCommitsOf c.insert.new.self b.value)) (sym c.take-commits.ensures.after) tt,
)

pub invariant_of-self-in_err-self-inside : goal.invariant_of-self-in_err-self-inside
invariant_of-self-in_err-self-inside c = (
  λ rises. rise_with c.self.inside.timeline c.insert.new.self c.args.commit c.args.version c.in_ok-insert.ensures.ok
      (subst (λ ds. FitsRising ds c.args.commit c.args.version.value) (sym c.self.view_is) (c.keeps_rising-rises.ensures rises)),
  subst (λ o. MatchOption o ⊤ (λ b. AreCommitsOf c.insert.new.self b.value)) (sym c.take-commits.ensures.after) tt,
)

pub invariant_of-self-2 : goal.invariant_of-self-2
invariant_of-self-2 c = (
  λ rises. rise_with c.self.inside.timeline c.insert.new.self c.args.commit c.args.version c.in_ok-insert.ensures.ok
      (subst (λ ds. FitsRising ds c.args.commit c.args.version.value) (sym c.self.view_is) (c.keeps_rising-rises.ensures rises)),
  c.in_ok-self-inside.ensures,
)
