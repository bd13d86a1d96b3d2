use Rattle.std.proofs.Common.{◌∙◌, ap, subst, sym}
use Rattle.std.specs.List.{Contains, find}
use Rattle.std.specs.Option.{MatchOption}
use Rattle.std.specs.Prelude.{⊤}
use Rattle.si_model.specs.Operations.{same_value}
use Rattle.si_timeline.specs.Timelines.{IsAt, IsOfValue, ValuesRise}
use Rattle.si_judge.specs.Commits.{AreCommitsOf}
use Rattle.si_judge.specs.Values.{at_value}
use Rattle.si_judge.proofs.Commits.{is_there, none_found, one_found, walked}
use Rattle.si_judge.proofs.versions.Versions.of_value.Goals as goal

pub returns-in_err-commit-in-Some : goal.returns-in_err-commit-in-Some
returns-in_err-commit-in-Some c =
    subst (IsOfValue c.args.self.now c.args.value) (sym c.from_residual.ensures) (none_found c.args.self.now c.in-Some.commits.value (subst (λ ds. AreCommitsOf ds c.in-Some.commits.value) c.self.view_is
    (subst (λ o. MatchOption o ⊤ (λ b. AreCommitsOf c.self.inside.timeline b.value)) c.in-Some.is c.self.invariant.1)) c.args.value
    (ap (λ m. at_value m c.args.value) (sym c.deref.ensures) ∙ sym c.get.ensures.value ∙ c.in_err-commit-in-Some.was))

pub returns-in_err-version-in-Some : goal.returns-in_err-version-in-Some
returns-in_err-version-in-Some c = absurd (is_there c.args.self.now c.in-Some.commits.value (subst (λ ds. AreCommitsOf ds c.in-Some.commits.value) c.self.view_is
    (subst (λ o. MatchOption o ⊤ (λ b. AreCommitsOf c.self.inside.timeline b.value)) c.in-Some.is c.self.invariant.1)) c.args.value c.in_ok-commit-in-Some.commit
    (ap (λ m. at_value m c.args.value) (sym c.deref.ensures) ∙ sym c.get.ensures.value ∙ c.in_ok-commit-in-Some.was)
    (λ w x. c.in_err-version-in-Some.ensures w (subst (λ ds. Contains ds (c.in_ok-commit-in-Some.commit, w)) (sym c.self.view_is) x)))

pub returns-in_ok-version-in-Some : goal.returns-in_ok-version-in-Some
returns-in_ok-version-in-Some c = one_found c.args.self.now c.in-Some.commits.value (subst (λ ds. AreCommitsOf ds c.in-Some.commits.value) c.self.view_is
    (subst (λ o. MatchOption o ⊤ (λ b. AreCommitsOf c.self.inside.timeline b.value)) c.in-Some.is c.self.invariant.1)) c.args.value c.in_ok-commit-in-Some.commit c.in_ok-version-in-Some.version
    (ap (λ m. at_value m c.args.value) (sym c.deref.ensures) ∙ sym c.get.ensures.value ∙ c.in_ok-commit-in-Some.was)
    (subst (λ ds. IsAt ds c.in_ok-commit-in-Some.commit c.in_ok-version-in-Some.version) c.self.view_is c.in_ok-version-in-Some.ensures)

pub of_rising-requires-clause-values : goal.of_rising-requires-clause-values
of_rising-requires-clause-values c = subst ValuesRise (sym c.in-Some-as_flat.ensures.flat) (c.self.invariant.0 c.if-self.true)

pub returns-in_default : goal.returns-in_default
returns-in_default c = walked c.args.self.now c.args.value c.of_value.result (c.of_value.ensures ∙ ap (find (λ d. same_value d.1.value c.args.value)) c.self.view_is)
