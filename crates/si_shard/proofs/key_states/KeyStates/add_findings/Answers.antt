use Rattle.std.proofs.Common.{◌∙◌, ◌++◌, ap, subst, sym}
use Rattle.std.proofs.lemmas.List.{append-nil}
use Rattle.si_model.specs.Findings.{cases, findings_on}
use Rattle.si_judge.proofs.Bare.{nothing_found}
use Rattle.si_shard.specs.KeyStates.{ShowsAt}
use Rattle.si_shard.proofs.OnKeys.{shows_settled}
use Rattle.si_shard.proofs.key_states.KeyStates.add_findings.Goals as goal

pub returns-in_ok-append : goal.returns-in_ok-append
returns-in_ok-append c = λ Q on.
    let x = c.args.key.now in
    let shown = shows_settled c.args.self.now x c.in-Some.kept.now Q c.requires (sym c.in-Some.ensures.value) on in
    c.in_ok-append.ensures.items ∙ ap (λ fs. c.args.all.now.items ++ fs) (c.in_ok-found.ensures Q shown.1 ∙ ap (λ y. findings_on cases y Q) shown.0)

pub returns-in_default : goal.returns-in_default
returns-in_default c = λ Q on.
    let x = c.args.key.now in
    let bare = subst (λ o. ShowsAt x o Q) (sym c.in_default.ensures.value) on.shows in
    let none = nothing_found Q bare.1 cases bare.0 x in
    sym (ap (λ fs. c.args.all.now.items ++ fs) none ∙ append-nil c.args.all.now.items)
