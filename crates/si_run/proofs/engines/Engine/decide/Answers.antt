use Rattle.std.proofs.Common.{rules, ◌≡◌, ◌∙◌, inr, sym, ap}
use Rattle.std.proofs.lemmas.Result.{err_from_is_err_and}
use Rattle.si_run.specs.Engines.{EngineState}
use Rattle.si_run.specs.Outputs.{Progress, Terms, decided_after, is_due, sourced}
use Rattle.si_run.proofs.SomeText.{due_text_is}
use Rattle.si_run.proofs.engines.Engine.decide.Goals as goal

pub returns-in_err-report_where_due-clause-err : goal.returns-in_err-report_where_due-clause-err
unfolding decided_after
returns-in_err-report_where_due-clause-err g c =
    let terms = c.args.self.now.terms in
    let p = c.args.self.now.progress in
    let item = sourced c.args.source c.args.item in
    let now = c.count-decision.new.self in
    let state : now.progress ≡ decided_after terms p item = search rules in
    let same : now.terms ≡ terms = search rules in
    let due_is : is_due terms.every (decided_after terms p item).decided ≡ is_due now.terms.every now.progress.decided =
    sym (ap (λ (t : Terms). is_due t.every now.progress.decided) same ∙ ap (λ (q : Progress). is_due terms.every q.decided) state) in
    let f = err_from_is_err_and c.from_residual-in_err-report_where_due.result c.from_residual-in_err-report_where_due.ensures.1 in
    let told = c.in_err-report_where_due.ensures in
    rw f.1 (inr (ap (λ (e : EngineState). e.progress) told.err ∙ state, due_text_is terms p item (due_is ∙ told.due)))
