use Rattle.std.proofs.Common.{rules, ◌≡◌, ◌∙◌, Bool, true, List, Option, Some, None, sym, ap, subst, if◌then◌else◌}
use Rattle.si_model.specs.declared.edits.Edit.{Edit}
use Rattle.si_model.specs.declared.transactions.Txn.{Txn}
use Rattle.si_model.specs.declared.chances.Chances.{Chances}
use Rattle.si_model.specs.Chances.{chances}
use Rattle.si_model.specs.History.{IsHistory}
use Rattle.si_model.specs.Journals.{present}
use Rattle.si_text.specs.Texts.{asks}
use Rattle.si_words.specs.Entries.{edits_of}
use Rattle.si_run.proofs.engines.Engine.chances.Goals as goal

pub chances_of-requires-clause-history : goal.chances_of-requires-clause-history
chances_of-requires-clause-history g c =
    let P = present (edits_of c.present.new.pass.view.seen) in
    let txns : c.deref.result.now ≡ P.txns = search rules in
    (P.initial, subst (λ (t : List Txn). IsHistory (record { txns = t; initial = P.initial })) (sym txns) c.in_ok-present.ensures.history)

pub returns-clause-some : goal.returns-clause-some
returns-clause-some g c =
    let J = c.args.self.now.progress.journal in
    let P = present J in
    let on : asks c.args.self.now.terms.asked ≡ true = search rules in
    let same : edits_of c.present.new.pass.view.seen ≡ J = search rules in
    let txns : c.deref.result.now ≡ (present (edits_of c.present.new.pass.view.seen)).txns = search rules in
    let told = c.in_ok-chances_of.ensures P.initial ∙ ap (λ (t : List Txn). chances (record { txns = t; initial = P.initial })) (txns ∙ ap (λ (K : List Edit). (present K).txns) same) in
    ap (λ (n : Chances). Some n) told ∙ sym (ap (λ (b : Bool). if b then Some (chances P) else None) on)
