use Rattle.std.proofs.Common.{rules, ◌≡◌, ◌∙◌, length, sym, ap, subst, arith}
use Rattle.std.proofs.lemmas.List.{length-map}
use Rattle.std.proofs.lemmas.Result.{IfOk-weaker}
use Rattle.si_model.specs.History.{IsHistory}
use Rattle.si_model.specs.Journals.{present}
use Rattle.si_words.specs.Entries.{edit_in, edits_of}
use Rattle.si_checker.proofs.Present.{no_more_than_edits}
use Rattle.si_checker.proofs.checkers.Checker.present.Goals as goal

pub returns-clause-most : goal.returns-clause-most
returns-clause-most g c =
    let seen = c.show.new.pass.view.seen in
    let is = ap (λ p. p.view.seen) c.show.ensures.sees.sees in
    let few = no_more_than_edits (edits_of seen) in
    let kept = length-map seen edit_in in
    IfOk-weaker c.present.result _ _
    (λ txns h. (let many : length txns.items ≡ length (present (edits_of seen)).txns = ap length h ∙ ap (λ J. length (present (edits_of J)).txns) (ap (λ b. b.journal) c.show.ensures.locked_book ∙ sym is) in omega (arith, many, few, kept))) c.present.ensures

pub returns-clause-history : goal.returns-clause-history
returns-clause-history g c =
    subst (λ J. IsHistory (present (edits_of J))) (sym (ap (λ p. p.view.seen) c.show.ensures.sees.sees)) (c.present_is_history.ensures _ c.show.ensures.sees.accepted)
