use Rattle.std.proofs.Common.{◌≡◌, ◌∙◌, ◌≤◌, List, ℕ, Some, arith, ap, slice_get, slice_index_or, subst, take}
use Rattle.std.proofs.lemmas.Option.{get_or_from_slice_get}
use Rattle.si_model.specs.declared.edits.Edit.{Edit}
use Rattle.si_model.specs.Journals.{present}
use Rattle.si_accept.specs.Books.{BookState}
use Rattle.si_accept.specs.Notes.{IsNoted, noted_at}
use Rattle.si_accept.proofs.Noting.{told_none, told_noted}
use Rattle.si_accept.proofs.books.Book.before.Goals as goal

-- the edit that is looked at stands there
looked_at : (journal looked : List Edit) (p : ℕ) (d e : Edit) → d ≡ slice_index_or looked p d → looked ≡ journal → slice_get journal p ≡ Some e → d ≡ e
looked_at journal looked p d e is same at = is ∙ ap (λ l. slice_index_or l p d) same ∙ get_or_from_slice_get journal p e d at

pub returns-in-Resolve : goal.returns-in-Resolve
returns-in-Resolve c = λ e at.
    let p = c.args.place in
    let is = ap (λ (b : BookState). b.journal) c.self.view_is in
    let low : c.self.inside.notes.from ≤ p = (let from = ap (λ (b : BookState). b.noted) c.self.view_is in let asked = c.requires.noted in omega arith) in
    let noted = subst (λ l. IsNoted (present (take p l)) e (noted_at c.self.inside.notes p)) is (c.self.invariant.notes.exact p e low (ap (λ l. slice_get l p) is ∙ at)) in
    c.get.ensures ∙ told_noted (present (take p c.args.self.now.journal)) c.index-journal-place.result e
    (looked_at c.args.self.now.journal c.journal.result.now p c.index-journal-place.result e c.index-journal-place.is (c.journal.ensures ∙ is) at) (noted_at c.self.inside.notes p) c.in-Resolve.is noted

pub returns-in-Arrive : goal.returns-in-Arrive
returns-in-Arrive c = λ e at.
    told_none (present (take c.args.place c.args.self.now.journal)) c.index-journal-place.result e
    (looked_at c.args.self.now.journal c.journal.result.now c.args.place c.index-journal-place.result e c.index-journal-place.is (c.journal.ensures ∙ ap (λ (b : BookState). b.journal) c.self.view_is) at)
    c.in-Arrive.is
