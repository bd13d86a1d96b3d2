use Rattle.std.proofs.Common.{◌≡◌, [], ◌∷◌, ◌++◌, length, rules, subst, sym, ap}
use Rattle.std.proofs.lemmas.Grind.{common_steps}
use Rattle.si_accept.specs.Contents.{Recorded}
use Rattle.si_accept.specs.Notes.{AreNotes, IsNoted, noted_at}
use Rattle.si_accept.proofs.Noting.{noted_longer}
use Rattle.si_accept.proofs.books.Book.add.Goals as goal

pub invariant_of-self-2 : goal.invariant_of-self-2
invariant_of-self-2 c =
    let inside = c.self.inside in
    let J = inside.contents.journal in
    let e = c.args.edit in
    let grown : c.apply.new.self.journal ≡ J ++ e ∷ [] = ap (λ (R : Recorded). R.journal) c.in_ok-apply.ensures.ok in
    record {
      some = search rules;
      most = search rules;
      within = search (rules, common_steps);
      accepted = search rules;
      same = search rules;
      notes = subst (λ l. AreNotes l c.note.new.notes) (sym grown)
          (noted_longer J e c.note.new.notes c.note.ensures.notes (subst (λ P. IsNoted P e (noted_at c.note.new.notes (length J))) c.self.invariant.same c.in_ok-note.ensures.next));
    }
