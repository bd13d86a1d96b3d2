use Rattle.std.proofs.Common.{◌≡◌, [], ◌∷◌, ◌++◌, All, arith, rules, subst}
use Rattle.std.proofs.lemmas.Grind.{common_steps}
use Rattle.si_words.specs.Entries.{edits_of}
use Rattle.si_checker.specs.Blocks.{IsBlockOf}
use Rattle.si_checker.proofs.Covering.{parts_longer}
use Rattle.si_checker.proofs.locked_books.LockedBook.submit.Goals as goal

-- the journal has one edit more, and what was a part of it is one still
pub invariant_of-self : goal.invariant_of-self
invariant_of-self c = λ s.
    let inside = s.self.inside in
    let kept = s.self.invariant in
    let old = edits_of inside.seat.view.journal in
    let more = s.args.edit ∷ [] in
    let grown : old ++ more ≡ edits_of s.see.new.book.view.journal = search rules in
    record {
      table = search rules;
      passes = search rules;
      within = search rules;
      most = kept.most;
      journal = search rules;
      accepted = search rules;
      room = grind (arith, common_steps);
      few = kept.few;
      parts = subst (λ j. All (IsBlockOf j) inside.blocks.items) grown (parts_longer old more inside.blocks.items kept.parts);
    }
