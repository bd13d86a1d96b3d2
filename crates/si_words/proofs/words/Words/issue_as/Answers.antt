use Rattle.std.proofs.Common.{◌<◌, length, rules, arith, sym, ap, ◌∙◌}
use Rattle.si_model.specs.declared.edits.TheConstants.{MOST_EDITS}
use Rattle.si_words.specs.Seats.{book_in}
use Rattle.si_words.proofs.Joined.{issues_as}
use Rattle.si_words.proofs.words.Words.issue_as.Goals as goal

pub fetch_add-requires : goal.fetch_add-requires
fetch_add-requires g c =
    let j = c.join_pass.ensures in
    let room : length (book_in c.book.inside.place.me.0).journal < MOST_EDITS = (let e = ap (λ s. length s.view.journal) c.book.view_is in let h = c.requires.room in omega arith) in
    (j.0 ∙ sym (ap (λ w. w.table) c.self.view_is), search rules, issues_as _ _ _ _ _ _ _ _ _ j.1 c.requires.named room)
