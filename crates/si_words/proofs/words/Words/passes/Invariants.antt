use Rattle.std.proofs.Common.{◌≡◌, []}
use Rattle.si_words.specs.Seats.{new_passes}
use Rattle.si_words.specs.Views.{new_book, book_and_opener, opener_from}
use Rattle.si_words.proofs.words.Words.passes.Given as goal

abbrev pub invariant-loop-number : goal.invariant-loop-number
invariant-loop-number l =
    (l.place.table_id ≡ l.fn.place.table_id)
    × (l.place.me ≡ (book_and_opener (new_book l.self.passes) (opener_from l.self.shards l.self.shards l.number), []))
    × (l.passes.items ≡ new_passes l.self.table l.self.shards l.number)
