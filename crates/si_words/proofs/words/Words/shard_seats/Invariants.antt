use Rattle.std.proofs.Common.{◌≡◌, []}
use Rattle.si_words.specs.Seats.{new_shards}
use Rattle.si_words.specs.Views.{new_book, book_and_opener, opener_from}
use Rattle.si_words.proofs.words.Words.shard_seats.Given as goal

abbrev pub invariant-loop-number : goal.invariant-loop-number
invariant-loop-number l =
    (l.place.table_id ≡ l.fn.place.table_id)
    × (l.place.me ≡ (book_and_opener (new_book l.self.passes) (opener_from l.self.shards l.number 0), []))
    × (l.seats.items ≡ new_shards l.self.table l.number)
