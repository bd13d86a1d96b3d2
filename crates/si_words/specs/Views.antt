-- What seats know, part by part.
use Rattle.std.specs.Prelude.{ℕ, Bool, true, false, List, [], ◌++◌, ◌∷◌, length, max, replicate, slice_set, Some, None}
use Rattle.si_words.specs.declared.views.Entry.{Entry}
use Rattle.si_words.specs.declared.views.BookView.{BookView}
use Rattle.si_words.specs.declared.views.ShardView.{ShardView}
use Rattle.si_words.specs.declared.views.PassView.{PassView}
use Rattle.si_words.specs.declared.views.Opener.{Opener}
use Rattle.si_words.specs.declared.views.View.{View}
use Rattle.si_words.specs.Entries.{longer}

-- at the opening: nothing is accepted, applied or seen

abbrev pub new_book : ℕ → BookView
new_book passes = record { passes = passes; journal = []; closed = false }

abbrev pub new_shard : ℕ → ShardView
new_shard k = record { number = k; due = []; done = 0; count = 0; closed = false }

abbrev pub new_pass : ℕ → ℕ → PassView
new_pass shards i = record { number = i; seen = []; mine = []; count = 0; marks = replicate shards 0; closed = false }

-- the views of seats with one part

abbrev pub book_view : BookView → View
book_view b = record { opener = None; book = Some b; shard = None; pass = None }

abbrev pub shard_view : ShardView → View
shard_view s = record { opener = None; book = None; shard = Some s; pass = None }

abbrev pub pass_view : PassView → View
pass_view p = record { opener = None; book = None; shard = None; pass = Some p }

abbrev pub opener_view : Opener → View
opener_view o = record { opener = Some o; book = None; shard = None; pass = None }

-- no part at all
abbrev pub spent : View
spent = record { opener = None; book = None; shard = None; pass = None }

-- the views of joined seats

abbrev pub book_and_pass : BookView → PassView → View
book_and_pass b p = record { opener = None; book = Some b; shard = None; pass = Some p }

abbrev pub book_and_shard : BookView → ShardView → View
book_and_shard b s = record { opener = None; book = Some b; shard = Some s; pass = None }

abbrev pub shard_and_pass : ShardView → PassView → View
shard_and_pass s p = record { opener = None; book = None; shard = Some s; pass = Some p }

abbrev pub book_and_opener : BookView → Opener → View
book_and_opener b o = record { opener = Some o; book = Some b; shard = None; pass = None }

abbrev pub opener_from : ℕ → ℕ → ℕ → Opener
opener_from shards k i = record { shards = shards; next_shard = k; next_pass = i }

-- the first seat has the book, and no other has a seat yet
abbrev pub opening_view : ℕ → ℕ → View
opening_view shards passes = book_and_opener (new_book passes) (opener_from shards 0 0)

-- what a step changes

abbrev pub with_entry : Entry → BookView → BookView
with_entry e b = record b { journal = b.journal ++ e ∷ [] }

abbrev pub with_mine : Entry → PassView → PassView
with_mine e p = record p { mine = p.mine ++ e ∷ [] }

abbrev pub with_due : List Entry → ShardView → ShardView
with_due journal s = record s { due = journal }

abbrev pub with_done : ℕ → ShardView → ShardView
with_done n s = record s { done = n }

abbrev pub with_seen : List Entry → PassView → PassView
with_seen journal p = record p { seen = journal; count = length journal }

abbrev pub with_mark : ℕ → ℕ → PassView → PassView
with_mark k n p = record p { marks = slice_set p.marks k n }

abbrev pub with_marks : List ℕ → PassView → PassView
with_marks marks p = record p { marks = marks }

-- the shard's mark is what was loaded, and the pass has seen what the shard was due
abbrev pub with_learned : ShardView → ℕ → PassView → PassView
with_learned s n p = let list = longer p.seen s.due in record p { seen = list; count = max p.count (length list); marks = slice_set p.marks s.number n }

abbrev pub with_count : ℕ → PassView → PassView
with_count n p = record p { count = n }

abbrev pub shard_counted : ℕ → ShardView → ShardView
shard_counted n s = record s { count = n }

abbrev pub pass_closed : Bool → PassView → PassView
pass_closed closed p = record p { closed = closed }

abbrev pub shard_closed : Bool → ShardView → ShardView
shard_closed closed s = record s { closed = closed }

abbrev pub book_closed : BookView → BookView
book_closed b = record b { closed = true }
