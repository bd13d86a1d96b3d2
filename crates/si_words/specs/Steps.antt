-- What each kind of step makes of a seat's view, and what it tells the seat.
use Rattle.std.specs.Prelude.{◌≡◌, ℕ, ◌+◌, ◌==◌, List, [], slice_index, Some, None, Option, option_map, unwrap_or}
use Rattle.std.specs.Option.{option_map_or, option_or}
use Rattle.atomic_table.specs.Table.{Me, Step}
use Rattle.si_model.specs.declared.edits.Edit.{Edit}
use Rattle.si_words.specs.declared.views.Entry.{Entry}
use Rattle.si_words.specs.declared.views.ShardView.{ShardView}
use Rattle.si_words.specs.declared.views.Opener.{Opener}
use Rattle.si_words.specs.declared.views.View.{View}
use Rattle.si_words.specs.Entries.{entry}
use Rattle.si_words.specs.Views.{new_shard, new_pass, shard_view, pass_view, spent, opener_from}
use Rattle.si_words.specs.Views.{with_entry, with_mine, with_due, with_done, with_seen, with_mark, with_learned, with_count, shard_counted}
use Rattle.si_words.specs.Views.{pass_closed, shard_closed, book_closed}
use Rattle.si_words.specs.Rule.{AreCounts, Fits}

-- the parts of a view, with a default where it has none

abbrev pub journal_of : View → List Entry
journal_of v = option_map_or (λ b. b.journal) v.book []

abbrev pub shard_of : View → ShardView
shard_of v = unwrap_or v.shard (new_shard 0)

abbrev pub pass_of : View → ℕ
pass_of v = option_map_or (λ p. p.number) v.pass 0

abbrev pub opener_of : View → Opener
opener_of v = unwrap_or v.opener (opener_from 0 0 0)

-- the view after each step, by a joined seat where it takes two parts

abbrev pub issued : Option Edit → View → View
issued None v = v
issued (Some e) v = record v { book = option_map (with_entry (entry (pass_of v) e)) v.book; pass = option_map (with_mine (entry (pass_of v) e)) v.pass }

abbrev pub pulled : View → View
pulled v = record v { shard = option_map (with_due (journal_of v)) v.shard }

abbrev pub published : ℕ → View → View
published position v = record v { shard = option_map (with_done position) v.shard }

abbrev pub sighted : View → View
sighted v = record v { pass = option_map (with_seen (journal_of v)) v.pass }

abbrev pub looked : ℕ → ℕ → View → View
looked k found v = record v { pass = option_map (with_mark k found) v.pass }

abbrev pub learned : ℕ → View → View
learned found v = record v { pass = option_map (with_learned (shard_of v) found) v.pass }

abbrev pub counted : ℕ → View → View
counted found v = record v { shard = option_map (shard_counted found) v.shard; pass = option_map (with_count found) v.pass }

abbrev pub asked_closed : ℕ → View → View
asked_closed found v = record v { shard = option_map (shard_closed (found == 1)) v.shard; pass = option_map (pass_closed (found == 1)) v.pass }

abbrev pub closed : View → View
closed v = record v { book = option_map book_closed v.book }

-- a joined seat has the parts of both
abbrev pub together : View → View → View
together v w = record {
  opener = option_or v.opener w.opener;
  book = option_or v.book w.book;
  shard = option_or v.shard w.shard;
  pass = option_or v.pass w.pass;
}

abbrev pub without_shard : View → View
without_shard v = record v { shard = None }

abbrev pub shard_alone : View → View
shard_alone v = record spent { shard = v.shard }

abbrev pub without_pass : View → View
without_pass v = record v { pass = None }

abbrev pub pass_alone : View → View
pass_alone v = record spent { pass = v.pass }

-- the opener hands out the next shard's seat, the next pass, and at last drops out

abbrev pub after_shard : Opener → Opener
after_shard o = record o { next_shard = o.next_shard + 1 }

abbrev pub after_pass : Opener → Opener
after_pass o = record o { next_pass = o.next_pass + 1 }

abbrev pub shard_given : View → View
shard_given v = record v { opener = option_map after_shard v.opener }

abbrev pub next_shard : View → View
next_shard v = shard_view (new_shard (opener_of v).next_shard)

abbrev pub pass_given : View → View
pass_given v = record v { opener = option_map after_pass v.opener }

abbrev pub next_pass : View → View
next_pass v = pass_view (new_pass (opener_of v).shards (opener_of v).next_pass)

abbrev pub without_opener : View → View
without_opener v = record v { opener = None }

abbrev pub opener_alone : View → View
opener_alone v = record spent { opener = v.opener }

abbrev pub SeatView : Type 0
SeatView = Me (Unit {0}) View

-- at the step there was some journal, which the words counted and the view fitted, and the word i was n
pub record Fitted (v : View) (i n : ℕ) : Type 0 where
  pub shards : ℕ
  pub passes : ℕ
  pub journal : List Entry
  pub words : List ℕ
  pub counts : AreCounts shards passes journal words
  pub fits : Fits shards passes journal words v
  pub found : slice_index words i ≡ n

-- the seat's view is the new one, and it fitted before
abbrev pub Becomes : View → Step (Unit {0}) → SeatView → ℕ → SeatView → Type 0
Becomes after st me n me' = (me' ≡ (after, me.1)) × Fitted me.0 st.word n
