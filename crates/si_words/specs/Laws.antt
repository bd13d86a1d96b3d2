-- What the rule gives that no call's contract can name, since each knows one seat or two. Each is the contract of a public
-- function of `laws` with an empty body.
use Rattle.std.specs.Prelude.{◌≡◌, ℕ, zero, suc, ◌+◌, ◌<◌, ◌≤◌, ◌⊎◌, List, ◌++◌, length, slice_index, take, All, Some}
use mathlib.Core.Option.{some}
use lib.ListN.{get_elem?}
use Rattle.atomic_table.specs.Table.{State}
use Rattle.si_model.specs.declared.edits.TheConstants.{MOST_EDITS}
use Rattle.si_words.specs.declared.views.Entry.{Entry}
use Rattle.si_words.specs.declared.views.BookView.{BookView}
use Rattle.si_words.specs.declared.views.ShardView.{ShardView}
use Rattle.si_words.specs.declared.views.PassView.{PassView}
use Rattle.si_words.specs.declared.views.View.{View}
use Rattle.si_words.specs.Entries.{IsBeginning, edits_of, made_by}
use Rattle.si_words.specs.Rule.{IsKept, ticket, watermark}

-- a seat of the table, by its place, knows this of the book, of a shard or of a pass

abbrev pub KnowsBook : State (Unit {0}) View → ℕ → BookView → Type 0
KnowsBook table seat b = (v : View) × (get_elem? table.views seat ≡ some v) × (v.book ≡ Some b)

abbrev pub KnowsShard : State (Unit {0}) View → ℕ → ShardView → Type 0
KnowsShard table seat s = (v : View) × (get_elem? table.views seat ≡ some v) × (v.shard ≡ Some s)

abbrev pub KnowsPass : State (Unit {0}) View → ℕ → PassView → Type 0
KnowsPass table seat p = (v : View) × (get_elem? table.views seat ≡ some v) × (v.pass ≡ Some p)

-- the journal of all seats, whatever they are
pub record IsJournalOf (shards passes : ℕ) (table : State (Unit {0}) View) (journal : List Entry) : Type 0 where
  -- the ticket counts it
  pub counted : ticket table.words ≡ length journal
  pub within : length journal ≤ MOST_EDITS
  -- the book has it whole, and what a shard is due or a pass has seen is a beginning of it
  pub of_book : (seat : ℕ) (b : BookView) → KnowsBook table seat b → b.journal ≡ journal
  pub of_shard : (seat : ℕ) (s : ShardView) → KnowsShard table seat s → IsBeginning s.due journal
  pub of_pass : (seat : ℕ) (p : PassView) → KnowsPass table seat p → IsBeginning p.seen journal
  -- each entry bears a pass, and those that bear a pass are what it has issued, each once and in order
  pub bearers : All (λ e. e.by < passes) journal
  pub made : (seat : ℕ) (p : PassView) → KnowsPass table seat p → p.mine ≡ made_by p.number journal
  -- a shard has applied what its watermark says, no more than it is due, and no mark or count goes beyond the words
  pub applied : (seat : ℕ) (s : ShardView) → KnowsShard table seat s → (watermark table.words s.number ≡ s.done) × (s.done ≤ length s.due)
  pub watermarks : (k : ℕ) → k < shards → watermark table.words k ≤ length journal
  pub marks : (seat : ℕ) (p : PassView) (k : ℕ) → KnowsPass table seat p → k < shards → slice_index p.marks k ≤ watermark table.words k
  pub counts : (seat : ℕ) (p : PassView) → KnowsPass table seat p → (length p.seen ≤ p.count) × (p.count ≤ length journal)
  pub shard_counts : (seat : ℕ) (s : ShardView) → KnowsShard table seat s → s.count ≤ length journal

-- between any two steps there is one journal for all seats
abbrev pub OneJournalForAll : Type 0
OneJournalForAll =
    (shards passes : ℕ) (table : State (Unit {0}) View) → IsKept shards passes table
    → (journal : List Entry) × IsJournalOf shards passes table journal

-- of two beginnings of one journal, one begins the other: what two threads saw never parts
abbrev pub BeginningsAgree : Type 0
BeginningsAgree = (xs ys journal : List Entry) → IsBeginning xs journal → IsBeginning ys journal → IsBeginning xs ys ⊎ IsBeginning ys xs

-- the entries of a pass, of a journal and what follows it, are those of the one and then those of the other
abbrev pub EntriesStayInOrder : Type 0
EntriesStayInOrder = (i : ℕ) (xs ys : List Entry) → made_by i (xs ++ ys) ≡ made_by i xs ++ made_by i ys

-- how many entries bear one of the first n passes, pass by pass
abbrev pub made_below : ℕ → List Entry → ℕ
made_below zero journal = 0
made_below (suc n) journal = made_below n journal + length (made_by n journal)

-- where each entry bears one of n passes, each stands among the entries of just one
abbrev pub EachEntryIsOfOnePass : Type 0
EachEntryIsOfOnePass = (n : ℕ) (journal : List Entry) → All (λ e. e.by < n) journal → made_below n journal ≡ length journal

-- where there is one pass, the journal is what it has issued
abbrev pub LonePassIssuesAll : Type 0
LonePassIssuesAll = (journal : List Entry) → All (λ e. e.by < 1) journal → made_by 0 journal ≡ journal

-- no two seats know of one book, one shard or one pass
pub record AreKnownOnce (table : State (Unit {0}) View) : Type 0 where
  pub book : (i j : ℕ) (b c : BookView) → KnowsBook table i b → KnowsBook table j c → i ≡ j
  pub shard : (i j : ℕ) (s t : ShardView) → KnowsShard table i s → KnowsShard table j t → s.number ≡ t.number → i ≡ j
  pub pass : (i j : ℕ) (p q : PassView) → KnowsPass table i p → KnowsPass table j q → p.number ≡ q.number → i ≡ j

abbrev pub NoPartIsShared : Type 0
NoPartIsShared = (shards passes : ℕ) (table : State (Unit {0}) View) → IsKept shards passes table → AreKnownOnce table

-- ---- the edits of entries

-- there is one for each entry
abbrev pub EditsKeepLength : Type 0
EditsKeepLength = (entries : List Entry) → length (edits_of entries) ≡ length entries

-- those of a list and what follows it are those of the one and then those of the other
abbrev pub EditsAppend : Type 0
EditsAppend = (xs ys : List Entry) → edits_of (xs ++ ys) ≡ edits_of xs ++ edits_of ys

-- where a list begins another, the first edits of the one are those of the other
abbrev pub EditsBegin : Type 0
EditsBegin = (part whole : List Entry) (n : ℕ) → IsBeginning part whole → n ≤ length part → take n (edits_of part) ≡ take n (edits_of whole)
