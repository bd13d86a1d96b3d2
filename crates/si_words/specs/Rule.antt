-- The rule of the words: between any two steps of any threads there is one journal, which the words count and which all
-- that the seats know fits. The journal is in no word: it is what the rule says there is.
use Rattle.std.specs.Prelude.{◌≡◌, ℕ, ◌+◌, ◌<◌, ◌≤◌, ◌⊎◌, true, List, [], length, slice_index, All, IfSome, IsSome, IsSomeAnd}
use mathlib.Core.Option.{some}
use lib.ListN.{get_elem?}
use Rattle.atomic_table.specs.Table.{State}
use Rattle.si_model.specs.declared.edits.TheConstants.{MOST_EDITS}
use Rattle.si_words.specs.declared.views.Entry.{Entry}
use Rattle.si_words.specs.declared.views.BookView.{BookView}
use Rattle.si_words.specs.declared.views.ShardView.{ShardView}
use Rattle.si_words.specs.declared.views.PassView.{PassView}
use Rattle.si_words.specs.declared.views.Opener.{Opener}
use Rattle.si_words.specs.declared.views.View.{View}
use Rattle.si_words.specs.Entries.{IsBeginning, made_by}

abbrev pub ticket : List ℕ → ℕ
ticket words = slice_index words 0

-- 0, or 1 once closed
abbrev pub closed_word : List ℕ → ℕ
closed_word words = slice_index words 1

-- how many edits the shard has applied
abbrev pub watermark : List ℕ → ℕ → ℕ
watermark words k = slice_index words (2 + k)

module _ (shards passes : ℕ) (journal : List Entry) (words : List ℕ) where
  -- the words count the journal, whatever the seats know
  pub record AreCounts : Type 0 where
    -- two words, and one for each shard
    pub wide : length words ≡ 2 + shards
    pub ticket : ticket words ≡ length journal
    pub within : length journal ≤ MOST_EDITS
    pub closed : closed_word words ≤ 1
    -- no shard has applied more than there is
    pub watermarks : (k : ℕ) → k < shards → watermark words k ≤ length journal
    -- each entry bears a pass of these words
    pub bearers : All (λ e. e.by < passes) journal

  -- the book's seat has the journal whole
  pub record FitsBook (b : BookView) : Type 0 where
    pub whole : b.journal ≡ journal
    pub of_passes : b.passes ≡ passes
    -- what it has closed is closed
    pub closed : b.closed ≡ true → closed_word words ≡ 1

  -- what a shard is due is a beginning of the journal, and its watermark is what it has done of that
  pub record FitsShard (s : ShardView) : Type 0 where
    pub number : s.number < shards
    pub due : IsBeginning s.due journal
    pub done : watermark words s.number ≡ s.done
    pub within : s.done ≤ length s.due
    -- it counts no more than the words do
    pub count : s.count ≤ ticket words
    pub closed : s.closed ≡ true → closed_word words ≡ 1

  -- what a pass has seen is a beginning of the journal, what it has issued are the entries that bear it, in order, and it
  -- counts no less than it has seen and no more than the words do
  pub record FitsPass (p : PassView) : Type 0 where
    pub number : p.number < passes
    pub seen : IsBeginning p.seen journal
    pub mine : p.mine ≡ made_by p.number journal
    pub seen_within : length p.seen ≤ p.count
    pub count : p.count ≤ ticket words
    -- one mark for each shard
    pub marks_long : length p.marks ≡ shards
    pub marks : (k : ℕ) → k < shards → slice_index p.marks k ≤ watermark words k
    pub closed : p.closed ≡ true → closed_word words ≡ 1

  -- the shards that have no seat yet have applied nothing, and the passes that aren't handed out have issued nothing
  pub record FitsOpener (o : Opener) : Type 0 where
    pub of_shards : o.shards ≡ shards
    pub marks : (k : ℕ) → o.next_shard ≤ k → k < shards → watermark words k ≡ 0
    pub issued : (i : ℕ) → o.next_pass ≤ i → made_by i journal ≡ []

  -- each part that a seat has fits. A spent view has none
  pub record Fits (v : View) : Type 0 where
    pub opener : IfSome v.opener FitsOpener
    pub book : IfSome v.book FitsBook
    pub shard : IfSome v.shard FitsShard
    pub pass : IfSome v.pass FitsPass

-- what at most one seat has
pub data Part : Type 0 where
  the_book : Part
  the_shard : ℕ → Part
  the_pass : ℕ → Part

-- the seat has the part, or is to hand it out
abbrev pub Has : View → Part → Type 0
Has v the_book = IsSome v.book
Has v (the_shard k) = IsSomeAnd v.shard (λ s. s.number ≡ k) ⊎ IsSomeAnd v.opener (λ o. o.next_shard ≤ k)
Has v (the_pass i) = IsSomeAnd v.pass (λ p. p.number ≡ i) ⊎ IsSomeAnd v.opener (λ o. o.next_pass ≤ i)

-- There is one journal, which the words count and which the view of each seat fits, and no two seats have one part
pub record IsKept (shards passes : ℕ) (table : State (Unit {0}) View) : Type 0 where
  pub journal : List Entry
  pub counts : AreCounts shards passes journal table.words
  pub fits : (seat : ℕ) (v : View) → get_elem? table.views seat ≡ some v → Fits shards passes journal table.words v
  pub apart :
      (part : Part) (i j : ℕ) (v w : View) → get_elem? table.views i ≡ some v → get_elem? table.views j ≡ some w
      → Has v part → Has w part → i ≡ j
