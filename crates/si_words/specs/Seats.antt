-- Seats as contracts see them: which table a seat is of, and what it knows.
use Rattle.std.specs.Prelude.{◌≡◌, ℕ, suc, zero, ◌+◌, ◌<◌, List, [], ◌∷◌, ◌++◌, length, refl, unwrap_or}
use Rattle.std.specs.Coded.{Coded, code_by, coded×, coded_ℕ}
use Rattle.atomic_table.specs.Seated.{TableId, table_id_coded}
use Rattle.si_words.specs.declared.views.BookView.{BookView}
use Rattle.si_words.specs.declared.views.ShardView.{ShardView}
use Rattle.si_words.specs.declared.views.PassView.{PassView}
use Rattle.si_words.specs.declared.views.View.{View}
use Rattle.si_words.specs.Views.{new_book, new_shard, new_pass, shard_view, pass_view}

-- a seat with what it knows
pub record Seated (V : Type 0) : Type 0 where
  pub table : TableId
  pub view : V

abbrev pub seated : {V : Type 0} → TableId → V → Seated V
seated t v = record { table = t; view = v }

abbrev pub seated_code : {V : Type 0} → Coded V → Coded (Seated V)
seated_code {V} c = code_by (TableId × V) (coded× table_id_coded c) (λ s. (s.table, s.view)) (λ p. record { table = p.0; view = p.1 }) (λ _. refl)

-- the words as contracts see them
pub record Board : Type 0 where
  pub table : TableId
  pub shards : ℕ
  pub passes : ℕ

abbrev pub board_code : Coded Board
board_code =
    code_by (TableId × (ℕ × ℕ)) (coded× table_id_coded (coded× coded_ℕ coded_ℕ))
    (λ b. (b.table, (b.shards, b.passes))) (λ p. record { table = p.0; shards = p.1.0; passes = p.1.1 }) (λ _. refl)

-- the part of a seat's view

abbrev pub book_in : View → BookView
book_in v = unwrap_or v.book (new_book 0)

abbrev pub shard_in : View → ShardView
shard_in v = unwrap_or v.shard (new_shard 0)

abbrev pub pass_in : View → PassView
pass_in v = unwrap_or v.pass (new_pass 0 0)

abbrev pub first_shard : List View → ShardView
first_shard [] = new_shard 0
first_shard (v ∷ _) = shard_in v

abbrev pub first_pass : List View → PassView
first_pass [] = new_pass 0 0
first_pass (v ∷ _) = pass_in v

-- a badge with the view of the shard of this number, at a table with a word for that shard
abbrev pub IsShardBadge : List View → ℕ → ℕ → Type 0
IsShardBadge views number words = (views ≡ shard_view (first_shard views) ∷ []) × (number ≡ (first_shard views).number) × (2 + number < words)

-- a badge with the view of a pass, which has a mark for each shard's word
abbrev pub IsPassBadge : List View → ℕ → Type 0
IsPassBadge views words = (views ≡ pass_view (first_pass views) ∷ []) × (2 + length (first_pass views).marks ≡ words)

-- the seats of n shards at the opening
abbrev pub new_shards : TableId → ℕ → List (Seated ShardView)
new_shards t zero = []
new_shards t (suc n) = new_shards t n ++ seated t (new_shard n) ∷ []

-- the first n passes at the opening
abbrev pub new_passes : TableId → ℕ → ℕ → List (Seated PassView)
new_passes t shards zero = []
new_passes t shards (suc n) = new_passes t shards n ++ seated t (new_pass shards n) ∷ []
