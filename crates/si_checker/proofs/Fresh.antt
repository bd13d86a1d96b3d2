-- The seats of shards that were just opened.
use Rattle.std.proofs.Common.{◌≡◌, ◌<◌, ℕ, zero, suc, [], ◌∷◌, length, refl, subst, arith, length-append, inl, inr}
use Rattle.std.specs.List.{Contains}
use Rattle.std.proofs.lemmas.List.Elements.{Contains-append_cases}
use Rattle.si_lists.proofs.Members.{Contains-nil, Contains-one}
use Rattle.atomic_table.specs.Seated.{TableId}
use Rattle.si_words.specs.declared.views.ShardView.{ShardView}
use Rattle.si_words.specs.Seats.{Board, Seated, new_shards, seated}
use Rattle.si_words.specs.Views.{new_shard}
use Rattle.si_checker.specs.Openings.{AreNewSeats}

abbrev IsNew : TableId → ℕ → Seated ShardView → Type 0
IsNew t n s = (s.view.number < n) × (s ≡ seated t (new_shard s.view.number))

all_new : (t : TableId) (n : ℕ) (s : Seated ShardView) → Contains (new_shards t n) s → IsNew t n s
all_new t zero s c = absurd (Contains-nil s c)
all_new t (suc n) s c = elim (Contains-append_cases (new_shards t n) (seated t (new_shard n) ∷ []) s c) [
  | inl d ↦ let r = all_new t n s d in ((let l = r.0 in omega arith), r.1)
  | inr d ↦
      let last : IsNew t (suc n) (seated t (new_shard n)) = (omega arith, refl) in
      subst (IsNew t (suc n)) (Contains-one (seated t (new_shard n)) s d) last
]

pub new_seats : (board : Board) → AreNewSeats board (new_shards board.table board.shards)
new_seats board s c = all_new board.table board.shards s c

pub so_many_seats : (t : TableId) (n : ℕ) → length (new_shards t n) ≡ n
so_many_seats t zero = refl
so_many_seats t (suc n) =
    let l = so_many_seats t n in
    let m = length-append (new_shards t n) (seated t (new_shard n) ∷ []) in
    omega arith
