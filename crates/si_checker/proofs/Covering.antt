-- The kept blocks are parts of the journal, and what they have from a position on is the journal's.
use Rattle.std.proofs.Common.{◌≡◌, ◌⊎◌, inl, inr, refl, ◌<◌, ◌≤◌, ◌+◌, ◌-◌, ℕ, zero, suc, Bool, true, false, if◌then◌else◌, List, [], ◌∷◌, Some, All, slice_get, ◌++◌, length, take, drop, sym, ap, subst, arith, length-drop}
use Rattle.std.specs.List.{remove}
use Rattle.std.proofs.lemmas.List.Edits.{length-remove}
use Rattle.std.proofs.lemmas.List.{length-append}
use Rattle.std.proofs.lemmas.List.Elements.{All-append, All-cons, All-drop, All-nil, All-take, All-weaker}
use Rattle.std.proofs.lemmas.Option.{slice_get_within}
use Rattle.si_lists.proofs.Members.{same_some}
use Rattle.si_model.specs.declared.edits.Edit.{Edit}
use Rattle.si_accept.specs.Books.{BookState}
use Rattle.si_words.specs.declared.views.BookView.{BookView}
use Rattle.si_words.specs.Entries.{edits_of}
use Rattle.si_words.specs.Seats.{Board, Seated}
use Rattle.si_shard.specs.declared.told_edits.ToldEdit.{ToldEdit}
use Rattle.si_shard.specs.ToldEdits.{AreTold, IsToldAt}
use Rattle.si_shard.proofs.Following.{told_longer}
use Rattle.si_checker.specs.Blocks.{BlockState, IsBlockOf}
use Rattle.si_checker.specs.LockedBooks.{IsLockedBook}

-- ---- blocks

dropped_at : {X : Type 0} (k i : ℕ) (xs : List X) (x : X) → slice_get (drop k xs) i ≡ Some x → slice_get xs (k + i) ≡ Some x
dropped_at zero i xs x e = subst (λ j. slice_get xs j ≡ Some x) (let same : i ≡ 0 + i = omega arith in same) e
dropped_at (suc k) i [] x e = cc
dropped_at (suc k) i (y ∷ xs) x e = subst (λ j. slice_get (y ∷ xs) j ≡ Some x) (let same : suc (k + i) ≡ suc k + i = omega arith in same) (dropped_at k i xs x e)

-- what is told from a place on is told from a later one on without the first
pub told_from : (journal : List Edit) (first p : ℕ) (ts : List ToldEdit) → AreTold journal first ts → first ≤ p → p ≤ first + length ts → AreTold journal p (drop (p - first) ts)
told_from journal first p ts are low high =
    let k = p - first in
    let many = length-drop k ts in
    record {
      within = omega (arith, are.within, many);
      each = λ i t at.
          (let there : p + i ≡ first + (k + i) = omega arith in
          let is = are.each (k + i) t (dropped_at k i ts t at) in
          subst (λ q. IsToldAt journal q t) (sym there) is);
    }

pub none_told : (journal : List Edit) (first : ℕ) (ts : List ToldEdit) → ts ≡ [] → first ≤ length journal → AreTold journal first ts
none_told journal first ts none low = subst (AreTold journal first) (sym none) (record { within = omega arith; each = λ i t at. cc })

-- one more is told
pub told_more : (journal : List Edit) (first : ℕ) (ts : List ToldEdit) (t : ToldEdit) → AreTold journal first ts → IsToldAt journal (first + length ts) t → AreTold journal first (ts ++ t ∷ [])
told_more journal first ts t are is = record {
  within = (let lt = slice_get_within journal (first + length ts) t.edit is.edit in omega (arith, length-append ts (t ∷ [])));
  each = λ i u at. elim (pushed_at ts t u i at) [
    | inl before ↦ are.each i u before
    | inr now ↦ subst (λ q. IsToldAt journal (first + q) u) (sym now.0) (subst (IsToldAt journal (first + length ts)) now.1 is)
  ];
}
  where
    pushed_at : (xs : List ToldEdit) (x y : ToldEdit) (i : ℕ) → slice_get (xs ++ x ∷ []) i ≡ Some y → (slice_get xs i ≡ Some y) ⊎ ((i ≡ length xs) × (x ≡ y))
    pushed_at [] x y zero e = inr (refl, same_some e)
    pushed_at [] x y (suc i) e = cc
    pushed_at (z ∷ xs) x y zero e = inl e
    pushed_at (z ∷ xs) x y (suc i) e = elim (pushed_at xs x y i e) [ inl b ↦ inl b | inr b ↦ inr (ap suc b.0, b.1) ]

-- ---- what is kept

module _ (board : Board) (limit : ℕ) (book : BookState) (bs : List BlockState) (seat : Seated BookView) (is : IsLockedBook board limit book bs seat) where
  abbrev IsPart : BlockState → Type 0
  IsPart = IsBlockOf (edits_of seat.view.journal)

  with_parts : (new : List BlockState) → length new ≤ 16 → All IsPart new → IsLockedBook board limit book new seat
  with_parts new few parts = record {
    table = is.table;
    passes = is.passes;
    within = is.within;
    most = is.most;
    journal = is.journal;
    accepted = is.accepted;
    room = is.room;
    few = few;
    parts = parts;
  }

  -- without the oldest there is room for one more
  pub room_made : 0 < length bs → length (remove bs 0) < 16
  room_made some = omega (arith, length-remove bs 0 some, is.few)

  pub without_oldest : 0 < length bs → IsLockedBook board limit book (remove bs 0) seat
  without_oldest some = with_parts (remove bs 0) (let few = room_made some in omega (arith, few)) (All-append IsPart (take 0 bs) (drop 1 bs) (All-take IsPart 0 bs is.parts) (All-drop IsPart 1 bs is.parts))

  -- with one more, where there was memory for it
  pub with_block : (new : List BlockState) (b : BlockState) (kept : Bool) → length bs < 16 → IsPart b → new ≡ (if kept then bs ++ b ∷ [] else bs)
      → IsLockedBook board limit book new seat
  with_block new b kept room part new_is =
      let few = elim kept as (λ k. length (if k then bs ++ b ∷ [] else bs) ≤ 16) [
        | true ↦ omega (arith, room, length-append bs (b ∷ []))
        | false ↦ is.few
      ] in
      let all = elim kept as (λ k. All IsPart (if k then bs ++ b ∷ [] else bs)) [
        | true ↦ All-append IsPart bs (b ∷ []) is.parts (All-cons IsPart b [] part (All-nil IsPart))
        | false ↦ is.parts
      ] in
      with_parts new (subst (λ l. length l ≤ 16) (sym new_is) few) (subst (All IsPart) (sym new_is) all)

-- ---- the journal grows

pub told_still : (journal more : List Edit) (first : ℕ) (ts : List ToldEdit) → AreTold journal first ts → AreTold (journal ++ more) first ts
told_still journal more first ts are = record {
  within = omega (arith, are.within, length-append journal more);
  each = λ i t at. told_longer journal more (first + i) t (are.each i t at);
}

-- what was a part of the journal is one still
pub parts_longer : (journal more : List Edit) (bs : List BlockState) → All (IsBlockOf journal) bs → All (IsBlockOf (journal ++ more)) bs
parts_longer journal more bs all = All-weaker (IsBlockOf journal) (IsBlockOf (journal ++ more)) (λ b is. record { told = told_still journal more b.first b.edits is.told; most = is.most }) bs all
