-- The reads of a transaction, found in one pass over its accesses.
use Rattle.std.proofs.Common.{◌≡◌, ◌∙◌, inl, inr, ℕ, ◌+◌, ◌<◌, ◌≤◌, zero, suc, Bool, cond, nat_lt, List, [], ◌∷◌, ◌++◌, length, take, get_or, Option, None, refl, sym, ap, arith}
use Rattle.std.specs.List.{Contains, AllPairs, filter, filter_map}
use Rattle.std.specs.Option.{option_or}
use Rattle.std.proofs.lemmas.Bool.{cases_lt, le-ltb, lt-ltb}
use Rattle.std.proofs.Math.Seq.{take-suc}
use Rattle.std.proofs.lemmas.List.Elements.{Contains-get_or, filter_map-append}
use Rattle.si_lists.proofs.Members.{here, there, Contains-cons_cases}
use Rattle.si_lists.proofs.Names.{pairs_head, pairs_tail}
use Rattle.si_lists.proofs.Pushes.{fold_push}
use Rattle.si_model.specs.declared.parts.Placed.{Placed}
use Rattle.si_model.specs.declared.parts.Part.{Part}
use Rattle.si_model.specs.Versions.{last_write, written}
use Rattle.si_model.specs.Reads.{own_value}

abbrev Rise : List Placed → Type 0
Rise = AllPairs (λ a b. a.place < b.place)

abbrev is_before : ℕ → Placed → Bool
is_before p a = nat_lt a.place p

none_before : (p : ℕ) (ys : List Placed) → ((a : Placed) → Contains ys a → p ≤ a.place) → filter (is_before p) ys ≡ []
none_before p [] h = refl
none_before p (a ∷ ys) h = elim (cases_lt a.place p) [
  | inl lt ↦ (let l = h a (here a ys) in absurd (omega (arith, l, lt)))
  | inr ge ↦ ap (λ s. cond s (a ∷ filter (is_before p) ys) (filter (is_before p) ys)) (le-ltb a.place p ge) ∙ none_before p ys (λ b c. h b (there a ys b c))
]

-- of accesses at rising places, those before the place of one are those that stand before it
before_place : (ys : List Placed) (j : ℕ) (d : Placed) → Rise ys → j < length ys → filter (is_before (get_or ys j d).place) ys ≡ take j ys
before_place [] j d rise lt = absurd (omega (arith, lt))
before_place (a ∷ ys) zero d rise lt = none_before a.place (a ∷ ys) (λ b c. elim (Contains-cons_cases a ys b c) [
  | inl e ↦ (let same : a.place ≡ b.place = ap (λ x. x.place) e in omega (arith, same))
  | inr c ↦ (let l = pairs_head (λ x y. x.place < y.place) a ys rise b c in omega (arith, l))
])
before_place (a ∷ ys) (suc j) d rise lt =
    let l = pairs_head (λ x y. x.place < y.place) a ys rise (get_or ys j d) (Contains-get_or ys j d (omega (arith, lt))) in
    ap (λ s. cond s (a ∷ filter (is_before (get_or ys j d).place) ys) (filter (is_before (get_or ys j d).place) ys)) (lt-ltb a.place (get_or ys j d).place l) ∙ ap (λ r. a ∷ r) (before_place ys j d (pairs_tail (λ x y. x.place < y.place) a ys rise) (omega (arith, lt)))

-- what was written last before is the own value
pub own_is : (T : Part) (j : ℕ) (d : Placed) → Rise T.accesses → j < length T.accesses → last_write (take j T.accesses) ≡ own_value T (get_or T.accesses j d).place
unfolding own_value
own_is T j d rise lt = ap last_write (sym (before_place T.accesses j d rise lt))

-- one more access is looked at
pub last_grows : (ys : List Placed) (j : ℕ) (d : Placed) → j < length ys → last_write (take (j + 1) ys) ≡ option_or (written (get_or ys j d).access) (last_write (take j ys))
last_grows ys j d lt = ap last_write (ap (λ n. take n ys) (plus_one j) ∙ take-suc ys j d lt) ∙ fold_push (λ last a. option_or (written a.access) last) None (take j ys) (get_or ys j d)
  where
    plus_one : (n : ℕ) → n + 1 ≡ suc n
    plus_one n = omega arith

pub reads_grow : {Y : Type 0} (h : Placed → Option Y) (ys : List Placed) (j : ℕ) (d : Placed) → j < length ys
    → filter_map h (take (j + 1) ys) ≡ filter_map h (take j ys) ++ filter_map h (get_or ys j d ∷ [])
reads_grow h ys j d lt = ap (filter_map h) (ap (λ n. take n ys) (plus_one j) ∙ take-suc ys j d lt) ∙ filter_map-append h (take j ys) (get_or ys j d ∷ [])
  where
    plus_one : (n : ℕ) → n + 1 ≡ suc n
    plus_one n = omega arith
