-- No two seats have one part, after a view is set, cut in two or joined with another.
use Rattle.std.proofs.Common.{◌≡◌, ◌≢◌, ◌⊎◌, ℕ, zero, suc, ◌<◌, List, [], ◌∷◌, ◌++◌, length, set, refl, sym, ap, ◌∙◌, subst, inl, inr, ⊎_elim, arith}
use mathlib.Core.Option.{some, some-injective, some-ne-none}
use lib.ListN.{get_elem?}
use Rattle.atomic_table.proofs.Lists.{at_set, set_here}
use Rattle.si_words.specs.declared.views.View.{View}
use Rattle.si_words.specs.Rule.{Part, Has}
use Rattle.si_words.specs.Views.{spent}

abbrev pub AreApart : List View → Type 0
AreApart views = (part : Part) (i j : ℕ) (v w : View) → get_elem? views i ≡ some v → get_elem? views j ≡ some w → Has v part → Has w part → i ≡ j

-- the list's length is not below a place where it has an element
pub below_length : {A : Type 0} (l : List A) (i : ℕ) (a : A) → get_elem? l i ≡ some a → i < length l
below_length [] i a e = absurd (some-ne-none a (sym e))
below_length (x ∷ xs) zero a e = omega arith
below_length (x ∷ xs) (suc i) a e = let h = below_length xs i a e in omega arith

-- what stands in a list with one more element
pub at_end : {A : Type 0} (l : List A) (a b : A) (j : ℕ) → get_elem? (l ++ a ∷ []) j ≡ some b → (get_elem? l j ≡ some b) ⊎ ((j ≡ length l) × (a ≡ b))
at_end [] a b zero e = inr (refl, some-injective a b e)
at_end [] a b (suc j) e = absurd (some-ne-none b (sym e))
at_end (x ∷ xs) a b zero e = inl e
at_end (x ∷ xs) a b (suc j) e = ⊎_elim inl (λ t. inr (ap suc t.0, t.1)) (at_end xs a b j e)

-- a part that the seat j has, which then stood in a view of that place
abbrev Stood : List View → Part → ℕ → Type 0
Stood views part j = (x : View) × (get_elem? views j ≡ some x) × Has x part

stood_set : (views : List View) (id : ℕ) (v w : View) (part : Part) → get_elem? views id ≡ some v → (Has w part → Has v part) → (j : ℕ) (u : View) → get_elem? (set views id w) j ≡ some u → Has u part → Stood views part j
stood_set views id v w part at less j u e has = ⊎_elim
    (λ (t : (j ≡ id) × (w ≡ u)). (v, subst (λ (k : ℕ). get_elem? views k ≡ some v) (sym t.0) at, less (subst (λ (x : View). Has x part) (sym t.1) has)))
    (λ (t : (j ≢ id) × (get_elem? views j ≡ some u)). (u, t.1, has))
    (at_set views id j w u e)

pub apart_set : (views : List View) (id : ℕ) (v w : View) → get_elem? views id ≡ some v → ((part : Part) → Has w part → Has v part) → AreApart views → AreApart (set views id w)
apart_set views id v w at less apart part i j a b ai bj ha hb =
    let x = stood_set views id v w part at (less part) i a ai ha in
    let y = stood_set views id v w part at (less part) j b bj hb in
    apart part i j x.0 y.0 x.1 y.1 x.2 y.2

pub apart_split : (views : List View) (id : ℕ) (v left right : View) → get_elem? views id ≡ some v
    → ((part : Part) → Has left part → Has v part) → ((part : Part) → Has right part → Has v part) → ((part : Part) → Has left part → Has right part → ⊥)
    → AreApart views → AreApart (set views id left ++ right ∷ [])
apart_split views id v left right at lefts rights never apart part i j a b ai bj ha hb =
    ⊎_elim
    (λ old_i. ⊎_elim (λ old_j. apart_set views id v left at lefts apart part i j a b old_i old_j ha hb) (λ (t : (j ≡ length (set views id left)) × (right ≡ b)). absurd (one_new i a old_i ha (subst (λ (x : View). Has x part) (sym t.1) hb))) (at_end (set views id left) right b j bj))
    (λ (t : (i ≡ length (set views id left)) × (right ≡ a)). ⊎_elim (λ old_j. absurd (one_new j b old_j hb (subst (λ (x : View). Has x part) (sym t.1) ha))) (λ (z : (j ≡ length (set views id left)) × (right ≡ b)). t.0 ∙ sym z.0) (at_end (set views id left) right b j bj))
    (at_end (set views id left) right a i ai)
  where
    -- the new seat's part is in no view that was there
    one_new : (k : ℕ) (u : View) → get_elem? (set views id left) k ≡ some u → Has u part → Has right part → ⊥
    one_new k u e has new =
        let x = stood_set views id v left part at (lefts part) k u e has in
        let here : k ≡ id = apart part k id x.0 v x.1 at x.2 (rights part new) in
        let is : left ≡ u = some-injective left u (sym (set_here views id left (below_length views id v at)) ∙ ap (get_elem? (set views id left)) (sym here) ∙ e) in
        never part (subst (λ (y : View). Has y part) (sym is) has) new

-- where a part was before a join, which is in the place k now
abbrev Came : List View → ℕ → ℕ → Part → ℕ → Type 0
Came views id other part k = (l : ℕ) × (x : View) × (get_elem? views l ≡ some x) × Has x part × ((l ≡ k) ⊎ ((k ≡ id) × (l ≡ other))) × (k ≢ other)

pub apart_join : (views : List View) (id other : ℕ) (v w both : View) → get_elem? views id ≡ some v → other ≢ id → get_elem? views other ≡ some w
    → ((part : Part) → Has both part → Has v part ⊎ Has w part)
    → AreApart views → AreApart (set (set views id both) other spent)
apart_join views id other v w both at away there halves apart part i j a b ai bj ha hb =
    let x = came i a ai ha in
    let y = came j b bj hb in
    let same = apart part x.0 y.0 x.1 y.1 x.2 y.2 x.3 y.3 in
    ⊎_elim
    (λ (p : x.0 ≡ i). ⊎_elim (λ (q : y.0 ≡ j). sym p ∙ same ∙ q) (λ (q : (j ≡ id) × (y.0 ≡ other)). absurd (x.5 (sym p ∙ same ∙ q.1))) y.4)
    (λ (p : (i ≡ id) × (x.0 ≡ other)). ⊎_elim (λ (q : y.0 ≡ j). absurd (y.5 (sym q ∙ sym same ∙ p.1))) (λ (q : (j ≡ id) × (y.0 ≡ other)). p.0 ∙ sym q.0) y.4)
    x.4
  where
    no_part : (p : Part) → Has spent p → ⊥
    no_part Part.the_book h = absurd (cc)
    no_part (Part.the_shard k) h = ⊎_elim (λ z. z) (λ z. z) h
    no_part (Part.the_pass k) h = ⊎_elim (λ z. z) (λ z. z) h

    came : (k : ℕ) (u : View) → get_elem? (set (set views id both) other spent) k ≡ some u → Has u part → Came views id other part k
    came k u e has = ⊎_elim
        (λ (t : (k ≡ other) × (spent ≡ u)). absurd (no_part part (subst (λ (y : View). Has y part) (sym t.1) has)))
        (λ (t : (k ≢ other) × (get_elem? (set views id both) k ≡ some u)). ⊎_elim
        (λ (z : (k ≡ id) × (both ≡ u)). ⊎_elim
        (λ one. (id, v, at, one, inl (sym z.0), t.0))
        (λ two. (other, w, there, two, inr (z.0, refl), t.0))
        (halves part (subst (λ (y : View). Has y part) (sym z.1) has)))
        (λ (z : (k ≢ id) × (get_elem? views k ≡ some u)). (k, u, z.1, has, inl refl, t.0))
        (at_set views id k both u t.1))
        (at_set (set views id both) other k spent u e)
