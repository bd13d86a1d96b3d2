-- Items of a source in a list that grows, and what follows a last item.
use Rattle.std.proofs.Common.{◌≡◌, ◌≢◌, ◌⊎◌, inl, inr, ⊎_elim, ℕ, zero, suc, ◌<◌, Bool, true, false, ◌||◌, true≢false, List, [], ◌∷◌, ◌++◌, length, refl, sym, ap, ◌∙◌, arith, append-nil, eq-eqb, ne_eqb, slice_get, Some, is_some}
use Rattle.std.specs.Prelude.{if◌then◌else◌}
use Rattle.std.proofs.lemmas.List.Elements.{filter-append}
use Rattle.std.proofs.lemmas.List.Folds.{list_any-append}
use Rattle.si_intake.specs.declared.items.Item.{Item}
use Rattle.si_intake.specs.Items.{is_last, has_last, comes_from, of_source}
use Rattle.si_intake.specs.Rule.{EndsAtItsLast}

pub same : (a b : ℕ) → (a ≡ b) ⊎ (a ≢ b)
same zero zero = inl refl
same zero (suc b) = inr (λ e. omega arith)
same (suc a) zero = inr (λ e. omega arith)
same (suc a) (suc b) = ⊎_elim (λ e. inl (ap suc e)) (λ n. inr (λ e. n (omega arith))) (same a b)

pub or_false : (a b : Bool) → (a || b) ≡ false → (a ≡ false) × (b ≡ false)
or_false false false e = (refl, refl)
or_false false true e = absurd (true≢false e)
or_false true b e = absurd (true≢false e)

pub or_true : (a b : Bool) → (a || b) ≡ true → (a ≡ true) ⊎ (b ≡ true)
or_true false b e = inr e
or_true true b e = inl refl

pub or_nothing : (a : Bool) → (a || false) ≡ a
or_nothing false = refl
or_nothing true = refl

pub no_rest : {X : Type 0} (xs ys : List X) → xs ++ ys ≡ [] → ys ≡ []
no_rest [] ys e = e
no_rest (x ∷ xs) ys e = absurd (let l = ap length e in omega arith)

-- ---- the items of a source

pub own_item : (s : ℕ) (x : Item) (xs : List Item) → x.source ≡ s → of_source s (x ∷ xs) ≡ x ∷ of_source s xs
own_item s x xs e = ap (λ (b : Bool). if b then x ∷ of_source s xs else of_source s xs) (eq-eqb x.source s e)

pub other_item : (s : ℕ) (x : Item) (xs : List Item) → x.source ≢ s → of_source s (x ∷ xs) ≡ of_source s xs
other_item s x xs n = ap (λ (b : Bool). if b then x ∷ of_source s xs else of_source s xs) (ne_eqb x.source s n)

pub of_both : (s : ℕ) (xs ys : List Item) → of_source s (xs ++ ys) ≡ of_source s xs ++ of_source s ys
of_both s xs ys = filter-append (comes_from s) xs ys

-- one item more, of the source or of another

pub own_added : (s : ℕ) (xs : List Item) (x : Item) → x.source ≡ s → of_source s (xs ++ x ∷ []) ≡ of_source s xs ++ x ∷ []
own_added s xs x e = of_both s xs (x ∷ []) ∙ ap (λ l. of_source s xs ++ l) (own_item s x [] e)

pub other_added : (s : ℕ) (xs : List Item) (x : Item) → x.source ≢ s → of_source s (xs ++ x ∷ []) ≡ of_source s xs
other_added s xs x n = of_both s xs (x ∷ []) ∙ ap (λ l. of_source s xs ++ l) (other_item s x [] n) ∙ append-nil (of_source s xs)

-- ---- last items

pub nothing_behind : (xs ys : List Item) → EndsAtItsLast (xs ++ ys) → has_last xs ≡ true → ys ≡ []
nothing_behind [] ys h e = absurd (true≢false (sym e))
nothing_behind (x ∷ xs) ys h e = ⊎_elim (λ last. no_rest xs ys (h.0 last)) (λ later. nothing_behind xs ys h.1 later) (or_true (is_last x) (has_last xs) e)

pub open_before : (xs : List Item) (y : Item) (ys : List Item) → EndsAtItsLast (xs ++ y ∷ ys) → has_last xs ≡ false
open_before xs y ys h = told (has_last xs) refl
  where
    told : (b : Bool) → has_last xs ≡ b → has_last xs ≡ false
    told false e = e
    told true e = absurd (let l = ap length (nothing_behind xs (y ∷ ys) h e) in omega arith)

pub one_behind : (xs : List Item) (x : Item) → EndsAtItsLast xs → has_last xs ≡ false → EndsAtItsLast (xs ++ x ∷ [])
one_behind [] x h e = ((λ _. refl), tt)
one_behind (y ∷ ys) x h e = let o = or_false (is_last y) (has_last ys) e in ((λ last. absurd (true≢false (sym last ∙ o.0))), one_behind ys x h.1 o.1)

pub lasts_append : (xs ys : List Item) → has_last (xs ++ ys) ≡ (has_last xs || has_last ys)
lasts_append xs ys = list_any-append is_last xs ys

-- ---- one element more

pub got_within : {X : Type 0} (xs : List X) (i : ℕ) (x : X) → slice_get xs i ≡ Some x → i < length xs
got_within [] i x e = absurd (true≢false (sym (ap is_some e)))
got_within (y ∷ ys) zero x e = omega arith
got_within (y ∷ ys) (suc i) x e = let l = got_within ys i x e in omega arith

pub got_added : {X : Type 0} (xs : List X) (i : ℕ) (y x : X) → slice_get (xs ++ y ∷ []) i ≡ Some x → (slice_get xs i ≡ Some x) ⊎ ((i ≡ length xs) × (Some y ≡ Some x))
got_added [] zero y x e = inr (refl, e)
got_added [] (suc i) y x e = absurd (true≢false (sym (ap is_some e)))
got_added (z ∷ zs) zero y x e = inl e
got_added (z ∷ zs) (suc i) y x e = ⊎_elim (λ l. inl l) (λ r. inr (ap suc r.0, r.1)) (got_added zs i y x e)
