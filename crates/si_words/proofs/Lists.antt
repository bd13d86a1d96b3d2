-- Beginnings of a journal, and the entries of one pass in it.
use Rattle.std.proofs.Common.{◌≡◌, ◌≢◌, ℕ, ◌≤◌, Bool, true, false, List, [], ◌∷◌, ◌++◌, length, refl, sym, ap, ◌∙◌, subst, arith, length-append, append_assoc, eq-eqb, ne_eqb}
use Rattle.std.specs.Prelude.{if◌then◌else◌, nat_lt}
use Rattle.std.proofs.lemmas.List.{append-nil}
use Rattle.std.proofs.lemmas.List.Elements.{filter-append}
use Rattle.si_words.specs.declared.views.Entry.{Entry}
use Rattle.si_words.specs.Entries.{IsBeginning, bears, made_by, longer}

pub begins_itself : (xs : List Entry) → IsBeginning xs xs
begins_itself xs = ([], sym (append-nil xs))

pub begins_whole : (xs ys : List Entry) → xs ≡ ys → IsBeginning xs ys
begins_whole xs ys e = subst (λ (l : List Entry). IsBeginning xs l) e (begins_itself xs)

pub nothing_begins : (ys : List Entry) → IsBeginning [] ys
nothing_begins ys = (ys, refl)

pub begins_longer : (xs ys : List Entry) (e : Entry) → IsBeginning xs ys → IsBeginning xs (ys ++ e ∷ [])
begins_longer xs ys e b = (b.0 ++ e ∷ [], ap (λ l. l ++ e ∷ []) b.1 ∙ append_assoc xs b.0 (e ∷ []))

pub length-beginning : (xs ys : List Entry) → IsBeginning xs ys → length xs ≤ length ys
length-beginning xs ys b = let e : length ys ≡ length (xs ++ b.0) = ap length b.1 in omega (arith, length-append xs b.0)

-- the longer is one of the two
pub longer_is : (P : List Entry → Type 0) (xs ys : List Entry) → P xs → P ys → P (longer xs ys)
longer_is P xs ys p q = elim (nat_lt (length xs) (length ys)) as (λ b. P (if b then ys else xs)) [ true ↦ q | false ↦ p ]

-- an entry of the pass is added to its entries
pub made_by_own : (i : ℕ) (J : List Entry) (e : Entry) → e.by ≡ i → made_by i (J ++ e ∷ []) ≡ made_by i J ++ e ∷ []
made_by_own i J e is = filter-append (bears i) J (e ∷ []) ∙ ap (λ l. made_by i J ++ l) (one (bears i e) (eq-eqb e.by i is))
  where
    one : (b : Bool) → b ≡ true → (if b then e ∷ [] else []) ≡ e ∷ []
    one b h = ap (λ (z : Bool). if z then e ∷ [] else []) h

-- and to no other's
pub made_by_other : (i : ℕ) (J : List Entry) (e : Entry) → e.by ≢ i → made_by i (J ++ e ∷ []) ≡ made_by i J
made_by_other i J e not = filter-append (bears i) J (e ∷ []) ∙ ap (λ l. made_by i J ++ l) (none (bears i e) (ne_eqb e.by i not)) ∙ append-nil (made_by i J)
  where
    none : (b : Bool) → b ≡ false → (if b then e ∷ [] else []) ≡ []
    none b h = ap (λ (z : Bool). if z then e ∷ [] else []) h
