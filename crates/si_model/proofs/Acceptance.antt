-- What the searches of acceptance find, and how journals grow.
use Rattle.std.proofs.Common.{◌≡◌, inl, inr, ℕ, ◌+◌, ◌<◌, ◌≤◌, Bool, true, false, nat_lt, List, [], ◌∷◌, ◌++◌, Option, Some, None, zero, suc, refl, sym, ap, subst, ◌∙◌, arith, cond, ◌↔◌, slice_get, append_assoc}
use Rattle.std.specs.Option.{option_or}
use Rattle.std.proofs.lemmas.Bool.Decides.{nat_tests}
use Rattle.std.proofs.lemmas.List.{same_from_push}
use Rattle.std.proofs.lemmas.List.Elements.{Contains-append_left}
use Rattle.si_model.specs.declared.numbers.TxnId.{TxnId}
use Rattle.si_model.specs.declared.operations.Op.{Op}
use Rattle.si_model.specs.declared.transactions.Txn.{Txn}
use Rattle.si_model.specs.declared.edits.Edit.{Edit}
use Rattle.si_model.specs.declared.refusals.Refusal.{Refusal}
use Rattle.si_model.specs.Edits.{lesser, least_id, IsLeastId, first_at, IsFirst, IsAcceptable, after}
use Rattle.si_model.specs.Journals.{nothing, present, IsAccepted}
use Rattle.si_lists.proofs.Members.{same_some, Contains-nil}
use Rattle.si_lists.proofs.Pushes.{push_cases, push_last, fold_keeps, fold_push, last_cases}

-- ---- the least id

not_counted : (holds : Txn → Bool) (done : List Txn) (T : Txn) (least : Option TxnId) → holds T ≡ false → IsLeastId holds done least → IsLeastId holds (done ++ T ∷ []) least
not_counted holds done T None e h = λ U c. elim (push_cases done T U c) [ inl d ↦ h U d | inr s ↦ subst (λ V. holds V ≡ false) s e ]
not_counted holds done T (Some u) e h =
    ((h.0.0, Contains-append_left done (T ∷ []) h.0.0 h.0.1, h.0.2, h.0.3), λ U c t. elim (push_cases done T U c) [ inl d ↦ h.1 U d t | inr s ↦ cc (subst (λ V. holds V ≡ false) s e) ])

counted : (holds : Txn → Bool) (done : List Txn) (T : Txn) (least : Option TxnId) → holds T ≡ true → IsLeastId holds done least → IsLeastId holds (done ++ T ∷ []) (lesser least T.id)
counted holds done T None e h =
    ((T, push_last done T, e, refl), λ U c t. elim (push_cases done T U c) [ inl d ↦ cc (h U d) | inr s ↦ (let p = ap (λ V. V.id.0) s in omega arith) ])
counted holds done T (Some u) e h = by (nat_lt T.id.0 u.0) refl
  where
    by : (b : Bool) → nat_lt T.id.0 u.0 ≡ b → IsLeastId holds (done ++ T ∷ []) (cond b (Some T.id) (Some u))
    by true l = (
      (T, push_last done T, e, refl),
      λ U c t. elim (push_cases done T U c) [
        | inl d ↦ (let a = h.1 U d t in let b : T.id.0 < u.0 = grind (arith, nat_tests) in omega arith)
        | inr s ↦ (let p = ap (λ V. V.id.0) s in omega arith)
      ],
    )
    by false l = (
      (h.0.0, Contains-append_left done (T ∷ []) h.0.0 h.0.1, h.0.2, h.0.3),
      λ U c t. elim (push_cases done T U c) [
        | inl d ↦ h.1 U d t
        | inr s ↦ (let p = ap (λ V. V.id.0) s in let b : u.0 ≤ T.id.0 = grind (arith, nat_tests) in omega arith)
      ],
    )

pub least_found : (holds : Txn → Bool) (P : List Txn) → IsLeastId holds P (least_id holds P)
unfolding least_id
least_found holds P = fold_keeps (IsLeastId holds) (λ least T. cond (holds T) (lesser least T.id) least) step [] P None (λ T c. absurd (Contains-nil T c))
  where
    step : (done : List Txn) (T : Txn) (least : Option TxnId) → IsLeastId holds done least → IsLeastId holds (done ++ T ∷ []) (cond (holds T) (lesser least T.id) least)
    step done T least h = tested (holds T) refl
      where
        tested : (b : Bool) → holds T ≡ b → IsLeastId holds (done ++ T ∷ []) (cond b (lesser least T.id) least)
        tested true e = counted holds done T least e h
        tested false e = not_counted holds done T least e h

-- ---- the first refusal

-- the same from a place on
IsFirstFrom : ℕ → (ℕ → Op → Option Refusal) → List Op → Option Refusal → Type 0
IsFirstFrom n f ps r = IsFirst (λ i p. f (n + i) p) ps r

first_here : (f : ℕ → Op → Option Refusal) (n : ℕ) (p : Op) (ps : List Op) (r : Refusal) → f n p ≡ Some r → IsFirstFrom n f (p ∷ ps) (Some r)
unfolding IsFirstFrom
first_here f n p ps r e = (0, p, refl, subst (λ m. f m p ≡ Some r) (omega arith) e, λ j q l s. absurd (omega arith))

first_later : (f : ℕ → Op → Option Refusal) (n : ℕ) (p : Op) (ps : List Op) (r : Option Refusal) → f n p ≡ None → IsFirstFrom (n + 1) f ps r → IsFirstFrom n f (p ∷ ps) r
unfolding IsFirstFrom
first_later f n p ps None e h = at
  where
    at : (i : ℕ) (q : Op) → slice_get (p ∷ ps) i ≡ Some q → f (n + i) q ≡ None
    at zero q s = subst (λ m. f m q ≡ None) (omega arith) (subst (λ o. f n o ≡ None) (same_some s) e)
    at (suc i) q s = subst (λ m. f m q ≡ None) (omega arith) (h i q s)
first_later f n p ps (Some r) e h = (suc h.0, h.1, h.2, subst (λ m. f m h.1 ≡ Some r) (omega arith) h.3, before)
  where
    before : (j : ℕ) (q : Op) → j < suc h.0 → slice_get (p ∷ ps) j ≡ Some q → f (n + j) q ≡ None
    before zero q l s = subst (λ m. f m q ≡ None) (omega arith) (subst (λ o. f n o ≡ None) (same_some s) e)
    before (suc j) q l s = subst (λ m. f m q ≡ None) (omega arith) (h.4 j q (omega arith) s)

first_from : (f : ℕ → Op → Option Refusal) (n : ℕ) (ps : List Op) → IsFirstFrom n f ps (first_at f n ps)
unfolding IsFirstFrom
first_from f n [] = λ i p e. cc
first_from f n (p ∷ ps) = elim (f n p) as (λ o. f n p ≡ o → IsFirstFrom n f (p ∷ ps) (option_or o (first_at f (n + 1) ps))) [
  | None ↦ λ e. first_later f n p ps (first_at f (n + 1) ps) e (first_from f (n + 1) ps)
  | Some r ↦ λ e. first_here f n p ps r e
] refl

from_zero : (f : ℕ → Op → Option Refusal) (ps : List Op) (r : Option Refusal) → IsFirstFrom 0 f ps r → IsFirst f ps r
unfolding IsFirstFrom
from_zero f ps None h = λ i p e. subst (λ m. f m p ≡ None) (omega arith) (h i p e)
from_zero f ps (Some r) h = (h.0, h.1, h.2, subst (λ m. f m h.1 ≡ Some r) (omega arith) h.3, λ j q l e. subst (λ m. f m q ≡ None) (omega arith) (h.4 j q l e))

pub first_found : (f : ℕ → Op → Option Refusal) (ps : List Op) → IsFirst f ps (first_at f 0 ps)
first_found f ps = from_zero f ps (first_at f 0 ps) (first_from f 0 ps)

-- ---- journals

pub present_push : (J : List Edit) (e : Edit) → present (J ++ e ∷ []) ≡ after e (present J)
unfolding present
present_push J e = fold_push (λ P d. after d P) nothing J e

pub accepted_begins : (J K : List Edit) → IsAccepted (J ++ K) → IsAccepted J
accepted_begins J K h = λ before e rest s. h before e (rest ++ K) (ap (λ L. L ++ K) s ∙ append_assoc before (e ∷ rest) K)

pub accepted_push : (J : List Edit) (e : Edit) → IsAccepted (J ++ e ∷ []) ↔ (IsAccepted J × IsAcceptable (present J) e)
accepted_push J e = (λ h. (accepted_begins J (e ∷ []) h, h J e [] refl), λ h. grows h.0 h.1)
  where
    grows : IsAccepted J → IsAcceptable (present J) e → IsAccepted (J ++ e ∷ [])
    grows h a before d rest s = elim (last_cases rest) [
      | inl none ↦ (let both = same_from_push J before e d (s ∙ ap (λ r. before ++ d ∷ r) none) in
          subst (λ B. IsAcceptable (present B) d) both.0 (subst (λ f. IsAcceptable (present J) f) both.1 a))
      | inr r ↦ (let both = same_from_push J (before ++ d ∷ r.0) e r.1 (s ∙ ap (λ q. before ++ d ∷ q) r.2 ∙ sym (append_assoc before (d ∷ r.0) (r.1 ∷ []))) in
          h before d r.0 both.0)
    ]
