-- Who has which stamp, after one has another.
use Rattle.std.proofs.Common.{◌≡◌, ◌⊎◌, inl, inr, ◌↔◌, ℕ, Bool, true, false, nat_eq, List, Option, Some, None, refl, sym, ap, ◌∙◌, cond}
use Rattle.std.proofs.lemmas.Bool.{and_parts, and_from}
use Rattle.si_model.specs.declared.numbers.Stamp.{Stamp}
use Rattle.si_model.specs.declared.numbers.TxnId.{TxnId}
use Rattle.si_model.proofs.Equalities.{same_id_is, same_id_from, same_stamp_is, same_stamp_from}
use Rattle.si_lists.proofs.Members.{same_some}
use Rattle.si_accept.specs.Stamps.{same_pair, has, Sets, SetsPerhaps}

pair_is : (s t : Stamp) (u w : TxnId) → same_pair (s.0, u.0) (t.0, w.0) ≡ true → (s ≡ t) × (u ≡ w)
pair_is s t u w e = let h = and_parts (nat_eq s.0 t.0) (nat_eq u.0 w.0) e in (same_stamp_is s t h.0, same_id_is u w h.1)

pair_itself : (s t : Stamp) (u w : TxnId) → s ≡ t → u ≡ w → same_pair (s.0, u.0) (t.0, w.0) ≡ true
pair_itself s t u w e f = and_from (nat_eq s.0 t.0) (nat_eq u.0 w.0) (same_stamp_from s t e) (same_id_from u w f)

-- a test that is set at one place
set_true : (here was is : Bool) (At : Type 0) → (here ≡ true) ↔ At → is ≡ cond here true was → (is ≡ true) ↔ ((was ≡ true) ⊎ At)
set_true true was is At h e = (λ i. inr (h.0 refl), λ r. e)
set_true false was is At h e = (λ i. inl (sym e ∙ i), λ r. elim r [ inl w ↦ e ∙ w | inr a ↦ (let f = h.1 a in cc) ])

set_false : (here was is : Bool) (At : Type 0) → (here ≡ true) ↔ At → is ≡ cond here false was → (is ≡ true) ↔ ((was ≡ true) × ¬ At)
set_false true was is At h e = (λ i. cc, λ r. absurd (r.1 (h.0 refl)))
set_false false was is At h e = (λ i. (sym e ∙ i, λ a. let f = h.1 a in cc), λ r. e ∙ r.0)

pub sets_true : (s : Stamp) (u : TxnId) (A B : List (ℕ × ℕ)) → Sets s u true A B → (k : Stamp × TxnId) → (has B k.0 k.1 ≡ true) ↔ ((has A k.0 k.1 ≡ true) ⊎ ((s ≡ k.0) × (u ≡ k.1)))
sets_true s u A B h k = set_true (same_pair (s.0, u.0) (k.0.0, k.1.0)) (has A k.0 k.1) (has B k.0 k.1) ((s ≡ k.0) × (u ≡ k.1)) (pair_is s k.0 u k.1, λ r. pair_itself s k.0 u k.1 r.0 r.1) (h k.0 k.1)

pub sets_false : (s : Stamp) (u : TxnId) (A B : List (ℕ × ℕ)) → Sets s u false A B → (k : Stamp × TxnId) → (has B k.0 k.1 ≡ true) ↔ ((has A k.0 k.1 ≡ true) × ¬ ((s ≡ k.0) × (u ≡ k.1)))
sets_false s u A B h k = set_false (same_pair (s.0, u.0) (k.0.0, k.1.0)) (has A k.0 k.1) (has B k.0 k.1) ((s ≡ k.0) × (u ≡ k.1)) (pair_is s k.0 u k.1, λ r. pair_itself s k.0 u k.1 r.0 r.1) (h k.0 k.1)

pub perhaps_true : (o : Option Stamp) (u : TxnId) (A B : List (ℕ × ℕ)) → SetsPerhaps o u true A B → (k : Stamp × TxnId) → (has B k.0 k.1 ≡ true) ↔ ((has A k.0 k.1 ≡ true) ⊎ ((o ≡ Some k.0) × (u ≡ k.1)))
perhaps_true None u A B h k = (λ i. inl (sym (h k.0 k.1) ∙ i), λ r. elim r [ inl w ↦ h k.0 k.1 ∙ w | inr a ↦ (let f = a.0 in cc) ])
perhaps_true (Some c) u A B h k =
    let g = sets_true c u A B h k in
    (λ i. elim (g.0 i) [ inl w ↦ inl w | inr a ↦ inr (ap Some a.0, a.1) ], λ r. elim r [ inl w ↦ g.1 (inl w) | inr a ↦ g.1 (inr (same_some a.0, a.1)) ])

pub perhaps_false : (o : Option Stamp) (u : TxnId) (A B : List (ℕ × ℕ)) → SetsPerhaps o u false A B → (k : Stamp × TxnId) → (has B k.0 k.1 ≡ true) ↔ ((has A k.0 k.1 ≡ true) × ¬ ((o ≡ Some k.0) × (u ≡ k.1)))
perhaps_false None u A B h k = (λ i. (sym (h k.0 k.1) ∙ i, λ a. let f = a.0 in cc), λ r. h k.0 k.1 ∙ r.0)
perhaps_false (Some c) u A B h k =
    let g = sets_false c u A B h k in
    (λ i. let w = g.0 i in (w.0, λ a. w.1 (same_some a.0, a.1)), λ r. g.1 (r.0, λ a. r.1 (ap Some a.0, a.1)))
