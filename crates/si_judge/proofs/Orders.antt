-- The orders of the maps' keys are total, and only one key ties with itself.
use Rattle.std.proofs.Common.{◌≡◌, ◌↔◌, ℕ, true, Option, Some, None, refl, sym, ap, true≢false}
use Rattle.std.proofs.Common.{Ordering}
use Rattle.std.specs.Cmp.{ranked, nat_cmp_is}
use Rattle.std.specs.Option.{option_cmp}
use Rattle.std.specs.Ordering.{eq_by_cmp, is_eq, nat_cmp, ordering_then}
use Rattle.std.specs.declared.cmp.Ordering.TheVariants.{Less, Equal, Greater}
use Rattle.si_model.specs.declared.numbers.TxnId.{TxnId}
use Rattle.si_model.specs.declared.numbers.Value.{Value}
use Rattle.si_judge.specs.Values.{value_cmp}
use Rattle.si_judge.specs.KeptReads.{kept_read_cmp}
use Rattle.si_judge.specs.Mending.{read_cmp, stamp_cmp}

-- the test of a tie decides whether two keys are one
abbrev pub Decides : {K : Type 0} → (K → K → Ordering) → Type 0
Decides {K} cmp = (a b : K) → (eq_by_cmp cmp a b ≡ true) ↔ (a ≡ b)

equal_is : (r : Ordering) → is_eq r ≡ true → r ≡ Equal
equal_is Less e = absurd (true≢false (sym e))
equal_is Equal e = refl
equal_is Greater e = absurd (true≢false (sym e))

nat_decides : (a b : ℕ) → (is_eq (nat_cmp a b) ≡ true) ↔ (a ≡ b)
nat_decides a b = ((λ e. ranked a b Equal (sym (equal_is (nat_cmp a b) e))), λ e. ap is_eq (sym (nat_cmp_is a b Equal e)))

pub id_decides : (u w : TxnId) → (is_eq (nat_cmp u.0 w.0) ≡ true) ↔ (u ≡ w)
id_decides u w = ((λ e. ap (λ (n : ℕ). record { 0 = n }) ((nat_decides u.0 w.0).0 e)), λ e. (nat_decides u.0 w.0).1 (ap (λ x. x.0) e))

pub value_decides : Decides value_cmp
value_decides v w = ((λ e. ap (λ (n : ℕ). record { 0 = n }) ((nat_decides v.0 w.0).0 e)), λ e. (nat_decides v.0 w.0).1 (ap (λ x. x.0) e))

pub stamp_decides : Decides stamp_cmp
stamp_decides c d = ((λ e. ap (λ (n : ℕ). record { 0 = n }) ((nat_decides c.0 d.0).0 e)), λ e. (nat_decides c.0 d.0).1 (ap (λ x. x.0) e))

both_tie : (a b : Ordering) → is_eq (ordering_then a b) ≡ true → (is_eq a ≡ true) × (is_eq b ≡ true)
both_tie Less b e = absurd (true≢false (sym e))
both_tie Equal b e = (refl, e)
both_tie Greater b e = absurd (true≢false (sym e))

tie_both : (a b : Ordering) → is_eq a ≡ true → is_eq b ≡ true → is_eq (ordering_then a b) ≡ true
tie_both Less b e f = absurd (true≢false (sym e))
tie_both Equal b e f = f
tie_both Greater b e f = absurd (true≢false (sym e))

pub option_decides : (v w : Option Value) → (is_eq (option_cmp value_cmp v w) ≡ true) ↔ (v ≡ w)
option_decides None None = (λ e. refl, λ e. refl)
option_decides None (Some w) = (λ e. absurd (true≢false (sym e)), λ e. cc)
option_decides (Some v) None = (λ e. absurd (true≢false (sym e)), λ e. cc)
option_decides (Some v) (Some w) = (λ e. ap Some ((value_decides v w).0 e), λ e. (value_decides v w).1 (let s : v ≡ w = cc in s))

pub read_decides : Decides read_cmp
read_decides o p = (
  (λ e. let b = both_tie (nat_cmp o.txn.0 p.txn.0) (nat_cmp o.place p.place) e in
      let t : o.txn ≡ p.txn = (id_decides o.txn p.txn).0 b.0 in
      let i : o.place ≡ p.place = (nat_decides o.place p.place).0 b.1 in
      λ k. record { txn = t k; place = i k }),
  (λ e. tie_both (nat_cmp o.txn.0 p.txn.0) (nat_cmp o.place p.place) ((nat_decides o.txn.0 p.txn.0).1 (ap (λ x. x.txn.0) e)) ((nat_decides o.place p.place).1 (ap (λ x. x.place) e))),
)

pub kept_read_decides : Decides kept_read_cmp
kept_read_decides r s = (
  (λ e.
      let a = both_tie (option_cmp value_cmp r.value s.value) _ e in
      let b = both_tie (nat_cmp r.start.0 s.start.0) _ a.1 in
      let c = both_tie (nat_cmp r.txn.0 s.txn.0) (nat_cmp r.place s.place) b.1 in
      let v : r.value ≡ s.value = (option_decides r.value s.value).0 a.0 in
      let t : r.start ≡ s.start = (stamp_decides r.start s.start).0 b.0 in
      let u : r.txn ≡ s.txn = (id_decides r.txn s.txn).0 c.0 in
      let i : r.place ≡ s.place = (nat_decides r.place s.place).0 c.1 in
      λ k. record { value = v k; start = t k; txn = u k; place = i k }),
  (λ e. tie_both (option_cmp value_cmp r.value s.value) _ ((option_decides r.value s.value).1 (ap (λ x. x.value) e))
      (tie_both (nat_cmp r.start.0 s.start.0) _ ((nat_decides r.start.0 s.start.0).1 (ap (λ x. x.start.0) e))
      (tie_both (nat_cmp r.txn.0 s.txn.0) (nat_cmp r.place s.place) ((nat_decides r.txn.0 s.txn.0).1 (ap (λ x. x.txn.0) e)) ((nat_decides r.place s.place).1 (ap (λ x. x.place) e))))),
)
