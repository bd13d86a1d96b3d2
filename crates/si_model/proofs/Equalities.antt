-- The tests of equality tell equality.
use Rattle.std.proofs.Common.{◌≡◌, ◌≢◌, ◌⊎◌, inl, inr, ◌↔◌, ℕ, Bool, true, List, Option, Some, None, refl, sym, ap, eqb-true, eq-eqb}
use Rattle.std.specs.Option.{option_eq}
use Rattle.std.specs.Cmp.Lexicographic.{bytes_decides}
use Rattle.std.proofs.lemmas.Bool.{and_parts, and_from, cases_eq}
use Rattle.si_model.specs.declared.numbers.TxnId.{TxnId}
use Rattle.si_model.specs.declared.numbers.Stamp.{Stamp}
use Rattle.si_model.specs.declared.numbers.Value.{Value}
use Rattle.si_model.specs.declared.operations.Op.{Op}
use Rattle.si_model.specs.declared.operations.Op.TheVariants as op
use Rattle.si_model.specs.Operations.{same_value, same_key, same_write}
use Rattle.si_model.specs.Edits.{same_id, same_stamp}
use Rattle.si_model.specs.Laws.{TestsDecide}

-- ---- ids, stamps, values and keys

pub same_id_is : (u w : TxnId) → same_id u w ≡ true → u ≡ w
same_id_is u w e = ap (λ n. record { 0 = n }) (eqb-true u.0 w.0 e)

pub same_id_from : (u w : TxnId) → u ≡ w → same_id u w ≡ true
same_id_from u w e = eq-eqb u.0 w.0 (ap (λ v. v.0) e)

pub same_stamp_is : (s c : Stamp) → same_stamp s c ≡ true → s ≡ c
same_stamp_is s c e = ap (λ n. record { 0 = n }) (eqb-true s.0 c.0 e)

pub same_stamp_from : (s c : Stamp) → s ≡ c → same_stamp s c ≡ true
same_stamp_from s c e = eq-eqb s.0 c.0 (ap (λ v. v.0) e)

pub same_value_is : (v w : Value) → same_value v w ≡ true → v ≡ w
same_value_is v w e = ap (λ n. record { 0 = n }) (eqb-true v.0 w.0 e)

pub same_value_from : (v w : Value) → v ≡ w → same_value v w ≡ true
same_value_from v w e = eq-eqb v.0 w.0 (ap (λ u. u.0) e)

pub same_key_is : (x y : List ℕ) → same_key x y ≡ true → x ≡ y
same_key_is x y e = (bytes_decides x y).0 e

pub same_key_from : (x y : List ℕ) → x ≡ y → same_key x y ≡ true
same_key_from x y e = (bytes_decides x y).1 e

pub tests_decide : TestsDecide
tests_decide = record {
  ids = λ u w. (same_id_is u w, same_id_from u w);
  stamps = λ s c. (same_stamp_is s c, same_stamp_from s c);
  values = λ v w. (same_value_is v w, same_value_from v w);
  keys = λ x y. (same_key_is x y, same_key_from x y);
}

-- ids are one or differ
pub same_id_or_not : (u w : TxnId) → (u ≡ w) ⊎ (u ≢ w)
same_id_or_not u w = elim (cases_eq u.0 w.0) [
  | inl e ↦ inl (ap (λ n. record { 0 = n }) e)
  | inr d ↦ inr (λ e. d (ap (λ v. v.0) e))
]

-- ---- options

some_case : {X : Type 0} (same : X → X → Bool) → ((x y : X) → (same x y ≡ true) ↔ (x ≡ y)) → (o : Option X) (x : X) → (option_eq same o (Some x) ≡ true) ↔ (o ≡ Some x)
some_case same decides None x = (λ e. cc, λ e. cc)
some_case same decides (Some y) x = (λ e. ap Some ((decides y x).0 e), λ e. (decides y x).1 (let s : y ≡ x = cc in s))

pub stamp_is : (o : Option Stamp) (c : Stamp) → (option_eq same_stamp o (Some c) ≡ true) ↔ (o ≡ Some c)
stamp_is = some_case same_stamp tests_decide.stamps

pub value_is : (o : Option Value) (v : Value) → (option_eq same_value o (Some v) ≡ true) ↔ (o ≡ Some v)
value_is = some_case same_value tests_decide.values

pub read_is : (o p : Option Value) → (option_eq same_value o p ≡ true) ↔ (o ≡ p)
read_is None None = (λ e. refl, λ e. refl)
read_is (Some v) None = (λ e. cc, λ e. cc)
read_is o (Some w) = value_is o w

-- ---- writes

pub same_write_is : (p q : Op) → same_write p q ≡ true → (x : List ℕ) × (v : Value) × (p ≡ op.Write x v) × (q ≡ op.Write x v)
same_write_is (op.Read x v) q e = cc
same_write_is (op.Write x v) (op.Read y w) e = cc
same_write_is (op.Write x v) (op.Write y w) e =
    let both = and_parts (same_value v w) (same_key x y) e in
    let value = same_value_is v w both.0 in
    let key = same_key_is x y both.1 in
    (x, v, refl, λ i. op.Write (sym key i) (sym value i))

pub same_write_itself : (x : List ℕ) (v : Value) → same_write (op.Write x v) (op.Write x v) ≡ true
same_write_itself x v = and_from (same_value v v) (same_key x x) (same_value_from v v refl) (same_key_from x x refl)
