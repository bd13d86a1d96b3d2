-- What it means that no reason stands against an edit, in both directions.
use Rattle.std.proofs.Common.{◌≡◌, ◌≢◌, ◌⊎◌, inl, inr, ◌↔◌, ℕ, ◌<◌, ◌≤◌, Bool, true, false, List, take, Option, Some, None, refl, sym, ap, subst, ◌∙◌, arith, cond, slice_get}
use Rattle.std.specs.List.{Contains, find, list_any}
use Rattle.std.specs.Option.{option_eq}
use Rattle.std.proofs.lemmas.Bool.{ltb-true, lt-ltb, leb-true, le-leb, or_cases, or_left, or_right}
use Rattle.si_model.specs.declared.numbers.Stamp.{Stamp}
use Rattle.si_model.specs.declared.numbers.Value.{Value}
use Rattle.si_model.specs.declared.operations.Op.{Op}
use Rattle.si_model.specs.declared.operations.Op.TheVariants as op
use Rattle.si_model.specs.declared.transactions.Txn.{Txn}
use Rattle.si_model.specs.declared.refusals.Refusal.{Refusal}
use Rattle.si_model.specs.declared.refusals.Refusal.TheVariants as refusal
use Rattle.si_model.specs.Operations.{is_write, same_write}
use Rattle.si_model.specs.Parts.{writes_pair_of, writes_some, set_up_value}
use Rattle.si_model.specs.Versions.{commit_of}
use Rattle.si_model.specs.History.{WritesPairAt, WritesSome}
use Rattle.si_model.specs.Edits.{same_stamp, install_stamp, installs_at, has_stamp, least_id, IsLeastId, writer_of_pair, first_at, IsFirst, is_forward, order_refusal, start_refusal, clashes, commit_refusal, twice_at, taken_at, is_set_up, set_up_at}
use Rattle.si_lists.proofs.Members.{same_some, get_contains, contains_get, take_contains, taken_at as taken_place}
use Rattle.si_lists.proofs.Tests.{any_is, any_from, find-Some, find-None, no_value, none_mapped, mapped_none}
use Rattle.si_model.proofs.Equalities.{same_stamp_is, same_stamp_from, stamp_is, value_is, same_write_is, same_write_itself}
use Rattle.si_model.proofs.Acceptance.{least_found, first_found}

-- ---- writing at all

write_op : (p : Op) → is_write p ≡ true → (x : List ℕ) × (v : Value) × (p ≡ op.Write x v)
write_op (op.Read x v) e = cc
write_op (op.Write x v) e = (x, v, refl)

pub some_written : (T : Txn) → (writes_some T ≡ true) ↔ WritesSome T
some_written T = (
  λ e.
      (let f = any_is is_write T.ops e in
      let w = write_op f.0 f.2 in
      let at = contains_get T.ops f.0 f.1 in
      (at.0, w.0, w.1, at.1 ∙ ap Some w.2)),
  λ w. any_from is_write T.ops (op.Write w.1 w.2) (get_contains T.ops w.0 (op.Write w.1 w.2) w.3) refl,
)

-- a pair that a transaction writes
pub pair_written : (x : List ℕ) (v : Value) (T : Txn) → (writes_pair_of (op.Write x v) T ≡ true) ↔ ((i : ℕ) × WritesPairAt T i x v)
pair_written x v T = (
  λ e.
      (let f = any_is (same_write (op.Write x v)) T.ops e in
      let pair = same_write_is (op.Write x v) f.0 f.2 in
      let at = contains_get T.ops f.0 f.1 in
      (at.0, at.1 ∙ ap Some (pair.3 ∙ sym pair.2))),
  λ w. any_from (same_write (op.Write x v)) T.ops (op.Write x v) (get_contains T.ops w.0 (op.Write x v) w.1) (same_write_itself x v),
)

-- ---- the order of stamps

-- a commit may follow a start
abbrev pub IsForward : Bool → Stamp → Stamp → Type 0
IsForward writes s c = (s.0 ≤ c.0) × (writes ≡ true → s.0 < c.0)

pub forward_is : (writes : Bool) (s c : Stamp) → (is_forward writes s c ≡ true) ↔ IsForward writes s c
forward_is true s c = (λ e. let l = ltb-true s.0 c.0 e in (omega arith, λ w. l), λ f. lt-ltb s.0 c.0 (f.1 refl))
forward_is false s c = (λ e. (leb-true s.0 c.0 e, λ w. cc), λ f. le-leb s.0 c.0 f.0)

pub in_order : (writes : Bool) (s : Stamp) (o : Option Stamp) → (order_refusal writes s o ≡ None) ↔ ((c : Stamp) → o ≡ Some c → IsForward writes s c)
in_order writes s None = (λ e c f. cc, λ f. refl)
in_order writes s (Some c) = (
  λ e d f. subst (IsForward writes s) (same_some f) ((forward_is writes s c).0 (passed (is_forward writes s c) e)),
  λ f. ap (λ b. cond b None (Some refusal.StampOrder)) ((forward_is writes s c).1 (f c refl)),
)
  where
    passed : (b : Bool) → cond b None (Some refusal.StampOrder) ≡ None → b ≡ true
    passed true e = refl
    passed false e = cc

-- ---- stamps that are taken

pub install_stamp_is : (T : Txn) (c : Stamp) → (install_stamp T ≡ Some c) ↔ (WritesSome T × (commit_of T.status ≡ Some c))
install_stamp_is T c = by (writes_some T) refl
  where
    by : (b : Bool) → writes_some T ≡ b → (cond b (commit_of T.status) None ≡ Some c) ↔ (WritesSome T × (commit_of T.status ≡ Some c))
    by true w = (λ e. ((some_written T).0 w, e), λ f. f.1)
    by false w = (λ e. cc, λ f. (let t = (some_written T).1 f.0 in cc))

pub installs_is : (s : Stamp) (T : Txn) → (installs_at s T ≡ true) ↔ (WritesSome T × (commit_of T.status ≡ Some s))
installs_is s T = (
  λ e. (install_stamp_is T s).0 ((stamp_is (install_stamp T) s).0 e),
  λ f. (stamp_is (install_stamp T) s).1 ((install_stamp_is T s).1 f),
)

pub stamp_of_is : (s : Stamp) (T : Txn) → (has_stamp s T ≡ true) ↔ ((s ≡ T.start) ⊎ (commit_of T.status ≡ Some s))
stamp_of_is s T = (
  λ e. elim (or_cases (same_stamp T.start s) (option_eq same_stamp (commit_of T.status) (Some s)) e) [
    | inl f ↦ inl (sym (same_stamp_is T.start s f))
    | inr f ↦ inr ((stamp_is (commit_of T.status) s).0 f)
  ],
  λ f. elim f [
    | inl e ↦ or_left (same_stamp T.start s) (option_eq same_stamp (commit_of T.status) (Some s)) (same_stamp_from T.start s (sym e))
    | inr e ↦ or_right (same_stamp T.start s) (option_eq same_stamp (commit_of T.status) (Some s)) ((stamp_is (commit_of T.status) s).1 e)
  ],
)

-- nobody passes the test exactly where no least id is found
pub nobody : (holds : Txn → Bool) (txns : List Txn) → (least_id holds txns ≡ None) ↔ ((T : Txn) → Contains txns T → holds T ≡ true → ⊥)
nobody holds txns = (
  λ e T c t. (let none = subst (λ o. IsLeastId holds txns o) e (least_found holds txns) T c in cc),
  λ none. no_value (least_id holds txns) (λ u e. let f = (subst (IsLeastId holds txns) e (least_found holds txns)).0 in none f.0 f.1 f.2),
)

-- a start that isn't taken is no commit stamp of a transaction that writes
pub start_free : (txns : List Txn) (s : Stamp) → (start_refusal txns s ≡ None) ↔ ((T : Txn) → Contains txns T → WritesSome T → commit_of T.status ≢ Some s)
start_free txns s = (
  λ e T c w f. (nobody (installs_at s) txns).0 (none_mapped (λ u. refusal.StampTaken s u) (least_id (installs_at s) txns) e) T c ((installs_is s T).1 (w, f)),
  λ free. mapped_none (λ u. refusal.StampTaken s u) (least_id (installs_at s) txns) ((nobody (installs_at s) txns).1 (λ T c t. let f = (installs_is s T).0 t in free T c f.0 f.1)),
)

-- what a commit at the stamp may not be beside
abbrev pub Clashes : Bool → Stamp → Txn → Type 0
Clashes writes c T = (WritesSome T × (commit_of T.status ≡ Some c)) ⊎ ((writes ≡ true) × ((c ≡ T.start) ⊎ (commit_of T.status ≡ Some c)))

pub clash_is : (writes : Bool) (c : Stamp) (T : Txn) → (clashes writes c T ≡ true) ↔ Clashes writes c T
clash_is true c T = (
  λ e. inr (refl, (stamp_of_is c T).0 e),
  λ f. elim f [ inl g ↦ (stamp_of_is c T).1 (inr g.1) | inr g ↦ (stamp_of_is c T).1 g.1 ],
)
clash_is false c T = (
  λ e. inl ((installs_is c T).0 e),
  λ f. elim f [ inl g ↦ (installs_is c T).1 g | inr g ↦ (let wrong = g.0 in cc) ],
)

pub commit_free : (txns : List Txn) (writes : Bool) (o : Option Stamp) → (commit_refusal txns writes o ≡ None) ↔ ((c : Stamp) → o ≡ Some c → (T : Txn) → Contains txns T → Clashes writes c T → ⊥)
commit_free txns writes None = (λ e c f. cc, λ f. refl)
commit_free txns writes (Some c) = (
  λ e d f T at k. (nobody (clashes writes c) txns).0 (none_mapped (λ u. refusal.StampTaken c u) (least_id (clashes writes c) txns) e) T at ((clash_is writes c T).1 (subst (λ s. Clashes writes s T) (sym (same_some f)) k)),
  λ free. mapped_none (λ u. refusal.StampTaken c u) (least_id (clashes writes c) txns) ((nobody (clashes writes c) txns).1 (λ T at t. free c refl T at ((clash_is writes c T).0 t))),
)

-- ---- pairs that are taken

-- nothing is given at any place exactly where no first is found
pub no_first : (f : ℕ → Op → Option Refusal) (ps : List Op) → (first_at f 0 ps ≡ None) ↔ ((i : ℕ) (p : Op) → slice_get ps i ≡ Some p → f i p ≡ None)
no_first f ps = (
  λ e. subst (λ o. IsFirst f ps o) e (first_found f ps),
  λ none. no_value (first_at f 0 ps) (λ r e. let g = subst (IsFirst f ps) e (first_found f ps) in let n = none g.0 g.1 g.2 in let s = g.3 in cc),
)

conditional : (b : Bool) (r : Refusal) → (cond b (Some r) None ≡ None) ↔ (b ≡ true → ⊥)
conditional true r = (λ e t. cc, λ f. absurd (f refl))
conditional false r = (λ e t. cc, λ f. refl)

pub places_equal : (i j : ℕ) → (i < j → ⊥) → (j < i → ⊥) → i ≡ j
places_equal i j a b = grind (arith, a, b)

-- no pair is written twice
abbrev pub Once : List Op → Type 0
Once ops = (i j : ℕ) (x : List ℕ) (v : Value) → slice_get ops i ≡ Some (op.Write x v) → slice_get ops j ≡ Some (op.Write x v) → i ≡ j

pub once_is : (ops : List Op) → (first_at (twice_at ops) 0 ops ≡ None) ↔ Once ops
once_is ops = (
  λ e i j x v a b. places_equal i j (λ l. earlier e j i x v b a l) (λ l. earlier e i j x v a b l),
  λ once. (no_first (twice_at ops) ops).1 (λ i p at. (conditional (list_any (same_write p) (take i ops)) (refusal.ValueTwice i)).1 (λ t.
      let any = any_is (same_write p) (take i ops) t in
      let before = taken_place ops i any.0 any.1 in
      let pair = same_write_is p any.0 any.2 in
      let same = once i before.0 pair.0 pair.1 (at ∙ ap Some pair.2) (before.2 ∙ ap Some pair.3) in
      let l = before.1 in absurd (omega (arith, same, l)))),
)
  where
    earlier : first_at (twice_at ops) 0 ops ≡ None → (i j : ℕ) (x : List ℕ) (v : Value) → slice_get ops i ≡ Some (op.Write x v) → slice_get ops j ≡ Some (op.Write x v) → j < i → ⊥
    earlier e i j x v a b l =
        (conditional (list_any (same_write (op.Write x v)) (take i ops)) (refusal.ValueTwice i)).0 ((no_first (twice_at ops) ops).0 e i (op.Write x v) a)
        (any_from (same_write (op.Write x v)) (take i ops) (op.Write x v) (take_contains ops i j (op.Write x v) l b) (same_write_itself x v))

-- nobody writes the pair
pub unwritten : (x : List ℕ) (v : Value) (txns : List Txn) → (writer_of_pair (op.Write x v) txns ≡ None) ↔ ((T : Txn) (i : ℕ) → Contains txns T → WritesPairAt T i x v → ⊥)
unwritten x v txns = (
  λ e T i c w. (let none = find-None (writes_pair_of (op.Write x v)) txns (none_mapped (λ (U : Txn). U.id) (find (writes_pair_of (op.Write x v)) txns) e) T c in let some = (pair_written x v T).1 (i, w) in cc),
  λ none. mapped_none (λ (U : Txn). U.id) (find (writes_pair_of (op.Write x v)) txns) (no_value (find (writes_pair_of (op.Write x v)) txns) (λ T e.
      let f = find-Some (writes_pair_of (op.Write x v)) txns T e in let w = (pair_written x v T).0 f.1 in none T w.0 f.0 w.1)),
)

-- no pair that these operations write is written by a present transaction
abbrev pub Untaken : List Txn → List Op → Type 0
Untaken txns ops = (i : ℕ) (x : List ℕ) (v : Value) → slice_get ops i ≡ Some (op.Write x v) → (T : Txn) (j : ℕ) → Contains txns T → WritesPairAt T j x v → ⊥

pub untaken_is : (txns : List Txn) (ops : List Op) → (first_at (taken_at txns) 0 ops ≡ None) ↔ Untaken txns ops
untaken_is txns ops = (
  λ e i x v at. (unwritten x v txns).0 (none_mapped (λ u. refusal.ValueTaken i u) (writer_of_pair (op.Write x v) txns) ((no_first (taken_at txns) ops).0 e i (op.Write x v) at)),
  λ free. (no_first (taken_at txns) ops).1 (λ i p at. by i p at free),
)
  where
    by : (i : ℕ) (p : Op) → slice_get ops i ≡ Some p → ((i : ℕ) (x : List ℕ) (v : Value) → slice_get ops i ≡ Some (op.Write x v) → (T : Txn) (j : ℕ) → Contains txns T → WritesPairAt T j x v → ⊥) → taken_at txns i p ≡ None
    by i (op.Read x v) at free = refl
    by i (op.Write x v) at free = mapped_none (λ u. refusal.ValueTaken i u) (writer_of_pair (op.Write x v) txns) ((unwritten x v txns).1 (free i x v at))

-- no pair that these operations write was set up
abbrev pub Unset : List (List ℕ × Value) → List Op → Type 0
Unset initial ops = (i : ℕ) (x : List ℕ) (v : Value) → slice_get ops i ≡ Some (op.Write x v) → set_up_value x initial ≢ Some v

pub unset_is : (initial : List (List ℕ × Value)) (ops : List Op) → (first_at (set_up_at initial) 0 ops ≡ None) ↔ Unset initial ops
unset_is initial ops = (
  λ e i x v at s. (conditional (is_set_up initial (op.Write x v)) (refusal.ValueSetUp i)).0 ((no_first (set_up_at initial) ops).0 e i (op.Write x v) at) ((value_is (set_up_value x initial) v).1 s),
  λ free. (no_first (set_up_at initial) ops).1 (λ i p at. by i p at free),
)
  where
    by : (i : ℕ) (p : Op) → slice_get ops i ≡ Some p → ((i : ℕ) (x : List ℕ) (v : Value) → slice_get ops i ≡ Some (op.Write x v) → set_up_value x initial ≢ Some v) → set_up_at initial i p ≡ None
    by i (op.Read x v) at free = refl
    by i (op.Write x v) at free = (conditional (is_set_up initial (op.Write x v)) (refusal.ValueSetUp i)).1 (λ t. free i x v at ((value_is (set_up_value x initial) v).0 t))
