-- A partition tells the reason of the whole against an edit.
use Rattle.std.proofs.Common.{◌≡◌, ◌⊎◌, inl, inr, ℕ, ◌<◌, ◌≤◌, Bool, true, false, List, [], ◌∷◌, map, length, take, Option, Some, None, is_some, ◌||◌, zero, suc, refl, sym, ap, subst, ◌∙◌, arith, cond, slice_get}
use Rattle.std.specs.List.{Contains, filter, find, list_any}
use Rattle.std.specs.Option.{option_or, option_map, option_eq}
use Rattle.std.proofs.lemmas.Bool.{eq-eqb}
use Rattle.si_lists.proofs.Members.{same_some, Contains-map, Contains-from_map}
use Rattle.si_lists.proofs.Tests.{mapped_some, none_mapped}
use Rattle.si_model.specs.declared.numbers.Stamp.{Stamp}
use Rattle.si_model.specs.declared.numbers.TxnId.{TxnId}
use Rattle.si_model.specs.declared.numbers.Value.{Value}
use Rattle.si_model.specs.declared.edits.Edit.{Edit}
use Rattle.si_model.specs.declared.edits.Edit.TheVariants as edit
use Rattle.si_model.specs.declared.operations.Op.{Op}
use Rattle.si_model.specs.declared.operations.Op.TheVariants as op
use Rattle.si_model.specs.declared.refusals.Refusal.{Refusal}
use Rattle.si_model.specs.declared.refusals.Refusal.TheVariants as refusal
use Rattle.si_model.specs.declared.transactions.Outcome.{Outcome}
use Rattle.si_model.specs.declared.transactions.Txn.{Txn}
use Rattle.si_model.specs.Edits.{same_id, with_id, first_of, first_at, IsFirst, is_in_doubt, status_after, is_forward, order_refusal, start_refusal, installs_at, clashes, commit_refusal, least_id, IsLeastId, twice_at, taken_at, set_up_at, is_set_up, writer_of_pair, refusal_on, resolution_refusal, resolution_refusal_of, withdrawal_refusal}
use Rattle.si_model.specs.History.{WritesPairAt, WritesSome}
use Rattle.si_model.specs.Operations.{key_of, same_value, same_write}
use Rattle.si_model.specs.Parts.{Present, set_up_value, writes_pair_of, writes_some}
use Rattle.si_model.specs.Versions.{commit_of}
use Rattle.si_model.proofs.Acceptance.{first_found, least_found}
use Rattle.si_model.proofs.Equalities.{same_id_is, same_write_is}
use Rattle.si_model.proofs.Reasons.{some_written, IsForward, in_order, installs_is, start_free, Clashes, clash_is, commit_free, no_first, places_equal, unwritten}
use Rattle.si_partitions.specs.declared.partitions.Partition.{Partition}
use Rattle.si_partitions.specs.Laws.{AreOf, PartitionsTellReasons, TellsReason}
use Rattle.si_partitions.specs.Partitions.{partition_at, partition_number, has_key, has_op, place_in, projected, projected_edit, renumbered, ops_in, turn_of}
use Rattle.si_partitions.proofs.Projected.{write_from, write_to}
use Rattle.si_partitions.proofs.Ranges.{own, within}
use Rattle.si_partitions.proofs.Ranks.{at_rank, from_rank, ranks_rise}

-- ---- reasons one after the other

module _ (count : ℕ) (ops : List Op) where
  abbrev part : ℕ → Partition
  part i = partition_at i count

  abbrev as_in : ℕ → Refusal → Refusal
  as_in i r = renumbered (part i) ops r

  -- one reason that is looked for in the whole, and in each partition: they have one turn
  record Step (w : Option Refusal) (ps : ℕ → Option Refusal) (turn : ℕ) : Type 0 where
    none : w ≡ None → (i : ℕ) → i < count → ps i ≡ None
    told : (r : Refusal) → w ≡ Some r → (i : ℕ) × (i < count) × (ps i ≡ Some (as_in i r))
    of_all : (r : Refusal) → w ≡ Some r → turn_of r ≡ turn
    of_part : (i : ℕ) (s : Refusal) → ps i ≡ Some s → turn_of s ≡ turn

  -- several, none of which has its turn before that one
  record Steps (w : Option Refusal) (ps : ℕ → Option Refusal) (turn : ℕ) : Type 0 where
    none : w ≡ None → (i : ℕ) → i < count → ps i ≡ None
    told : (r : Refusal) → w ≡ Some r → (i : ℕ) × (i < count) × (ps i ≡ Some (as_in i r))
    first : (r : Refusal) → w ≡ Some r → (i : ℕ) (s : Refusal) → i < count → ps i ≡ Some s → turn_of r ≤ turn_of s
    later : (i : ℕ) (s : Refusal) → ps i ≡ Some s → turn ≤ turn_of s

  no_steps : (turn : ℕ) → Steps None (λ i. None) turn
  no_steps turn = record { none = λ e i l. refl; told = λ r e. cc; first = λ r e. cc; later = λ i s e. cc }

  module _ (w v : Option Refusal) (ps qs : ℕ → Option Refusal) (turn next : ℕ) (le : turn ≤ next) (one : Step w ps turn) (more : Steps v qs next) where
    or_none : (i : ℕ) → ps i ≡ None → option_or (ps i) (qs i) ≡ qs i
    or_none i e = ap (λ o. option_or o (qs i)) e

    or_some : (i : ℕ) (s : Refusal) → ps i ≡ Some s → option_or (ps i) (qs i) ≡ Some s
    or_some i s e = ap (λ o. option_or o (qs i)) e

    either : (i : ℕ) (s : Refusal) → option_or (ps i) (qs i) ≡ Some s → (ps i ≡ Some s) ⊎ (qs i ≡ Some s)
    either i s e = by (ps i) refl
      where
        by : (o : Option Refusal) → ps i ≡ o → (ps i ≡ Some s) ⊎ (qs i ≡ Some s)
        by None f = inr (sym (or_none i f) ∙ e)
        by (Some t) f = inl (f ∙ sym (or_some i t f) ∙ e)

    later_of : (i : ℕ) (s : Refusal) → option_or (ps i) (qs i) ≡ Some s → turn ≤ turn_of s
    later_of i s e = elim (either i s e) [
      | inl f ↦ (let same = one.of_part i s f in omega arith)
      | inr f ↦ (let past = more.later i s f in omega arith)
    ]

    step_before : (o : Option Refusal) → w ≡ o → Steps (option_or o v) (λ i. option_or (ps i) (qs i)) turn
    step_before None e = record {
      none = λ f i l. or_none i (one.none e i l) ∙ more.none f i l;
      told = λ r f. (let t = more.told r f in (t.0, t.1, or_none t.0 (one.none e t.0 t.1) ∙ t.2));
      first = λ r f i s l g. more.first r f i s l (sym (or_none i (one.none e i l)) ∙ g);
      later = later_of;
    }
    step_before (Some t) e = record {
      none = λ f i l. cc;
      told = λ r f. (let g = one.told r (e ∙ f) in (g.0, g.1, or_some g.0 (as_in g.0 r) g.2));
      first = λ r f i s l g. (let same = one.of_all r (e ∙ f) in let past = later_of i s g in omega arith);
      later = later_of;
    }

    step : Steps (option_or w v) (λ i. option_or (ps i) (qs i)) turn
    step = step_before w refl

  -- a reason that is the same in each partition
  same_step : (w : Option Refusal) (ps : ℕ → Option Refusal) (turn : ℕ) → 0 < count → ((i : ℕ) → i < count → ps i ≡ w)
      → ((r : Refusal) → w ≡ Some r → (as_in 0 r ≡ r) × (turn_of r ≡ turn)) → ((i : ℕ) (s : Refusal) → ps i ≡ Some s → turn_of s ≡ turn) → Step w ps turn
  same_step w ps turn some same is of_part = record {
    none = λ e i l. same i l ∙ e;
    told = λ r e. (0, some, same 0 some ∙ e ∙ ap Some (sym (is r e).0));
    of_all = λ r e. (is r e).1;
    of_part = of_part;
  }

-- the one value that a condition gives
only_value : (b : Bool) (r s : Refusal) → cond b (Some r) None ≡ Some s → s ≡ r
only_value true r s e = sym (same_some e)
only_value false r s e = cc

not_none : (b : Bool) (r : Refusal) → (cond b (Some r) None ≡ None → ⊥) → cond b (Some r) None ≡ Some r
not_none true r n = refl
not_none false r n = absurd (n refl)

order_only : (b : Bool) (s : Stamp) (o : Option Stamp) (r : Refusal) → order_refusal b s o ≡ Some r → r ≡ refusal.StampOrder
order_only b s None r e = cc
order_only b s (Some c) r e = by (is_forward b s c) e
  where
    by : (t : Bool) → cond t None (Some refusal.StampOrder) ≡ Some r → r ≡ refusal.StampOrder
    by true f = cc
    by false f = sym (same_some f)

order_some : (b : Bool) (s : Stamp) (o : Option Stamp) → (order_refusal b s o ≡ None → ⊥) → order_refusal b s o ≡ Some refusal.StampOrder
order_some b s None n = absurd (n refl)
order_some b s (Some c) n = by (is_forward b s c) n
  where
    by : (t : Bool) → (cond t None (Some refusal.StampOrder) ≡ None → ⊥) → cond t None (Some refusal.StampOrder) ≡ Some refusal.StampOrder
    by true m = absurd (m refl)
    by false m = refl

-- ---- the transactions of a partition

module _ (p : Partition) where
  id_kept : (u : TxnId) (txns : List Txn) → with_id (map (projected p) txns) u ≡ option_map (projected p) (with_id txns u)
  id_kept u [] = refl
  id_kept u (T ∷ txns) = by (same_id T.id u) (id_kept u txns)
    where
      by : (b : Bool) → with_id (map (projected p) txns) u ≡ option_map (projected p) (with_id txns u)
          → cond b (Some (projected p T)) (with_id (map (projected p) txns) u) ≡ option_map (projected p) (cond b (Some T) (with_id txns u))
      by true e = refl
      by false e = e

  some_kept : (o : Option Txn) → is_some (option_map (projected p) o) ≡ is_some o
  some_kept None = refl
  some_kept (Some T) = refl

  some_of : (T : Txn) → WritesSome (projected p T) → WritesSome T
  some_of T w = let f = write_from p T w.0 w.1 w.2 w.3 in (f.0, w.1, w.2, f.1)

  writes_of : (T : Txn) → writes_some (projected p T) ≡ true → writes_some T ≡ true
  writes_of T e = (some_written T).1 (some_of T ((some_written (projected p T)).0 e))

  writes_in : (T : Txn) (w : WritesSome T) → has_key p w.1 ≡ true → WritesSome (projected p T)
  writes_in T w has = let f = write_to p T w.0 w.1 w.2 has w.3 in (f.0, w.1, w.2, f.1)

  forward_kept : (T : Txn) (s c : Stamp) → IsForward (writes_some T) s c → IsForward (writes_some (projected p T)) s c
  forward_kept T s c f = (f.0, λ w. f.1 (writes_of T w))

  forward_back : (T : Txn) (s c : Stamp) → (writes_some T ≡ true → writes_some (projected p T) ≡ true) → IsForward (writes_some (projected p T)) s c → IsForward (writes_some T) s c
  forward_back T s c same f = (f.0, λ w. f.1 (same w))

-- ---- the least that passes a test

same_number : (u w : TxnId) → u.0 ≡ w.0 → u ≡ w
same_number u w e = same_id_is u w (eq-eqb u.0 w.0 e)

-- the least id in the whole is that of the partition, where it passes there, and who passes there passes in the whole
least_kept : (holds tests : Txn → Bool) (txns kept : List Txn) (u : TxnId)
    → ((U : Txn) → Contains kept U → tests U ≡ true → (T : Txn) × Contains txns T × (holds T ≡ true) × (T.id ≡ U.id))
    → ((T : Txn) → Contains txns T → holds T ≡ true → T.id ≡ u → (U : Txn) × Contains kept U × (tests U ≡ true) × (U.id ≡ u))
    → least_id holds txns ≡ Some u → least_id tests kept ≡ Some u
least_kept holds tests txns kept u back there e = by (least_id tests kept) refl
  where
    is : IsLeastId holds txns (Some u)
    is = subst (IsLeastId holds txns) e (least_found holds txns)

    U : (V : Txn) × Contains kept V × (tests V ≡ true) × (V.id ≡ u)
    U = there is.0.0 is.0.1 is.0.2 is.0.3

    by : (o : Option TxnId) → least_id tests kept ≡ o → o ≡ Some u
    by None f = let none = subst (IsLeastId tests kept) f (least_found tests kept) U.0 U.1 in let some = U.2 in cc
    by (Some w) f =
        let least = subst (IsLeastId tests kept) f (least_found tests kept) in
        let below = least.1 U.0 U.1 U.2 in
        let T = back least.0.0 least.0.1 least.0.2 in
        let above = is.1 T.0 T.1 T.2 in
        let same = ap (λ v. v.0) (T.3 ∙ least.0.3) in
        let own = ap (λ v. v.0) U.3 in
        ap Some (same_number w u (omega (arith, below, above, same, own)))

-- ---- the first operation with a reason

module _ {X : Type 0} (q : X → Bool) where
  taken_first : (xs : List X) (j : ℕ) → take (length (filter q (take j xs))) (filter q xs) ≡ filter q (take j xs)
  taken_first [] zero = refl
  taken_first [] (suc j) = refl
  taken_first (x ∷ xs) zero = refl
  taken_first (x ∷ xs) (suc j) = by (q x) (taken_first xs j)
    where
      by : (b : Bool) → take (length (filter q (take j xs))) (filter q xs) ≡ filter q (take j xs)
          → take (length (cond b (x ∷ filter q (take j xs)) (filter q (take j xs)))) (cond b (x ∷ filter q xs) (filter q xs)) ≡ cond b (x ∷ filter q (take j xs)) (filter q (take j xs))
      by true e = ap (λ ys. x ∷ ys) e
      by false e = e

  any_kept : (t : X → Bool) → ((x : X) → t x ≡ true → q x ≡ true) → (xs : List X) → list_any t (filter q xs) ≡ list_any t xs
  any_kept t inside [] = refl
  any_kept t inside (x ∷ xs) = by (q x) refl (t x) refl (any_kept t inside xs)
    where
      by : (b : Bool) → q x ≡ b → (c : Bool) → t x ≡ c → list_any t (filter q xs) ≡ list_any t xs
          → list_any t (cond b (x ∷ filter q xs) (filter q xs)) ≡ (c || list_any t xs)
      by true u c v e = ap (λ d. d || list_any t (filter q xs)) v ∙ ap (λ d. c || d) e
      by false u true v e = let wrong : true ≡ false = sym (inside x v) ∙ u in cc
      by false u false v e = e

module _ (p : Partition) (ops : List Op) (f g : ℕ → Op → Option Refusal)
    (same : (j : ℕ) (o : Op) → slice_get ops j ≡ Some o → has_op p o ≡ true → g (place_in p ops j) o ≡ option_map (renumbered p ops) (f j o)) where
  abbrev kept : List Op
  kept = filter (has_op p) ops

  none_kept : first_at f 0 ops ≡ None → first_at g 0 kept ≡ None
  none_kept e = (no_first g kept).1 (λ j o at.
      let r = from_rank (has_op p) ops j o at in
      subst (λ n. g n o ≡ None) (sym r.2) (same r.0 o r.1 r.3 ∙ ap (option_map (renumbered p ops)) ((no_first f ops).0 e r.0 o r.1)))

  first_kept : (r : Refusal) (is : IsFirst f ops (Some r)) → has_op p is.1 ≡ true → first_at g 0 kept ≡ Some (renumbered p ops r)
  first_kept r is has = by (first_at g 0 kept) refl
    where
      k : ℕ
      k = place_in p ops is.0

      at : slice_get kept k ≡ Some is.1
      at = at_rank (has_op p) ops is.0 is.1 is.2 has

      gives : g k is.1 ≡ Some (renumbered p ops r)
      gives = same is.0 is.1 is.2 has ∙ ap (option_map (renumbered p ops)) is.3

      by : (o : Option Refusal) → first_at g 0 kept ≡ o → o ≡ Some (renumbered p ops r)
      by None e = let none = (no_first g kept).0 e k is.1 at in let wrong = sym none ∙ gives in cc
      by (Some t) e = found (subst (IsFirst g kept) e (first_found g kept))
        where
          found : IsFirst g kept (Some t) → Some t ≡ Some (renumbered p ops r)
          found first =
              let b = from_rank (has_op p) ops first.0 first.1 first.2 in
              -- (it isn't past that place, since a reason is given there)
              let upper : (k < first.0 → ⊥) = (λ l. let none = first.4 k is.1 l at in let wrong = sym none ∙ gives in cc) in
              -- (nor before it, since then the whole has an earlier one)
              let lower : (b.0 < is.0 → ⊥) = (λ l.
              let none = same b.0 first.1 b.1 b.3 ∙ ap (option_map (renumbered p ops)) (is.4 b.0 first.1 l b.1) in
              let wrong = sym none ∙ subst (λ n. g n first.1 ≡ Some t) b.2 first.3 in cc) in
              let place : b.0 ≡ is.0 = places_equal b.0 is.0 lower (λ l. upper (subst (λ n. k < n) (sym b.2) (ranks_rise (has_op p) ops is.0 b.0 is.1 is.2 has l))) in
              let op = same_some (sym b.1 ∙ ap (slice_get ops) place ∙ is.2) in
              sym (sym gives ∙ ap (λ n. g (place_in p ops n) is.1) (sym place) ∙ ap (λ n. g n is.1) (sym b.2) ∙ ap (g first.0) (sym op) ∙ first.3)

-- ---- each reason in turn

module _ (count : ℕ) (P : Present) (Q : ℕ → Present) (some : 0 < count) (of : AreOf count P Q) (ops : List Op) where
  abbrev at : ℕ → Partition
  at i = partition_at i count

  abbrev Looks : Option Refusal → (ℕ → Option Refusal) → ℕ → Type 0
  Looks = Step count ops

  txns_of : (i : ℕ) → i < count → (Q i).txns ≡ map (projected (at i)) P.txns
  txns_of i l = (of i l).0.txns

  in_it : (i : ℕ) (l : i < count) (T : Txn) → Contains P.txns T → Contains (Q i).txns (projected (at i) T)
  in_it i l T c = subst (λ txns. Contains txns (projected (at i) T)) (sym (txns_of i l)) (Contains-map (projected (at i)) P.txns T c)

  out_of : (i : ℕ) (l : i < count) (U : Txn) → Contains (Q i).txns U → (T : Txn) × Contains P.txns T × (projected (at i) T ≡ U)
  out_of i l U c = Contains-from_map (projected (at i)) P.txns U (subst (λ txns. Contains txns U) (txns_of i l) c)

  id_in : (i : ℕ) (l : i < count) (u : TxnId) → with_id (Q i).txns u ≡ option_map (projected (at i)) (with_id P.txns u)
  id_in i l u = ap (λ txns. with_id txns u) (txns_of i l) ∙ id_kept (at i) u P.txns

  condition_step : (b : Bool) (bs : ℕ → Bool) (r : Refusal) → ((i : ℕ) → i < count → bs i ≡ b) → as_in count ops 0 r ≡ r
      → Looks (cond b (Some r) None) (λ i. cond (bs i) (Some r) None) (turn_of r)
  condition_step b bs r same plain = same_step count ops (cond b (Some r) None) (λ i. cond (bs i) (Some r) None) (turn_of r) some
      (λ i l. ap (λ c. cond c (Some r) None) (same i l))
      (λ s e. (let is = only_value b r s e in (ap (as_in count ops 0) is ∙ plain ∙ sym is, ap turn_of is)))
      (λ i s e. ap turn_of (only_value (bs i) r s e))

  present_step : (u : TxnId) → Looks (cond (is_some (with_id P.txns u)) (Some refusal.IdPresent) None) (λ i. cond (is_some (with_id (Q i).txns u)) (Some refusal.IdPresent) None) 1
  present_step u = condition_step (is_some (with_id P.txns u)) (λ i. is_some (with_id (Q i).txns u)) refusal.IdPresent
      (λ i l. ap (λ o. is_some o) (id_in i l u) ∙ some_kept (at i) (with_id P.txns u)) refl

  -- a partition in which a transaction writes, if it writes at all
  place_for : (T : Txn) → (i : ℕ) × (i < count) × (writes_some T ≡ true → writes_some (projected (at i) T) ≡ true)
  place_for T = by (writes_some T) refl
    where
      by : (b : Bool) → writes_some T ≡ b → (i : ℕ) × (i < count) × (b ≡ true → writes_some (projected (at i) T) ≡ true)
      by true e =
          let w = (some_written T).0 e in
          let i = partition_number w.1 count in
          (i, within count w.1 some, λ t. (some_written (projected (at i) T)).1 (writes_in (at i) T w (own count w.1)))
      by false e = (0, some, λ t. cc)

  order_step : (T : Txn) (o : Option Stamp) → Looks (order_refusal (writes_some T) T.start o) (λ i. order_refusal (writes_some (projected (at i) T)) T.start o) 4
  order_step T o = record {
    none = λ e i l. (in_order (writes_some (projected (at i) T)) T.start o).1 (λ c f. forward_kept (at i) T T.start c ((in_order (writes_some T) T.start o).0 e c f));
    told = λ r e.
        (let k = place_for T in (
          k.0,
          k.1,
          order_some (writes_some (projected (at k.0) T)) T.start o (λ none.
              let passes = (in_order (writes_some T) T.start o).1 (λ c f. forward_back (at k.0) T T.start c k.2 ((in_order (writes_some (projected (at k.0) T)) T.start o).0 none c f)) in
              let wrong = sym passes ∙ e in cc)
              ∙ ap (λ q. Some (as_in count ops k.0 q)) (sym (order_only (writes_some T) T.start o r e)),
        ));
    of_all = λ r e. ap turn_of (order_only (writes_some T) T.start o r e);
    of_part = λ i r e. ap turn_of (order_only (writes_some (projected (at i) T)) T.start o r e);
  }

  -- who has an id of the whole that is the least to pass a test
  passing : (holds : Txn → Bool) (u : TxnId) → least_id holds P.txns ≡ Some u → (T : Txn) × Contains P.txns T × (holds T ≡ true) × (T.id ≡ u)
  passing holds u e = (subst (IsLeastId holds P.txns) e (least_found holds P.txns)).0

  taken_turn : (s : Stamp) (o : Option TxnId) (r : Refusal) → option_map (λ u. refusal.StampTaken s u) o ≡ Some r → turn_of r ≡ 5
  taken_turn s None r e = cc
  taken_turn s (Some u) r e = ap turn_of (sym (same_some e))

  start_step : (s : Stamp) → Looks (start_refusal P.txns s) (λ i. start_refusal (Q i).txns s) 5
  start_step s = record {
    none = λ e i l. (start_free (Q i).txns s).1 (λ U c w f.
        let t = out_of i l U c in
        (start_free P.txns s).0 e t.0 t.1 (some_of (at i) t.0 (subst WritesSome (sym t.2) w)) (ap (λ V. commit_of V.status) t.2 ∙ f));
    told = λ r e.
        (let m = mapped_some (λ u. refusal.StampTaken s u) (least_id (installs_at s) P.txns) r e in
        let h = passing (installs_at s) m.0 m.1 in
        let w = ((installs_is s h.0).0 h.2).0 in
        let i = partition_number w.1 count in
        let l = within count w.1 some in (
          i,
          l,
          ap (option_map (λ u. refusal.StampTaken s u)) (least_kept (installs_at s) (installs_at s) P.txns (Q i).txns m.0 (back i l) (λ V c t same. there i l m.0 h w (own count w.1)) m.1)
              ∙ ap (λ q. Some (as_in count ops i q)) m.2,
        ));
    of_all = λ r e. taken_turn s (least_id (installs_at s) P.txns) r e;
    of_part = λ i r e. taken_turn s (least_id (installs_at s) (Q i).txns) r e;
  }
    where
      back : (i : ℕ) (l : i < count) (U : Txn) → Contains (Q i).txns U → installs_at s U ≡ true → (T : Txn) × Contains P.txns T × (installs_at s T ≡ true) × (T.id ≡ U.id)
      back i l U c e =
          let t = out_of i l U c in
          let f = (installs_is s U).0 e in
          (t.0, t.1, (installs_is s t.0).1 (some_of (at i) t.0 (subst WritesSome (sym t.2) f.0), ap (λ V. commit_of V.status) t.2 ∙ f.1), ap (λ V. V.id) t.2)

      there : (i : ℕ) (l : i < count) (u : TxnId) (h : (T : Txn) × Contains P.txns T × (installs_at s T ≡ true) × (T.id ≡ u)) (w : WritesSome h.0) → has_key (at i) w.1 ≡ true
          → (U : Txn) × Contains (Q i).txns U × (installs_at s U ≡ true) × (U.id ≡ u)
      there i l u h w has = (projected (at i) h.0, in_it i l h.0 h.1, (installs_is s (projected (at i) h.0)).1 (writes_in (at i) h.0 w has, ((installs_is s h.0).0 h.2).1), h.3)

  -- who clashes with T's commit in a partition does so in the whole
  clash_back : (T : Txn) (c : Stamp) (i : ℕ) (V : Txn) → Clashes (writes_some (projected (at i) T)) c (projected (at i) V) → Clashes (writes_some T) c V
  clash_back T c i V (inl f) = inl (some_of (at i) V f.0, f.1)
  clash_back T c i V (inr f) = inr (writes_of (at i) T f.0, f.1)

  -- and who clashes with it in the whole does so in some partition
  clash_there : (T : Txn) (c : Stamp) (V : Txn) → Clashes (writes_some T) c V → (i : ℕ) × (i < count) × Clashes (writes_some (projected (at i) T)) c (projected (at i) V)
  clash_there T c V (inl f) = let i = partition_number f.0.1 count in (i, within count f.0.1 some, inl (writes_in (at i) V f.0 (own count f.0.1), f.1))
  clash_there T c V (inr f) = let k = place_for T in (k.0, k.1, inr (k.2 f.0, f.1))

  commit_step : (T : Txn) (o : Option Stamp) → Looks (commit_refusal P.txns (writes_some T) o) (λ i. commit_refusal (Q i).txns (writes_some (projected (at i) T)) o) 5
  commit_step T None = record { none = λ e i l. refl; told = λ r e. cc; of_all = λ r e. cc; of_part = λ i r e. cc }
  commit_step T (Some c) = record {
    none = λ e i l. (commit_free (Q i).txns (writes_some (projected (at i) T)) (Some c)).1 (λ d f U at_it k.
        let t = out_of i l U at_it in
        (commit_free P.txns (writes_some T) (Some c)).0 e d f t.0 t.1 (clash_back T d i t.0 (subst (Clashes (writes_some (projected (at i) T)) d) (sym t.2) k)));
    told = λ r e.
        (let m = mapped_some (λ u. refusal.StampTaken c u) (least_id (clashes (writes_some T) c) P.txns) r e in
        let h = passing (clashes (writes_some T) c) m.0 m.1 in
        let t = clash_there T c h.0 ((clash_is (writes_some T) c h.0).0 h.2) in
        let i = t.0 in (
          i,
          t.1,
          ap (option_map (λ u. refusal.StampTaken c u))
              (least_kept (clashes (writes_some T) c) (clashes (writes_some (projected (at i) T)) c) P.txns (Q i).txns m.0 (back i t.1)
              (λ V at_it holds same. (projected (at i) h.0, in_it i t.1 h.0 h.1, (clash_is (writes_some (projected (at i) T)) c (projected (at i) h.0)).1 t.2, h.3)) m.1)
              ∙ ap (λ q. Some (as_in count ops i q)) m.2,
        ));
    of_all = λ r e. taken_turn c (least_id (clashes (writes_some T) c) P.txns) r e;
    of_part = λ i r e. taken_turn c (least_id (clashes (writes_some (projected (at i) T)) c) (Q i).txns) r e;
  }
    where
      back : (i : ℕ) (l : i < count) (U : Txn) → Contains (Q i).txns U → clashes (writes_some (projected (at i) T)) c U ≡ true → (V : Txn) × Contains P.txns V × (clashes (writes_some T) c V ≡ true) × (V.id ≡ U.id)
      back i l U at_it e =
          let t = out_of i l U at_it in
          (t.0, t.1, (clash_is (writes_some T) c t.0).1 (clash_back T c i t.0 (subst (Clashes (writes_some (projected (at i) T)) c) (sym t.2) ((clash_is (writes_some (projected (at i) T)) c U).0 e))), ap (λ V. V.id) t.2)

  -- the first operation with a reason
  first_step : (f : ℕ → Op → Option Refusal) (g : ℕ → ℕ → Op → Option Refusal) (turn : ℕ)
      → ((i : ℕ) → i < count → (j : ℕ) (o : Op) → slice_get ops j ≡ Some o → has_op (at i) o ≡ true → g i (place_in (at i) ops j) o ≡ option_map (renumbered (at i) ops) (f j o))
      → ((j : ℕ) (o : Op) (r : Refusal) → f j o ≡ Some r → turn_of r ≡ turn)
      → ((i j : ℕ) (o : Op) (r : Refusal) → g i j o ≡ Some r → turn_of r ≡ turn)
      → Looks (first_at f 0 ops) (λ i. first_at (g i) 0 (filter (has_op (at i)) ops)) turn
  first_step f g turn same of_f of_g = record {
    none = λ e i l. none_kept (at i) ops f (g i) (same i l) e;
    told = λ r e.
        (let is = subst (IsFirst f ops) e (first_found f ops) in
        let i = partition_number (key_of is.1) count in
        let l = within count (key_of is.1) some in
        (i, l, first_kept (at i) ops f (g i) (same i l) r is (own count (key_of is.1))));
    of_all = λ r e. (let is = subst (IsFirst f ops) e (first_found f ops) in of_f is.0 is.1 r is.3);
    of_part = λ i r e. (let is = subst (IsFirst (g i) (filter (has_op (at i)) ops)) e (first_found (g i) (filter (has_op (at i)) ops)) in of_g i is.0 is.1 r is.3);
  }

  pair_inside : (i : ℕ) (o : Op) → has_op (at i) o ≡ true → (y : Op) → same_write o y ≡ true → has_op (at i) y ≡ true
  pair_inside i o has y e = let pair = same_write_is o y e in ap (has_op (at i)) (pair.3 ∙ sym pair.2) ∙ has

  twice_step : Looks (first_at (twice_at ops) 0 ops) (λ i. first_at (twice_at (filter (has_op (at i)) ops)) 0 (filter (has_op (at i)) ops)) 6
  twice_step = first_step (twice_at ops) (λ i. twice_at (filter (has_op (at i)) ops)) 6
      (λ i l j o is has. ap (λ b. cond b (Some (refusal.ValueTwice (place_in (at i) ops j))) None)
      (ap (list_any (same_write o)) (taken_first (has_op (at i)) ops j) ∙ any_kept (has_op (at i)) (same_write o) (pair_inside i o has) (take j ops))
      ∙ moved (list_any (same_write o) (take j ops)) i j)
      (λ j o r e. ap turn_of (only_value (list_any (same_write o) (take j ops)) (refusal.ValueTwice j) r e))
      (λ i j o r e. ap turn_of (only_value (list_any (same_write o) (take j (filter (has_op (at i)) ops))) (refusal.ValueTwice j) r e))
    where
      moved : (b : Bool) (i j : ℕ) → cond b (Some (refusal.ValueTwice (place_in (at i) ops j))) None ≡ option_map (renumbered (at i) ops) (cond b (Some (refusal.ValueTwice j)) None)
      moved true i j = refl
      moved false i j = refl

  -- who writes a pair on a key of the partition writes it there
  writer_kept : (i : ℕ) (o : Op) → has_op (at i) o ≡ true → (txns : List Txn) → writer_of_pair o (map (projected (at i)) txns) ≡ writer_of_pair o txns
  writer_kept i (op.Read x v) has txns = refl
  writer_kept i (op.Write x v) has txns = found txns
    where
      found : (txns : List Txn) → option_map (λ (T : Txn). T.id) (find (writes_pair_of (op.Write x v)) (map (projected (at i)) txns)) ≡ option_map (λ (T : Txn). T.id) (find (writes_pair_of (op.Write x v)) txns)
      found [] = refl
      found (T ∷ txns) =
          ap (λ b. option_map (λ (U : Txn). U.id) (cond b (Some (projected (at i) T)) (find (writes_pair_of (op.Write x v)) (map (projected (at i)) txns))))
          (any_kept (has_op (at i)) (same_write (op.Write x v)) (pair_inside i (op.Write x v) has) T.ops)
          ∙ by (writes_pair_of (op.Write x v) T) (found txns)
        where
          by : (b : Bool) → option_map (λ (U : Txn). U.id) (find (writes_pair_of (op.Write x v)) (map (projected (at i)) txns)) ≡ option_map (λ (U : Txn). U.id) (find (writes_pair_of (op.Write x v)) txns)
              → option_map (λ (U : Txn). U.id) (cond b (Some (projected (at i) T)) (find (writes_pair_of (op.Write x v)) (map (projected (at i)) txns)))
              ≡ option_map (λ (U : Txn). U.id) (cond b (Some T) (find (writes_pair_of (op.Write x v)) txns))
          by true e = refl
          by false e = e

  holder_turn : (j : ℕ) (o : Option TxnId) (r : Refusal) → option_map (λ u. refusal.ValueTaken j u) o ≡ Some r → turn_of r ≡ 7
  holder_turn j None r e = cc
  holder_turn j (Some u) r e = ap turn_of (sym (same_some e))

  taken_step : Looks (first_at (taken_at P.txns) 0 ops) (λ i. first_at (taken_at (Q i).txns) 0 (filter (has_op (at i)) ops)) 7
  taken_step = first_step (taken_at P.txns) (λ i. taken_at (Q i).txns) 7
      (λ i l j o is has. ap (option_map (λ u. refusal.ValueTaken (place_in (at i) ops j) u)) (ap (writer_of_pair o) (txns_of i l) ∙ writer_kept i o has P.txns) ∙ moved (writer_of_pair o P.txns) i j)
      (λ j o r e. holder_turn j (writer_of_pair o P.txns) r e)
      (λ i j o r e. holder_turn j (writer_of_pair o (Q i).txns) r e)
    where
      moved : (u : Option TxnId) (i j : ℕ) → option_map (λ w. refusal.ValueTaken (place_in (at i) ops j) w) u ≡ option_map (renumbered (at i) ops) (option_map (λ w. refusal.ValueTaken j w) u)
      moved None i j = refl
      moved (Some w) i j = refl

  set_in : (i : ℕ) (l : i < count) (o : Op) → has_op (at i) o ≡ true → is_set_up (Q i).initial o ≡ is_set_up P.initial o
  set_in i l (op.Read x v) has = refl
  set_in i l (op.Write x v) has = ap (λ u. option_eq same_value u (Some v)) ((of i l).0.own x has)

  set_up_step : Looks (first_at (set_up_at P.initial) 0 ops) (λ i. first_at (set_up_at (Q i).initial) 0 (filter (has_op (at i)) ops)) 10
  set_up_step = first_step (set_up_at P.initial) (λ i. set_up_at (Q i).initial) 10
      (λ i l j o is has. ap (λ b. cond b (Some (refusal.ValueSetUp (place_in (at i) ops j))) None) (set_in i l o has) ∙ moved (is_set_up P.initial o) i j)
      (λ j o r e. ap turn_of (only_value (is_set_up P.initial o) (refusal.ValueSetUp j) r e))
      (λ i j o r e. ap turn_of (only_value (is_set_up (Q i).initial o) (refusal.ValueSetUp j) r e))
    where
      moved : (b : Bool) (i j : ℕ) → cond b (Some (refusal.ValueSetUp (place_in (at i) ops j))) None ≡ option_map (renumbered (at i) ops) (cond b (Some (refusal.ValueSetUp j)) None)
      moved true i j = refl
      moved false i j = refl

  -- ---- an edit

  abbrev Tells : Option Refusal → (ℕ → Option Refusal) → ℕ → Type 0
  Tells = Steps count ops

  committing : (T : Txn) (o : Option Stamp) → Tells (first_of (order_refusal (writes_some T) T.start o ∷ commit_refusal P.txns (writes_some T) o ∷ []))
      (λ i. first_of (order_refusal (writes_some (projected (at i) T)) T.start o ∷ commit_refusal (Q i).txns (writes_some (projected (at i) T)) o ∷ [])) 4
  committing T o =
      step count ops _ _ _ _ 4 5 (omega arith) (order_step T o)
      (step count ops _ _ _ _ 5 11 (omega arith) (commit_step T o) (no_steps count ops 11))

  doubt_step : (T : Txn) → Looks (cond (is_in_doubt T.status) None (Some refusal.NotInDoubt)) (λ i. cond (is_in_doubt (projected (at i) T).status) None (Some refusal.NotInDoubt)) 3
  doubt_step T = by (is_in_doubt T.status)
    where
      by : (b : Bool) → Looks (cond b None (Some refusal.NotInDoubt)) (λ i. cond b None (Some refusal.NotInDoubt)) 3
      by true = same_step count ops None (λ i. None) 3 some (λ i l. refl) (λ r e. cc) (λ i r e. cc)
      by false = same_step count ops (Some refusal.NotInDoubt) (λ i. Some refusal.NotInDoubt) 3 some (λ i l. refl)
          (λ r e. (ap (as_in count ops 0) (sym (same_some e)) ∙ same_some e, ap turn_of (sym (same_some e)))) (λ i r e. ap turn_of (sym (same_some e)))

  resolving : (T : Txn) (o : Outcome) → Tells (resolution_refusal_of P.txns o T) (λ i. resolution_refusal_of (Q i).txns o (projected (at i) T)) 3
  resolving T o = step count ops _ _ _ _ 3 4 (omega arith) (doubt_step T) (committing T (commit_of (status_after o)))

  -- no transaction has the id
  no_such : Tells (Some refusal.NoSuch) (λ i. Some refusal.NoSuch) 2
  no_such = step count ops (Some refusal.NoSuch) None (λ i. Some refusal.NoSuch) (λ i. None) 2 11 (omega arith)
      (same_step count ops (Some refusal.NoSuch) (λ i. Some refusal.NoSuch) 2 some (λ i l. refl)
      (λ r e. (ap (as_in count ops 0) (sym (same_some e)) ∙ same_some e, ap turn_of (sym (same_some e)))) (λ i r e. ap turn_of (sym (same_some e))))
      (no_steps count ops 11)

-- what is told of steps is told of an edit, where both tell the same
module _ (count : ℕ) (P : Present) (Q : ℕ → Present) (e : Edit) (w : Option Refusal) (ps : ℕ → Option Refusal) (turn : ℕ)
    (whole : refusal_on P e ≡ w) (each : (i : ℕ) → i < count → refusal_on (Q i) (projected_edit (partition_at i count) e) ≡ ps i)
    (tells : Steps count (ops_in e) w ps turn) where
  tell : (r : Refusal) → refusal_on P e ≡ Some r → TellsReason count Q e r
  tell r f = record {
    told = (let t = tells.told r (sym whole ∙ f) in (t.0, t.1, each t.0 t.1 ∙ t.2));
    first = λ i s l g. tells.first r (sym whole ∙ f) i s l (sym (each i l) ∙ g);
  }

pub reasons : PartitionsTellReasons
unfolding refusal_on
reasons count P Q (edit.Arrive T) r some h of f =
    tell count P Q (edit.Arrive T) _ _ 1 refl (λ i l. refl)
    (step count T.ops _ _ _ _ 1 4 (omega arith) (present_step count P Q some of T.ops T.id)
    (step count T.ops _ _ _ _ 4 5 (omega arith) (order_step count P Q some of T.ops T (commit_of T.status))
    (step count T.ops _ _ _ _ 5 5 (omega arith) (start_step count P Q some of T.ops T.start)
    (step count T.ops _ _ _ _ 5 6 (omega arith) (commit_step count P Q some of T.ops T (commit_of T.status))
    (step count T.ops _ _ _ _ 6 7 (omega arith) (twice_step count P Q some of T.ops)
    (step count T.ops _ _ _ _ 7 10 (omega arith) (taken_step count P Q some of T.ops)
    (step count T.ops _ _ _ _ 10 11 (omega arith) (set_up_step count P Q some of T.ops) (no_steps count T.ops 11)))))))) r f
reasons count P Q (edit.Resolve u o) r some h of f = by (with_id P.txns u) refl
  where
    by : (t : Option Txn) → with_id P.txns u ≡ t → TellsReason count Q (edit.Resolve u o) r
    by None e = tell count P Q (edit.Resolve u o) (Some refusal.NoSuch) (λ i. Some refusal.NoSuch) 2
        (ap (resolution_refusal P.txns o) e)
        (λ i l. ap (resolution_refusal (Q i).txns o) (id_in count P Q some of [] i l u ∙ ap (option_map (projected (partition_at i count))) e))
        (no_such count P Q some of []) r f
    by (Some T) e = tell count P Q (edit.Resolve u o) (resolution_refusal_of P.txns o T) (λ i. resolution_refusal_of (Q i).txns o (projected (partition_at i count) T)) 3
        (ap (resolution_refusal P.txns o) e)
        (λ i l. ap (resolution_refusal (Q i).txns o) (id_in count P Q some of [] i l u ∙ ap (option_map (projected (partition_at i count))) e))
        (resolving count P Q some of [] T o) r f
reasons count P Q (edit.Withdraw u) r some h of f = by (with_id P.txns u) refl
  where
    each : (t : Option Txn) → with_id P.txns u ≡ t → (i : ℕ) → i < count → withdrawal_refusal (Q i).txns u ≡ cond (is_some t) None (Some refusal.NoSuch)
    each t e i l = ap (λ (q : Option Txn). cond (is_some q) None (Some refusal.NoSuch)) (id_in count P Q some of [] i l u ∙ ap (option_map (projected (partition_at i count))) e)
        ∙ ap (λ b. cond b None (Some refusal.NoSuch)) (some_kept (partition_at i count) t)

    by : (t : Option Txn) → with_id P.txns u ≡ t → TellsReason count Q (edit.Withdraw u) r
    by None e = tell count P Q (edit.Withdraw u) (Some refusal.NoSuch) (λ i. Some refusal.NoSuch) 2
        (ap (λ (q : Option Txn). cond (is_some q) None (Some refusal.NoSuch)) e) (each None e) (no_such count P Q some of []) r f
    by (Some T) e = let wrong = sym (ap (λ (q : Option Txn). cond (is_some q) None (Some refusal.NoSuch)) e) ∙ f in cc
reasons count P Q (edit.SetUp x v) r some h of f =
    tell count P Q (edit.SetUp x v) _ _ 8 refl (λ i l. refl)
    (step count [] _ _ _ _ 8 9 (omega arith) twice (step count [] _ _ _ _ 9 11 (omega arith) taken (no_steps count [] 11))) r f
  where
    i : ℕ
    i = partition_number x count

    l : i < count
    l = within count x some

    has : has_key (partition_at i count) x ≡ true
    has = own count x

    -- what isn't set up in the whole isn't in a partition
    set_less : (o p : Option Value) → (o ≡ None → p ≡ None) → cond (is_some o) (Some refusal.SetUpTwice) None ≡ None → cond (is_some p) (Some refusal.SetUpTwice) None ≡ None
    set_less None p less e = ap (λ q. cond (is_some q) (Some refusal.SetUpTwice) None) (less refl)
    set_less (Some w) p less e = cc

    twice : Step count [] (cond (is_some (set_up_value x P.initial)) (Some refusal.SetUpTwice) None) (λ j. cond (is_some (set_up_value x (Q j).initial)) (Some refusal.SetUpTwice) None) 8
    twice = record {
      none = λ e j m. set_less (set_up_value x P.initial) (set_up_value x (Q j).initial) ((of j m).0.others x) e;
      told = λ s e.
          (let is = only_value (is_some (set_up_value x P.initial)) refusal.SetUpTwice s e in
          (i, l, ap (λ o. cond (is_some o) (Some refusal.SetUpTwice) None) ((of i l).0.own x has) ∙ e ∙ ap Some (is ∙ sym (ap (as_in count [] i) is))));
      of_all = λ s e. ap turn_of (only_value (is_some (set_up_value x P.initial)) refusal.SetUpTwice s e);
      of_part = λ j s e. ap turn_of (only_value (is_some (set_up_value x (Q j).initial)) refusal.SetUpTwice s e);
    }

    holder_turn_of : (o : Option TxnId) (s : Refusal) → option_map refusal.SetUpTaken o ≡ Some s → turn_of s ≡ 9
    holder_turn_of None s e = cc
    holder_turn_of (Some u) s e = ap turn_of (sym (same_some e))

    -- the writer of the pair, in the partition of its key and in any
    writer_in : writer_of_pair (op.Write x v) (Q i).txns ≡ writer_of_pair (op.Write x v) P.txns
    writer_in = ap (writer_of_pair (op.Write x v)) (of i l).0.txns ∙ writer_kept count P Q some of [] i (op.Write x v) has P.txns

    no_writer : (j : ℕ) → j < count → writer_of_pair (op.Write x v) P.txns ≡ None → writer_of_pair (op.Write x v) (Q j).txns ≡ None
    no_writer j m none = (unwritten x v (Q j).txns).1 (λ U k c w.
        let t = out_of count P Q some of [] j m U c in
        let g = write_from (partition_at j count) t.0 k x v (subst (λ V. WritesPairAt V k x v) (sym t.2) w) in
        (unwritten x v P.txns).0 none t.0 g.0 t.1 g.1)

    taken : Step count [] (option_map refusal.SetUpTaken (writer_of_pair (op.Write x v) P.txns)) (λ j. option_map refusal.SetUpTaken (writer_of_pair (op.Write x v) (Q j).txns)) 9
    taken = record {
      none = λ e j m. ap (option_map refusal.SetUpTaken) (no_writer j m (none_mapped refusal.SetUpTaken (writer_of_pair (op.Write x v) P.txns) e));
      told = λ s e.
          (let m = mapped_some refusal.SetUpTaken (writer_of_pair (op.Write x v) P.txns) s e in
          (i, l, ap (option_map refusal.SetUpTaken) (writer_in ∙ m.1) ∙ ap (λ q. Some (as_in count [] i q)) m.2));
      of_all = λ s e. holder_turn_of (writer_of_pair (op.Write x v) P.txns) s e;
      of_part = λ j s e. holder_turn_of (writer_of_pair (op.Write x v) (Q j).txns) s e;
    }
