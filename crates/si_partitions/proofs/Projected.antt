-- What a partition has of what is present is a history where all of that is one, and the other way round.
use Rattle.std.proofs.Common.{◌≡◌, ℕ, ◌<◌, ◌≤◌, Bool, true, false, List, [], ◌∷◌, ◌++◌, map, Some, None, Option, refl, sym, ap, subst, ◌∙◌, arith, cond, fold}
use Rattle.std.specs.List.{Contains, AllPairs, filter, find}
use Rattle.std.specs.Option.{option_or, option_map}
use Rattle.std.proofs.lemmas.List.{map-append}
use Rattle.std.proofs.lemmas.List.Folds.{find-append}
use Rattle.si_lists.proofs.Tests.{none_both, none_from}
use Rattle.si_model.proofs.Histories.{key_in_pair, set_up_from, set_up_is}
use Rattle.si_lists.proofs.Members.{get_contains, contains_get, Contains-map, Contains-from_map, Contains-filter, Contains-from_filter}
use Rattle.si_lists.proofs.Names.{Differ, pairs_nil, pairs_cons, pairs_head, pairs_tail, same_named, names_map}
use Rattle.si_model.specs.declared.numbers.TxnId.{TxnId}
use Rattle.si_model.specs.declared.numbers.Value.{Value}
use Rattle.si_model.specs.declared.edits.Edit.{Edit}
use Rattle.si_model.specs.declared.edits.Edit.TheVariants as edit
use Rattle.si_model.specs.declared.operations.Op.TheVariants as op
use Rattle.si_model.specs.declared.transactions.Outcome.{Outcome}
use Rattle.si_model.specs.declared.transactions.Txn.{Txn}
use Rattle.si_model.specs.Edits.{same_id, after, resolved, is_another, status_after}
use Rattle.si_model.specs.History.{WritesPairAt, WritesSome, IsHistory}
use Rattle.si_model.specs.Journals.{nothing, present}
use Rattle.si_model.specs.Operations.{same_key}
use Rattle.si_model.specs.Parts.{Present, set_up_value}
use Rattle.si_model.specs.Versions.{commit_of}
use Rattle.si_model.proofs.Filtered.{before_from, before_to}
use Rattle.si_model.proofs.Reasons.{places_equal}
use Rattle.si_partitions.specs.declared.partitions.Partition.{Partition}
use Rattle.si_partitions.specs.Laws.{AreOf, EditsKeepPartitions, PartitionsAreHistories, PartitionsArePresent}
use Rattle.si_partitions.specs.Partitions.{has_key, has_op, partition_at, partition_number, projected, projected_edit, projected_present, IsPartition}
use Rattle.si_partitions.proofs.Ranges.{own, within}

-- ---- writes

module _ (p : Partition) (T : Txn) where
  pub write_from : (j : ℕ) (x : List ℕ) (v : Value) → WritesPairAt (projected p T) j x v → (i : ℕ) × WritesPairAt T i x v
  write_from j x v w = contains_get T.ops (op.Write x v) (Contains-from_filter (has_op p) T.ops (op.Write x v) (get_contains (filter (has_op p) T.ops) j (op.Write x v) w)).0

  pub write_to : (i : ℕ) (x : List ℕ) (v : Value) → has_key p x ≡ true → WritesPairAt T i x v → (j : ℕ) × WritesPairAt (projected p T) j x v
  write_to i x v has w = contains_get (filter (has_op p) T.ops) (op.Write x v) (Contains-filter (has_op p) T.ops (op.Write x v) (get_contains T.ops i (op.Write x v) w) has)

  -- a pair that is written once is so in the partition
  pub once_to : (x : List ℕ) (v : Value) → ((i j : ℕ) → WritesPairAt T i x v → WritesPairAt T j x v → i ≡ j)
      → (i j : ℕ) → WritesPairAt (projected p T) i x v → WritesPairAt (projected p T) j x v → i ≡ j
  once_to x v once i j a b = places_equal i j
      (λ l. (let d = before_from (has_op p) T.ops (op.Write x v) (op.Write x v) i j l a b in let same = once d.0 d.1 d.3 d.4 in let less = d.2 in omega arith))
      (λ l. (let d = before_from (has_op p) T.ops (op.Write x v) (op.Write x v) j i l b a in let same = once d.0 d.1 d.3 d.4 in let less = d.2 in omega arith))

  -- and the other way round, where the partition has the key
  pub once_from : (x : List ℕ) (v : Value) → has_key p x ≡ true
      → ((i j : ℕ) → WritesPairAt (projected p T) i x v → WritesPairAt (projected p T) j x v → i ≡ j)
      → (i j : ℕ) → WritesPairAt T i x v → WritesPairAt T j x v → i ≡ j
  once_from x v has once i j a b = places_equal i j
      (λ l. (let d = before_to (has_op p) T.ops (op.Write x v) (op.Write x v) has has i j l a b in let same = once d.0 d.1 d.3 d.4 in let less = d.2 in omega arith))
      (λ l. (let d = before_to (has_op p) T.ops (op.Write x v) (op.Write x v) has has j i l b a in let same = once d.0 d.1 d.3 d.4 in let less = d.2 in omega arith))

-- ---- histories

-- the key of a pair that is set up
abbrev pub KeysApart : List (List ℕ × Value) → Type 0
KeysApart initial = AllPairs (Differ key_in_pair) initial

module _ (p : Partition) (P Q : Present) (is : IsPartition p P Q) where
  -- U is what the partition has of a transaction that is present
  record Came (U : Txn) : Type 0 where
    txn : Txn
    at : Contains P.txns txn
    same : projected p txn ≡ U
    has : (j : ℕ) (x : List ℕ) (v : Value) → WritesPairAt U j x v → has_key p x ≡ true

  came : (U : Txn) → Contains Q.txns U → Came U
  came U c =
      let f = Contains-from_map (projected p) P.txns U (subst (λ txns. Contains txns U) is.txns c) in
      record {
        txn = f.0;
        at = f.1;
        same = f.2;
        has = λ j x v w. (Contains-from_filter (has_op p) f.0.ops (op.Write x v)
            (get_contains (filter (has_op p) f.0.ops) j (op.Write x v) (subst (λ V. WritesPairAt V j x v) (sym f.2) w))).1;
      }

  went : (T : Txn) → Contains P.txns T → Contains Q.txns (projected p T)
  went T at = subst (λ txns. Contains txns (projected p T)) (sym is.txns) (Contains-map (projected p) P.txns T at)

  -- a partition of a history is a history, where its keys are set up once
  module _ (h : IsHistory P) (apart : KeysApart Q.initial) where
    some_back : (T : Txn) → WritesSome (projected p T) → WritesSome T
    some_back T w = let f = write_from p T w.0 w.1 w.2 w.3 in (f.0, w.1, w.2, f.1)

    once_in : (T : Txn) → Contains P.txns T → (x : List ℕ) (v : Value) → (i j : ℕ) → WritesPairAt T i x v → WritesPairAt T j x v → i ≡ j
    once_in T at x v i j a b = (h.writes T T i j x v at at a b).1

    both : (A B : Txn) (i j : ℕ) (x : List ℕ) (v : Value) → Came A → Came B → WritesPairAt A i x v → WritesPairAt B j x v → (A.id ≡ B.id) × (i ≡ j)
    both A B i j x v t u s r =
        let a = subst (λ V. WritesPairAt V i x v) (sym t.same) s in
        let b = subst (λ V. WritesPairAt V j x v) (sym u.same) r in
        let f = write_from p t.txn i x v a in
        let g = write_from p u.txn j x v b in
        let same = h.writes t.txn u.txn f.0 g.0 x v t.at u.at f.1 g.1 in
        let one = same_named (λ T. T.id) P.txns h.names t.txn u.txn t.at u.at same.0 in (
          sym (ap (λ V. V.id) t.same) ∙ same.0 ∙ ap (λ V. V.id) u.same,
          once_to p t.txn x v (once_in t.txn t.at x v) i j a (subst (λ V. WritesPairAt (projected p V) j x v) (sym one) b),
        )

    pub history_to : IsHistory Q
    history_to = record {
      forward = λ U c at e. let t = came U at in
          subst (λ s. s.0 ≤ c.0) (ap (λ V. V.start) t.same) (h.forward t.txn c t.at (ap (λ V. commit_of V.status) t.same ∙ e));
      apart = λ U c at e w. let t = came U at in
          subst (λ s. s.0 < c.0) (ap (λ V. V.start) t.same) (h.apart t.txn c t.at (ap (λ V. commit_of V.status) t.same ∙ e) (some_back t.txn (subst WritesSome (sym t.same) w)));
      names = subst (λ txns. AllPairs (Differ (λ T. T.id)) txns) (sym is.txns) (names_map (λ T. T.id) (λ T. T.id) (projected p) (λ T. refl) P.txns h.names);
      stamps = λ A B c a b differ e w.
          let t = came A a in
          let u = came B b in
          let s = h.stamps t.txn u.txn c t.at u.at (λ same. differ (sym (ap (λ V. V.id) t.same) ∙ same ∙ ap (λ V. V.id) u.same)) (ap (λ V. commit_of V.status) t.same ∙ e)
          (some_back t.txn (subst WritesSome (sym t.same) w)) in
          (λ f. s.0 (f ∙ sym (ap (λ V. V.start) u.same)), λ f. s.1 (ap (λ V. commit_of V.status) u.same ∙ f));
      writes = λ A B i j x v a b s r. both A B i j x v (came A a) (came B b) s r;
      keys = apart;
      initial = λ x v U i c at w. let t = came U at in
          let f = write_from p t.txn i x v (subst (λ V. WritesPairAt V i x v) (sym t.same) w) in
          let set = sym (is.own x (t.has i x v w)) ∙ set_up_from x Q.initial v apart c in
          h.initial x v t.txn f.0 (set_up_is x P.initial v set) t.at f.1;
    }

-- names are distinct where they are so in the partition
names_back : (p : Partition) (txns : List Txn) → AllPairs (Differ (λ T. T.id)) (map (projected p) txns) → AllPairs (Differ (λ T. T.id)) txns
names_back p [] h = pairs_nil (Differ (λ T. T.id))
names_back p (T ∷ txns) h = pairs_cons (Differ (λ T. T.id)) T txns
    (λ U c. pairs_head (Differ (λ T. T.id)) (projected p T) (map (projected p) txns) h (projected p U) (Contains-map (projected p) txns U c))
    (names_back p txns (pairs_tail (Differ (λ T. T.id)) (projected p T) (map (projected p) txns) h))

-- what is present is a history where each partition of it is one, and its keys are set up once
module _ (count : ℕ) (P : Present) (Q : ℕ → Present) (some : 0 < count) (apart : KeysApart P.initial) (of : AreOf count P Q) where
  -- the place of the partition that has the key
  abbrev at_key : List ℕ → ℕ
  at_key x = partition_number x count

  abbrev of_key : List ℕ → Partition
  of_key x = partition_at (at_key x) count

  abbrev Q_of : List ℕ → Present
  Q_of x = Q (at_key x)

  both_of : (x : List ℕ) → IsPartition (of_key x) P (Q_of x) × IsHistory (Q_of x)
  both_of x = of (at_key x) (within count x some)

  abbrev p0 : Partition
  p0 = partition_at 0 count

  first : IsPartition p0 P (Q 0) × IsHistory (Q 0)
  first = of 0 some

  in_it : (x : List ℕ) (T : Txn) → Contains P.txns T → Contains (Q_of x).txns (projected (of_key x) T)
  in_it x T at = went (of_key x) P (Q_of x) (both_of x).0 T at

  some_in : (T : Txn) (w : WritesSome T) → WritesSome (projected (of_key w.1) T)
  some_in T w = let f = write_to (of_key w.1) T w.0 w.1 w.2 (own count w.1) w.3 in (f.0, w.1, w.2, f.1)

  names_all : AllPairs (Differ (λ T. T.id)) P.txns
  names_all = names_back p0 P.txns (subst (λ txns. AllPairs (Differ (λ T. T.id)) txns) first.0.txns first.1.names)

  both_in : (A B : Txn) (i j : ℕ) (x : List ℕ) (v : Value) → Contains P.txns A → Contains P.txns B → WritesPairAt A i x v → WritesPairAt B j x v → (A.id ≡ B.id) × (i ≡ j)
  both_in A B i j x v a b s r =
      let p = of_key x in
      let h = (both_of x).1 in
      let f = write_to p A i x v (own count x) s in
      let g = write_to p B j x v (own count x) r in
      let same = h.writes (projected p A) (projected p B) f.0 g.0 x v (in_it x A a) (in_it x B b) f.1 g.1 in
      let one = same_named (λ T. T.id) P.txns names_all A B a b same.0 in (
        same.0,
        once_from p A x v (own count x) (λ k l y z. (h.writes (projected p A) (projected p A) k l x v (in_it x A a) (in_it x A a) y z).1)
            i j s (subst (λ V. WritesPairAt V j x v) (sym one) r),
      )

  pub history_from : IsHistory P
  history_from = record {
    forward = λ T c at e. first.1.forward (projected p0 T) c (went p0 P (Q 0) first.0 T at) e;
    apart = λ T c at e w. (both_of w.1).1.apart (projected (of_key w.1) T) c (in_it w.1 T at) e (some_in T w);
    names = names_all;
    stamps = λ A B c a b differ e w. (both_of w.1).1.stamps (projected (of_key w.1) A) (projected (of_key w.1) B) c (in_it w.1 A a) (in_it w.1 B b) differ e (some_in A w);
    writes = both_in;
    keys = apart;
    initial = λ x v T i c at w. let f = write_to (of_key x) T i x v (own count x) w in
        let set = (both_of x).0.own x (own count x) ∙ set_up_from x P.initial v apart c in
        (both_of x).1.initial x v (projected (of_key x) T) f.0 (set_up_is x (Q_of x).initial v set) (in_it x T at) f.1;
  }

pub is_projected : (p : Partition) (P : Present) → IsPartition p P (projected_present p P)
is_projected p P = record { txns = refl; own = λ x has. refl; others = λ x none. none }

pub histories : PartitionsAreHistories
histories count P some = (
  λ h i l. history_to (partition_at i count) P (projected_present (partition_at i count) P) (is_projected (partition_at i count) P) h h.keys,
  λ hs. history_from count P (λ i. projected_present (partition_at i count) P) some (hs 0 some).keys (λ i l. (is_projected (partition_at i count) P, hs i l)),
)

-- ---- what edits leave

module _ (p : Partition) where
  resolved_same : (u : TxnId) (o : Outcome) (T : Txn) → resolved u o (projected p T) ≡ projected p (resolved u o T)
  resolved_same u o T = by (same_id T.id u)
    where
      by : (b : Bool) → cond b (record (projected p T) { status = status_after o }) (projected p T) ≡ projected p (cond b (record T { status = status_after o }) T)
      by true = refl
      by false = refl

  all_resolved : (u : TxnId) (o : Outcome) (txns : List Txn) → map (resolved u o) (map (projected p) txns) ≡ map (projected p) (map (resolved u o) txns)
  all_resolved u o [] = refl
  all_resolved u o (T ∷ txns) = rw (resolved_same u o T, all_resolved u o txns) refl

  -- a test that doesn't look at operations takes the same transactions
  pub all_filtered : (q : Txn → Bool) → ((T : Txn) → q (projected p T) ≡ q T) → (txns : List Txn) → filter q (map (projected p) txns) ≡ map (projected p) (filter q txns)
  all_filtered q same [] = refl
  all_filtered q same (T ∷ txns) = ap (λ b. cond b (projected p T ∷ kept) kept) (same T) ∙ by (q T) (all_filtered q same txns)
    where
      kept : List Txn
      kept = filter q (map (projected p) txns)

      by : (b : Bool) → kept ≡ map (projected p) (filter q txns) → cond b (projected p T ∷ kept) kept ≡ map (projected p) (cond b (T ∷ filter q txns) (filter q txns))
      by true e = ap (λ xs. projected p T ∷ xs) e
      by false e = e

  commutes : (P : Present) (e : Edit) → after (projected_edit p e) (projected_present p P) ≡ projected_present p (after e P)
  unfolding after
  commutes P (edit.Arrive T) = ap (λ txns. record { txns = txns; initial = P.initial }) (sym (map-append (projected p) P.txns (T ∷ [])))
  commutes P (edit.Resolve u o) = ap (λ txns. record { txns = txns; initial = P.initial }) (all_resolved u o P.txns)
  commutes P (edit.Withdraw u) = ap (λ txns. record { txns = txns; initial = P.initial }) (all_filtered (is_another u) (λ T. refl) P.txns)
  commutes P (edit.SetUp x v) = refl

  presents_from : (P : Present) (edits : List Edit)
      → fold (λ Q e. after e Q) (projected_present p P) (map (projected_edit p) edits) ≡ projected_present p (fold (λ Q e. after e Q) P edits)
  presents_from P [] = refl
  presents_from P (e ∷ edits) =
      ap (λ Q. fold (λ R d. after d R) Q (map (projected_edit p) edits)) (commutes P e) ∙ presents_from (after e P) edits

  pub leaves : (edits : List Edit) → present (map (projected_edit p) edits) ≡ projected_present p (present edits)
  unfolding present
  leaves edits = presents_from nothing edits

pub presents : PartitionsArePresent
presents p edits = record { leaves = leaves p edits; is = subst (IsPartition p (present edits)) (sym (leaves p edits)) (is_projected p (present edits)) }

-- ---- what one edit leaves

-- a value that is set up behind others
set_up_behind : (y : List ℕ) (initial more : List (List ℕ × Value)) → set_up_value y (initial ++ more) ≡ option_or (set_up_value y initial) (set_up_value y more)
unfolding set_up_value
set_up_behind y initial more = ap (option_map (λ (q : List ℕ × Value). q.1)) (find-append (λ q. same_key q.0 y) initial more) ∙ by (find (λ q. same_key q.0 y) initial)
  where
    by : (o : Option (List ℕ × Value)) → option_map (λ (q : List ℕ × Value). q.1) (option_or o (find (λ q. same_key q.0 y) more))
        ≡ option_or (option_map (λ (q : List ℕ × Value). q.1) o) (option_map (λ (q : List ℕ × Value). q.1) (find (λ q. same_key q.0 y) more))
    by None = refl
    by (Some q) = refl

module _ (p : Partition) (P Q : Present) (is : IsPartition p P Q) where
  pub keeps : (e : Edit) → IsPartition p (after e P) (after (projected_edit p e) Q)
  unfolding after
  keeps (edit.Arrive T) = record {
    txns = ap (λ txns. txns ++ projected p T ∷ []) is.txns ∙ sym (map-append (projected p) P.txns (T ∷ []));
    own = is.own;
    others = is.others;
  }
  keeps (edit.Resolve u o) = record { txns = ap (map (resolved u o)) is.txns ∙ all_resolved p u o P.txns; own = is.own; others = is.others }
  keeps (edit.Withdraw u) = record { txns = ap (filter (is_another u)) is.txns ∙ all_filtered p (is_another u) (λ T. refl) P.txns; own = is.own; others = is.others }
  keeps (edit.SetUp x v) = record {
    txns = is.txns;
    own = λ y has. set_up_behind y Q.initial ((x, v) ∷ []) ∙ ap (λ o. option_or o (set_up_value y ((x, v) ∷ []))) (is.own y has) ∙ sym (set_up_behind y P.initial ((x, v) ∷ []));
    others = λ y none.
        (let parts = none_both (set_up_value y P.initial) (set_up_value y ((x, v) ∷ [])) (sym (set_up_behind y P.initial ((x, v) ∷ [])) ∙ none) in
        set_up_behind y Q.initial ((x, v) ∷ []) ∙ none_from (set_up_value y Q.initial) (set_up_value y ((x, v) ∷ [])) (is.others y parts.0) parts.1);
  }

pub edits_keep : EditsKeepPartitions
edits_keep p P Q e is = keeps p P Q is e
