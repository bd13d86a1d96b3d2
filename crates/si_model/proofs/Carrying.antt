-- What is carried over a horizon is what the relation says, and a history.
use Rattle.std.proofs.Common.{◌≡◌, ◌≢◌, ◌⊎◌, inl, inr, ◌↔◌, ℕ, ◌<◌, ◌≤◌, Bool, true, false, nat_lt, List, [], ◌∷◌, ◌++◌, map, Option, Some, None, refl, sym, ap, subst, ◌∙◌, rules, arith, cond}
use Rattle.std.specs.List.{Contains, AllPairs, filter, flat_map}
use Rattle.std.specs.List.Sorted.{IsStrictlySortedBy}
use Rattle.std.specs.Option.{option_or, option_map}
use Rattle.std.specs.declared.cmp.Ordering.TheVariants.{Less, Equal}
use Rattle.std.specs.Ordering.{nat_cmp}
use Rattle.std.specs.Cmp.{IsTotalOrder}
use Rattle.std.specs.Cmp.Rules.{comparing}
use Rattle.std.specs.Cmp.Lexicographic.{slice_cmp}
use Rattle.std.proofs.lemmas.Bool.{cases_lt, ltb-true, ltb-false, lt-ltb}
use Rattle.std.proofs.lemmas.List.Elements.{Contains-append_left, Contains-append_right}
use Rattle.si_model.specs.declared.numbers.Stamp.{Stamp}
use Rattle.si_model.specs.declared.numbers.Value.{Value}
use Rattle.si_model.specs.declared.operations.Op.TheVariants as op
use Rattle.si_model.specs.declared.transactions.Status.{Status}
use Rattle.si_model.specs.declared.transactions.Status.TheVariants as status
use Rattle.si_model.specs.declared.transactions.Txn.{Txn}
use Rattle.si_model.specs.declared.parts.Access.TheVariants as access
use Rattle.si_model.specs.declared.parts.Part.{Part}
use Rattle.si_model.specs.Operations.{key_of}
use Rattle.si_model.specs.Parts.{Present, accesses, set_up_value}
use Rattle.si_model.specs.Versions.{commit_of, last_write}
use Rattle.si_model.specs.Findings.{keys_in}
use Rattle.si_model.specs.History.{WritesPairAt, WritesSome, IsHistory}
use Rattle.si_model.specs.Horizons.{CommitsBelow, IsGone, WritesKey, IsLastWriteOf, IsBelow, IsInitialOver, rest, is_stamp_below, commits_below, installed, later_one, last_installed, value_after, keys_after, initial_after, carried}
use Rattle.si_model.specs.HorizonLaws.{CarriedIsExact, CarriedIsHistory}
use Rattle.si_lists.proofs.Members.{same_some, Contains-nil, here, Contains-cons_cases, there, get_contains, Contains-map, Contains-flat_map, Contains-filter, Contains-from_filter, Contains-filter_map, Contains-from_filter_map, at_each}
use Rattle.si_lists.proofs.Names.{Differ, pairs_nil, pairs_cons, same_named, names_filter_map}
use Rattle.si_lists.proofs.Tests.{mapped_some}
use Rattle.std.proofs.lemmas.Cmp.{tied_itself}
use Rattle.si_model.proofs.Equalities.{same_id_or_not}
use Rattle.si_model.proofs.KeyParts.{accesses_are, accesses_rise, pair_from}
use Rattle.si_model.proofs.InOrder.{below_rest, rest_sorted, sorted-in_order, Contains-in_order}
use Rattle.si_model.proofs.FindingOrder.{exact_bytes}
use Rattle.si_model.proofs.Histories.{key_in_pair, set_up_is, set_up_from, same_commit}
use Rattle.si_model.proofs.LastWrites.{final, last_from_final, some_last}
use Rattle.si_model.proofs.Rests.{rest_exact, some_rest, Carries, carries_rest, WritesOnce, carried_once}

-- ---- the last write of a key

abbrev pub part_on : List ℕ → Txn → Part
part_on x T = record { id = T.id; start = T.start; status = T.status; accesses = accesses x T.ops }

pub write_in : (x : List ℕ) (T : Txn) (i : ℕ) (v : Value) → WritesPairAt T i x v → Contains (accesses x T.ops) (record { place = i; access = access.Write v })
write_in x T i v w = (accesses_are x T.ops (record { place = i; access = access.Write v })).1 (op.Write x v, w, refl, refl)

pub write_out : (x : List ℕ) (T : Txn) (i : ℕ) (v : Value) → Contains (accesses x T.ops) (record { place = i; access = access.Write v }) → WritesPairAt T i x v
write_out x T i v c = pair_from x T (part_on x T) i v (record { id = refl; start = refl; status = refl; accesses = refl; some = (record { place = i; access = access.Write v }, c) }) c

pub last_write_is : (x : List ℕ) (T : Txn) (v : Value) → (last_write (accesses x T.ops) ≡ Some v) ↔ IsLastWriteOf T x v
last_write_is x T v = (
  λ e. (let f = final (part_on x T) v (accesses_rise x T.ops) e in
      record { place = f.place; is = write_out x T f.place v f.is; last = λ j w a. f.last j w (write_in x T j w a) }),
  λ f. last_from_final (part_on x T) v (accesses_rise x T.ops)
      (record { place = f.place; is = write_in x T f.place v f.is; last = λ j w a. f.last j w (write_out x T j w a) }),
)

-- who writes a key has a last write of it
pub writes_last : (x : List ℕ) (T : Txn) → WritesKey T x → (v : Value) × (last_write (accesses x T.ops) ≡ Some v)
writes_last x T w = some_last (part_on x T) w.1 (w.0, write_in x T w.0 w.1 w.2)

pub one_last : (x : List ℕ) (T : Txn) (v w : Value) → IsLastWriteOf T x v → IsLastWriteOf T x w → v ≡ w
one_last x T v w f g = same_some (sym ((last_write_is x T v).1 f) ∙ (last_write_is x T w).1 g)

-- ---- what is installed last

abbrev version_by : List ℕ → Txn → Option (Stamp × Value)
version_by x T = installed (commit_of T.status) (last_write (accesses x T.ops))

-- n is installed by one of the transactions, and none of them installs a later one
record IsLast (x : List ℕ) (txns : List Txn) (n : Stamp × Value) : Type 0 where
  txn : Txn
  at : Contains txns txn
  is : version_by x txn ≡ Some n
  last : (U : Txn) (m : Stamp × Value) → Contains txns U → version_by x U ≡ Some m → m.0.0 ≤ n.0.0

abbrev IsLastIfAny : List ℕ → List Txn → Option (Stamp × Value) → Type 0
IsLastIfAny x txns (Some n) = IsLast x txns n
IsLastIfAny x txns None = (U : Txn) → Contains txns U → version_by x U ≡ None

last_is : (x : List ℕ) (txns : List Txn) → IsLastIfAny x txns (last_installed x txns)
last_is x [] = λ U c. absurd (Contains-nil U c)
last_is x (T ∷ txns) = by (version_by x T) refl (last_installed x txns) (last_is x txns)
  where
    mine : (m : Stamp × Value) → version_by x T ≡ Some m → ((U : Txn) (k : Stamp × Value) → Contains txns U → version_by x U ≡ Some k → k.0.0 ≤ m.0.0) → IsLast x (T ∷ txns) m
    mine m e least = record {
      txn = T;
      at = here T txns;
      is = e;
      last = λ U k c f. elim (Contains-cons_cases T txns U c) [
        | inl s ↦ (let same = ap (λ n. n.0.0) (same_some (sym e ∙ ap (version_by x) s ∙ f)) in omega arith)
        | inr d ↦ least U k d f
      ];
    }

    theirs : (n : Stamp × Value) → IsLast x txns n → ((k : Stamp × Value) → version_by x T ≡ Some k → k.0.0 ≤ n.0.0) → IsLast x (T ∷ txns) n
    theirs n l least = record {
      txn = l.txn;
      at = there T txns l.txn l.at;
      is = l.is;
      last = λ U k c f. elim (Contains-cons_cases T txns U c) [
        | inl s ↦ least k (ap (version_by x) s ∙ f)
        | inr d ↦ l.last U k d f
      ];
    }

    by : (o : Option (Stamp × Value)) → version_by x T ≡ o → (p : Option (Stamp × Value)) → IsLastIfAny x txns p → IsLastIfAny x (T ∷ txns) (later_one o p)
    by None e None none = λ U c. elim (Contains-cons_cases T txns U c) [ inl s ↦ ap (version_by x) (sym s) ∙ e | inr d ↦ none U d ]
    by None e (Some n) l = theirs n l (λ k f. let wrong = sym e ∙ f in cc)
    by (Some m) e None none = mine m e (λ U k c f. let wrong = sym (none U c) ∙ f in cc)
    by (Some m) e (Some n) l = tested (nat_lt m.0.0 n.0.0) refl
      where
        tested : (b : Bool) → nat_lt m.0.0 n.0.0 ≡ b → IsLastIfAny x (T ∷ txns) (cond b (Some n) (Some m))
        tested true t = theirs n l (λ k f. let same = ap (λ a. a.0.0) (same_some (sym e ∙ f)) in let less = ltb-true m.0.0 n.0.0 t in omega arith)
        tested false t = mine m e (λ U k c f. let most = l.last U k c f in let less = ltb-false m.0.0 n.0.0 t in omega arith)

both_there : (o : Option Stamp) (p : Option Value) (n : Stamp × Value) → installed o p ≡ Some n → (o ≡ Some n.0) × (p ≡ Some n.1)
both_there (Some c) (Some v) n e = let s = same_some e in (ap (λ m. Some m.0) s, ap (λ m. Some m.1) s)
both_there (Some c) None n e = cc
both_there None p n e = cc

-- ---- what committed below

pub below_is : (H : Stamp) (T : Txn) → (commits_below H T ≡ true) ↔ CommitsBelow H T
below_is H T = (λ e. to T.status refl e, λ b. ap (λ s. is_stamp_below H (commit_of s)) b.1 ∙ lt-ltb b.0.0 H.0 b.2)
  where
    to : (s : Status) → T.status ≡ s → is_stamp_below H (commit_of s) ≡ true → CommitsBelow H T
    to (status.Committed c) s e = (c, s, ltb-true c.0 H.0 e)
    to status.Aborted s e = cc
    to status.InDoubt s e = cc

module _ (P : Present) (H : Stamp) (h : IsHistory P) where
  abbrev old : List Txn
  old = filter (commits_below H) P.txns

  old_in : (T : Txn) (c : Stamp) → Contains P.txns T → T.status ≡ status.Committed c → c.0 < H.0 → Contains old T
  old_in T c at s less = Contains-filter (commits_below H) P.txns T at ((below_is H T).1 (c, s, less))

  -- the last one that is installed below is by a transaction that is the last below
  below_last : (x : List ℕ) (n : Stamp × Value) → IsLast x old n → (T : Txn) × IsBelow P H x T × IsLastWriteOf T x n.1
  below_last x n l =
      let T = l.txn in
      let f = Contains-from_filter (commits_below H) P.txns T l.at in
      let b = (below_is H T).0 f.1 in
      let both = both_there (commit_of T.status) (last_write (accesses x T.ops)) n l.is in
      let last = (last_write_is x T n.1).0 both.1 in
      let same = ap (λ s. s.0) (same_some (sym both.0 ∙ ap commit_of b.1)) in (
        T,
        record {
          present = f.0;
          commit = b.0;
          committed = b.1;
          below = b.2;
          writes = (last.place, n.1, last.is);
          last = λ U d at s less w.
              let v = writes_last x U w in
              let most = l.last U (d, v.0) (old_in U d at s less) (ap (λ o. installed o (last_write (accesses x U.ops))) (ap commit_of s) ∙ ap (installed (Some d)) v.1) in
              omega arith;
        },
        last,
      )

  below_none : (x : List ℕ) → ((U : Txn) → Contains old U → version_by x U ≡ None) → (T : Txn) → IsBelow P H x T → ⊥
  below_none x none T b =
      let v = writes_last x T b.writes in
      let wrong = sym (ap (λ o. installed o (last_write (accesses x T.ops))) (ap commit_of b.committed) ∙ ap (installed (Some b.commit)) v.1) ∙ none T (old_in T b.commit b.present b.committed b.below) in
      cc

  -- one transaction is the last below at most
  pub one_below : (x : List ℕ) (T U : Txn) → IsBelow P H x T → IsBelow P H x U → T ≡ U
  one_below x T U a b = elim (same_id_or_not T.id U.id) [
    | inl s ↦ same_named (λ V. V.id) P.txns h.names T U a.present b.present s
    | inr d ↦
        (let w = a.writes in
        let apart = h.stamps T U a.commit a.present b.present d (ap commit_of a.committed) (w.0, x, w.1, w.2) in
        let less = b.last T a.commit a.present a.committed a.below a.writes in
        let more = a.last U b.commit b.present b.committed b.below b.writes in
        let same : b.commit ≡ a.commit = same_stamp b.commit a.commit (omega arith) in
        absurd (apart.1 (ap commit_of b.committed ∙ ap Some same)))
  ]
    where
      same_stamp : (c d : Stamp) → c.0 ≡ d.0 → c ≡ d
      same_stamp c d e = λ i. record { 0 = e i }

  value_is : (x : List ℕ) (v : Value) → value_after old P.initial x ≡ Some v → IsInitialOver P H x v
  value_is x v e = by (last_installed x old) (last_is x old) e
    where
      by : (o : Option (Stamp × Value)) → IsLastIfAny x old o → option_or (option_map (λ n. n.1) o) (set_up_value x P.initial) ≡ Some v → IsInitialOver P H x v
      by None none e = inr (below_none x none, set_up_is x P.initial v e)
      by (Some n) l e = let b = below_last x n l in inl (b.0, b.1, subst (IsLastWriteOf b.0 x) (same_some e) b.2)

  value_from : (x : List ℕ) (v : Value) → IsInitialOver P H x v → value_after old P.initial x ≡ Some v
  value_from x v is = by (last_installed x old) (last_is x old) is
    where
      by : (o : Option (Stamp × Value)) → IsLastIfAny x old o → IsInitialOver P H x v → option_or (option_map (λ n. n.1) o) (set_up_value x P.initial) ≡ Some v
      by None none (inl b) = absurd (below_none x none b.0 b.1)
      by None none (inr s) = set_up_from x P.initial v h.keys s.1
      by (Some n) l (inl b) =
          let c = below_last x n l in
          ap Some (one_last x c.0 n.1 v c.2 (subst (λ T. IsLastWriteOf T x v) (one_below x b.0 c.0 b.1 c.1) b.2))
      by (Some n) l (inr s) = let c = below_last x n l in absurd (s.0 c.0 c.1)

  pub value_exact : (x : List ℕ) (v : Value) → (value_after old P.initial x ≡ Some v) ↔ IsInitialOver P H x v
  value_exact x v = (value_is x v, value_from x v)

  -- where one that committed below writes the key, there is a last one
  pub some_below : (x : List ℕ) (T : Txn) (c : Stamp) → Contains P.txns T → T.status ≡ status.Committed c → c.0 < H.0 → WritesKey T x → (S : Txn) × IsBelow P H x S
  some_below x T c at s less w = by (last_installed x old) (last_is x old)
    where
      by : (o : Option (Stamp × Value)) → IsLastIfAny x old o → (S : Txn) × IsBelow P H x S
      by None none =
          let v = writes_last x T w in
          let wrong = sym (ap (λ o. installed o (last_write (accesses x T.ops))) (ap commit_of s) ∙ ap (installed (Some c)) v.1) ∙ none T (old_in T c at s less) in
          cc
      by (Some n) l = let b = below_last x n l in (b.0, b.1)

  -- some transaction is the last below, and has a last write of the key, or none is below
  pub below_or_none : (x : List ℕ) → ((T : Txn) × (v : Value) × IsBelow P H x T × IsLastWriteOf T x v) ⊎ ((T : Txn) → IsBelow P H x T → ⊥)
  below_or_none x = by (last_installed x old) (last_is x old)
    where
      by : (o : Option (Stamp × Value)) → IsLastIfAny x old o → ((T : Txn) × (v : Value) × IsBelow P H x T × IsLastWriteOf T x v) ⊎ ((T : Txn) → IsBelow P H x T → ⊥)
      by None none = inr (below_none x none)
      by (Some n) l = let b = below_last x n l in inl (b.0, n.1, b.1, b.2)

-- ---- keys in order

pub keys_total : IsTotalOrder (slice_cmp nat_cmp)
keys_total = search (comparing, rules)

-- a key that has a value is one of the keys
key_in : (old : List Txn) (initial : List (List ℕ × Value)) (x : List ℕ) (v : Value) → value_after old initial x ≡ Some v → Contains (keys_after old initial) x
key_in old initial x v e = Contains-in_order keys_total exact_bytes (flat_map keys_in old ++ map (λ p. p.0) initial) x (by (last_installed x old) (last_is x old) e)
  where
    by : (o : Option (Stamp × Value)) → IsLastIfAny x old o → option_or (option_map (λ n. n.1) o) (set_up_value x initial) ≡ Some v → Contains (flat_map keys_in old ++ map (λ p. p.0) initial) x
    by None none e = Contains-append_right (flat_map keys_in old) (map (λ p. p.0) initial) x (Contains-map (λ (p : List ℕ × Value). p.0) initial (x, v) (set_up_is x initial v e))
    by (Some n) l e =
        let both = both_there (commit_of l.txn.status) (last_write (accesses x l.txn.ops)) n l.is in
        let last = (last_write_is x l.txn n.1).0 both.1 in
        let found = Contains-map key_of l.txn.ops (op.Write x n.1) (get_contains l.txn.ops last.place (op.Write x n.1) last.is) in
        Contains-append_left (flat_map keys_in old) (map (λ p. p.0) initial) x (Contains-flat_map keys_in old l.txn x l.at found)

pub initial_exact : (old : List Txn) (initial : List (List ℕ × Value)) (x : List ℕ) (v : Value) → Contains (initial_after old initial) (x, v) ↔ (value_after old initial x ≡ Some v)
unfolding initial_after
initial_exact old initial x v = (
  λ c.
      (let f = Contains-from_filter_map (λ y. option_map (λ w. (y, w)) (value_after old initial y)) (keys_after old initial) (x, v) c in
      let m = mapped_some (λ w. (f.0, w)) (value_after old initial f.0) (x, v) f.2 in
      subst (λ y. value_after old initial y ≡ Some v) (ap (λ p. p.0) m.2) (m.1 ∙ ap (λ (p : List ℕ × Value). Some p.1) m.2)),
  λ e. Contains-filter_map (λ y. option_map (λ w. (y, w)) (value_after old initial y)) (keys_after old initial) x (x, v) (key_in old initial x v e) (ap (option_map (λ w. (x, w))) e),
)

-- ---- the laws

pub carried_exact : CarriedIsExact
unfolding carried
carried_exact P H h = record {
  txns = λ U. (
    λ c. (let f = Contains-from_filter_map (rest H) P.txns U c in let is = (rest_exact H f.0 U).0 f.2 in (f.0, f.1, is.0, is.1)),
    λ f. Contains-filter_map (rest H) P.txns f.0 U f.1 ((rest_exact H f.0 U).1 (f.2, f.3)),
  );
  initial = λ x v. (
    λ c. (value_exact P H h x v).0 ((initial_exact (filter (commits_below H) P.txns) P.initial x v).0 c),
    λ i. (initial_exact (filter (commits_below H) P.txns) P.initial x v).1 ((value_exact P H h x v).1 i),
  );
}

-- what is carried over was present, and isn't gone
pub record Came (P : Present) (H : Stamp) (U : Txn) : Type 0 where
  pub txn : Txn
  pub at : Contains P.txns txn
  pub is : rest H txn ≡ Some U
  pub carries : Carries txn U

pub came : (P : Present) (H : Stamp) (U : Txn) → Contains (carried H P).txns U → Came P H U
unfolding carried
came P H U c = let f = Contains-from_filter_map (rest H) P.txns U c in record { txn = f.0; at = f.1; is = f.2; carries = carries_rest H f.0 U f.2 }

pub went : (P : Present) (H : Stamp) (T U : Txn) → Contains P.txns T → rest H T ≡ Some U → Contains (carried H P).txns U
unfolding carried
went P H T U c e = Contains-filter_map (rest H) P.txns T U c e

-- what committed at the horizon or later is carried over
pub kept_over : (P : Present) (H : Stamp) (T : Txn) (c : Stamp) → Contains P.txns T → T.status ≡ status.Committed c → H.0 ≤ c.0 → (U : Txn) × Contains (carried H P).txns U × (rest H T ≡ Some U)
kept_over P H T c at s past = let r = some_rest H T stays in (r.0, went P H T r.0 at r.1, r.1)
  where
    stays : IsGone H T → ⊥
    stays (inl g) = let same = ap (λ t. t.0) (same_commit g.0 c (sym g.1 ∙ s)) in let below = g.2 in omega arith
    stays (inr g) = let wrong = sym s ∙ g.0 in cc

-- and what is carried over committed at it or later
pub past_over : (P : Present) (H : Stamp) (U : Txn) (t : Came P H U) (c : Stamp) → U.status ≡ status.Committed c → H.0 ≤ c.0
past_over P H U t c s = elim (cases_lt c.0 H.0) [
  | inl less ↦ absurd (((rest_exact H t.txn U).0 t.is).0 (inl (c, sym t.carries.status ∙ s, less)))
  | inr more ↦ more
]

pub sorted_differ : (xs : List (List ℕ)) → IsStrictlySortedBy (slice_cmp nat_cmp) xs → AllPairs (λ x y. x ≢ y) xs
sorted_differ [] s = pairs_nil (λ x y. x ≢ y)
sorted_differ (x ∷ xs) s = pairs_cons (λ y z. y ≢ z) x xs
    (λ y c e. let less = at_each (λ z. slice_cmp nat_cmp x z ≡ Less) xs y (below_rest (slice_cmp nat_cmp) x xs s) c in
    let tied = tied_itself keys_total x in
    let wrong : Less ≡ Equal = sym less ∙ ap (slice_cmp nat_cmp x) (sym e) ∙ tied in cc)
    (sorted_differ xs (rest_sorted (slice_cmp nat_cmp) x xs s))

pub initial_apart : (old : List Txn) (initial : List (List ℕ × Value)) → AllPairs (Differ key_in_pair) (initial_after old initial)
unfolding initial_after
initial_apart old initial = names_filter_map (λ x. x) key_in_pair (λ x. option_map (λ v. (x, v)) (value_after old initial x))
    (λ x p e. ap (λ q. q.0) (sym (mapped_some (λ v. (x, v)) (value_after old initial x) p e).2))
    (keys_after old initial) (sorted_differ (keys_after old initial) (sorted-in_order keys_total (flat_map keys_in old ++ map (λ p. p.0) initial)))

pub once_in : (P : Present) → IsHistory P → (T : Txn) → Contains P.txns T → WritesOnce T
once_in P h T at i j x v a b = (h.writes T T i j x v at at a b).1

some_back : (T U : Txn) → Carries T U → WritesSome U → WritesSome T
some_back T U c w = let f = c.from w.0 w.1 w.2 w.3 in (f.0, w.1, w.2, f.1)

pub carried_names : (P : Present) (H : Stamp) → IsHistory P → AllPairs (Differ (λ T. T.id)) (carried H P).txns
unfolding carried
carried_names P H h = names_filter_map (λ T. T.id) (λ T. T.id) (rest H) (λ T U e. (carries_rest H T U e).id) P.txns h.names

pub carried_keys : (P : Present) (H : Stamp) → AllPairs (Differ key_in_pair) (carried H P).initial
unfolding carried
carried_keys P H = initial_apart (filter (commits_below H) P.txns) P.initial

pub carried_history : CarriedIsHistory
carried_history P H h = record {
  forward = λ U c at e. let t = came P H U at in
      subst (λ s. s.0 ≤ c.0) (sym t.carries.start) (h.forward t.txn c t.at (ap commit_of (sym t.carries.status) ∙ e));
  apart = λ U c at e w. let t = came P H U at in
      subst (λ s. s.0 < c.0) (sym t.carries.start) (h.apart t.txn c t.at (ap commit_of (sym t.carries.status) ∙ e) (some_back t.txn U t.carries w));
  names = carried_names P H h;
  stamps = λ A B c a b differ e w.
      let t = came P H A a in
      let u = came P H B b in
      let s = h.stamps t.txn u.txn c t.at u.at (λ same. differ (t.carries.id ∙ same ∙ sym u.carries.id)) (ap commit_of (sym t.carries.status) ∙ e) (some_back t.txn A t.carries w) in
      (λ f. s.0 (f ∙ u.carries.start), λ f. s.1 (ap commit_of (sym u.carries.status) ∙ f));
  writes = λ A B i j x v a b s r.
      let t = came P H A a in
      let u = came P H B b in
      let f = t.carries.from i x v s in
      let g = u.carries.from j x v r in
      let same = h.writes t.txn u.txn f.0 g.0 x v t.at u.at f.1 g.1 in
      let id = t.carries.id ∙ same.0 ∙ sym u.carries.id in
      let one = same_named (λ T. T.id) (carried H P).txns (carried_names P H h) A B a b id in
      (id, carried_once t.txn A t.carries (once_in P h t.txn t.at) i j x v s (subst (λ T. WritesPairAt T j x v) (sym one) r));
  keys = carried_keys P H;
  initial = λ x v U i c at w.
      let t = came P H U at in
      let f = t.carries.from i x v w in
      elim (((carried_exact P H h).initial x v).0 c) [
        | inl b ↦
            (let T = b.0 in
            let last = b.2 in
            let below = b.1 in
            let same = h.writes T t.txn last.place f.0 x v below.present t.at last.is f.1 in
            let one = same_named (λ T. T.id) P.txns h.names T t.txn below.present t.at same.0 in
            ((rest_exact H t.txn U).0 t.is).0 (inl (below.commit, ap (λ S. S.status) (sym one) ∙ below.committed, below.below)))
        | inr s ↦ h.initial x v t.txn f.0 s.1 t.at f.1
      ];
}
