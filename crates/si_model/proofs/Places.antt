-- The lists of places have exactly what the relations say.
use Rattle.std.proofs.Common.{◌≡◌, ◌≢◌, inl, inr, ℕ, ◌+◌, ◌<◌, Bool, true, false, not, ◌&&◌, nat_lt, List, [], ◌∷◌, ◌++◌, map, Option, Some, None, refl, sym, ap, subst, ◌∙◌, arith, cond}
use Rattle.std.specs.List.{Contains, AllPairs, filter, flat_map, list_any, count_by}
use Rattle.std.proofs.lemmas.Bool.{and_parts, and_from, ltb-true, lt-ltb}
use Rattle.std.proofs.lemmas.List.Kept.{AllPairs-filter}
use Rattle.std.proofs.lemmas.List.Elements.{Contains-append_cases}
use Rattle.std.proofs.lemmas.List.Sums.{sum_by-cons}
use Rattle.si_model.specs.declared.numbers.TxnId.{TxnId}
use Rattle.si_model.specs.declared.numbers.Stamp.{Stamp}
use Rattle.si_model.specs.declared.numbers.Value.{Value}
use Rattle.si_model.specs.declared.transactions.Status.{Status}
use Rattle.si_model.specs.declared.transactions.Status.TheVariants as status
use Rattle.si_model.specs.declared.parts.Access.{Access}
use Rattle.si_model.specs.declared.parts.Access.TheVariants as access
use Rattle.si_model.specs.declared.parts.Placed.{Placed}
use Rattle.si_model.specs.declared.parts.Part.{Part}
use Rattle.si_model.specs.declared.parts.OnKey.{OnKey}
use Rattle.si_model.specs.declared.sights.Installer.{Installer}
use Rattle.si_model.specs.Versions.{Writes, last_write}
use Rattle.si_model.specs.Reads.{IsRead}
use Rattle.si_model.specs.History.{IsOfHistory}
use Rattle.si_model.specs.Edits.{same_id}
use Rattle.si_model.specs.Chances.{WroteBefore, IsFree, AreConcurrent, IsAbortedWriter, IsOwnPlace, IsAbortedPlace, IsIntermediatePlace, IsFuturePlace, IsStalePlace, IsOverlapPlace, is_read_access, is_write_access, returns, is_committed, is_aborted, writes_key, writes_twice, wrote_before, is_free_read, commits_after, runs_beside, reads_after, returns_free, is_returned, is_own_place, is_aborted_place, is_intermediate_place, is_future_place, is_stale_place, is_overlap_place, reads_where, writers_where}
use Rattle.si_model.specs.ChanceLaws.{ListsReads, ListsWriters, ListsPlaces}
use Rattle.si_lists.proofs.Members.{Contains-nil, here, there, Contains-cons_cases, Contains-flat_map, Contains-from_flat_map, Contains-map, Contains-from_map, Contains-filter, Contains-from_filter}
use Rattle.si_lists.proofs.Names.{Differ, pairs_nil, pairs_head, pairs_tail, pairs_cons, names_map}
use Rattle.si_lists.proofs.Tests.{any_from, any_is}
use Rattle.si_model.proofs.Equalities.{same_id_is, same_id_from, value_is}
use Rattle.si_model.proofs.KeyParts.{Rise}
use Rattle.si_model.proofs.LastWrites.{last_is_final}

-- ---- tests

not_true : (b : Bool) → not b ≡ true → b ≡ false
not_true true e = cc
not_true false e = refl

not_from : (b : Bool) → (b ≡ true → ⊥) → not b ≡ true
not_from true f = absurd (f refl)
not_from false f = refl

others : (t u : TxnId) → not (same_id t u) ≡ true → t ≢ u
others t u e same = let f = not_true (same_id t u) e in let g = same_id_from t u same in cc

others_from : (t u : TxnId) → t ≢ u → not (same_id t u) ≡ true
others_from t u other = not_from (same_id t u) (λ e. other (same_id_is t u e))

committed_is : (s : Status) → is_committed s ≡ true → (c : Stamp) × (s ≡ status.Committed c)
committed_is (status.Committed c) e = (c, refl)
committed_is status.Aborted e = cc
committed_is status.InDoubt e = cc

aborted_is : (s : Status) → is_aborted s ≡ true → s ≡ status.Aborted
aborted_is (status.Committed c) e = cc
aborted_is status.Aborted e = refl
aborted_is status.InDoubt e = cc

after_is : (start : Stamp) (s : Status) → commits_after start s ≡ true → (c : Stamp) × (s ≡ status.Committed c) × (start.0 < c.0)
after_is start (status.Committed c) e = (c, refl, ltb-true start.0 c.0 e)
after_is start status.Aborted e = cc
after_is start status.InDoubt e = cc

after_from : (start : Stamp) (s : Status) (c : Stamp) → s ≡ status.Committed c → start.0 < c.0 → commits_after start s ≡ true
after_from start s c e less = ap (commits_after start) e ∙ lt-ltb start.0 c.0 less

read_is : (a : Access) → is_read_access a ≡ true → (v : Option Value) × (a ≡ access.Read v)
read_is (access.Read v) e = (v, refl)
read_is (access.Write v) e = cc

write_is : (a : Access) → is_write_access a ≡ true → (v : Value) × (a ≡ access.Write v)
write_is (access.Read v) e = cc
write_is (access.Write v) e = (v, refl)

returned_is : (v : Value) (a : Access) → returns v a ≡ true → a ≡ access.Read (Some v)
returned_is v (access.Read w) e = ap access.Read ((value_is w v).0 e)
returned_is v (access.Write w) e = cc

at_place : (ys : List Placed) (a : Placed) (b : Access) → Contains ys a → a.access ≡ b → Contains ys (record { place = a.place; access = b })
at_place ys a b c e = subst (λ d. Contains ys (record { place = a.place; access = d })) e c

-- ---- what a transaction does on the key

writes_is : (T : Part) → writes_key T ≡ true → (v : Value) × Writes T v
writes_is T e =
    let f = any_is (λ a. is_write_access a.access) T.accesses e in
    let w = write_is f.0.access f.2 in
    (w.0, (f.0.place, at_place T.accesses f.0 (access.Write w.0) f.1 w.1))

writes_from : (T : Part) (v : Value) → Writes T v → writes_key T ≡ true
writes_from T v w = any_from (λ a. is_write_access a.access) T.accesses (record { place = w.0; access = access.Write v }) w.1 refl

before_is : (T : Part) (i : ℕ) → wrote_before T i ≡ true → WroteBefore T i
before_is T i e =
    let f = any_is (λ a. nat_lt a.place i && is_write_access a.access) T.accesses e in
    let both = and_parts (nat_lt f.0.place i) (is_write_access f.0.access) f.2 in
    let w = write_is f.0.access both.1 in
    (f.0.place, w.0, at_place T.accesses f.0 (access.Write w.0) f.1 w.1, ltb-true f.0.place i both.0)

before_from : (T : Part) (i : ℕ) → WroteBefore T i → wrote_before T i ≡ true
before_from T i w = any_from (λ a. nat_lt a.place i && is_write_access a.access) T.accesses (record { place = w.0; access = access.Write w.1 }) w.2
    (and_from (nat_lt w.0 i) true (lt-ltb w.0 i w.3) refl)

-- two writes, one before the other
TwoWrites : List Placed → Type 0
TwoWrites ys = (i : ℕ) × (j : ℕ) × (v : Value) × (w : Value) × Contains ys (record { place = i; access = access.Write v }) × Contains ys (record { place = j; access = access.Write w }) × (i < j)

abbrev count : List Placed → ℕ
count ys = count_by (λ a. is_write_access a.access) ys

one_more : (a : Placed) (ys : List Placed) → count (a ∷ ys) ≡ cond (is_write_access a.access) 1 0 + count ys
one_more a ys = sum_by-cons (λ b. cond (is_write_access b.access) 1 0) a ys

counted : (ys : List Placed) → 0 < count ys → (j : ℕ) × (w : Value) × Contains ys (record { place = j; access = access.Write w })
counted [] less = absurd (omega arith)
counted (a ∷ ys) less = by a.access refl (counted ys)
  where
    by : (b : Access) → a.access ≡ b → (0 < count ys → (j : ℕ) × (w : Value) × Contains ys (record { place = j; access = access.Write w })) → (j : ℕ) × (w : Value) × Contains (a ∷ ys) (record { place = j; access = access.Write w })
    by (access.Write w) e later = (a.place, w, at_place (a ∷ ys) a (access.Write w) (here a ys) e)
    by (access.Read v) e later =
        let more : count (a ∷ ys) ≡ 0 + count ys = one_more a ys ∙ ap (λ b. cond (is_write_access b) 1 0 + count ys) e in
        let f = later (omega arith) in
        (f.0, f.1, there a ys (record { place = f.0; access = access.Write f.1 }) f.2)

count_from : (ys : List Placed) (j : ℕ) (w : Value) → Contains ys (record { place = j; access = access.Write w }) → 0 < count ys
count_from [] j w c = absurd (Contains-nil _ c)
count_from (a ∷ ys) j w c = elim (Contains-cons_cases a ys (record { place = j; access = access.Write w }) c) [
  | inl e ↦ (let more : count (a ∷ ys) ≡ 1 + count ys = one_more a ys ∙ ap (λ d. cond (is_write_access d.access) 1 0 + count ys) e in omega arith)
  | inr d ↦ (let less = count_from ys j w d in let more = one_more a ys in omega arith)
]

twice_in : (ys : List Placed) → Rise ys → 1 < count ys → TwoWrites ys
unfolding TwoWrites
twice_in [] r less = absurd (omega arith)
twice_in (a ∷ ys) r less = by a.access refl (twice_in ys (pairs_tail (λ b c. b.place < c.place) a ys r))
  where
    by : (b : Access) → a.access ≡ b → (1 < count ys → TwoWrites ys) → TwoWrites (a ∷ ys)
    by (access.Write v) e later =
        let more : count (a ∷ ys) ≡ 1 + count ys = one_more a ys ∙ ap (λ b. cond (is_write_access b) 1 0 + count ys) e in
        let f = counted ys (omega arith) in
        let last : Placed = record { place = f.0; access = access.Write f.1 } in
        (a.place, f.0, v, f.1, at_place (a ∷ ys) a (access.Write v) (here a ys) e, there a ys last f.2, pairs_head (λ b c. b.place < c.place) a ys r last f.2)
    by (access.Read v) e later =
        let more : count (a ∷ ys) ≡ 0 + count ys = one_more a ys ∙ ap (λ b. cond (is_write_access b) 1 0 + count ys) e in
        let f = later (omega arith) in
        (f.0, f.1, f.2, f.3, there a ys (record { place = f.0; access = access.Write f.2 }) f.4, there a ys (record { place = f.1; access = access.Write f.3 }) f.5, f.6)

twice_from : (ys : List Placed) → Rise ys → TwoWrites ys → 1 < count ys
unfolding TwoWrites
twice_from [] r w = absurd (Contains-nil _ w.4)
twice_from (a ∷ ys) r w = elim (Contains-cons_cases a ys (record { place = w.0; access = access.Write w.2 }) w.4) [
  | inl e ↦ elim (Contains-cons_cases a ys (record { place = w.1; access = access.Write w.3 }) w.5) [
    | inl f ↦ absurd (let s = ap (λ d. d.place) e in let t = ap (λ d. d.place) f in let less = w.6 in omega arith)
    | inr d ↦ (let some = count_from ys w.1 w.3 d in let more : count (a ∷ ys) ≡ 1 + count ys = one_more a ys ∙ ap (λ d. cond (is_write_access d.access) 1 0 + count ys) e in omega arith)
  ]
  | inr c ↦ elim (Contains-cons_cases a ys (record { place = w.1; access = access.Write w.3 }) w.5) [
    | inl f ↦ absurd (let s = ap (λ d. d.place) f in let first = pairs_head (λ b c. b.place < c.place) a ys r (record { place = w.0; access = access.Write w.2 }) c in let less = w.6 in omega arith)
    | inr d ↦ (let some = twice_from ys (pairs_tail (λ b c. b.place < c.place) a ys r) (w.0, w.1, w.2, w.3, c, d, w.6) in let more = one_more a ys in omega arith)
  ]
]

-- ---- lists of reads and of writers

append_pairs : {X : Type 0} (R : X → X → Type 0) (xs ys : List X) → AllPairs R xs → AllPairs R ys → ((x y : X) → Contains xs x → Contains ys y → R x y) → AllPairs R (xs ++ ys)
append_pairs R [] ys p q f = q
append_pairs R (x ∷ xs) ys p q f = pairs_cons R x (xs ++ ys)
    (λ y c. elim (Contains-append_cases xs ys y c) [ inl d ↦ pairs_head R x xs p y d | inr d ↦ f x y (here x xs) d ])
    (append_pairs R xs ys (pairs_tail R x xs p) q (λ z y c d. f z y (there x xs z c) d))

-- where an access is, by the transaction and the place
abbrev spot : Part → Placed → TxnId × ℕ
spot T a = (T.id, a.place)

abbrev spots : (Part → Placed → Bool) → Part → List (TxnId × ℕ)
spots test T = map (spot T) (filter (test T) T.accesses)

rising : (R S : Placed → Placed → Type 0) (ys : List Placed) → ((a b : Placed) → R a b → S a b) → AllPairs R ys → AllPairs S ys
rising R S ys f p = λ i j d a l. f _ _ (p i j d a l)

spots_once : (test : Part → Placed → Bool) (T : Part) → Rise T.accesses → AllPairs (λ p q. p ≢ q) (spots test T)
spots_once test T r = names_map (spot T) (λ p. p) (spot T) (λ a. refl) (filter (test T) T.accesses)
    (rising (λ a b. a.place < b.place) (Differ (spot T)) (filter (test T) T.accesses) (λ a b less same. let e = ap (λ (p : TxnId × ℕ). p.1) same in omega arith)
    (AllPairs-filter (λ a b. a.place < b.place) (test T) T.accesses r))

spot_of : (test : Part → Placed → Bool) (T : Part) (p : TxnId × ℕ) → Contains (spots test T) p → (a : Placed) × Contains T.accesses a × (test T a ≡ true) × (spot T a ≡ p)
spot_of test T p c =
    let m = Contains-from_map (spot T) (filter (test T) T.accesses) p c in
    let f = Contains-from_filter (test T) T.accesses m.0 m.1 in
    (m.0, f.0, f.1, m.2)

all_once : (test : Part → Placed → Bool) (parts : List Part) → AllPairs (Differ (λ T. T.id)) parts → ((T : Part) → Contains parts T → Rise T.accesses) → AllPairs (λ p q. p ≢ q) (flat_map (spots test) parts)
all_once test [] names rise = pairs_nil (λ p q. p ≢ q)
all_once test (T ∷ parts) names rise = append_pairs (λ p q. p ≢ q) (spots test T) (flat_map (spots test) parts)
    (spots_once test T (rise T (here T parts)))
    (all_once test parts (pairs_tail (Differ (λ T. T.id)) T parts names) (λ U c. rise U (there T parts U c)))
    (λ p q c d same.
    let a = spot_of test T p c in
    let m = Contains-from_flat_map (spots test) parts q d in
    let b = spot_of test m.0 q m.2 in
    pairs_head (Differ (λ T. T.id)) T parts names m.0 m.1 (ap (λ (r : TxnId × ℕ). r.0) (a.3 ∙ same ∙ sym b.3)))

module _ (Q : OnKey) (h : IsOfHistory Q) where
  reads_listed : (test : OnKey → Part → Placed → Bool) (IsPlace : Part → ℕ → Type 0)
      → ((T : Part) (a : Placed) → Contains Q.parts T → Contains T.accesses a → test Q T a ≡ true → IsPlace T a.place)
      → ((T : Part) (i : ℕ) → Contains Q.parts T → IsPlace T i → (a : Placed) × Contains T.accesses a × (a.place ≡ i) × (test Q T a ≡ true))
      → ListsReads Q IsPlace (reads_where test Q)
  reads_listed test IsPlace sound complete = record {
    once = all_once (test Q) Q.parts h.names h.places;
    exact = λ t i. (
      λ c. (let m = Contains-from_flat_map (spots (test Q)) Q.parts (t, i) c in
          let s = spot_of (test Q) m.0 (t, i) m.2 in
          (m.0, m.1, ap (λ (r : TxnId × ℕ). r.0) s.3, subst (IsPlace m.0) (ap (λ (r : TxnId × ℕ). r.1) s.3) (sound m.0 s.0 m.1 s.1 s.2))),
      λ p. (let f = complete p.0 i p.1 p.3 in
          let same : spot p.0 f.0 ≡ (t, i) = (λ j. (p.2 j, f.2 j)) in
          subst (Contains (reads_where test Q)) same
          (Contains-flat_map (spots (test Q)) Q.parts p.0 (spot p.0 f.0) p.1 (Contains-map (spot p.0) (filter (test Q p.0) p.0.accesses) f.0 (Contains-filter (test Q p.0) p.0.accesses f.0 f.1 f.3)))),
    );
  }

  writers_listed : (test : OnKey → Part → Bool) (IsPlace : Part → Type 0)
      → ((U : Part) → Contains Q.parts U → test Q U ≡ true → IsPlace U)
      → ((U : Part) → Contains Q.parts U → IsPlace U → test Q U ≡ true)
      → ListsWriters Q IsPlace (writers_where test Q)
  writers_listed test IsPlace sound complete = record {
    once = names_map (λ U. U.id) (λ u. u) (λ U. U.id) (λ U. refl) (filter (test Q) Q.parts) (AllPairs-filter (Differ (λ U. U.id)) (test Q) Q.parts h.names);
    exact = λ u. (
      λ c. (let m = Contains-from_map (λ U. U.id) (filter (test Q) Q.parts) u c in
          let f = Contains-from_filter (test Q) Q.parts m.0 m.1 in
          (m.0, f.0, m.2, sound m.0 f.0 f.1)),
      λ p. subst (Contains (writers_where test Q)) p.2 (Contains-map (λ U. U.id) (filter (test Q) Q.parts) p.0 (Contains-filter (test Q) Q.parts p.0 p.1 (complete p.0 p.1 p.3))),
    );
  }

  -- ---- reads that are free, and reads that aren't

  read_at : (T : Part) (a : Placed) → Contains Q.parts T → Contains T.accesses a → is_committed T.status ≡ true → is_read_access a.access ≡ true → (v : Option Value) × IsRead Q T a.place v
  read_at T a at c committed read =
      let r = read_is a.access read in
      (r.0, record { part = at; committed = committed_is T.status committed; returned = at_place T.accesses a (access.Read r.0) c r.1 })

  free_is : (T : Part) (a : Placed) → Contains Q.parts T → Contains T.accesses a → is_free_read T a ≡ true → (v : Option Value) × IsFree Q T a.place v
  free_is T a at c e =
      let s = and_parts (is_committed T.status) (is_read_access a.access && not (wrote_before T a.place)) e in
      let r = and_parts (is_read_access a.access) (not (wrote_before T a.place)) s.1 in
      let v = read_at T a at c s.0 r.0 in
      (v.0, record { read = v.1; free = λ w. let before = before_from T a.place w in let none = not_true (wrote_before T a.place) r.1 in cc })

  committed_from : (s : Status) (c : Stamp) → s ≡ status.Committed c → is_committed s ≡ true
  committed_from s c e = ap is_committed e

  free_from : (T : Part) (i : ℕ) (v : Option Value) → IsFree Q T i v → is_free_read T (record { place = i; access = access.Read v }) ≡ true
  free_from T i v f =
      and_from (is_committed T.status) (true && not (wrote_before T i)) (committed_from T.status f.read.committed.0 f.read.committed.1)
      (and_from true (not (wrote_before T i)) refl (not_from (wrote_before T i) (λ e. f.free (before_is T i e))))

  own_sound : (T : Part) (a : Placed) → Contains Q.parts T → Contains T.accesses a → is_own_place Q T a ≡ true → IsOwnPlace Q T a.place
  own_sound T a at c e =
      let s = and_parts (is_committed T.status) (is_read_access a.access && wrote_before T a.place) e in
      let r = and_parts (is_read_access a.access) (wrote_before T a.place) s.1 in
      let v = read_at T a at c s.0 r.0 in
      record { value = v.0; read = v.1; wrote = before_is T a.place r.1 }

  own_complete : (T : Part) (i : ℕ) → Contains Q.parts T → IsOwnPlace Q T i → (a : Placed) × Contains T.accesses a × (a.place ≡ i) × (is_own_place Q T a ≡ true)
  own_complete T i at p = (
    record { place = i; access = access.Read p.value },
    p.read.returned,
    refl,
    and_from (is_committed T.status) (true && wrote_before T i) (committed_from T.status p.read.committed.0 p.read.committed.1) (and_from true (wrote_before T i) refl (before_from T i p.wrote)),
  )

  -- ---- transactions that run at the same time

  beside_is : (T U : Part) → runs_beside T U ≡ true → (U.id ≢ T.id) × AreConcurrent T U
  beside_is T U e =
      let s = and_parts (not (same_id U.id T.id)) (commits_after T.start U.status && commits_after U.start T.status) e in
      let r = and_parts (commits_after T.start U.status) (commits_after U.start T.status) s.1 in
      let other = after_is T.start U.status r.0 in
      let commit = after_is U.start T.status r.1 in
      (others U.id T.id s.0, record { commit = commit.0; other = other.0; first = commit.1; second = other.1; before = other.2; after = commit.2 })

  beside_from : (T U : Part) → U.id ≢ T.id → AreConcurrent T U → runs_beside T U ≡ true
  beside_from T U other c = and_from (not (same_id U.id T.id)) (commits_after T.start U.status && commits_after U.start T.status) (others_from U.id T.id other)
      (and_from (commits_after T.start U.status) (commits_after U.start T.status) (after_from T.start U.status c.other c.second c.before) (after_from U.start T.status c.commit c.first c.after))

  future_sound : (T : Part) (a : Placed) → Contains Q.parts T → Contains T.accesses a → is_future_place Q T a ≡ true → IsFuturePlace Q T a.place
  future_sound T a at c e =
      let s = and_parts (is_free_read T a) (list_any (λ U. runs_beside T U && writes_key U) Q.parts) e in
      let f = free_is T a at c s.0 in
      let u = any_is (λ U. runs_beside T U && writes_key U) Q.parts s.1 in
      let both = and_parts (runs_beside T u.0) (writes_key u.0) u.2 in
      let beside = beside_is T u.0 both.0 in
      let w = writes_is u.0 both.1 in
      record { value = f.0; free = f.1; writer = u.0; part = u.1; other = beside.0; concurrent = beside.1; written = w.0; writes = w.1 }

  future_complete : (T : Part) (i : ℕ) → Contains Q.parts T → IsFuturePlace Q T i → (a : Placed) × Contains T.accesses a × (a.place ≡ i) × (is_future_place Q T a ≡ true)
  future_complete T i at p =
      let a : Placed = record { place = i; access = access.Read p.value } in (
        a,
        p.free.read.returned,
        refl,
        and_from (is_free_read T a) (list_any (λ U. runs_beside T U && writes_key U) Q.parts) (free_from T i p.value p.free)
            (any_from (λ U. runs_beside T U && writes_key U) Q.parts p.writer p.part
            (and_from (runs_beside T p.writer) (writes_key p.writer) (beside_from T p.writer p.other p.concurrent) (writes_from p.writer p.written p.writes))),
      )

  intermediate_sound : (T : Part) (a : Placed) → Contains Q.parts T → Contains T.accesses a → is_intermediate_place Q T a ≡ true → IsIntermediatePlace Q T a.place
  unfolding TwoWrites
  intermediate_sound T a at c e =
      let s = and_parts (is_free_read T a) (list_any (λ U. runs_beside T U && writes_twice U) Q.parts) e in
      let f = free_is T a at c s.0 in
      let u = any_is (λ U. runs_beside T U && writes_twice U) Q.parts s.1 in
      let both = and_parts (runs_beside T u.0) (writes_twice u.0) u.2 in
      let beside = beside_is T u.0 both.0 in
      let w = twice_in u.0.accesses (h.places u.0 u.1) (ltb-true 1 (count u.0.accesses) both.1) in
      record {
        value = f.0;
        free = f.1;
        writer = u.0;
        part = u.1;
        other = beside.0;
        concurrent = beside.1;
        earlier = w.0;
        later = w.1;
        replaced = w.2;
        last = w.3;
        first = w.4;
        second = w.5;
        before = w.6;
      }

  intermediate_complete : (T : Part) (i : ℕ) → Contains Q.parts T → IsIntermediatePlace Q T i → (a : Placed) × Contains T.accesses a × (a.place ≡ i) × (is_intermediate_place Q T a ≡ true)
  unfolding TwoWrites
  intermediate_complete T i at p =
      let a : Placed = record { place = i; access = access.Read p.value } in
      let U = p.writer in
      let twice = twice_from U.accesses (h.places U p.part) (p.earlier, p.later, p.replaced, p.last, p.first, p.second, p.before) in (
        a,
        p.free.read.returned,
        refl,
        and_from (is_free_read T a) (list_any (λ U. runs_beside T U && writes_twice U) Q.parts) (free_from T i p.value p.free)
            (any_from (λ U. runs_beside T U && writes_twice U) Q.parts U p.part
            (and_from (runs_beside T U) (writes_twice U) (beside_from T U p.other p.concurrent) (lt-ltb 1 (count U.accesses) twice))),
      )

  -- ---- writers

  aborted_writer : (U : Part) → Contains Q.parts U → (is_aborted U.status && writes_key U) ≡ true → IsAbortedWriter Q U
  aborted_writer U at e =
      let s = and_parts (is_aborted U.status) (writes_key U) e in
      let w = writes_is U s.1 in
      record { part = at; aborted = aborted_is U.status s.0; value = w.0; writes = w.1 }

  aborted_writes : (U : Part) → IsAbortedWriter Q U → (is_aborted U.status && writes_key U) ≡ true
  aborted_writes U w = and_from (is_aborted U.status) (writes_key U) (ap is_aborted w.aborted) (writes_from U w.value w.writes)

  aborted_sound : (U : Part) → Contains Q.parts U → is_aborted_place Q U ≡ true → IsAbortedPlace Q U
  aborted_sound U at e =
      let s = and_parts (is_aborted U.status && writes_key U) (list_any (reads_after U.start) Q.parts) e in
      let t = any_is (reads_after U.start) Q.parts s.1 in
      let both = and_parts (commits_after U.start t.0.status) (list_any (is_free_read t.0) t.0.accesses) t.2 in
      let commit = after_is U.start t.0.status both.0 in
      let a = any_is (is_free_read t.0) t.0.accesses both.1 in
      let f = free_is t.0 a.0 t.1 a.1 a.2 in
      record { writer = aborted_writer U at s.0; reader = t.0; place = a.0.place; value = f.0; commit = commit.0; free = f.1; committed = commit.1; after = commit.2 }

  aborted_complete : (U : Part) → Contains Q.parts U → IsAbortedPlace Q U → is_aborted_place Q U ≡ true
  aborted_complete U at p =
      let T = p.reader in
      and_from (is_aborted U.status && writes_key U) (list_any (reads_after U.start) Q.parts) (aborted_writes U p.writer)
      (any_from (reads_after U.start) Q.parts T p.free.read.part
      (and_from (commits_after U.start T.status) (list_any (is_free_read T) T.accesses) (after_from U.start T.status p.commit p.committed p.after)
      (any_from (is_free_read T) T.accesses (record { place = p.place; access = access.Read p.value }) p.free.read.returned (free_from T p.place p.value p.free))))

  overlap_sound : (U : Part) → Contains Q.parts U → is_overlap_place Q U ≡ true → IsOverlapPlace Q U
  overlap_sound U at e =
      let s = and_parts (is_aborted U.status && writes_key U) (list_any (λ T. commits_after U.start T.status && writes_key T) Q.parts) e in
      let t = any_is (λ T. commits_after U.start T.status && writes_key T) Q.parts s.1 in
      let both = and_parts (commits_after U.start t.0.status) (writes_key t.0) t.2 in
      let commit = after_is U.start t.0.status both.0 in
      let n : Installer = record { txn = t.0.id; start = t.0.start; commit = commit.0 } in
      record { writer = aborted_writer U at s.0; installer = n; installs = (t.0, t.1, record { txn = refl; start = refl; committed = commit.1; writes = writes_is t.0 both.1 }); after = commit.2 }

  overlap_complete : (U : Part) → Contains Q.parts U → IsOverlapPlace Q U → is_overlap_place Q U ≡ true
  overlap_complete U at p =
      let T = p.installs.0 in
      let n = p.installs.2 in
      and_from (is_aborted U.status && writes_key U) (list_any (λ T. commits_after U.start T.status && writes_key T) Q.parts) (aborted_writes U p.writer)
      (any_from (λ T. commits_after U.start T.status && writes_key T) Q.parts T p.installs.1
      (and_from (commits_after U.start T.status) (writes_key T) (after_from U.start T.status p.installer.commit n.committed p.after) (writes_from T n.writes.0 n.writes.1)))

  stale_sound : (U : Part) → Contains Q.parts U → is_stale_place Q U ≡ true → IsStalePlace Q U
  stale_sound U at e = by (last_write U.accesses) refl s.1
    where
      s : (is_committed U.status ≡ true) × (is_returned Q.parts U (last_write U.accesses) ≡ true)
      s = and_parts (is_committed U.status) (is_returned Q.parts U (last_write U.accesses)) e

      by : (o : Option Value) → last_write U.accesses ≡ o → is_returned Q.parts U o ≡ true → IsStalePlace Q U
      by None l f = cc
      by (Some v) l f =
          let commit = committed_is U.status s.0 in
          let t = any_is (returns_free U v) Q.parts f in
          let both = and_parts (not (same_id t.0.id U.id)) (list_any (λ a. is_free_read t.0 a && returns v a.access) t.0.accesses) t.2 in
          let a = any_is (λ a. is_free_read t.0 a && returns v a.access) t.0.accesses both.1 in
          let free = and_parts (is_free_read t.0 a.0) (returns v a.0.access) a.2 in
          let g = free_is t.0 a.0 t.1 a.1 free.0 in
          record {
            part = at;
            commit = commit.0;
            committed = commit.1;
            value = v;
            final = (last_is_final Q U v h at).0 l;
            reader = t.0;
            place = a.0.place;
            other = others t.0.id U.id both.0;
            free = record {
              read = record { part = t.1; committed = g.1.read.committed; returned = at_place t.0.accesses a.0 (access.Read (Some v)) a.1 (returned_is v a.0.access free.1) };
              free = g.1.free;
            };
          }

  stale_complete : (U : Part) → Contains Q.parts U → IsStalePlace Q U → is_stale_place Q U ≡ true
  stale_complete U at p =
      let T = p.reader in
      let a : Placed = record { place = p.place; access = access.Read (Some p.value) } in
      let returned = any_from (returns_free U p.value) Q.parts T p.free.read.part
      (and_from (not (same_id T.id U.id)) (list_any (λ a. is_free_read T a && returns p.value a.access) T.accesses) (others_from T.id U.id p.other)
      (any_from (λ a. is_free_read T a && returns p.value a.access) T.accesses a p.free.read.returned
      (and_from (is_free_read T a) (returns p.value a.access) (free_from T p.place (Some p.value) p.free) ((value_is (Some p.value) p.value).1 refl)))) in
      and_from (is_committed U.status) (is_returned Q.parts U (last_write U.accesses)) (committed_from U.status p.commit p.committed)
      (ap (is_returned Q.parts U) ((last_is_final Q U p.value h at).1 p.final) ∙ returned)

pub places_exact : (Q : OnKey) → IsOfHistory Q → ListsPlaces Q
places_exact Q h = record {
  own = reads_listed Q h is_own_place (IsOwnPlace Q) (own_sound Q h) (own_complete Q h);
  aborted = writers_listed Q h is_aborted_place (IsAbortedPlace Q) (aborted_sound Q h) (aborted_complete Q h);
  intermediate = reads_listed Q h is_intermediate_place (IsIntermediatePlace Q) (intermediate_sound Q h) (intermediate_complete Q h);
  future = reads_listed Q h is_future_place (IsFuturePlace Q) (future_sound Q h) (future_complete Q h);
  stale = writers_listed Q h is_stale_place (IsStalePlace Q) (stale_sound Q h) (stale_complete Q h);
  overlap = writers_listed Q h is_overlap_place (IsOverlapPlace Q) (overlap_sound Q h) (overlap_complete Q h);
}
