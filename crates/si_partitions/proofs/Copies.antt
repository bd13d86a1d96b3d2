-- Reads of a key are judged alike where its operations are numbered anew in the same order.
use Rattle.std.proofs.Common.{◌≡◌, inl, inr, ℕ, ◌<◌, ◌≤◌, Bool, true, false, nat_lt, Option, Some, None, refl, sym, ap, subst, ◌∙◌, arith, cond}
use Rattle.std.specs.List.{Contains}
use Rattle.std.specs.Option.{option_eq}
use Rattle.std.proofs.lemmas.Bool.{cases_lt}
use Rattle.si_lists.proofs.Members.{same_some}
use Rattle.si_model.specs.declared.numbers.TxnId.{TxnId}
use Rattle.si_model.specs.declared.numbers.Stamp.{Stamp}
use Rattle.si_model.specs.declared.numbers.Value.{Value}
use Rattle.si_model.specs.declared.parts.Access.{Access}
use Rattle.si_model.specs.declared.parts.Access.TheVariants as access
use Rattle.si_model.specs.declared.parts.Part.{Part}
use Rattle.si_model.specs.declared.parts.OnKey.{OnKey}
use Rattle.si_model.specs.declared.sights.Installer.{Installer}
use Rattle.si_model.specs.declared.sights.VersionId.{VersionId}
use Rattle.si_model.specs.declared.sights.Source.{Source}
use Rattle.si_model.specs.declared.sights.Source.TheVariants as source
use Rattle.si_model.specs.declared.sights.Sight.{Sight}
use Rattle.si_model.specs.declared.kinds.Kind.{Kind}
use Rattle.si_model.specs.declared.kinds.Kind.TheVariants as kind
use Rattle.si_model.specs.Operations.{same_value}
use Rattle.si_model.specs.Versions.{WritesAt, IsFinalWrite, IsInstaller, IsNext}
use Rattle.si_model.specs.Reads.{IsOwnValue, WritesLater, IsWriter, IsSource, version_of, IsMissedOf, IsSight, own_value, writes_later, judged_by_next, judged_by_source, judged_by_own, kind_of}
use Rattle.si_model.specs.Findings.{cases, IsOfPair}
use Rattle.si_model.specs.History.{IsOfHistory}
use Rattle.si_model.proofs.LastWrites.{later_are, own_is_last}
use Rattle.si_model.proofs.ReadChanges.{same_option}

-- ---- a transaction's operations on the key, numbered anew

-- T's access at the place i
abbrev pub Accesses : Part → ℕ → Access → Type 0
Accesses T i a = Contains T.accesses (record { place = i; access = a })

-- U is T, each of its places renamed, in the same order
pub record IsCopy (r : ℕ → ℕ) (T U : Part) : Type 0 where
  pub id : U.id ≡ T.id
  pub start : U.start ≡ T.start
  pub status : U.status ≡ T.status
  pub to : (i : ℕ) (a : Access) → Accesses T i a → Accesses U (r i) a
  pub from : (j : ℕ) (a : Access) → Accesses U j a → (i : ℕ) × (j ≡ r i) × Accesses T i a
  pub rises : (i j : ℕ) (a b : Access) → Accesses T i a → Accesses T j b → i < j → r i < r j

module _ (r : ℕ → ℕ) (T U : Part) (c : IsCopy r T U) where
  no_less : (i j : ℕ) (a b : Access) → Accesses T i a → Accesses T j b → r i < r j → i < j
  no_less i j a b at bt less = elim (cases_lt i j) [
    | inl l ↦ l
    | inr ge ↦ elim (cases_lt j i) [
      | inl l ↦ (let more = c.rises j i b a bt at l in absurd (omega arith))
      | inr le ↦ (let same : i ≡ j = omega arith in let wrong = subst (λ k. r k < r j) same less in absurd (omega arith))
    ]
  ]

  no_more : (i j : ℕ) (a b : Access) → Accesses T i a → Accesses T j b → i ≤ j → r i ≤ r j
  no_more i j a b at bt le = elim (cases_lt i j) [
    | inl l ↦ (let less = c.rises i j a b at bt l in omega arith)
    | inr ge ↦ (let same : i ≡ j = omega arith in subst (λ k. r i ≤ r k) same (omega arith))
  ]

  no_greater : (i j : ℕ) (a b : Access) → Accesses T i a → Accesses T j b → r i ≤ r j → i ≤ j
  no_greater i j a b at bt le = elim (cases_lt j i) [
    | inl l ↦ (let more = c.rises j i b a bt at l in absurd (omega arith))
    | inr ge ↦ ge
  ]

  writes_to : (i : ℕ) (v : Value) → WritesAt T i v → WritesAt U (r i) v
  writes_to i v w = c.to i (access.Write v) w

  writes_from : (j : ℕ) (v : Value) → WritesAt U j v → (i : ℕ) × (j ≡ r i) × WritesAt T i v
  writes_from j v w = c.from j (access.Write v) w

  final_to : (v : Value) → IsFinalWrite T v → IsFinalWrite U v
  final_to v f = record {
    place = r f.place;
    is = writes_to f.place v f.is;
    last = λ j w a. let g = writes_from j w a in
        subst (λ k. k ≤ r f.place) (sym g.1) (no_more g.0 f.place (access.Write w) (access.Write v) g.2 f.is (f.last g.0 w g.2));
  }

  final_back : (v : Value) → IsFinalWrite U v → IsFinalWrite T v
  final_back v f = let p = writes_from f.place v f.is in record {
    place = p.0;
    is = p.2;
    last = λ j w a. no_greater j p.0 (access.Write w) (access.Write v) a p.2 (subst (λ k. r j ≤ k) p.1 (f.last (r j) w (writes_to j w a)));
  }

  -- at an access of T
  module _ (i : ℕ) (a : Access) (at : Accesses T i a) where
    own_to : (w : Value) → IsOwnValue T i w → IsOwnValue U (r i) w
    own_to w o = record {
      place = r o.place;
      before = c.rises o.place i (access.Write w) a o.is at o.before;
      is = writes_to o.place w o.is;
      last = λ j u b l. let g = writes_from j u b in
          subst (λ k. k ≤ r o.place) (sym g.1) (no_more g.0 o.place (access.Write u) (access.Write w) g.2 o.is
          (o.last g.0 u g.2 (no_less g.0 i (access.Write u) a g.2 at (subst (λ k. k < r i) g.1 l))));
    }

    own_back : (w : Value) → IsOwnValue U (r i) w → IsOwnValue T i w
    own_back w o = let p = writes_from o.place w o.is in record {
      place = p.0;
      before = no_less p.0 i (access.Write w) a p.2 at (subst (λ k. k < r i) p.1 o.before);
      is = p.2;
      last = λ j u b l. no_greater j p.0 (access.Write u) (access.Write w) b p.2
          (subst (λ k. r j ≤ k) p.1 (o.last (r j) u (writes_to j u b) (c.rises j i (access.Write u) a b at l)));
    }

    later_to : (v : Value) → WritesLater T i v → WritesLater U (r i) v
    later_to v l = (r l.0, c.rises i l.0 a (access.Write v) at l.2 l.1, writes_to l.0 v l.2)

    later_back : (v : Value) → WritesLater U (r i) v → WritesLater T i v
    later_back v l = let p = writes_from l.0 v l.2 in (p.0, no_less i p.0 a (access.Write v) at p.2 (subst (λ k. r i < k) p.1 l.1), p.2)

-- ---- what is on a key

both_true : (b c : Bool) → (b ≡ true → c ≡ true) → (c ≡ true → b ≡ true) → b ≡ c
both_true true c to from = sym (to refl)
both_true false true to from = from refl
both_true false false to from = refl

-- each transaction of the one key is one of the other, numbered anew
pub record AreCopies (Q R : OnKey) : Type 0 where
  pub initial : Q.initial ≡ R.initial
  pub to : (T : Part) → Contains Q.parts T → (U : Part) × Contains R.parts U × (r : ℕ → ℕ) × IsCopy r T U
  pub from : (U : Part) → Contains R.parts U → (T : Part) × Contains Q.parts T × (r : ℕ → ℕ) × IsCopy r T U

module _ (Q R : OnKey) (c : AreCopies Q R) where
  installer_to : (n : Installer) → IsInstaller Q n → IsInstaller R n
  installer_to n i =
      let u = c.to i.0 i.1 in
      let s = i.2 in (
        u.0,
        u.1,
        record {
          txn = s.txn ∙ sym u.3.id;
          start = s.start ∙ sym u.3.start;
          committed = u.3.status ∙ s.committed;
          writes = (s.writes.0, (u.2 s.writes.1.0, writes_to u.2 i.0 u.0 u.3 s.writes.1.0 s.writes.0 s.writes.1.1));
        },
      )

  installer_back : (n : Installer) → IsInstaller R n → IsInstaller Q n
  installer_back n i =
      let t = c.from i.0 i.1 in
      let s = i.2 in
      let w = writes_from t.2 t.0 i.0 t.3 s.writes.1.0 s.writes.0 s.writes.1.1 in
      (t.0, t.1, record { txn = s.txn ∙ t.3.id; start = s.start ∙ t.3.start; committed = sym t.3.status ∙ s.committed; writes = (s.writes.0, (w.0, w.2)) })

  next_to : (a : VersionId) (n : Installer) → IsNext Q a n → IsNext R a n
  next_to a n i = record { installs = installer_to n i.installs; after = i.after; first = λ m j. i.first m (installer_back m j) }

  next_back : (a : VersionId) (n : Installer) → IsNext R a n → IsNext Q a n
  next_back a n i = record { installs = installer_back n i.installs; after = i.after; first = λ m j. i.first m (installer_to m j) }

  pub pair_to : (k : Kind) → IsOfPair cases Q k → IsOfPair cases R k
  pair_to k f = record {
    first = f.first;
    second = f.second;
    installs = installer_to f.first f.installs;
    next = next_to _ f.second f.next;
    judged = f.judged;
    is = f.is;
  }

  pub pair_back : (k : Kind) → IsOfPair cases R k → IsOfPair cases Q k
  pair_back k f = record {
    first = f.first;
    second = f.second;
    installs = installer_back f.first f.installs;
    next = next_back _ f.second f.next;
    judged = f.judged;
    is = f.is;
  }

  writer_to : (v : Value) (u : TxnId) (T U : Part) (r : ℕ → ℕ) → Contains R.parts U → IsCopy r T U → IsWriter Q v u T → IsWriter R v u U
  writer_to v u T U r at k w = record { part = at; id = w.id ∙ sym k.id; writes = (r w.writes.0, writes_to r T U k w.writes.0 v w.writes.1) }

  writer_back : (v : Value) (u : TxnId) (T U : Part) (r : ℕ → ℕ) → Contains Q.parts T → IsCopy r T U → IsWriter R v u U → IsWriter Q v u T
  writer_back v u T U r at k w = record { part = at; id = w.id ∙ k.id; writes = (let p = writes_from r T U k w.writes.0 v w.writes.1 in (p.0, p.2)) }

  source_to : (v : Option Value) (s : Source) → IsSource Q v s → IsSource R v s
  source_to v source.Initial i = i ∙ c.initial
  source_to v source.Missing i = (
    λ e. i.0 (e ∙ sym c.initial),
    λ w U e at b. let t = c.from U at in let p = writes_from t.2 t.0 U t.3 b.0 w b.1 in i.1 w t.0 e t.1 (p.0, p.2),
  )
  source_to v (source.InDoubt u) i = let b = c.to i.1 i.3.part in (i.0, b.0, i.2, writer_to i.0 u i.1 b.0 b.2 b.1 b.3 i.3, b.3.status ∙ i.4)
  source_to v (source.Aborted u) i = let b = c.to i.1 i.3.part in (i.0, b.0, i.2, writer_to i.0 u i.1 b.0 b.2 b.1 b.3 i.3, b.3.status ∙ i.4)
  source_to v (source.Earlier u) i = let b = c.to i.1 i.3.part in
      (i.0, b.0, i.2, writer_to i.0 u i.1 b.0 b.2 b.1 b.3 i.3, (i.4.0, b.3.status ∙ i.4.1), λ f. i.5 (final_back b.2 i.1 b.0 b.3 i.0 f))
  source_to v (source.Installed u d) i = let b = c.to i.1 i.3.part in
      (i.0, b.0, i.2, writer_to i.0 u i.1 b.0 b.2 b.1 b.3 i.3, b.3.status ∙ i.4, final_to b.2 i.1 b.0 b.3 i.0 i.5)

  source_back : (v : Option Value) (s : Source) → IsSource R v s → IsSource Q v s
  source_back v source.Initial i = i ∙ sym c.initial
  source_back v source.Missing i = (
    λ e. i.0 (e ∙ c.initial),
    λ w T e at b. let u = c.to T at in i.1 w u.0 e u.1 (u.2 b.0, writes_to u.2 T u.0 u.3 b.0 w b.1),
  )
  source_back v (source.InDoubt u) i = let b = c.from i.1 i.3.part in (i.0, b.0, i.2, writer_back i.0 u b.0 i.1 b.2 b.1 b.3 i.3, sym b.3.status ∙ i.4)
  source_back v (source.Aborted u) i = let b = c.from i.1 i.3.part in (i.0, b.0, i.2, writer_back i.0 u b.0 i.1 b.2 b.1 b.3 i.3, sym b.3.status ∙ i.4)
  source_back v (source.Earlier u) i = let b = c.from i.1 i.3.part in
      (i.0, b.0, i.2, writer_back i.0 u b.0 i.1 b.2 b.1 b.3 i.3, (i.4.0, sym b.3.status ∙ i.4.1), λ f. i.5 (final_to b.2 b.0 i.1 b.3 i.0 f))
  source_back v (source.Installed u d) i = let b = c.from i.1 i.3.part in
      (i.0, b.0, i.2, writer_back i.0 u b.0 i.1 b.2 b.1 b.3 i.3, sym b.3.status ∙ i.4, final_back b.2 b.0 i.1 b.3 i.0 i.5)

  missed_to : (start : Stamp) (a : Option VersionId) (n : Option Installer) → IsMissedOf Q start a n → IsMissedOf R start a n
  missed_to start None n i = i
  missed_to start (Some a) None i = λ n next. i n (next_back a n next)
  missed_to start (Some a) (Some n) i = (next_to a n i.0, i.1)

  missed_back : (start : Stamp) (a : Option VersionId) (n : Option Installer) → IsMissedOf R start a n → IsMissedOf Q start a n
  missed_back start None n i = i
  missed_back start (Some a) None i = λ n next. i n (next_to a n next)
  missed_back start (Some a) (Some n) i = (next_back a n i.0, i.1)

  -- ---- what is seen

  module _ (g : IsOfHistory Q) (h : IsOfHistory R) (r : ℕ → ℕ) (T U : Part) (k : IsCopy r T U) (t : Contains Q.parts T) (u : Contains R.parts U) (i : ℕ) (v : Option Value) (at : Accesses T i (access.Read v)) where
    own_same : own_value T i ≡ own_value U (r i)
    own_same = same_option (own_value T i) (own_value U (r i))
        (λ w e. (own_is_last R U (r i) w h u).1 (own_to r T U k i (access.Read v) at w ((own_is_last Q T i w g t).0 e)))
        (λ w e. (own_is_last Q T i w g t).1 (own_back r T U k i (access.Read v) at w ((own_is_last R U (r i) w h u).0 e)))

    later_same : writes_later T i v ≡ writes_later U (r i) v
    later_same = both_true (writes_later T i v) (writes_later U (r i) v)
        (λ e. let l = (later_are T i v).0 e in (later_are U (r i) v).1 (l.0, l.1, later_to r T U k i (access.Read v) at l.0 l.2))
        (λ e. let l = (later_are U (r i) v).0 e in (later_are T i v).1 (l.0, l.1, later_back r T U k i (access.Read v) at l.0 l.2))

    pub sight_to : (s : Sight) → IsSight Q T i v s → IsSight R U (r i) v (record s { op = r i })
    sight_to s is = record {
      txn = is.txn ∙ sym k.id;
      op = refl;
      start = is.start ∙ sym k.start;
      read = is.read;
      own = is.own ∙ own_same;
      later = is.later ∙ later_same;
      from = source_to v s.source is.from;
      missed = subst (λ w. IsMissedOf R w (version_of s.source) s.missed) (sym k.start) (missed_to T.start (version_of s.source) s.missed is.missed);
    }

    pub sight_back : (s : Sight) → IsSight R U (r i) v s → IsSight Q T i v (record s { op = i })
    sight_back s is = record {
      txn = is.txn ∙ k.id;
      op = refl;
      start = is.start ∙ k.start;
      read = is.read;
      own = is.own ∙ sym own_same;
      later = is.later ∙ sym later_same;
      from = source_back v s.source is.from;
      missed = subst (λ w. IsMissedOf Q w (version_of s.source) s.missed) k.start (missed_back U.start (version_of s.source) s.missed is.missed);
    }

-- ---- kinds with another number of the operation

abbrev pub with_op : ℕ → Kind → Kind
with_op j (kind.Unknown t i v) = kind.Unknown t j v
with_op j (kind.Doubt t i v u) = kind.Doubt t j v u
with_op j (kind.Own t i v w) = kind.Own t j v w
with_op j (kind.Aborted t i v u) = kind.Aborted t j v u
with_op j (kind.Intermediate t i v u) = kind.Intermediate t j v u
with_op j (kind.Future t i v u) = kind.Future t j v u
with_op j (kind.Stale t i v n) = kind.Stale t j v n
with_op j (kind.Overlap a b) = kind.Overlap a b

module _ (s : Sight) (j : ℕ) where
  abbrev moved : Sight
  moved = record s { op = j }

  next_with : (o : Option Installer) (k : Kind) → judged_by_next s o ≡ Some k → judged_by_next moved o ≡ Some (with_op j k)
  next_with None k e = cc
  next_with (Some n) k e = ap (λ l. Some (with_op j l)) (same_some e)

  source_with : (from : Source) (k : Kind) → judged_by_source s from ≡ Some k → judged_by_source moved from ≡ Some (with_op j k)
  source_with source.Missing k e = ap (λ l. Some (with_op j l)) (same_some e)
  source_with (source.InDoubt u) k e = ap (λ l. Some (with_op j l)) (same_some e)
  source_with (source.Aborted u) k e = ap (λ l. Some (with_op j l)) (same_some e)
  source_with (source.Earlier u) k e = ap (λ l. Some (with_op j l)) (same_some e)
  source_with source.Initial k e = next_with s.missed k e
  source_with (source.Installed u c) k e = by (nat_lt s.start.0 c.0) e
    where
      by : (b : Bool) → cond b (Some (kind.Future s.txn s.op s.read u)) (judged_by_next s s.missed) ≡ Some k
          → cond b (Some (kind.Future s.txn j s.read u)) (judged_by_next moved s.missed) ≡ Some (with_op j k)
      by true f = ap (λ l. Some (with_op j l)) (same_some f)
      by false f = next_with s.missed k f

  own_with : (o : Option Value) (later : Bool) (k : Kind) → judged_by_own s o later ≡ Some k → judged_by_own moved o later ≡ Some (with_op j k)
  own_with (Some w) later k e = by (option_eq same_value s.read (Some w)) e
    where
      by : (b : Bool) → cond b None (Some (kind.Own s.txn s.op s.read (Some w))) ≡ Some k → cond b None (Some (kind.Own s.txn j s.read (Some w))) ≡ Some (with_op j k)
      by true f = cc
      by false f = ap (λ l. Some (with_op j l)) (same_some f)
  own_with None true k e = ap (λ l. Some (with_op j l)) (same_some e)
  own_with None false k e = source_with s.source k e

  pub kind_with : (k : Kind) → kind_of s ≡ Some k → kind_of moved ≡ Some (with_op j k)
  unfolding kind_of
  kind_with k e = own_with s.own s.later k e
