-- The reads, the writes and the version of a transaction are what they're called.
use Rattle.std.proofs.Common.{◌≡◌, ◌∙◌, ◌⊎◌, inl, inr, ◌↔◌, ℕ, true, List, ◌∷◌, ◌++◌, Option, Some, None, refl, sym, ap, ap₂, subst}
use Rattle.std.specs.List.{Contains}
use Rattle.std.proofs.lemmas.List.Elements.{Contains-append_cases, Contains-append_left, Contains-append_right}
use Rattle.si_lists.proofs.Members.{same_some, Contains-nil, here, there, Contains-cons_cases, Contains-filter_map, Contains-from_filter, Contains-from_filter_map}
use Rattle.si_model.specs.declared.numbers.Stamp.{Stamp}
use Rattle.si_model.specs.declared.numbers.Value.{Value}
use Rattle.si_model.specs.declared.transactions.Status.TheVariants as status
use Rattle.si_model.specs.declared.parts.Access.{Access}
use Rattle.si_model.specs.declared.parts.Access.TheVariants as access
use Rattle.si_model.specs.declared.parts.Part.{Part}
use Rattle.si_model.specs.declared.parts.OnKey.{OnKey}
use Rattle.si_model.specs.declared.sights.Installer.{Installer}
use Rattle.si_model.specs.Versions.{WritesAt, Installs, commit_of, last_write, written}
use Rattle.si_model.specs.Reads.{own_value}
use Rattle.si_model.specs.History.{IsOfHistory}
use Rattle.si_model.proofs.Histories.{one_part}
use Rattle.si_model.proofs.LastWrites.{commit_is, last_written, some_last}
use Rattle.si_timeline.specs.Timelines.{Adds, Dated}
use Rattle.si_timeline.specs.declared.versions.Version.{Version}
use Rattle.si_judge.specs.declared.reads.KeptRead.{KeptRead}
use Rattle.si_judge.specs.declared.reads.Write.{Write}
use Rattle.si_judge.specs.Indexes.{kept_read_of, read_by, read_at, reads_by, reads_in, write_of, write_by, write_at, writes_of, is_other, other_writes_of, version_with, version_by}
use Rattle.si_judge.specs.Mending.{installer}
use Rattle.si_judge.proofs.IndexEdits.{IsApart}

-- ---- writes

by_write : (T : Part) (i : ℕ) (a : Access) (p : Value × Write) → write_by T i (written a) ≡ Some p → (v : Value) × (a ≡ access.Write v) × (write_of T i v ≡ p)
by_write T i (access.Read v) p e = absurd (let s : None ≡ Some p = e in no_pair p s)
  where
    no_pair : {Y : Type 0} (y : Y) → None ≡ Some y → ⊥
    no_pair y e = cc
by_write T i (access.Write v) p e = (v, refl, same_some e)

pub write_from : (T : Part) (v : Value) (w : Write) → Contains (writes_of T) (v, w) → (i : ℕ) × WritesAt T i v × (write_of T i v ≡ (v, w))
write_from T v w c =
    let a = Contains-from_filter_map (write_at T) T.accesses (v, w) c in
    let b = by_write T a.0.place a.0.access (v, w) a.2 in
    let e : b.0 ≡ v = ap (λ p. p.0) b.2 in
    (a.0.place, subst (λ x. Contains T.accesses (record { place = a.0.place; access = x })) (b.1 ∙ ap access.Write e) a.1, subst (λ x. write_of T a.0.place x ≡ (v, w)) e b.2)

pub write_to : (T : Part) (i : ℕ) (v : Value) → WritesAt T i v → Contains (writes_of T) (write_of T i v)
write_to T i v c = Contains-filter_map (write_at T) T.accesses (record { place = i; access = access.Write v }) (write_of T i v) c refl

pub writes_are_apart : (Q : OnKey) → IsOfHistory Q → IsApart writes_of Q.parts
writes_are_apart Q h A B v x y a b c d =
    let i = write_from A v x c in
    let j = write_from B v y d in
    let same = h.writes A B i.0 j.0 v a b i.1 j.1 in
    let part = one_part Q h A B a b same.0 in
    (part, sym (ap (λ p. p.1) i.2) ∙ ap₂ (λ (T : Part) (k : ℕ). (write_of T k v).1) part same.1 ∙ ap (λ p. p.1) j.2)

-- ---- those that installed no version

pub other_from : (T : Part) (v : Value) (w : Write) → Contains (other_writes_of T) (v, w) → Contains (writes_of T) (v, w) × (is_other w.fate ≡ true)
other_from T v w c = Contains-from_filter (λ x. is_other x.1.fate) (writes_of T) (v, w) c

pub others_are_apart : (Q : OnKey) → IsOfHistory Q → IsApart other_writes_of Q.parts
others_are_apart Q h A B v x y a b c d = writes_are_apart Q h A B v x y a b (other_from A v x c).0 (other_from B v y d).0

-- ---- reads

pub by_read : (T : Part) (i : ℕ) (a : Access) (p : KeptRead × Option Value) → read_by T i a ≡ Some p → (v : Option Value) × (a ≡ access.Read v) × ((kept_read_of T i v, own_value T i) ≡ p)
by_read T i (access.Read v) p e = (v, refl, same_some e)
by_read T i (access.Write v) p e = absurd (no_pair p e)
  where
    no_pair : {Y : Type 0} (y : Y) → None ≡ Some y → ⊥
    no_pair y e = cc

-- T is committed, and the read is the one at a place of its
pub record IsReadAt (T : Part) (p : KeptRead × Option Value) : Type 0 where
  pub commit : Stamp
  pub committed : T.status ≡ status.Committed commit
  pub place : ℕ
  pub value : Option Value
  pub returned : Contains T.accesses (record { place = place; access = access.Read value })
  pub is : (kept_read_of T place value, own_value T place) ≡ p

pub read_from : (T : Part) (p : KeptRead × Option Value) → Contains (reads_in T) p → IsReadAt T p
unfolding reads_in
read_from T p c = by (commit_of T.status) refl c
  where
    by : (o : Option Stamp) → commit_of T.status ≡ o → Contains (reads_by T o) p → IsReadAt T p
    by None e c = absurd (Contains-nil p c)
    by (Some k) e c =
        let a = Contains-from_filter_map (read_at T) T.accesses p c in
        let b = by_read T a.0.place a.0.access p a.2 in
        record {
          commit = k;
          committed = commit_is T.status k e;
          place = a.0.place;
          value = b.0;
          returned = subst (λ x. Contains T.accesses (record { place = a.0.place; access = x })) b.1 a.1;
          is = b.2;
        }

pub read_to : (T : Part) (c : Stamp) (i : ℕ) (v : Option Value) → T.status ≡ status.Committed c → Contains T.accesses (record { place = i; access = access.Read v })
    → Contains (reads_in T) (kept_read_of T i v, own_value T i)
unfolding reads_in
read_to T c i v e at = subst (λ o. Contains (reads_by T o) (kept_read_of T i v, own_value T i)) (sym (ap commit_of e))
    (Contains-filter_map (read_at T) T.accesses (record { place = i; access = access.Read v }) (kept_read_of T i v, own_value T i) at refl)

pub reads_are_apart : (Q : OnKey) → IsOfHistory Q → IsApart reads_in Q.parts
reads_are_apart Q h A B r x y a b c d =
    let i = read_from A (r, x) c in
    let j = read_from B (r, y) d in
    let id : A.id ≡ B.id = ap (λ p. p.0.txn) i.is ∙ sym (ap (λ p. p.0.txn) j.is) in
    let place : i.place ≡ j.place = ap (λ p. p.0.place) i.is ∙ sym (ap (λ p. p.0.place) j.is) in
    let part = one_part Q h A B a b id in
    (part, sym (ap (λ p. p.1) i.is) ∙ ap₂ own_value part place ∙ ap (λ p. p.1) j.is)

-- ---- versions

-- T is committed and writes, and the version is the one that it installs
pub record IsVersionOf (T : Part) (d : Dated) : Type 0 where
  pub committed : T.status ≡ status.Committed d.0
  pub writer : d.1.writer ≡ T.id
  pub start : d.1.start ≡ T.start
  pub value : last_write T.accesses ≡ Some d.1.value

pub version_from : (T : Part) (d : Dated) → version_by T ≡ Some d → IsVersionOf T d
version_from T d e = by (commit_of T.status) (last_write T.accesses) refl refl e
  where
    by : (c : Option Stamp) (v : Option Value) → commit_of T.status ≡ c → last_write T.accesses ≡ v → version_with T c v ≡ Some d → IsVersionOf T d
    by None v f g e = absurd (let s : None ≡ Some d = e in none d s)
      where
        none : {Y : Type 0} (y : Y) → None ≡ Some y → ⊥
        none y e = cc
    by (Some c) None f g e = absurd (none d e)
      where
        none : {Y : Type 0} (y : Y) → None ≡ Some y → ⊥
        none y e = cc
    by (Some c) (Some v) f g e =
        let s = same_some e in
        record {
          committed = commit_is T.status c f ∙ ap (λ (x : Dated). status.Committed x.0) s;
          writer = sym (ap (λ (x : Dated). x.1.writer) s);
          start = sym (ap (λ (x : Dated). x.1.start) s);
          value = g ∙ ap (λ (x : Dated). Some x.1.value) s;
        }

pub version_to : (T : Part) (c : Stamp) (v : Value) → T.status ≡ status.Committed c → last_write T.accesses ≡ Some v
    → version_by T ≡ Some (c, record { writer = T.id; start = T.start; value = v })
version_to T c v e f = ap₂ (version_with T) (ap commit_of e) f

pub version_installs : (T : Part) (d : Dated) → version_by T ≡ Some d → Installs T (installer d)
version_installs T d e = let v = version_from T d e in record { txn = v.writer; start = v.start; committed = v.committed; writes = (d.1.value, last_written T d.1.value v.value) }

pub installs_version : (T : Part) (n : Installer) → Installs T n → (d : Dated) × (version_by T ≡ Some d) × (installer d ≡ n)
installs_version T n i =
    let w = some_last T i.writes.0 i.writes.1 in (
      (n.commit, record { writer = T.id; start = T.start; value = w.0 }),
      version_to T n.commit w.0 i.committed w.1,
      λ k. record { txn = sym i.txn k; start = sym i.start k; commit = n.commit },
    )

-- ---- the timeline

pub added_are : (c : Stamp) (v : Version) (old new : List Dated) → Adds c v old new → (d : Dated) → Contains new d ↔ (Contains old d ⊎ (d ≡ (c, v)))
added_are c v old new adds d = (
  (λ m. elim (Contains-append_cases adds.0 ((c, v) ∷ adds.1) d (subst (λ l. Contains l d) adds.3 m)) [
    | inl l ↦ inl (subst (λ l. Contains l d) (sym adds.2) (Contains-append_left adds.0 adds.1 d l))
    | inr r ↦ elim (Contains-cons_cases (c, v) adds.1 d r) [
      | inl e ↦ inr (sym e)
      | inr s ↦ inl (subst (λ l. Contains l d) (sym adds.2) (Contains-append_right adds.0 adds.1 d s))
    ]
  ]),
  (λ m. subst (λ l. Contains l d) (sym adds.3) (elim m [
    | inl o ↦ elim (Contains-append_cases adds.0 adds.1 d (subst (λ l. Contains l d) adds.2 o)) [
      | inl l ↦ Contains-append_left adds.0 ((c, v) ∷ adds.1) d l
      | inr r ↦ Contains-append_right adds.0 ((c, v) ∷ adds.1) d (there (c, v) adds.1 d r)
    ]
    | inr e ↦ subst (Contains (adds.0 ++ (c, v) ∷ adds.1)) (sym e) (Contains-append_right adds.0 ((c, v) ∷ adds.1) (c, v) (here (c, v) adds.1))
  ])),
)
