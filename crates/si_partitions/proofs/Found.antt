-- The findings on the keys of a partition are those of the partition, where operations count anew.
use Rattle.std.proofs.Common.{◌≡◌, inl, inr, ℕ, true, List, Some, refl, sym, ap, subst, ◌∙◌, slice_get}
use Rattle.std.specs.List.{Contains, filter}
use Rattle.si_lists.proofs.Members.{same_some, Contains-map, Contains-from_map}
use Rattle.si_model.specs.declared.operations.Op.{Op}
use Rattle.si_model.specs.declared.transactions.Txn.{Txn}
use Rattle.si_model.specs.declared.parts.Access.{Access}
use Rattle.si_model.specs.declared.parts.Access.TheVariants as access
use Rattle.si_model.specs.declared.parts.Part.{Part}
use Rattle.si_model.specs.declared.kinds.Kind.{Kind}
use Rattle.si_model.specs.declared.kinds.Kind.TheVariants as kind
use Rattle.si_model.specs.Findings.{cases, IsOfPair, IsFoundOn}
use Rattle.si_model.specs.History.{IsHistory}
use Rattle.si_model.specs.Laws.{IsPartOf}
use Rattle.si_model.specs.Operations.{key_of, access_of}
use Rattle.si_model.specs.Parts.{Present, accesses, on_key}
use Rattle.si_model.specs.Reads.{IsSight}
use Rattle.si_model.proofs.Exact.{findings_exact}
use Rattle.si_model.proofs.Histories.{key_of_history}
use Rattle.si_model.proofs.KeyParts.{accesses_are, parts_are}
use Rattle.si_model.proofs.ReadChanges.{read_of, kind_read}
use Rattle.si_partitions.specs.declared.partitions.Partition.{Partition}
use Rattle.si_partitions.specs.Laws.{PartitionsFind}
use Rattle.si_partitions.specs.Partitions.{has_key, has_op, place_in, projected, IsPartition, IsRenumbered}
use Rattle.si_partitions.proofs.Copies.{Accesses, IsCopy, AreCopies, pair_to, pair_back, sight_to, sight_back, with_op, kind_with}
use Rattle.si_partitions.proofs.Ranks.{at_rank, from_rank, ranks_rise}

-- ---- transactions of the partition

module _ (p : Partition) (P Q : Present) (part : IsPartition p P Q) where
  from : (U : Txn) → Contains Q.txns U → (T : Txn) × Contains P.txns T × (projected p T ≡ U)
  from U c = Contains-from_map (projected p) P.txns U (subst (λ txns. Contains txns U) part.txns c)

  went : (T : Txn) → Contains P.txns T → Contains Q.txns (projected p T)
  went T c = subst (λ txns. Contains txns (projected p T)) (sym part.txns) (Contains-map (projected p) P.txns T c)

-- ---- what is on a key of the partition

module _ (p : Partition) (x : List ℕ) (has : has_key p x ≡ true) where
  has_of : (o : Op) → key_of o ≡ x → has_op p o ≡ true
  has_of o key = ap (has_key p) key ∙ has

  module _ (S : Txn) (T : Part) (is : IsPartOf x S T) where
    at_place : (i : ℕ) (a : Access) → Accesses T i a → (o : Op) × (slice_get S.ops i ≡ Some o) × (key_of o ≡ x) × (access_of o ≡ a)
    at_place i a c = (accesses_are x S.ops (record { place = i; access = a })).0 (subst (λ ys. Contains ys (record { place = i; access = a })) is.accesses c)

    abbrev copy : Part
    copy = record { id = S.id; start = S.start; status = S.status; accesses = accesses x (filter (has_op p) S.ops) }

    copy_to : (i : ℕ) (a : Access) → Accesses T i a → Accesses copy (place_in p S.ops i) a
    copy_to i a c = let f = at_place i a c in
        (accesses_are x (filter (has_op p) S.ops) (record { place = place_in p S.ops i; access = a })).1
        (f.0, at_rank (has_op p) S.ops i f.0 f.1 (has_of f.0 f.2), f.2, f.3)

    copy_from : (j : ℕ) (a : Access) → Accesses copy j a → (i : ℕ) × (j ≡ place_in p S.ops i) × Accesses T i a
    copy_from j a c =
        let f = (accesses_are x (filter (has_op p) S.ops) (record { place = j; access = a })).0 c in
        let g = from_rank (has_op p) S.ops j f.0 f.1 in (
          g.0,
          g.2,
          subst (λ ys. Contains ys (record { place = g.0; access = a })) (sym is.accesses)
              ((accesses_are x S.ops (record { place = g.0; access = a })).1 (f.0, g.1, f.2, f.3)),
        )

    is_copy : IsCopy (place_in p S.ops) T copy
    is_copy = record {
      id = sym is.id;
      start = sym is.start;
      status = sym is.status;
      to = copy_to;
      from = copy_from;
      rises = λ i j a b at bt l. let f = at_place i a at in ranks_rise (has_op p) S.ops i j f.0 f.1 (has_of f.0 f.2) l;
    }

    copy_is_part : IsPartOf x (projected p S) copy
    copy_is_part = record { id = refl; start = refl; status = refl; accesses = refl; some = (record { place = place_in p S.ops is.some.0.place; access = is.some.0.access }, copy_to is.some.0.place is.some.0.access is.some.1) }

  -- a transaction that is on the key in the partition is on it
  module _ (S : Txn) (U : Part) (is : IsPartOf x (projected p S) U) where
    abbrev whole : Part
    whole = record { id = S.id; start = S.start; status = S.status; accesses = accesses x S.ops }

    whole_is_part : IsPartOf x S whole
    whole_is_part =
        let a = is.some.0 in
        let f = (accesses_are x (filter (has_op p) S.ops) a).0 (subst (λ ys. Contains ys a) is.accesses is.some.1) in
        let g = from_rank (has_op p) S.ops a.place f.0 f.1 in
        record {
          id = refl;
          start = refl;
          status = refl;
          accesses = refl;
          some = (record { place = g.0; access = a.access }, (accesses_are x S.ops (record { place = g.0; access = a.access })).1 (f.0, g.1, f.2, f.3));
        }

    copy_is : copy S whole whole_is_part ≡ U
    copy_is = λ i. record { id = sym is.id i; start = sym is.start i; status = sym is.status i; accesses = sym is.accesses i }

  module _ (P Q : Present) (part : IsPartition p P Q) where
    are_copies : AreCopies (on_key x P) (on_key x Q)
    are_copies = record {
      initial = sym (part.own x has);
      to = λ T c.
          (let f = (parts_are x P.txns T).0 c in
          let U = copy f.0 T f.2 in
          (U, (parts_are x Q.txns U).1 (projected p f.0, went p P Q part f.0 f.1, copy_is_part f.0 T f.2), place_in p f.0.ops, is_copy f.0 T f.2));
      from = λ U c.
          (let f = (parts_are x Q.txns U).0 c in
          let s = from p P Q part f.0 f.1 in
          let is = subst (λ V. IsPartOf x V U) (sym s.2) f.2 in
          let w = whole_is_part s.0 U is in (
            whole s.0 U is,
            (parts_are x P.txns (whole s.0 U is)).1 (s.0, s.1, w),
            place_in p s.0.ops,
            subst (IsCopy (place_in p s.0.ops) (whole s.0 U is)) (copy_is s.0 U is) (is_copy s.0 (whole s.0 U is) w),
          ));
    }

-- what is found on a key is found on one that the partition has
module _ (p : Partition) (P Q : Present) (part : IsPartition p P Q) (x : List ℕ) where
  has_part : (U : Part) → Contains (on_key x Q).parts U → has_key p x ≡ true
  has_part U c =
      let f = (parts_are x Q.txns U).0 c in
      let s = from p P Q part f.0 f.1 in
      let is = subst (λ V. IsPartOf x V U) (sym s.2) f.2 in
      let a = is.some.0 in
      let o = (accesses_are x (filter (has_op p) s.0.ops) a).0 (subst (λ ys. Contains ys a) is.accesses is.some.1) in
      let g = from_rank (has_op p) s.0.ops a.place o.0 o.1 in
      sym (ap (has_key p) o.2) ∙ g.3

  has_found : (j : Kind) → IsFoundOn cases (on_key x Q) j → has_key p x ≡ true
  has_found j (inl f) = has_part f.part f.returned.part
  has_found j (inr f) = has_part f.installs.0 f.installs.1

-- ---- renumbered kinds

module _ (p : Partition) (P : Present) (S : Txn) (at : Contains P.txns S) (i : ℕ) where
  renumbered : (k : Kind) → read_of k ≡ Some (S.id, i) → IsRenumbered p P k (with_op (place_in p S.ops i) k)
  renumbered (kind.Unknown t j v) e = (S, at, sym (ap (λ q. q.0) (same_some e)), ap (λ n. kind.Unknown t (place_in p S.ops n) v) (sym (ap (λ q. q.1) (same_some e))))
  renumbered (kind.Doubt t j v u) e = (S, at, sym (ap (λ q. q.0) (same_some e)), ap (λ n. kind.Doubt t (place_in p S.ops n) v u) (sym (ap (λ q. q.1) (same_some e))))
  renumbered (kind.Own t j v w) e = (S, at, sym (ap (λ q. q.0) (same_some e)), ap (λ n. kind.Own t (place_in p S.ops n) v w) (sym (ap (λ q. q.1) (same_some e))))
  renumbered (kind.Aborted t j v u) e = (S, at, sym (ap (λ q. q.0) (same_some e)), ap (λ n. kind.Aborted t (place_in p S.ops n) v u) (sym (ap (λ q. q.1) (same_some e))))
  renumbered (kind.Intermediate t j v u) e = (S, at, sym (ap (λ q. q.0) (same_some e)), ap (λ n. kind.Intermediate t (place_in p S.ops n) v u) (sym (ap (λ q. q.1) (same_some e))))
  renumbered (kind.Future t j v u) e = (S, at, sym (ap (λ q. q.0) (same_some e)), ap (λ n. kind.Future t (place_in p S.ops n) v u) (sym (ap (λ q. q.1) (same_some e))))
  renumbered (kind.Stale t j v n) e = (S, at, sym (ap (λ q. q.0) (same_some e)), ap (λ m. kind.Stale t (place_in p S.ops m) v n) (sym (ap (λ q. q.1) (same_some e))))
  renumbered (kind.Overlap a b) e = refl

  renumbered_back : (j : Kind) → read_of j ≡ Some (S.id, place_in p S.ops i) → IsRenumbered p P (with_op i j) j
  renumbered_back (kind.Unknown t j v) e = (S, at, sym (ap (λ q. q.0) (same_some e)), ap (λ n. kind.Unknown t n v) (ap (λ q. q.1) (same_some e)))
  renumbered_back (kind.Doubt t j v u) e = (S, at, sym (ap (λ q. q.0) (same_some e)), ap (λ n. kind.Doubt t n v u) (ap (λ q. q.1) (same_some e)))
  renumbered_back (kind.Own t j v w) e = (S, at, sym (ap (λ q. q.0) (same_some e)), ap (λ n. kind.Own t n v w) (ap (λ q. q.1) (same_some e)))
  renumbered_back (kind.Aborted t j v u) e = (S, at, sym (ap (λ q. q.0) (same_some e)), ap (λ n. kind.Aborted t n v u) (ap (λ q. q.1) (same_some e)))
  renumbered_back (kind.Intermediate t j v u) e = (S, at, sym (ap (λ q. q.0) (same_some e)), ap (λ n. kind.Intermediate t n v u) (ap (λ q. q.1) (same_some e)))
  renumbered_back (kind.Future t j v u) e = (S, at, sym (ap (λ q. q.0) (same_some e)), ap (λ n. kind.Future t n v u) (ap (λ q. q.1) (same_some e)))
  renumbered_back (kind.Stale t j v n) e = (S, at, sym (ap (λ q. q.0) (same_some e)), ap (λ m. kind.Stale t m v n) (ap (λ q. q.1) (same_some e)))
  renumbered_back (kind.Overlap a b) e = refl

-- ---- the law

module _ (p : Partition) (P Q : Present) (part : IsPartition p P Q) (h : IsHistory P) (g : IsHistory Q) (x : List ℕ) (has : has_key p x ≡ true) where
  pair_is : (k : Kind) → IsOfPair cases (on_key x P) k → IsRenumbered p P k k
  pair_is k f = subst (λ l. IsRenumbered p P l l) (sym f.is) refl

  found_to : (k : Kind) → IsFoundOn cases (on_key x P) k → (j : Kind) × IsRenumbered p P k j × IsFoundOn cases (on_key x Q) j
  found_to k (inr f) = (k, pair_is k f, inr (pair_to (on_key x P) (on_key x Q) (are_copies p x has P Q part) k f))
  found_to k (inl f) =
      let T = f.part in
      let s = (parts_are x P.txns T).0 f.returned.part in
      let S = s.0 in
      let r = place_in p S.ops in
      let c = is_copy p x has S T s.2 in
      let U = copy p x has S T s.2 in
      let u = (parts_are x Q.txns U).1 (projected p S, went p P Q part S s.1, copy_is_part p x has S T s.2) in
      let read = kind_read f.sight k f.judged ∙ ap Some (λ i. ((f.seen.txn ∙ s.2.id) i, f.seen.op i)) in (
        with_op (r f.place) k,
        renumbered p P S s.1 f.place k read,
        inl (record {
          part = U;
          place = r f.place;
          value = f.value;
          sight = record f.sight { op = r f.place };
          returned = record { part = u; committed = (f.returned.committed.0, c.status ∙ f.returned.committed.1); returned = c.to f.place (access.Read f.value) f.returned.returned };
          seen = sight_to (on_key x P) (on_key x Q) (are_copies p x has P Q part) (key_of_history P x h) (key_of_history Q x g) r T U c f.returned.part u f.place f.value f.returned.returned f.sight f.seen;
          judged = kind_with f.sight (r f.place) k f.judged;
        }),
      )

  found_from : (j : Kind) → IsFoundOn cases (on_key x Q) j → (k : Kind) × IsRenumbered p P k j × IsFoundOn cases (on_key x P) k
  found_from j (inr f) = let b = pair_back (on_key x P) (on_key x Q) (are_copies p x has P Q part) j f in (j, pair_is j b, inr b)
  found_from j (inl f) =
      let U = f.part in
      let v = (parts_are x Q.txns U).0 f.returned.part in
      let s = from p P Q part v.0 v.1 in
      let S = s.0 in
      let r = place_in p S.ops in
      let is = subst (λ V. IsPartOf x V U) (sym s.2) v.2 in
      let w = whole_is_part p x has S U is in
      let T = whole p x has S U is in
      let c = subst (IsCopy r T) (copy_is p x has S U is) (is_copy p x has S T w) in
      let t = (parts_are x P.txns T).1 (S, s.1, w) in
      let place = c.from f.place (access.Read f.value) f.returned.returned in
      let i = place.0 in
      let read = kind_read f.sight j f.judged ∙ ap Some (λ l. ((f.seen.txn ∙ is.id) l, (f.seen.op ∙ place.1) l)) in (
        with_op i j,
        renumbered_back p P S s.1 i j read,
        inl (record {
          part = T;
          place = i;
          value = f.value;
          sight = record f.sight { op = i };
          returned = record { part = t; committed = (f.returned.committed.0, sym c.status ∙ f.returned.committed.1); returned = place.2 };
          seen = sight_back (on_key x P) (on_key x Q) (are_copies p x has P Q part) (key_of_history P x h) (key_of_history Q x g) r T U c t f.returned.part i f.value place.2 f.sight
              (subst (λ m. IsSight (on_key x Q) U m f.value f.sight) place.1 f.seen);
          judged = kind_with f.sight i j f.judged;
        }),
      )

pub finds : PartitionsFind
finds p P Q h g part = record {
  to = λ x k has f.
      (let t = found_to p P Q part h g x has k ((findings_exact P h).sound (record { key = x; kind = k }) f) in
      (t.0, t.1, (findings_exact Q g).complete (record { key = x; kind = t.0 }) t.2));
  from = λ x j f.
      (let found = (findings_exact Q g).sound (record { key = x; kind = j }) f in
      let has = has_found p P Q part x j found in
      let t = found_from p P Q part h g x has j found in
      (has, (t.0, t.1, (findings_exact P h).complete (record { key = x; kind = t.0 }) t.2)));
}
