-- What is found where reads alone return something else, and where one read does.
use Rattle.std.proofs.Common.{◌≡◌, inl, inr, ℕ, Bool, true, false, zero, suc, List, [], ◌∷◌, map, Option, Some, refl, sym, ap, subst, ◌∙◌, cond, slice_get}
use Rattle.std.specs.List.{Contains}
use Rattle.si_model.specs.declared.numbers.TxnId.{TxnId}
use Rattle.si_model.specs.declared.numbers.Value.{Value}
use Rattle.si_model.specs.declared.operations.Op.{Op}
use Rattle.si_model.specs.declared.operations.Op.TheVariants as op
use Rattle.si_model.specs.declared.transactions.Txn.{Txn}
use Rattle.si_model.specs.declared.parts.Access.TheVariants as access
use Rattle.si_model.specs.declared.parts.Part.{Part}
use Rattle.si_model.specs.declared.kinds.Kind.{Kind}
use Rattle.si_model.specs.Operations.{key_of, access_of}
use Rattle.si_model.specs.Parts.{Present, accesses, on_key}
use Rattle.si_model.specs.Reads.{IsRead, sight_of, kind_of}
use Rattle.si_model.specs.Findings.{cases, IsFoundOn}
use Rattle.si_model.specs.History.{IsHistory}
use Rattle.si_model.specs.Edits.{same_id}
use Rattle.si_model.specs.Laws.{IsPartOf}
use Rattle.si_model.specs.Changes.{returned, returned_at, returning_in, returning}
use Rattle.si_model.specs.ChanceLaws.{Finds}
use Rattle.si_lists.proofs.Members.{same_some}
use Rattle.si_model.proofs.Equalities.{same_id_from}
use Rattle.si_model.proofs.KeyParts.{accesses_are}
use Rattle.si_model.proofs.Histories.{key_of_history, one_part}
use Rattle.si_model.proofs.Sources.{sight_is, same_sight}
use Rattle.si_model.proofs.Exact.{findings_exact}
use Rattle.si_model.proofs.ReadChanges.{Alike, AltersReads, IsAltered, altered_history, altered_to, altered_from, sight_alike, read_of, kind_read}

-- what a read is judged to be is found
pub read_found : (P : Present) (x : List ℕ) (T : Part) (i : ℕ) (v : Option Value) (k : Kind) → IsHistory P → IsRead (on_key x P) T i v → kind_of (sight_of (on_key x P) T i v) ≡ Some k → Finds P x k
read_found P x T i v k h r e = (findings_exact P h).complete (record { key = x; kind = k }) (inl (record {
  part = T;
  place = i;
  value = v;
  sight = sight_of (on_key x P) T i v;
  returned = r;
  seen = sight_is (on_key x P) (key_of_history P x h) T i v;
  judged = e;
}))

-- and what is found of a read is what it is judged to be
pub found_read : (P : Present) (x : List ℕ) (k : Kind) (t : TxnId) (i : ℕ) → IsHistory P → Finds P x k → read_of k ≡ Some (t, i)
    → (T : Part) × (v : Option Value) × IsRead (on_key x P) T i v × (T.id ≡ t) × (kind_of (sight_of (on_key x P) T i v) ≡ Some k)
found_read P x k t i h c e = by ((findings_exact P h).sound (record { key = x; kind = k }) c)
  where
    by : IsFoundOn cases (on_key x P) k → (T : Part) × (v : Option Value) × IsRead (on_key x P) T i v × (T.id ≡ t) × (kind_of (sight_of (on_key x P) T i v) ≡ Some k)
    by (inr p) = let wrong = ap read_of (sym p.is) ∙ e in cc
    by (inl r) =
        let T = r.part in
        let judged = ap kind_of (sym (same_sight (on_key x P) (key_of_history P x h) T r.place r.value r.sight r.seen)) ∙ r.judged in
        let at : (r.sight.txn, r.sight.op) ≡ (t, i) = same_some (sym (kind_read r.sight k r.judged) ∙ e) in
        let place : r.place ≡ i = sym r.seen.op ∙ ap (λ (p : TxnId × ℕ). p.1) at in (
          T,
          r.value,
          subst (λ j. IsRead (on_key x P) T j r.value) place r.returned,
          sym r.seen.txn ∙ ap (λ (p : TxnId × ℕ). p.0) at,
          subst (λ j. kind_of (sight_of (on_key x P) T j r.value) ≡ Some k) place judged,
        )

-- ---- the operations of some transactions change

-- the transactions that pass the test have other operations
abbrev pub changed : (Txn → Bool) → (Txn → List Op) → Txn → Txn
changed test ops T = cond (test T) (record T { ops = ops T }) T

pub changed_alters : (test : Txn → Bool) (ops : Txn → List Op)
    → ((T : Txn) (j : ℕ) (p : Op) → slice_get T.ops j ≡ Some p → (q : Op) × (slice_get (ops T) j ≡ Some q) × Alike p q)
    → ((T : Txn) (j : ℕ) (q : Op) → slice_get (ops T) j ≡ Some q → (p : Op) × (slice_get T.ops j ≡ Some p) × Alike p q)
    → AltersReads (changed test ops)
changed_alters test ops to from = record {
  id = λ T. ids T (test T);
  start = λ T. starts T (test T);
  status = λ T. statuses T (test T);
  to = λ T j p e. tos T (test T) j p e;
  from = λ T j q e. froms T (test T) j q e;
}
  where
    ids : (T : Txn) (b : Bool) → (cond b (record T { ops = ops T }) T).id ≡ T.id
    ids T true = refl
    ids T false = refl

    starts : (T : Txn) (b : Bool) → (cond b (record T { ops = ops T }) T).start ≡ T.start
    starts T true = refl
    starts T false = refl

    statuses : (T : Txn) (b : Bool) → (cond b (record T { ops = ops T }) T).status ≡ T.status
    statuses T true = refl
    statuses T false = refl

    tos : (T : Txn) (b : Bool) (j : ℕ) (p : Op) → slice_get T.ops j ≡ Some p → (q : Op) × (slice_get (cond b (record T { ops = ops T }) T).ops j ≡ Some q) × Alike p q
    tos T true j p e = to T j p e
    tos T false j p e = (p, e, inl refl)

    froms : (T : Txn) (b : Bool) (j : ℕ) (q : Op) → slice_get (cond b (record T { ops = ops T }) T).ops j ≡ Some q → (p : Op) × (slice_get T.ops j ≡ Some p) × Alike p q
    froms T true j q e = from T j q e
    froms T false j q e = (q, e, inl refl)

module _ (f : Txn → Txn) (alters : AltersReads f) (P : Present) (h : IsHistory P) (x : List ℕ) where
  abbrev after : Present
  after = record P { txns = map f P.txns }

  -- a read is seen as it would have been before, had it returned the same
  seen_alike : (U V : Part) → IsAltered f alters x P U V → (i : ℕ) (v : Option Value) → sight_of (on_key x P) U i v ≡ sight_of (on_key x after) V i v
  seen_alike U V a i v = sight_alike (on_key x P) (on_key x after) (key_of_history P x h) (key_of_history after x (altered_history f alters P h)) refl
      (λ T c. let b = altered_to f alters x P T c in (b.0, b.1.after, b.1.alike))
      (λ T c. let b = altered_from f alters x P T c in (b.0, b.1.before, b.1.alike))
      U V a.before a.after a.alike i v

  pub altered_found : (U V : Part) → IsAltered f alters x P U V → (i : ℕ) (v : Option Value) (k : Kind) → IsRead (on_key x after) V i v → kind_of (sight_of (on_key x P) U i v) ≡ Some k → Finds after x k
  altered_found U V a i v k r e = read_found after x V i v k (altered_history f alters P h) r (ap kind_of (sym (seen_alike U V a i v)) ∙ e)

  pub found_altered : (k : Kind) (t : TxnId) (i : ℕ) → Finds after x k → read_of k ≡ Some (t, i)
      → (U : Part) × (V : Part) × (v : Option Value) × IsAltered f alters x P U V × IsRead (on_key x after) V i v × (U.id ≡ t) × (kind_of (sight_of (on_key x P) U i v) ≡ Some k)
  found_altered k t i c e =
      let r = found_read after x k t i (altered_history f alters P h) c e in
      let u = altered_from f alters x P r.0 r.2.part in
      (u.0, r.0, r.1, u.1, r.2, sym u.1.alike.id ∙ r.3, ap kind_of (seen_alike u.0 r.0 u.1 i r.1) ∙ r.4)

-- ---- one read returns something else

returned_alike : (v : Option Value) (p : Op) → Alike p (returned v p)
returned_alike v (op.Read x w) = inr (x, w, v, refl, refl)
returned_alike v (op.Write x w) = inl refl

returned_to : (i : ℕ) (v : Option Value) (ops : List Op) (j : ℕ) (p : Op) → slice_get ops j ≡ Some p → (q : Op) × (slice_get (returned_at i v ops) j ≡ Some q) × Alike p q
returned_to i v [] j p e = cc
returned_to zero v (o ∷ ops) zero p e = (returned v o, refl, subst (λ r. Alike r (returned v o)) (same_some e) (returned_alike v o))
returned_to zero v (o ∷ ops) (suc j) p e = (p, e, inl refl)
returned_to (suc i) v (o ∷ ops) zero p e = (p, e, inl refl)
returned_to (suc i) v (o ∷ ops) (suc j) p e = returned_to i v ops j p e

returned_from : (i : ℕ) (v : Option Value) (ops : List Op) (j : ℕ) (q : Op) → slice_get (returned_at i v ops) j ≡ Some q → (p : Op) × (slice_get ops j ≡ Some p) × Alike p q
returned_from i v [] j q e = cc
returned_from zero v (o ∷ ops) zero q e = (o, refl, subst (Alike o) (same_some e) (returned_alike v o))
returned_from zero v (o ∷ ops) (suc j) q e = (q, e, inl refl)
returned_from (suc i) v (o ∷ ops) zero q e = (q, e, inl refl)
returned_from (suc i) v (o ∷ ops) (suc j) q e = returned_from i v ops j q e

-- what the operation at the place itself is then
read_here : (i : ℕ) (v : Option Value) (ops : List Op) (x : List ℕ) (r : Option Value) → slice_get ops i ≡ Some (op.Read x r) → slice_get (returned_at i v ops) i ≡ Some (op.Read x v)
read_here i v [] x r e = cc
read_here zero v (o ∷ ops) x r e = ap (λ p. Some (returned v p)) (same_some e)
read_here (suc i) v (o ∷ ops) x r e = read_here i v ops x r e

read_returned : (v : Option Value) (o : Op) (x : List ℕ) (u : Option Value) → returned v o ≡ op.Read x u → (u ≡ v) × ((r : Option Value) × (o ≡ op.Read x r))
read_returned v (op.Read y w) x u e = (let s : u ≡ v = cc in s, (w, (let s : y ≡ x = ap key_of e in ap (λ z. op.Read z w) s)))
read_returned v (op.Write y w) x u e = cc

read_here_from : (i : ℕ) (v : Option Value) (ops : List Op) (x : List ℕ) (u : Option Value) → slice_get (returned_at i v ops) i ≡ Some (op.Read x u) → (u ≡ v) × ((r : Option Value) × (slice_get ops i ≡ Some (op.Read x r)))
read_here_from i v [] x u e = cc
read_here_from zero v (o ∷ ops) x u e = let s = read_returned v o x u (same_some e) in (s.0, (s.1.0, ap Some s.1.1))
read_here_from (suc i) v (o ∷ ops) x u e = read_here_from i v ops x u e

pub read_op : (p : Op) (x : List ℕ) (v : Option Value) → key_of p ≡ x → access_of p ≡ access.Read v → p ≡ op.Read x v
read_op (op.Read y w) x v k a = cc
read_op (op.Write y w) x v k a = cc

-- a read of the key is an access of it, and the other way round
pub access_at : (x : List ℕ) (ops : List Op) (i : ℕ) (v : Option Value) → slice_get ops i ≡ Some (op.Read x v) → Contains (accesses x ops) (record { place = i; access = access.Read v })
access_at x ops i v e = (accesses_are x ops (record { place = i; access = access.Read v })).1 (op.Read x v, e, refl, refl)

pub read_at : (x : List ℕ) (ops : List Op) (i : ℕ) (v : Option Value) → Contains (accesses x ops) (record { place = i; access = access.Read v }) → slice_get ops i ≡ Some (op.Read x v)
read_at x ops i v c = let p = (accesses_are x ops (record { place = i; access = access.Read v })).0 c in p.1 ∙ ap Some (read_op p.0 x v p.2 p.3)

-- the same of a part, whose accesses are those of a transaction
pub part_read_at : (x : List ℕ) (S : Txn) (U : Part) (i : ℕ) (v : Option Value) → IsPartOf x S U → Contains U.accesses (record { place = i; access = access.Read v }) → slice_get S.ops i ≡ Some (op.Read x v)
part_read_at x S U i v is c = read_at x S.ops i v (subst (λ ys. Contains ys (record { place = i; access = access.Read v })) is.accesses c)

pub part_access_at : (x : List ℕ) (S : Txn) (U : Part) (i : ℕ) (v : Option Value) → IsPartOf x S U → slice_get S.ops i ≡ Some (op.Read x v) → Contains U.accesses (record { place = i; access = access.Read v })
part_access_at x S U i v is e = subst (λ ys. Contains ys (record { place = i; access = access.Read v })) (sym is.accesses) (access_at x S.ops i v e)

abbrev alters : (t : TxnId) (i : ℕ) (v : Option Value) → AltersReads (returning_in t i v)
alters t i v = changed_alters (λ T. same_id T.id t) (λ T. returned_at i v T.ops) (λ T. returned_to i v T.ops) (λ T. returned_from i v T.ops)

pub returning_history : (P : Present) (t : TxnId) (i : ℕ) (v : Option Value) → IsHistory P → IsHistory (returning t i v P)
unfolding returning
returning_history P t i v h = altered_history (returning_in t i v) (alters t i v) P h

module _ (P : Present) (h : IsHistory P) (x : List ℕ) (T : Part) (at : Contains (on_key x P).parts T) (i : ℕ) (v : Option Value) where
  ops_are : (S : Txn) → S.id ≡ T.id → (returning_in T.id i v S).ops ≡ returned_at i v S.ops
  ops_are S e = ap (λ b. (cond b (record S { ops = returned_at i v S.ops }) S).ops) (same_id_from S.id T.id e)

  -- what the read is judged to be, had it returned v, is found where it does
  pub shown : (k : Kind) (r : Option Value) → IsRead (on_key x P) T i r → kind_of (sight_of (on_key x P) T i v) ≡ Some k → Finds (returning T.id i v P) x k
  unfolding returning
  shown k r read e =
      let a = altered_to (returning_in T.id i v) (alters T.id i v) x P T at in
      let S = a.1.txn in
      let is = ap (λ ops. slice_get ops i) (ops_are S (sym a.1.was.id)) ∙ read_here i v S.ops x r (part_read_at x S T i r a.1.was read.returned) in
      altered_found (returning_in T.id i v) (alters T.id i v) P h x T a.0 a.1 i v k
      (record { part = a.1.after; committed = (read.committed.0, a.1.alike.status ∙ read.committed.1); returned = part_access_at x (returning_in T.id i v S) a.0 i v a.1.is is })
      e

  -- and what is found of the read where it returns v is what it is judged to be
  pub shown_from : (k : Kind) → Finds (returning T.id i v P) x k → read_of k ≡ Some (T.id, i) → (r : Option Value) × IsRead (on_key x P) T i r × (kind_of (sight_of (on_key x P) T i v) ≡ Some k)
  unfolding returning
  shown_from k c e =
      let a = found_altered (returning_in T.id i v) (alters T.id i v) P h x k T.id i c e in
      let b = a.3 in
      let S = b.txn in
      let here = ap (λ ops. slice_get ops i) (sym (ops_are S (sym b.was.id ∙ a.5))) ∙ part_read_at x (returning_in T.id i v S) a.1 i a.2 b.is a.4.returned in
      let was = read_here_from i v S.ops x a.2 here in
      let r = was.1.0 in
      let read : IsRead (on_key x P) a.0 i r = record {
        part = b.before;
        committed = (a.4.committed.0, sym b.alike.status ∙ a.4.committed.1);
        returned = part_access_at x S a.0 i r b.was was.1.1;
      } in
      let one = one_part (on_key x P) (key_of_history P x h) a.0 T b.before at a.5 in
      (r, subst (λ U. IsRead (on_key x P) U i r) one read, subst (λ U. kind_of (sight_of (on_key x P) U i v) ≡ Some k) one (subst (λ u. kind_of (sight_of (on_key x P) a.0 i u) ≡ Some k) was.0 a.6))
