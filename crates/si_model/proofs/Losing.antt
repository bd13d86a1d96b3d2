-- An installer is a place where it is found that its version was lost.
use Rattle.std.proofs.Common.{◌≡◌, ◌≢◌, ◌⊎◌, inl, inr, ℕ, ◌<◌, Bool, true, false, not, ◌&&◌, nat_lt, zero, suc, List, [], ◌∷◌, Option, Some, None, refl, sym, ap, subst, ◌∙◌, cond, arith, slice_get}
use Rattle.std.specs.List.{Contains}
use Rattle.std.specs.Option.{option_eq}
use Rattle.std.proofs.lemmas.Bool.{ltb-true, ltb-false, and_parts, and_from}
use Rattle.si_model.specs.declared.numbers.TxnId.{TxnId}
use Rattle.si_model.specs.declared.numbers.Stamp.{Stamp}
use Rattle.si_model.specs.declared.numbers.Value.{Value}
use Rattle.si_model.specs.declared.operations.Op.{Op}
use Rattle.si_model.specs.declared.operations.Op.TheVariants as op
use Rattle.si_model.specs.declared.transactions.Status.{Status}
use Rattle.si_model.specs.declared.transactions.Status.TheVariants as status
use Rattle.si_model.specs.declared.transactions.Txn.{Txn}
use Rattle.si_model.specs.declared.parts.Access.TheVariants as access
use Rattle.si_model.specs.declared.parts.Part.{Part}
use Rattle.si_model.specs.declared.parts.OnKey.{OnKey}
use Rattle.si_model.specs.declared.sights.Installer.{Installer}
use Rattle.si_model.specs.declared.sights.VersionId.{VersionId}
use Rattle.si_model.specs.declared.sights.VersionId.TheVariants as version
use Rattle.si_model.specs.declared.sights.Source.{Source}
use Rattle.si_model.specs.declared.sights.Source.TheVariants as source
use Rattle.si_model.specs.declared.sights.Sight.{Sight}
use Rattle.si_model.specs.declared.kinds.Kind.{Kind}
use Rattle.si_model.specs.declared.kinds.Kind.TheVariants as kind
use Rattle.si_model.specs.Operations.{key_of, same_key, same_value}
use Rattle.si_model.specs.Parts.{Present, on_key}
use Rattle.si_model.specs.Versions.{commit_of, WritesAt, Writes, Installs, IsInstaller, IsNext, IsNextIfAny, next_after}
use Rattle.si_model.specs.Reads.{IsRead, IsSource, IsMissedOf, IsSight, version_of, ReturnsVersion, own_value, writes_later, source_by, source_of, sight_of, judged_by_source, judged_by_own, kind_of}
use Rattle.si_model.specs.Findings.{findings}
use Rattle.si_model.specs.History.{IsHistory, IsOfHistory}
use Rattle.si_model.specs.Edits.{same_id}
use Rattle.si_model.specs.Laws.{IsPartOf}
use Rattle.si_model.specs.Chances.{IsStalePlace, is_committed}
use Rattle.si_model.specs.Changes.{lost, losing_in, losing}
use Rattle.si_model.specs.ChanceLaws.{Finds, IsValueBefore, ShowsStale, StaleIsChange, LossIsHistory}
use Rattle.si_lists.proofs.Members.{same_some, Contains-nil}
use Rattle.si_model.proofs.Equalities.{same_id_is, same_id_from, same_key_is, same_key_from, value_is}
use Rattle.si_model.proofs.KeyParts.{accesses_are, pair_from}
use Rattle.si_model.proofs.Histories.{key_of_history, one_writer}
use Rattle.si_model.proofs.LastWrites.{later_are, some_last, last_is_final}
use Rattle.si_model.proofs.NextVersions.{next_is, before_next}
use Rattle.si_model.proofs.Sources.{written_source, by_last, same_sight}
use Rattle.si_model.proofs.ReadChanges.{Alike, AltersReads, IsAltered, altered_history, altered_to}
use Rattle.si_model.proofs.Returning.{read_found, changed_alters, altered_found, found_altered, part_read_at, part_access_at}
use Rattle.si_model.proofs.ReadPlaces.{own_none, later_none, judged_future}

-- ---- the operations of which some reads return something else

module _ (x : List ℕ) (v : Value) (w : Option Value) where
  lost_to : (ops : List Op) (j : ℕ) (p : Op) → slice_get ops j ≡ Some p → (q : Op) × (slice_get (lost x v w ops) j ≡ Some q) × Alike p q
  lost_to [] j p e = cc
  lost_to (op.Read y r ∷ ops) zero p e = (op.Read y (cond (same_key y x && option_eq same_value r (Some v)) w r), refl, inr (y, r, cond (same_key y x && option_eq same_value r (Some v)) w r, sym (same_some e), refl))
  lost_to (op.Read y r ∷ ops) (suc j) p e = lost_to ops j p e
  lost_to (op.Write y r ∷ ops) zero p e = (p, e, inl refl)
  lost_to (op.Write y r ∷ ops) (suc j) p e = by (same_key y x) (lost_to ops j p e)
    where
      by : (b : Bool) → (q : Op) × (slice_get (lost x v w ops) j ≡ Some q) × Alike p q → (q : Op) × (slice_get (cond b ops (lost x v w ops)) j ≡ Some q) × Alike p q
      by true more = (p, e, inl refl)
      by false more = more

  lost_from : (ops : List Op) (j : ℕ) (q : Op) → slice_get (lost x v w ops) j ≡ Some q → (p : Op) × (slice_get ops j ≡ Some p) × Alike p q
  lost_from [] j q e = cc
  lost_from (op.Read y r ∷ ops) zero q e = (op.Read y r, refl, inr (y, r, cond (same_key y x && option_eq same_value r (Some v)) w r, refl, sym (same_some e)))
  lost_from (op.Read y r ∷ ops) (suc j) q e = lost_from ops j q e
  lost_from (op.Write y r ∷ ops) zero q e = (q, e, inl refl)
  lost_from (op.Write y r ∷ ops) (suc j) q e = by (same_key y x) e (lost_from ops j q)
    where
      by : (b : Bool) → slice_get (cond b ops (lost x v w ops)) j ≡ Some q → (slice_get (lost x v w ops) j ≡ Some q → (p : Op) × (slice_get ops j ≡ Some p) × Alike p q) → (p : Op) × (slice_get ops j ≡ Some p) × Alike p q
      by true f more = (q, f, inl refl)
      by false f more = more f

  -- no operation before the place writes the key
  NoneBefore : List Op → ℕ → Type 0
  NoneBefore ops i = (j : ℕ) (u : Value) → j < i → slice_get ops j ≡ Some (op.Write x u) → ⊥

  -- a free read of the value returns the other
  lost_read : (ops : List Op) (i : ℕ) → slice_get ops i ≡ Some (op.Read x (Some v)) → NoneBefore ops i → slice_get (lost x v w ops) i ≡ Some (op.Read x w)
  unfolding NoneBefore
  lost_read [] i e none = cc
  lost_read (op.Read y r ∷ ops) zero e none =
      let is = same_some e in
      let key : y ≡ x = ap key_of is in
      let value : r ≡ Some v = cc in
      let t = and_from (same_key y x) (option_eq same_value r (Some v)) (same_key_from y x key) ((value_is r v).1 value) in
      ap (λ b. Some (op.Read y (cond b w r))) t ∙ ap (λ z. Some (op.Read z w)) key
  lost_read (op.Read y r ∷ ops) (suc i) e none = lost_read ops i e (λ j u less f. none (suc j) u (omega arith) f)
  lost_read (op.Write y r ∷ ops) zero e none = cc
  lost_read (op.Write y r ∷ ops) (suc i) e none = by (same_key y x) refl (lost_read ops i e (λ j u less f. none (suc j) u (omega arith) f))
    where
      by : (b : Bool) → same_key y x ≡ b → slice_get (lost x v w ops) i ≡ Some (op.Read x w) → slice_get (cond b ops (lost x v w ops)) i ≡ Some (op.Read x w)
      by true t more = absurd (none 0 r (omega arith) (ap (λ z. Some (op.Write z r)) (same_key_is y x t)))
      by false t more = more

  -- and what a read returns then it returned before, or it is such a read
  IsLost : List Op → ℕ → Option Value → Type 0
  IsLost ops i u = (slice_get ops i ≡ Some (op.Read x u)) ⊎ ((slice_get ops i ≡ Some (op.Read x (Some v))) × NoneBefore ops i)

  lost_cases : (ops : List Op) (i : ℕ) (u : Option Value) → slice_get (lost x v w ops) i ≡ Some (op.Read x u) → IsLost ops i u
  unfolding IsLost NoneBefore
  lost_cases [] i u e = cc
  lost_cases (op.Read y r ∷ ops) zero u e = by (same_key y x && option_eq same_value r (Some v)) refl (same_some e)
    where
      by : (b : Bool) → (same_key y x && option_eq same_value r (Some v)) ≡ b → op.Read y (cond b w r) ≡ op.Read x u → IsLost (op.Read y r ∷ ops) zero u
      by true t f =
          let both = and_parts (same_key y x) (option_eq same_value r (Some v)) t in
          let key = same_key_is y x both.0 in
          let value = (value_is r v).0 both.1 in
          inr ((λ k. Some (op.Read (key k) (value k))), λ j z less g. absurd (omega arith))
      by false t f = inl (ap Some f)
  lost_cases (op.Read y r ∷ ops) (suc i) u e = by (lost_cases ops i u e)
    where
      by : IsLost ops i u → IsLost (op.Read y r ∷ ops) (suc i) u
      by (inl same) = inl same
      by (inr l) = inr (l.0, earlier)
        where
          earlier : (j : ℕ) (z : Value) → j < suc i → slice_get (op.Read y r ∷ ops) j ≡ Some (op.Write x z) → ⊥
          earlier zero z less g = cc
          earlier (suc j) z less g = l.1 j z (omega arith) g
  lost_cases (op.Write y r ∷ ops) zero u e = cc
  lost_cases (op.Write y r ∷ ops) (suc i) u e = by (same_key y x) refl e (lost_cases ops i u)
    where
      by : (b : Bool) → same_key y x ≡ b → slice_get (cond b ops (lost x v w ops)) i ≡ Some (op.Read x u) → (slice_get (lost x v w ops) i ≡ Some (op.Read x u) → IsLost ops i u) → IsLost (op.Write y r ∷ ops) (suc i) u
      by true t f more = inl f
      by false t f more = within (more f)
        where
          within : IsLost ops i u → IsLost (op.Write y r ∷ ops) (suc i) u
          within (inl same) = inl same
          within (inr l) = inr (l.0, earlier)
            where
              earlier : (j : ℕ) (z : Value) → j < suc i → slice_get (op.Write y r ∷ ops) j ≡ Some (op.Write x z) → ⊥
              earlier zero z less g = let key = same_key_from y x (ap key_of (same_some g)) in cc
              earlier (suc j) z less g = l.1 j z (omega arith) g

abbrev loses : TxnId → Txn → Bool
loses u T = is_committed T.status && not (same_id T.id u)

abbrev alters : (x : List ℕ) (u : TxnId) (v : Value) (w : Option Value) → AltersReads (losing_in x u v w)
alters x u v w = changed_alters (loses u) (λ T. lost x v w T.ops) (λ T. lost_to x v w T.ops) (λ T. lost_from x v w T.ops)

pub losing_history : LossIsHistory
unfolding losing
losing_history P x u v w h = altered_history (losing_in x u v w) (alters x u v w) P h

-- ---- the version before

module _ (Q : OnKey) (g : IsOfHistory Q) where
  returned_by : (b : Installer) → IsInstaller Q b → (w : Option Value) × ReturnsVersion Q w (version.Installed b.commit)
  returned_by b i =
      let T = i.0 in
      let last = some_last T i.2.writes.0 i.2.writes.1 in
      let final = (last_is_final Q T last.0 g i.1).0 last.1 in
      (Some last.0, (source.Installed T.id b.commit, (last.0, T, refl, record { part = i.1; id = refl; writes = (final.place, final.is) }, i.2.committed, final), refl))

  value_before : (n : Installer) → IsInstaller Q n → (w : Option Value) × IsValueBefore Q n w
  value_before n at = by (next_after Q.parts version.Initial) (next_is Q version.Initial)
    where
      by : (o : Option Installer) → IsNextIfAny Q version.Initial o → (w : Option Value) × IsValueBefore Q n w
      by None none = absurd (none n at tt)
      by (Some b) is = tested (nat_lt b.commit.0 n.commit.0) refl
        where
          tested : (t : Bool) → nat_lt b.commit.0 n.commit.0 ≡ t → (w : Option Value) × IsValueBefore Q n w
          tested true t =
              let d = before_next Q n at n.commit.0 b is.installs (ltb-true b.commit.0 n.commit.0 t) (omega arith) in
              let r = returned_by d.0 d.1 in
              (r.0, record { version = version.Installed d.0.commit; next = d.2; returns = r.1 })
          tested false t =
              let first = ltb-false b.commit.0 n.commit.0 t in (
                Q.initial,
                record {
                  version = version.Initial;
                  next = record { installs = at; after = tt; first = λ m j k. let nearest = is.first m j k in omega arith };
                  returns = (source.Initial, refl, refl);
                },
              )

  -- ---- a read of the version before

  module _ (T : Part) (i : ℕ) (at : Contains Q.parts T) (n : Installer) (past : n.commit.0 < T.start.0) (own : own_value T i ≡ None) (w : Option Value) (later : writes_later T i w ≡ false) where
    abbrev seen : Source → Sight
    seen s = record { txn = T.id; op = i; start = T.start; read = w; own = own_value T i; later = writes_later T i w; source = s; missed = Some n }

    judged_so : (s : Source) → kind_of (seen s) ≡ judged_by_source (seen s) s
    unfolding kind_of
    judged_so s = ap (λ o. judged_by_own (seen s) o (writes_later T i w)) own ∙ ap (judged_by_own (seen s) None) later

    is_seen : (a : VersionId) → IsNext Q a n → (s : Source) → IsSource Q w s → version_of s ≡ Some a → IsSight Q T i w (seen s)
    is_seen a next s from e = record { txn = refl; op = refl; start = refl; read = refl; own = refl; later = refl; from = from; missed = subst (λ o. IsMissedOf Q T.start o (Some n)) (sym e) (next, past) }

    judged_stale : (a : VersionId) → IsNext Q a n → (s : Source) → version_of s ≡ Some a → judged_by_source (seen s) s ≡ Some (kind.Stale T.id i w n.txn)
    judged_stale a next source.Initial e = refl
    judged_stale a next source.Missing e = cc
    judged_stale a next (source.InDoubt u) e = cc
    judged_stale a next (source.Aborted u) e = cc
    judged_stale a next (source.Earlier u) e = cc
    judged_stale a next (source.Installed u c) e = by (nat_lt T.start.0 c.0) refl
      where
        less : c.0 < n.commit.0
        less = (subst (λ b. IsNext Q b n) (sym (same_some e)) next).after

        by : (b : Bool) → nat_lt T.start.0 c.0 ≡ b → cond b (Some (kind.Future T.id i w u)) (Some (kind.Stale T.id i w n.txn)) ≡ Some (kind.Stale T.id i w n.txn)
        by true t = absurd (let early = ltb-true T.start.0 c.0 t in let c_less = less in omega arith)
        by false t = refl

    is_stale : IsValueBefore Q n w → kind_of (sight_of Q T i w) ≡ Some (kind.Stale T.id i w n.txn)
    is_stale b =
        let s = b.returns.0 in
        ap kind_of (sym (same_sight Q g T i w (seen s) (is_seen b.version b.next s b.returns.1 b.returns.2))) ∙ judged_so s ∙ judged_stale b.version b.next s b.returns.2

-- ---- the law

module _ (P : Present) (x : List ℕ) (h : IsHistory P) (clean : findings P ≡ []) where
  abbrev Q : OnKey
  Q = on_key x P

  g : IsOfHistory (on_key x P)
  g = key_of_history P x h

  nothing : (k : Kind) → Finds P x k → ⊥
  nothing k c = Contains-nil (record { key = x; kind = k }) (subst (λ fs. Contains fs (record { key = x; kind = k })) clean c)

  -- a free read by another of U's value starts after U's commit
  starts_after : (U : Part) (p : IsStalePlace Q U) → p.commit.0 < p.reader.start.0
  starts_after U p = by (nat_lt T.start.0 p.commit.0) refl
    where
      T : Part
      T = p.reader

      own : own_value T p.place ≡ None
      own = own_none Q g T p.place p.free.read.part p.free.free

      later : writes_later T p.place (Some p.value) ≡ false
      later = later_none Q g T p.place p.free.read.part p.value (λ w. p.other (ap (λ S. S.id) (one_writer Q g T U p.value p.free.read.part p.part w (p.final.place, p.final.is))))

      from : source_of Q (Some p.value) ≡ source.Installed U.id p.commit
      from = written_source Q g (Some p.value) p.value U refl p.part (p.final.place, p.final.is) ∙ ap (source_by U p.value) p.committed ∙ by_last Q g U p.value p.commit p.part p.final

      by : (b : Bool) → nat_lt T.start.0 p.commit.0 ≡ b → p.commit.0 < p.reader.start.0
      by true t = absurd (nothing (kind.Future T.id p.place (Some p.value) U.id)
          (read_found P x T p.place (Some p.value) (kind.Future T.id p.place (Some p.value) U.id) h p.free.read
          (judged_future Q g T p.place (Some p.value) U.id p.commit own later from (ltb-true T.start.0 p.commit.0 t))))
      by false t =
          let most = ltb-false T.start.0 p.commit.0 t in
          let apart = (g.stamps U T p.commit p.value p.part p.free.read.part (λ e. p.other (sym e)) (ap commit_of p.committed) (p.final.place, p.final.is)).0 in
          let differ : p.commit.0 ≢ T.start.0 = λ e. apart (ap (λ m. record { 0 = m }) e) in
          omega arith

  -- and its transaction doesn't write what the version before returns
  writes_no_earlier : (U : Part) (p : IsStalePlace Q U) (n : Installer) → n.commit ≡ p.commit → (w : Option Value) → IsValueBefore Q n w → writes_later p.reader p.place w ≡ false
  writes_no_earlier U p n stamp None b = by (writes_later p.reader p.place None) refl
    where
      by : (t : Bool) → writes_later p.reader p.place None ≡ t → t ≡ false
      by true t = let l = (later_are p.reader p.place None).0 t in let wrong = l.1 in cc
      by false t = refl
  writes_no_earlier U p n stamp (Some w) b = later_none Q g p.reader p.place p.free.read.part w (by b.returns.0 b.returns.1 b.returns.2)
    where
      by : (s : Source) → IsSource Q (Some w) s → version_of s ≡ Some b.version → Writes p.reader w → ⊥
      by source.Initial i e u = g.initial w p.reader (sym i) p.free.read.part u
      by source.Missing i e u = cc
      by (source.InDoubt t) i e u = cc
      by (source.Aborted t) i e u = cc
      by (source.Earlier t) i e u = cc
      by (source.Installed t c) i e u =
          let one = one_writer Q g i.1 p.reader w i.3.part p.free.read.part (subst (Writes i.1) (sym (same_some i.2)) i.3.writes) u in
          let forward = g.forward p.reader c p.free.read.part (ap commit_of (sym (ap (λ S. S.status) one) ∙ i.4)) in
          let less : c.0 < n.commit.0 = (subst (λ a. IsNext Q a n) (sym (same_some e)) b.next).after in
          let same = ap (λ m. m.0) stamp in
          let past = starts_after U p in
          omega arith

  -- the operations of a transaction that reads the lost value
  losing_ops : (u : TxnId) (v : Value) (w : Option Value) (S : Txn) → loses u S ≡ true → (losing_in x u v w S).ops ≡ lost x v w S.ops
  losing_ops u v w S e = ap (λ b. (cond b (record S { ops = lost x v w S.ops }) S).ops) e

  losing_stays : (u : TxnId) (v : Value) (w : Option Value) (S : Txn) → loses u S ≡ false → (losing_in x u v w S).ops ≡ S.ops
  losing_stays u v w S e = ap (λ b. (cond b (record S { ops = lost x v w S.ops }) S).ops) e

  committed_test : (s : Status) (c : Stamp) → s ≡ status.Committed c → is_committed s ≡ true
  committed_test s c e = ap is_committed e

  other_test : (t u : TxnId) → t ≢ u → not (same_id t u) ≡ true
  other_test t u other = by (same_id t u) refl
    where
      by : (b : Bool) → same_id t u ≡ b → not b ≡ true
      by true e = absurd (other (same_id_is t u e))
      by false e = refl

  stale_shown : (U : Part) → IsStalePlace Q U → ShowsStale P x U
  unfolding losing NoneBefore
  stale_shown U p =
      let n : Installer = record { txn = U.id; start = U.start; commit = p.commit } in
      let installs : Installs U n = record { txn = refl; start = refl; committed = p.committed; writes = (p.value, (p.final.place, p.final.is)) } in
      let b = value_before Q g n (U, p.part, installs) in
      let w = b.0 in
      let T = p.reader in
      let i = p.place in
      let own = own_none Q g T i p.free.read.part p.free.free in
      let stale = is_stale Q g T i p.free.read.part n (starts_after U p) own w (writes_no_earlier U p n refl w b.1) b.1 in
      let a = altered_to (losing_in x U.id p.value w) (alters x U.id p.value w) x P T p.free.read.part in
      let S = a.1.txn in
      let c = p.free.read.committed in
      let test = and_from (is_committed S.status) (not (same_id S.id U.id)) (committed_test S.status c.0 (sym a.1.was.status ∙ c.1)) (other_test S.id U.id (λ e. p.other (a.1.was.id ∙ e))) in
      let none : NoneBefore x p.value w S.ops i = λ j z less f. p.free.free (j, z, written S T j z a.1.was f, less) in
      let is = ap (λ ops. slice_get ops i) (losing_ops U.id p.value w S test) ∙ lost_read x p.value w S.ops i (part_read_at x S T i (Some p.value) a.1.was p.free.read.returned) none in
      record {
        installer = n;
        installs = installs;
        value = p.value;
        final = p.final;
        before = w;
        is = b.1;
        reader = T.id;
        place = i;
        found = altered_found (losing_in x U.id p.value w) (alters x U.id p.value w) P h x T a.0 a.1 i w (kind.Stale T.id i w U.id)
            (record { part = a.1.after; committed = (c.0, a.1.alike.status ∙ c.1); returned = part_access_at x (losing_in x U.id p.value w S) a.0 i w a.1.is is })
            stale;
      }
    where
      written : (S : Txn) (T : Part) (j : ℕ) (z : Value) → IsPartOf x S T → slice_get S.ops j ≡ Some (op.Write x z) → WritesAt T j z
      written S T j z is e = subst (λ ys. Contains ys (record { place = j; access = access.Write z })) (sym is.accesses) ((accesses_are x S.ops (record { place = j; access = access.Write z })).1 (op.Write x z, e, refl, refl))

  stale_place : (U : Part) → Contains Q.parts U → ShowsStale P x U → IsStalePlace Q U
  unfolding losing IsLost NoneBefore
  stale_place U at s =
      let v = s.value in
      let w = s.before in
      let k : Kind = kind.Stale s.reader s.place w U.id in
      let a = found_altered (losing_in x U.id v w) (alters x U.id v w) P h x k s.reader s.place s.found refl in
      by a.0 a.1 a.2 a.3 a.4 a.6 (loses U.id a.3.txn) refl
    where
      -- a read that returns what it returned is no finding
      unchanged : (T V : Part) (r : Option Value) (b : IsAltered (losing_in x U.id s.value s.before) (alters x U.id s.value s.before) x P T V) (d : IsRead (on_key x (losing x U.id s.value s.before P)) V s.place r)
          → kind_of (sight_of Q T s.place r) ≡ Some (kind.Stale s.reader s.place s.before U.id) → slice_get b.txn.ops s.place ≡ Some (op.Read x r) → ⊥
      unchanged T V r b d e is = nothing (kind.Stale s.reader s.place s.before U.id) (read_found P x T s.place r (kind.Stale s.reader s.place s.before U.id) h
          (record { part = b.before; committed = (d.committed.0, sym b.alike.status ∙ d.committed.1); returned = part_access_at x b.txn T s.place r b.was is }) e)

      by : (T V : Part) (r : Option Value) (b : IsAltered (losing_in x U.id s.value s.before) (alters x U.id s.value s.before) x P T V) (d : IsRead (on_key x (losing x U.id s.value s.before P)) V s.place r)
          → kind_of (sight_of Q T s.place r) ≡ Some (kind.Stale s.reader s.place s.before U.id) → (t : Bool) → loses U.id b.txn ≡ t → IsStalePlace Q U
      by T V r b d e false t = absurd (unchanged T V r b d e
          (ap (λ ops. slice_get ops s.place) (sym (losing_stays U.id s.value s.before b.txn t)) ∙ part_read_at x (losing_in x U.id s.value s.before b.txn) V s.place r b.is d.returned))
      by T V r b d e true t = go (lost_cases x s.value s.before b.txn.ops s.place r
          (ap (λ ops. slice_get ops s.place) (sym (losing_ops U.id s.value s.before b.txn t)) ∙ part_read_at x (losing_in x U.id s.value s.before b.txn) V s.place r b.is d.returned))
        where
          go : IsLost x s.value s.before b.txn.ops s.place r → IsStalePlace Q U
          go (inl same) = absurd (unchanged T V r b d e same)
          go (inr l) = record {
            part = at;
            commit = s.installer.commit;
            committed = s.installs.committed;
            value = s.value;
            final = s.final;
            reader = T;
            place = s.place;
            other = λ same. let both = (and_parts (is_committed b.txn.status) (not (same_id b.txn.id U.id)) t).1 in let test = same_id_from b.txn.id U.id (sym b.was.id ∙ same) in let wrong = ap not test in cc;
            free = record {
              read = record { part = b.before; committed = (d.committed.0, sym b.alike.status ∙ d.committed.1); returned = part_access_at x b.txn T s.place (Some s.value) b.was l.0 };
              free = λ wrote. l.1 wrote.0 wrote.1 wrote.3 (pair_from x b.txn T wrote.0 wrote.1 b.was wrote.2);
            };
          }

pub stale_change : StaleIsChange
stale_change P x U h clean at = (stale_shown P x h clean U, stale_place P x h clean U at)
