-- Where reads alone return something else, what is present is a history still, and each read is judged by what was written before.
use Rattle.std.proofs.Common.{◌≡◌, ◌⊎◌, inl, inr, ℕ, ◌<◌, ◌≤◌, Bool, true, false, nat_lt, List, map, Option, Some, None, refl, sym, ap, subst, ◌∙◌, cond, slice_get}
use Rattle.std.specs.List.{Contains}
use Rattle.std.specs.Option.{option_eq}
use Rattle.si_model.specs.declared.numbers.TxnId.{TxnId}
use Rattle.si_model.specs.declared.numbers.Stamp.{Stamp}
use Rattle.si_model.specs.declared.numbers.Value.{Value}
use Rattle.si_model.specs.declared.operations.Op.{Op}
use Rattle.si_model.specs.declared.operations.Op.TheVariants as op
use Rattle.si_model.specs.declared.transactions.Txn.{Txn}
use Rattle.si_model.specs.declared.parts.Access.TheVariants as access
use Rattle.si_model.specs.declared.parts.Placed.{Placed}
use Rattle.si_model.specs.declared.parts.Part.{Part}
use Rattle.si_model.specs.declared.parts.OnKey.{OnKey}
use Rattle.si_model.specs.declared.sights.Installer.{Installer}
use Rattle.si_model.specs.declared.sights.VersionId.{VersionId}
use Rattle.si_model.specs.declared.sights.Source.{Source}
use Rattle.si_model.specs.declared.sights.Source.TheVariants as source
use Rattle.si_model.specs.declared.sights.Sight.{Sight}
use Rattle.si_model.specs.declared.kinds.Kind.{Kind}
use Rattle.si_model.specs.declared.kinds.Kind.TheVariants as kind
use Rattle.si_model.specs.Operations.{key_of, access_of, same_value}
use Rattle.si_model.specs.Parts.{Present, accesses, parts}
use Rattle.si_model.specs.Versions.{commit_of, WritesAt, IsFinalWrite, IsInstaller, IsNext}
use Rattle.si_model.specs.Reads.{IsOwnValue, IsWriter, IsSource, version_of, IsMissedOf, own_value, writes_later, sight_of, judged_by_next, judged_by_source, judged_by_own, kind_of}
use Rattle.si_model.specs.History.{WritesPairAt, WritesSome, IsHistory, IsOfHistory}
use Rattle.si_model.specs.Laws.{IsPartOf}
use Rattle.si_lists.proofs.Members.{same_some, Contains-map, Contains-from_map}
use Rattle.si_lists.proofs.Names.{names_map}
use Rattle.si_model.proofs.KeyParts.{accesses_are, parts_are}
use Rattle.si_model.proofs.LastWrites.{later_are, own_is_last}
use Rattle.si_model.proofs.Sources.{sight_is, same_sight}

-- ---- operations that are one, but that a read may return something else

abbrev pub Alike : Op → Op → Type 0
Alike p q = (p ≡ q) ⊎ ((x : List ℕ) × (v : Option Value) × (w : Option Value) × (p ≡ op.Read x v) × (q ≡ op.Read x w))

key_alike : (p q : Op) → Alike p q → key_of p ≡ key_of q
key_alike p q (inl e) = ap key_of e
key_alike p q (inr r) = ap key_of r.3 ∙ ap key_of (sym r.4)

write_to : (p q : Op) (x : List ℕ) (v : Value) → Alike p q → p ≡ op.Write x v → q ≡ op.Write x v
write_to p q x v (inl e) w = sym e ∙ w
write_to p q x v (inr r) w = let wrong = sym r.3 ∙ w in cc

write_from : (p q : Op) (x : List ℕ) (v : Value) → Alike p q → q ≡ op.Write x v → p ≡ op.Write x v
write_from p q x v (inl e) w = e ∙ w
write_from p q x v (inr r) w = let wrong = sym r.4 ∙ w in cc

write_op : (p : Op) (x : List ℕ) (v : Value) → key_of p ≡ x → access_of p ≡ access.Write v → p ≡ op.Write x v
write_op (op.Read y w) x v k a = cc
write_op (op.Write y w) x v k a = cc

-- the change of a transaction alters nothing but what reads return
pub record AltersReads (f : Txn → Txn) : Type 0 where
  pub id : (T : Txn) → (f T).id ≡ T.id
  pub start : (T : Txn) → (f T).start ≡ T.start
  pub status : (T : Txn) → (f T).status ≡ T.status
  pub to : (T : Txn) (i : ℕ) (p : Op) → slice_get T.ops i ≡ Some p → (q : Op) × (slice_get (f T).ops i ≡ Some q) × Alike p q
  pub from : (T : Txn) (i : ℕ) (q : Op) → slice_get (f T).ops i ≡ Some q → (p : Op) × (slice_get T.ops i ≡ Some p) × Alike p q

-- two parts are one, but that reads may return something else
pub record AreAlike (U V : Part) : Type 0 where
  pub id : V.id ≡ U.id
  pub start : V.start ≡ U.start
  pub status : V.status ≡ U.status
  pub to : (j : ℕ) (w : Value) → WritesAt U j w → WritesAt V j w
  pub from : (j : ℕ) (w : Value) → WritesAt V j w → WritesAt U j w

module _ (f : Txn → Txn) (alters : AltersReads f) where
  -- ---- what is present

  pair_back : (T : Txn) (i : ℕ) (x : List ℕ) (v : Value) → WritesPairAt (f T) i x v → WritesPairAt T i x v
  pair_back T i x v w = let p = alters.from T i (op.Write x v) w in p.1 ∙ ap Some (write_from p.0 (op.Write x v) x v p.2 refl)

  some_back : (T : Txn) → WritesSome (f T) → WritesSome T
  some_back T w = (w.0, w.1, w.2, pair_back T w.0 w.1 w.2 w.3)

  commit_back : (T : Txn) (c : Stamp) → commit_of (f T).status ≡ Some c → commit_of T.status ≡ Some c
  commit_back T c e = ap commit_of (sym (alters.status T)) ∙ e

  pub altered_history : (P : Present) → IsHistory P → IsHistory (record P { txns = map f P.txns })
  altered_history P h = record {
    forward = λ U c at e. let m = Contains-from_map f P.txns U at in
        subst (λ V. commit_of V.status ≡ Some c → V.start.0 ≤ c.0) m.2
        (λ s. subst (λ t. t.0 ≤ c.0) (sym (alters.start m.0)) (h.forward m.0 c m.1 (commit_back m.0 c s))) e;
    apart = λ U c at e w. let m = Contains-from_map f P.txns U at in
        subst (λ V. commit_of V.status ≡ Some c → WritesSome V → V.start.0 < c.0) m.2
        (λ s v. subst (λ t. t.0 < c.0) (sym (alters.start m.0)) (h.apart m.0 c m.1 (commit_back m.0 c s) (some_back m.0 v))) e w;
    names = names_map (λ T. T.id) (λ T. T.id) f alters.id P.txns h.names;
    stamps = λ A B c a b differ e w.
        let m = Contains-from_map f P.txns A a in
        let n = Contains-from_map f P.txns B b in
        let s = h.stamps m.0 n.0 c m.1 n.1 (λ same. differ (ap (λ T. T.id) (sym m.2) ∙ alters.id m.0 ∙ same ∙ sym (alters.id n.0) ∙ ap (λ T. T.id) n.2))
        (commit_back m.0 c (ap (λ T. commit_of T.status) m.2 ∙ e)) (some_back m.0 (subst WritesSome (sym m.2) w)) in
        (λ t. s.0 (t ∙ ap (λ T. T.start) (sym n.2) ∙ alters.start n.0), λ t. s.1 (commit_back n.0 c (ap (λ T. commit_of T.status) n.2 ∙ t)));
    writes = λ A B i j x v a b s t.
        let m = Contains-from_map f P.txns A a in
        let n = Contains-from_map f P.txns B b in
        let w = h.writes m.0 n.0 i j x v m.1 n.1 (pair_back m.0 i x v (subst (λ T. WritesPairAt T i x v) (sym m.2) s)) (pair_back n.0 j x v (subst (λ T. WritesPairAt T j x v) (sym n.2) t)) in
        (ap (λ T. T.id) (sym m.2) ∙ alters.id m.0 ∙ w.0 ∙ sym (alters.id n.0) ∙ ap (λ T. T.id) n.2, w.1);
    keys = h.keys;
    initial = λ x v U i at c w. let m = Contains-from_map f P.txns U c in
        h.initial x v m.0 i at m.1 (pair_back m.0 i x v (subst (λ T. WritesPairAt T i x v) (sym m.2) w));
  }

  -- ---- what is on a key

  -- U is on the key, and V is what the change makes of it
  pub record IsAltered (x : List ℕ) (P : Present) (U V : Part) : Type 0 where
    pub txn : Txn
    pub present : Contains P.txns txn
    pub was : IsPartOf x txn U
    pub is : IsPartOf x (f txn) V
    pub before : Contains (parts x P.txns) U
    pub after : Contains (parts x (map f P.txns)) V
    pub alike : AreAlike U V

  writes_to : (x : List ℕ) (T : Txn) (j : ℕ) (w : Value) → Contains (accesses x T.ops) (record { place = j; access = access.Write w }) → Contains (accesses x (f T).ops) (record { place = j; access = access.Write w })
  writes_to x T j w c =
      let p = (accesses_are x T.ops (record { place = j; access = access.Write w })).0 c in
      let q = alters.to T j p.0 p.1 in
      let is = write_to p.0 q.0 x w q.2 (write_op p.0 x w p.2 p.3) in
      (accesses_are x (f T).ops (record { place = j; access = access.Write w })).1 (q.0, q.1, ap key_of is, ap access_of is)

  writes_back : (x : List ℕ) (T : Txn) (j : ℕ) (w : Value) → Contains (accesses x (f T).ops) (record { place = j; access = access.Write w }) → Contains (accesses x T.ops) (record { place = j; access = access.Write w })
  writes_back x T j w c =
      let q = (accesses_are x (f T).ops (record { place = j; access = access.Write w })).0 c in
      let p = alters.from T j q.0 q.1 in
      let is = write_from p.0 q.0 x w p.2 (write_op q.0 x w q.2 q.3) in
      (accesses_are x T.ops (record { place = j; access = access.Write w })).1 (p.0, p.1, ap key_of is, ap access_of is)

  alike_parts : (x : List ℕ) (T : Txn) (U V : Part) → IsPartOf x T U → IsPartOf x (f T) V → AreAlike U V
  alike_parts x T U V u v = record {
    id = v.id ∙ alters.id T ∙ sym u.id;
    start = v.start ∙ alters.start T ∙ sym u.start;
    status = v.status ∙ alters.status T ∙ sym u.status;
    to = λ j w c. subst (λ ys. Contains ys (record { place = j; access = access.Write w })) (sym v.accesses) (writes_to x T j w (subst (λ ys. Contains ys (record { place = j; access = access.Write w })) u.accesses c));
    from = λ j w c. subst (λ ys. Contains ys (record { place = j; access = access.Write w })) (sym u.accesses) (writes_back x T j w (subst (λ ys. Contains ys (record { place = j; access = access.Write w })) v.accesses c));
  }

  abbrev part_of : List ℕ → Txn → Part
  part_of x T = record { id = T.id; start = T.start; status = T.status; accesses = accesses x T.ops }

  pub altered_to : (x : List ℕ) (P : Present) (U : Part) → Contains (parts x P.txns) U → (V : Part) × IsAltered x P U V
  altered_to x P U c =
      let u = (parts_are x P.txns U).0 c in
      let T = u.0 in
      let a = u.2.some in
      let p = (accesses_are x T.ops a.0).0 (subst (λ ys. Contains ys a.0) u.2.accesses a.1) in
      let q = alters.to T a.0.place p.0 p.1 in
      let b : Placed = record { place = a.0.place; access = access_of q.0 } in
      let some = (accesses_are x (f T).ops b).1 (q.0, q.1, sym (key_alike p.0 q.0 q.2) ∙ p.2, refl) in
      let is : IsPartOf x (f T) (part_of x (f T)) = record { id = refl; start = refl; status = refl; accesses = refl; some = (b, some) } in (
        part_of x (f T),
        record {
          txn = T;
          present = u.1;
          was = u.2;
          is = is;
          before = c;
          after = (parts_are x (map f P.txns) (part_of x (f T))).1 (f T, Contains-map f P.txns T u.1, is);
          alike = alike_parts x T U (part_of x (f T)) u.2 is;
        },
      )

  pub altered_from : (x : List ℕ) (P : Present) (V : Part) → Contains (parts x (map f P.txns)) V → (U : Part) × IsAltered x P U V
  altered_from x P V c =
      let v = (parts_are x (map f P.txns) V).0 c in
      let m = Contains-from_map f P.txns v.0 v.1 in
      let T = m.0 in
      let is = subst (λ S. IsPartOf x S V) (sym m.2) v.2 in
      let a = is.some in
      let q = (accesses_are x (f T).ops a.0).0 (subst (λ ys. Contains ys a.0) is.accesses a.1) in
      let p = alters.from T a.0.place q.0 q.1 in
      let b : Placed = record { place = a.0.place; access = access_of p.0 } in
      let some = (accesses_are x T.ops b).1 (p.0, p.1, key_alike p.0 q.0 p.2 ∙ q.2, refl) in
      let was : IsPartOf x T (part_of x T) = record { id = refl; start = refl; status = refl; accesses = refl; some = (b, some) } in (
        part_of x T,
        record {
          txn = T;
          present = m.1;
          was = was;
          is = is;
          before = (parts_are x P.txns (part_of x T)).1 (T, m.1, was);
          after = c;
          alike = alike_parts x T (part_of x T) V was is;
        },
      )

-- ---- how reads are judged on two keys that are alike

both_true : (b c : Bool) → (b ≡ true → c ≡ true) → (c ≡ true → b ≡ true) → b ≡ c
both_true true c to from = sym (to refl)
both_true false true to from = from refl
both_true false false to from = refl

pub same_option : {X : Type 0} (o p : Option X) → ((x : X) → o ≡ Some x → p ≡ Some x) → ((x : X) → p ≡ Some x → o ≡ Some x) → o ≡ p
same_option (Some x) p to from = sym (to x refl)
same_option None (Some x) to from = from x refl
same_option None None to from = refl

own_to : (U V : Part) (i : ℕ) (w : Value) → AreAlike U V → IsOwnValue U i w → IsOwnValue V i w
own_to U V i w a o = record { place = o.place; before = o.before; is = a.to o.place w o.is; last = λ j u c l. o.last j u (a.from j u c) l }

own_back : (U V : Part) (i : ℕ) (w : Value) → AreAlike U V → IsOwnValue V i w → IsOwnValue U i w
own_back U V i w a o = record { place = o.place; before = o.before; is = a.from o.place w o.is; last = λ j u c l. o.last j u (a.to j u c) l }

final_to : (U V : Part) (w : Value) → AreAlike U V → IsFinalWrite U w → IsFinalWrite V w
final_to U V w a f = record { place = f.place; is = a.to f.place w f.is; last = λ j u c. f.last j u (a.from j u c) }

final_back : (U V : Part) (w : Value) → AreAlike U V → IsFinalWrite V w → IsFinalWrite U w
final_back U V w a f = record { place = f.place; is = a.from f.place w f.is; last = λ j u c. f.last j u (a.to j u c) }

module _ (Q R : OnKey) (g : IsOfHistory Q) (h : IsOfHistory R) (initial : Q.initial ≡ R.initial)
    (to : (U : Part) → Contains Q.parts U → (V : Part) × Contains R.parts V × AreAlike U V)
    (from : (V : Part) → Contains R.parts V → (U : Part) × Contains Q.parts U × AreAlike U V) where
  installer_to : (n : Installer) → IsInstaller Q n → IsInstaller R n
  installer_to n i =
      let v = to i.0 i.1 in
      let s = i.2 in
      (v.0, v.1, record { txn = s.txn ∙ sym v.2.id; start = s.start ∙ sym v.2.start; committed = v.2.status ∙ s.committed; writes = (s.writes.0, (s.writes.1.0, v.2.to s.writes.1.0 s.writes.0 s.writes.1.1)) })

  installer_back : (n : Installer) → IsInstaller R n → IsInstaller Q n
  installer_back n i =
      let u = from i.0 i.1 in
      let s = i.2 in
      (u.0, u.1, record { txn = s.txn ∙ u.2.id; start = s.start ∙ u.2.start; committed = sym u.2.status ∙ s.committed; writes = (s.writes.0, (s.writes.1.0, u.2.from s.writes.1.0 s.writes.0 s.writes.1.1)) })

  next_to : (a : VersionId) (n : Installer) → IsNext Q a n → IsNext R a n
  next_to a n i = record { installs = installer_to n i.installs; after = i.after; first = λ m j. i.first m (installer_back m j) }

  next_back : (a : VersionId) (n : Installer) → IsNext R a n → IsNext Q a n
  next_back a n i = record { installs = installer_back n i.installs; after = i.after; first = λ m j. i.first m (installer_to m j) }

  writer_to : (v : Value) (u : TxnId) (U V : Part) → Contains R.parts V → AreAlike U V → IsWriter Q v u U → IsWriter R v u V
  writer_to v u U V at a w = record { part = at; id = w.id ∙ sym a.id; writes = (w.writes.0, a.to w.writes.0 v w.writes.1) }

  source_to : (v : Option Value) (s : Source) → IsSource Q v s → IsSource R v s
  source_to v source.Initial i = i ∙ initial
  source_to v source.Missing i = (λ e. i.0 (e ∙ sym initial), λ w V e c b. let u = from V c in i.1 w u.0 e u.1 (b.0, u.2.from b.0 w b.1))
  source_to v (source.InDoubt u) i = let b = to i.1 i.3.part in (i.0, b.0, i.2, writer_to i.0 u i.1 b.0 b.1 b.2 i.3, b.2.status ∙ i.4)
  source_to v (source.Aborted u) i = let b = to i.1 i.3.part in (i.0, b.0, i.2, writer_to i.0 u i.1 b.0 b.1 b.2 i.3, b.2.status ∙ i.4)
  source_to v (source.Earlier u) i = let b = to i.1 i.3.part in
      (i.0, b.0, i.2, writer_to i.0 u i.1 b.0 b.1 b.2 i.3, (i.4.0, b.2.status ∙ i.4.1), λ f. i.5 (final_back i.1 b.0 i.0 b.2 f))
  source_to v (source.Installed u c) i = let b = to i.1 i.3.part in
      (i.0, b.0, i.2, writer_to i.0 u i.1 b.0 b.1 b.2 i.3, b.2.status ∙ i.4, final_to i.1 b.0 i.0 b.2 i.5)

  missed_to : (start : Stamp) (a : Option VersionId) (n : Option Installer) → IsMissedOf Q start a n → IsMissedOf R start a n
  missed_to start None n i = i
  missed_to start (Some a) None i = λ n next. i n (next_back a n next)
  missed_to start (Some a) (Some n) i = (next_to a n i.0, i.1)

  -- a read is seen the same, whatever it returned
  pub sight_alike : (U V : Part) → Contains Q.parts U → Contains R.parts V → AreAlike U V → (i : ℕ) (v : Option Value) → sight_of Q U i v ≡ sight_of R V i v
  sight_alike U V u w a i v =
      let s = sight_is Q g U i v in
      same_sight R h V i v (sight_of Q U i v) (record {
        txn = s.txn ∙ sym a.id;
        op = s.op;
        start = s.start ∙ sym a.start;
        read = s.read;
        own = s.own ∙ same_option (own_value U i) (own_value V i)
            (λ x e. (own_is_last R V i x h w).1 (own_to U V i x a ((own_is_last Q U i x g u).0 e)))
            (λ x e. (own_is_last Q U i x g u).1 (own_back U V i x a ((own_is_last R V i x h w).0 e)));
        later = s.later ∙ both_true (writes_later U i v) (writes_later V i v)
            (λ e. let l = (later_are U i v).0 e in (later_are V i v).1 (l.0, l.1, (l.2.0, l.2.1, a.to l.2.0 l.0 l.2.2)))
            (λ e. let l = (later_are V i v).0 e in (later_are U i v).1 (l.0, l.1, (l.2.0, l.2.1, a.from l.2.0 l.0 l.2.2)));
        from = source_to v (sight_of Q U i v).source s.from;
        missed = subst (λ t. IsMissedOf R t (version_of (sight_of Q U i v).source) (sight_of Q U i v).missed) (sym a.start) (missed_to U.start (version_of (sight_of Q U i v).source) (sight_of Q U i v).missed s.missed);
      })

-- ---- the read that a kind is of

abbrev pub read_of : Kind → Option (TxnId × ℕ)
read_of (kind.Unknown t i v) = Some (t, i)
read_of (kind.Doubt t i v u) = Some (t, i)
read_of (kind.Own t i v w) = Some (t, i)
read_of (kind.Aborted t i v u) = Some (t, i)
read_of (kind.Intermediate t i v u) = Some (t, i)
read_of (kind.Future t i v u) = Some (t, i)
read_of (kind.Stale t i v n) = Some (t, i)
read_of (kind.Overlap a b) = None

next_read : (s : Sight) (o : Option Installer) (k : Kind) → judged_by_next s o ≡ Some k → read_of k ≡ Some (s.txn, s.op)
next_read s None k e = cc
next_read s (Some n) k e = ap read_of (sym (same_some e))

source_read : (s : Sight) (from : Source) (k : Kind) → judged_by_source s from ≡ Some k → read_of k ≡ Some (s.txn, s.op)
source_read s source.Missing k e = ap read_of (sym (same_some e))
source_read s (source.InDoubt u) k e = ap read_of (sym (same_some e))
source_read s (source.Aborted u) k e = ap read_of (sym (same_some e))
source_read s (source.Earlier u) k e = ap read_of (sym (same_some e))
source_read s source.Initial k e = next_read s s.missed k e
source_read s (source.Installed u c) k e = by (nat_lt s.start.0 c.0) e
  where
    by : (b : Bool) → cond b (Some (kind.Future s.txn s.op s.read u)) (judged_by_next s s.missed) ≡ Some k → read_of k ≡ Some (s.txn, s.op)
    by true f = ap read_of (sym (same_some f))
    by false f = next_read s s.missed k f

own_read : (s : Sight) (o : Option Value) (later : Bool) (k : Kind) → judged_by_own s o later ≡ Some k → read_of k ≡ Some (s.txn, s.op)
own_read s (Some w) later k e = by (option_eq same_value s.read (Some w)) e
  where
    by : (b : Bool) → cond b None (Some (kind.Own s.txn s.op s.read (Some w))) ≡ Some k → read_of k ≡ Some (s.txn, s.op)
    by true f = cc
    by false f = ap read_of (sym (same_some f))
own_read s None true k e = ap read_of (sym (same_some e))
own_read s None false k e = source_read s s.source k e

pub kind_read : (s : Sight) (k : Kind) → kind_of s ≡ Some k → read_of k ≡ Some (s.txn, s.op)
unfolding kind_of
kind_read s k e = own_read s s.own s.later k e
