-- What stands under reads is what the judge finds of them, after those that a transaction touches were judged.
use Rattle.std.proofs.Common.{◌≡◌, ◌≢◌, ◌∙◌, ◌⊎◌, inl, inr, ◌↔◌, ℕ, List, Option, Some, refl, sym, ap, subst}
use Rattle.std.specs.List.{Contains}
use Rattle.std.specs.Ordering.{eq_by_cmp}
use Rattle.si_model.specs.declared.numbers.Value.{Value}
use Rattle.si_model.specs.declared.parts.Access.TheVariants as access
use Rattle.si_model.specs.declared.parts.Part.{Part}
use Rattle.si_model.specs.declared.parts.OnKey.{OnKey}
use Rattle.si_model.specs.declared.kinds.Kind.{Kind}
use Rattle.si_model.specs.Reads.{IsRead, own_value, sight_of}
use Rattle.si_model.specs.Findings.{Rules}
use Rattle.si_model.proofs.Histories.{one_part}
use Rattle.si_model.proofs.LastWrites.{one_access}
use Rattle.si_model.proofs.Sources.{sight_law}
use Rattle.si_judge.specs.declared.reads.KeptRead.{KeptRead}
use Rattle.si_judge.specs.declared.judgements.ReadId.{ReadId}
use Rattle.si_judge.specs.declared.indexes.Indexes.{Indexes}
use Rattle.si_judge.specs.Indexes.{AreIndexes, AreReadsOf, IsTouchedBy, kept_read_of, reads_in}
use Rattle.si_judge.specs.Mending.{AreReadsJudged, IsReadKind, id_of, read_cmp}
use Rattle.si_judge.specs.Sights.{sight_in}
use Rattle.si_judge.specs.Touched.{DifferIn, RestsOn}
use Rattle.si_judge.proofs.Gathered.{same_read}
use Rattle.si_judge.proofs.Orders.{read_decides}
use Rattle.si_judge.proofs.PartLists.{read_from, read_to}
use Rattle.si_judge.proofs.Seen.{seen_is}
use Rattle.si_judge.proofs.Staying.{reads_stay}
use Rattle.si_judge.proofs.Touching.{IsSide, rests_touch}
use Rattle.si_judge.proofs.Updates.{key_or_not, others_stay, value_stands}

-- the read is one of a committed transaction on the key
abbrev pub IsKeptRead : OnKey → KeptRead × Option Value → Type 0
IsKeptRead M p = (T : Part) × Contains M.parts T × Contains (reads_in T) p

abbrev pub NotAmong : List (KeptRead × Option Value) → ReadId → Type 0
NotAmong xs o = (p : KeptRead × Option Value) → Contains xs p → id_of p ≢ o

pub is_read : (Q : OnKey) (T : Part) (p : KeptRead × Option Value) → Contains Q.parts T → Contains (reads_in T) p → IsRead Q T p.0.place p.0.value
is_read Q T p there c =
    let r = read_from T p c in
    record { part = there; committed = (r.commit, r.committed); returned = subst (λ (q : KeptRead × Option Value). Contains T.accesses (record { place = q.0.place; access = access.Read q.0.value })) r.is r.returned }

pub kept_read_id : (T : Part) (p : KeptRead × Option Value) → Contains (reads_in T) p → T.id ≡ p.0.txn
kept_read_id T p c = let r = read_from T p c in ap (λ (q : KeptRead × Option Value). q.0.txn) r.is

pub reader_read : (Q : OnKey) (T : Part) (i : ℕ) (v : Option Value) → IsRead Q T i v → Contains (reads_in T) (kept_read_of T i v, own_value T i)
reader_read Q T i v r = read_to T r.committed.0 i v r.committed.1 r.returned

module _ (J : Rules) {M : OnKey} (ix : Indexes) (is : AreIndexes M ix) where
  -- what the judge answers of a read is what it finds of it
  pub judged_kind : (p : KeptRead × Option Value) → IsKeptRead M p → (k : Kind) → (J.read (sight_in M ix p) ≡ Some k) ↔ IsReadKind J M (id_of p) k
  judged_kind p reader k = (to, from)
    where
      T : Part
      T = reader.0

      to : J.read (sight_in M ix p) ≡ Some k → IsReadKind J M (id_of p) k
      to e = (reader.0, p.0.value, is_read M reader.0 p reader.1 reader.2, kept_read_id reader.0 p reader.2, ap J.read (sym (seen_is ix is reader.0 p reader.1 reader.2)) ∙ e)

      from : IsReadKind J M (id_of p) k → J.read (sight_in M ix p) ≡ Some k
      from found =
          let Y = found.0 in
          let part = one_part M is.history Y reader.0 found.2.part reader.1 (found.3 ∙ sym (kept_read_id reader.0 p reader.2)) in
          let r = is_read M reader.0 p reader.1 reader.2 in
          let one = one_access M is.history reader.0 (record { place = p.0.place; access = access.Read found.1 }) (record { place = p.0.place; access = access.Read p.0.value }) reader.1
          (subst (λ (X : Part). Contains X.accesses (record { place = p.0.place; access = access.Read found.1 })) part found.2.returned) r.returned refl in
          let value : found.1 ≡ p.0.value = same_access found.1 p.0.value (ap (λ x. x.access) one) in
          ap J.read (seen_is ix is reader.0 p reader.1 reader.2 ∙ (λ i. sight_of M (sym part i) p.0.place (sym value i))) ∙ found.4
        where
          same_access : (v w : Option Value) → access.Read v ≡ access.Read w → v ≡ w
          same_access v w e = cc

  -- after some reads were judged there stands what the judge answers of them, and else what stood there
  pub judged_or_not : (xs : List (KeptRead × Option Value)) → ((p : KeptRead × Option Value) → Contains xs p → IsKeptRead M p) → (old new : ReadId → Option Kind) → AreReadsJudged J M ix xs old new
      → (o : ReadId) → ((p : KeptRead × Option Value) × Contains xs p × (id_of p ≡ o) × (new o ≡ J.read (sight_in M ix p))) ⊎ (NotAmong xs o × (new o ≡ old o))
  judged_or_not xs readers old new judged o = elim (key_or_not (eq_by_cmp read_cmp) read_decides id_of (λ p. J.read (sight_in M ix p)) xs o) [
    | inl h ↦ inl (
      h.0,
      h.1,
      h.2,
      judged o ∙ value_stands (eq_by_cmp read_cmp) read_decides id_of (λ p. J.read (sight_in M ix p)) xs old o (J.read (sight_in M ix h.0)) h.0 h.1 h.2
          (λ q c e. (let a = readers q c in let b = readers h.0 h.1 in ap (λ x. J.read (sight_in M ix x)) (same_read ix is q h.0 a.0 b.0 a.1 b.1 a.2 b.2 (e ∙ sym h.2)))),
    )
    | inr none ↦ inr (none, judged o ∙ others_stay (eq_by_cmp read_cmp) read_decides id_of (λ p. J.read (sight_in M ix p)) xs old o none)
  ]

  -- where what stands under others is right, all is right once these were judged
  pub right_after : (xs : List (KeptRead × Option Value)) → ((p : KeptRead × Option Value) → Contains xs p → IsKeptRead M p) → (old new : ReadId → Option Kind) → AreReadsJudged J M ix xs old new
      → (o : ReadId) (k : Kind) → (NotAmong xs o → (old o ≡ Some k) ↔ IsReadKind J M o k) → (new o ≡ Some k) ↔ IsReadKind J M o k
  right_after xs readers old new judged o k stays = elim (judged_or_not xs readers old new judged o) [
    | inl h ↦ (let j = judged_kind h.0 (readers h.0 h.1) k in (
      (λ e. subst (λ q. IsReadKind J M q k) h.2 (j.0 (sym h.3 ∙ e))),
      (λ f. h.3 ∙ j.1 (subst (λ q. IsReadKind J M q k) (sym h.2) f)),
    ))
    | inr n ↦ (let s = stays n.0 in ((λ e. s.0 (sym n.1 ∙ e)), (λ f. n.1 ∙ s.1 f)))
  ]

-- ---- reads that weren't touched

module _ (J : Rules) {M : OnKey} (ix : Indexes) (is : AreIndexes M ix) (T U : Part) (named : U.id ≡ T.id) (absent : (X : Part) → Contains M.parts X → X.id ≢ T.id)
    (Q R : OnKey) (before : IsSide M U Q) (after : IsSide M T R) (less : (r : KeptRead) → IsTouchedBy ix U r → IsTouchedBy ix T r)
    (others : List (KeptRead × Option Value)) (are : AreReadsOf ix (IsTouchedBy ix T) others) where
  pub differ : DifferIn T.id Q R
  differ = record {
    initial = sym before.initial ∙ after.initial;
    parts = λ X d. (
      (λ c. elim (before.within X c) [ inl m ↦ after.above X m | inr e ↦ absurd (d (ap (λ (Y : Part). Y.id) e ∙ named)) ]),
      (λ c. elim (after.within X c) [ inl m ↦ before.above X m | inr e ↦ absurd (d (ap (λ (Y : Part). Y.id) e)) ]),
    );
  }

  same_seen : (o : ReadId) → NotAmong others o → (X : Part) (v : Option Value) → Contains M.parts X → IsRead Q X o.place v → X.id ≡ o.txn
      → sight_of Q X o.place v ≡ sight_of R X o.place v
  same_seen o none X v c read e =
      let seen = (sight_law Q X o.place v (sight_of Q X o.place v) before.history read.part).1 refl in
      let stays = reads_stay Q R T.id X o.place v (sight_of Q X o.place v) before.history after.history differ read (absent X c)
      (λ rests. untouched (less (kept_read_of X o.place v) (rests_touch ix is U (λ Y d s. absent Y d (s ∙ named)) Q before (kept_read_of X o.place v) (subst (λ u. RestsOn Q u X.start v) (sym named) rests))))
      (λ rests. untouched (rests_touch ix is T absent R after (kept_read_of X o.place v) rests)) seen in
      (sight_law R X o.place v (sight_of Q X o.place v) after.history stays.0.part).0 stays.1
    where
      untouched : IsTouchedBy ix T (kept_read_of X o.place v) → ⊥
      untouched touched = none (kept_read_of X o.place v, own_value X o.place)
          (are.all (kept_read_of X o.place v) (own_value X o.place) ((is.reads (kept_read_of X o.place v) (own_value X o.place)).1 (X, c, reader_read Q X o.place v read)) touched)
          (λ i. record { txn = e i; place = o.place })

  -- what is found of a read that wasn't touched is as it was
  pub same_kind : (o : ReadId) (k : Kind) → NotAmong others o
      → ((X : Part) (v : Option Value) → IsRead Q X o.place v → X.id ≡ o.txn → Contains M.parts X)
      → ((X : Part) (v : Option Value) → IsRead R X o.place v → X.id ≡ o.txn → Contains M.parts X)
      → IsReadKind J Q o k ↔ IsReadKind J R o k
  same_kind o k none from_Q from_R = (
    (λ f. let c = from_Q f.0 f.1 f.2 f.3 in
        (f.0, f.1, record { part = after.above f.0 c; committed = f.2.committed; returned = f.2.returned }, f.3, ap J.read (sym (same_seen o none f.0 f.1 c f.2 f.3)) ∙ f.4)),
    (λ f. let c = from_R f.0 f.1 f.2 f.3 in
        let read : IsRead Q f.0 o.place f.1 = record { part = before.above f.0 c; committed = f.2.committed; returned = f.2.returned } in
        (f.0, f.1, read, f.3, ap J.read (same_seen o none f.0 f.1 c read f.3) ∙ f.4)),
  )
