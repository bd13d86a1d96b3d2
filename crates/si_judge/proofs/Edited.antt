-- What the judge finds is kept through the coming and going of a transaction, and within the bound.
use Rattle.std.proofs.Common.{◌≡◌, ◌≢◌, ◌∙◌, inl, inr, ◌↔◌, ℕ, List, Option, Some, None, refl, sym, ap, subst}
use Rattle.std.specs.List.{Contains}
use Rattle.std.specs.Ordering.{eq_by_cmp}
use Rattle.si_lists.proofs.Members.{same_some}
use Rattle.si_model.specs.declared.numbers.Stamp.{Stamp}
use Rattle.si_model.specs.declared.numbers.TxnId.{TxnId}
use Rattle.si_model.specs.declared.numbers.Value.{Value}
use Rattle.si_model.specs.declared.parts.Part.{Part}
use Rattle.si_model.specs.declared.parts.OnKey.{OnKey}
use Rattle.si_model.specs.declared.sights.Installer.{Installer}
use Rattle.si_model.specs.declared.kinds.Kind.{Kind}
use Rattle.si_model.specs.Versions.{IsInstaller}
use Rattle.si_model.specs.Reads.{IsRead, own_value}
use Rattle.si_model.specs.Findings.{Rules}
use Rattle.si_model.specs.History.{IsOfHistory}
use Rattle.si_model.proofs.Histories.{one_installer}
use Rattle.si_timeline.specs.Timelines.{Dated}
use Rattle.si_judge.specs.declared.reads.KeptRead.{KeptRead}
use Rattle.si_judge.specs.declared.judgements.ReadId.{ReadId}
use Rattle.si_judge.specs.declared.indexes.Indexes.{Indexes}
use Rattle.si_judge.specs.Indexes.{AreIndexes, AreReadsOf, AreTouchedReads, Fits, IsTouchedBy, Joins, kept_read_of, reads_in, version_by, writes_of}
use Rattle.si_judge.specs.Mending.{ArePairKinds, AreReadKinds, Found, IsJudgedWith, IsJudgedWithout, IsReadKind, IsRight, IsVersionForgotten, IsVersionJudged, id_of, installer, read_cmp, risen}
use Rattle.si_judge.specs.Touched.{DifferIn, IsBoundedBy, IsTouched, RestsOn}
use Rattle.si_judge.proofs.Coverage.{bounded, bounded_by_both, own_once, kept_reads_once}
use Rattle.si_judge.proofs.Gathered.{touched_are}
use Rattle.si_judge.proofs.IndexEdits.{no_value}
use Rattle.si_judge.proofs.Mended.{IsKeptRead, NotAmong, differ, is_read, kept_read_id, reader_read, right_after, same_kind}
use Rattle.si_judge.proofs.Orders.{read_decides}
use Rattle.si_judge.proofs.Pairs.{pairs_after_coming, pairs_after_going, pairs_apart}
use Rattle.si_judge.proofs.PartLists.{installs_version, read_from, version_installs}
use Rattle.si_judge.proofs.Touching.{IsSide, touches}
use Rattle.si_judge.proofs.Updates.{key_or_not, others_stay, value_stands}

-- the judgements since were within the bound
abbrev pub WithinBound : OnKey → OnKey → TxnId → Found → Found → Type 0
WithinBound Q R u old new = (n : ℕ) × IsBoundedBy (IsTouched Q R u) n × (new.answers ≡ risen old.answers n)

started : (X : Part) (p : KeptRead × Option Value) → Contains (reads_in X) p → p.0.start ≡ X.start
started X p c = sym (ap (λ q. q.0.start) (read_from X p c).is)

kept_read_in : {M : OnKey} (ix : Indexes) (is : AreIndexes M ix) (P : KeptRead → Type 0) (xs : List (KeptRead × Option Value)) → AreReadsOf ix P xs → (p : KeptRead × Option Value) → Contains xs p → IsKeptRead M p
kept_read_in ix is P xs are p c = (is.reads p.0 p.1).0 (are.only p c).0

-- ---- the pairs, where T comes to what is in the indexes

module _ (J : Rules) {M R : OnKey} (ix new_ix : Indexes) (is : AreIndexes M ix) (is_new : AreIndexes R new_ix) (T U : Part) (joins : Joins T M R)
    (Q : OnKey) (before : IsSide M U Q) (named : U.id ≡ T.id) (less : (r : KeptRead) → IsTouchedBy ix U r → IsTouchedBy ix T r)
    (idle : (n : Installer) → IsInstaller Q n → n.txn ≢ T.id) (all : List (KeptRead × Option Value)) (touched : AreTouchedReads ix T (writes_of T) all)
    (old new : Stamp → Option Kind) (right : ArePairKinds J Q old) (version : IsVersionJudged J R new_ix (version_by T) old new) where
  beside : IsSide M T R
  beside = record { history = is_new.history; initial = joins.initial; above = λ X c. (joins.parts X).1 (inl c); within = λ X c. (joins.parts X).0 c }

  has_T : Contains R.parts T
  has_T = (joins.parts T).1 (inr refl)

  is_T : (X : Part) → Contains R.parts X → X.id ≡ T.id → X ≡ T
  is_T X c e = elim ((joins.parts X).0 c) [ inl m ↦ absurd (joins.absent X m e) | inr s ↦ s ]

  differs : DifferIn T.id Q R
  differs = differ J ix is T U named joins.absent Q R before beside less all (touched_are ix is T (R, joins, is_new.history) all touched)

  pub pairs_with : ArePairKinds J R new
  pairs_with = by (version_by T) refl version
    where
      by : (o : Option Dated) → version_by T ≡ o → IsVersionJudged J R new_ix o old new → ArePairKinds J R new
      by None e same = λ c k.
          let p = pairs_apart J T.id Q R before.history is_new.history differs idle
          (λ n i t. (let s = is_T i.0 i.1 (sym i.2.txn ∙ t) in
          let v = installs_version i.0 n i.2 in no_value v.0 (sym e ∙ ap version_by (sym s) ∙ v.1))) old right c k in
          ((λ f. p.0 (sym (same c) ∙ f)), (λ f. same c ∙ p.1 f))
      by (Some d) e j = pairs_after_coming J new_ix is_new T.id Q before.history differs d
          (λ n i t. absurd (idle n i t))
          (λ n i t. (let s = is_T i.0 i.1 (sym i.2.txn ∙ t) in
          let v = installs_version i.0 n i.2 in
          let one : v.0 ≡ d = same_some (sym v.1 ∙ ap version_by s ∙ e) in
          sym (ap (λ (m : Installer). m.commit) v.2) ∙ ap (λ (x : Dated). x.0) one))
          old right (T, has_T, version_installs T d e) j.0 new j.1 j.2

-- ---- T comes to what is in the indexes

module _ (J : Rules) {M R : OnKey} (ix new_ix : Indexes) (is : AreIndexes M ix) (is_new : AreIndexes R new_ix) (T U : Part) (joins : Joins T M R)
    (Q : OnKey) (before : IsSide M U Q) (named : U.id ≡ T.id) (less : (r : KeptRead) → IsTouchedBy ix U r → IsTouchedBy ix T r)
    (silent : (X : Part) (i : ℕ) (v : Option Value) → IsRead Q X i v → X.id ≡ T.id → ⊥) (idle : (n : Installer) → IsInstaller Q n → n.txn ≢ T.id)
    (old new : Found) (right : IsRight J Q old) (judged : IsJudgedWith J T R ix new_ix old new) where
  fits : Fits T M
  fits = (R, joins, is_new.history)

  after : IsSide M T R
  after = record { history = is_new.history; initial = joins.initial; above = λ X c. (joins.parts X).1 (inl c); within = λ X c. (joins.parts X).0 c }

  there : Contains R.parts T
  there = (joins.parts T).1 (inr refl)

  named_T : (X : Part) → Contains R.parts X → X.id ≡ T.id → X ≡ T
  named_T X c e = elim ((joins.parts X).0 c) [ inl m ↦ absurd (joins.absent X m e) | inr s ↦ s ]

  gathered : AreReadsOf ix (IsTouchedBy ix T) judged.others
  gathered = touched_are ix is T fits judged.others judged.touched

  still : (p : KeptRead × Option Value) → Contains judged.others p → IsKeptRead R p
  still p c = let x = kept_read_in ix is (IsTouchedBy ix T) judged.others gathered p c in (x.0, (joins.parts x.0).1 (inl x.1), x.2)

  reads_right : AreReadKinds J R new.reads
  reads_right o k = right_after J new_ix is_new (reads_in T) (λ p c. (T, there, c)) judged.come.middle new.reads judged.come.own_judged o k (λ not_own.
      right_after J new_ix is_new judged.others still old.reads judged.come.middle judged.come.others_judged o k (λ not_other.
      let same = same_kind J ix is T U named joins.absent Q R before after less judged.others gathered o k not_other
      (λ X v read e. elim (before.within X read.part) [ inl m ↦ m | inr s ↦ absurd (silent X o.place v read (ap (λ (Y : Part). Y.id) s ∙ named)) ])
      (λ X v read e. elim ((joins.parts X).0 read.part) [ inl m ↦ m | inr s ↦ absurd (own X v read e s not_own) ]) in
      ((λ e. same.0 ((right.reads o k).0 e)), (λ f. (right.reads o k).1 (same.1 f)))))
    where
      own : (X : Part) (v : Option Value) → IsRead R X o.place v → X.id ≡ o.txn → X ≡ T → NotAmong (reads_in T) o → ⊥
      own X v read e s none = none (kept_read_of X o.place v, own_value X o.place) (subst (λ Y. Contains (reads_in Y) (kept_read_of X o.place v, own_value X o.place)) s (reader_read R X o.place v read))
          (λ i. record { txn = e i; place = o.place })

  pub right_with : IsRight J R new
  right_with = record { reads = reads_right; overlaps = pairs_with J ix new_ix is is_new T U joins Q before named less idle judged.others judged.touched old.overlaps new.overlaps right.overlaps judged.come.version }

  pub bound_with : WithinBound Q R T.id old new
  bound_with = (
    judged.come.counted.0,
    bounded_by_both (IsTouched Q R T.id) judged.others (reads_in T)
        (kept_reads_once ix is (IsTouchedBy ix T) judged.others gathered) (own_once T (is_new.history.places T there))
        (λ p q c d e. (let x = kept_read_in ix is (IsTouchedBy ix T) judged.others gathered p c in joins.absent x.0 x.1 (kept_read_id x.0 p x.2 ∙ e ∙ sym (kept_read_id T q d))))
        (λ p c. (let x = still p c in record {
          part = x.0;
          value = p.0.value;
          read = is_read R x.0 p x.1 x.2;
          of = kept_read_id x.0 p x.2;
          touched = inr (inr (subst (λ s. RestsOn R T.id s p.0.value) (started x.0 p x.2) (touches ix is T joins.absent R after there p.0 (gathered.only p c).1)));
        }))
        (λ p c. record { part = T; value = p.0.value; read = is_read R T p there c; of = kept_read_id T p c; touched = inl (sym (kept_read_id T p c)) })
        judged.come.counted.0 judged.come.counted.1,
    judged.come.counted.2,
  )

-- ---- the pairs, where T goes

module _ (J : Rules) {M : OnKey} (ix : Indexes) (is : AreIndexes M ix) (T : Part) (Q : OnKey) (h : IsOfHistory Q) (joins : Joins T M Q)
    (all : List (KeptRead × Option Value)) (touched : AreTouchedReads ix T (writes_of T) all)
    (old new : Stamp → Option Kind) (right : ArePairKinds J Q old) (version : IsVersionForgotten J M ix (version_by T) old new) where
  with_T : IsSide M T Q
  with_T = record { history = h; initial = joins.initial; above = λ X c. (joins.parts X).1 (inl c); within = λ X c. (joins.parts X).0 c }

  without : IsSide M T M
  without = record { history = is.history; initial = refl; above = λ X c. c; within = λ X c. inl c }

  had_T : Contains Q.parts T
  had_T = (joins.parts T).1 (inr refl)

  named_had : (X : Part) → Contains Q.parts X → X.id ≡ T.id → X ≡ T
  named_had X c e = elim ((joins.parts X).0 c) [ inl m ↦ absurd (joins.absent X m e) | inr s ↦ s ]

  differ_by : DifferIn T.id Q M
  differ_by = differ J ix is T T refl joins.absent Q M with_T without (λ r t. t) all (touched_are ix is T (Q, joins, h) all touched)

  pub pairs_without : ArePairKinds J M new
  pairs_without = by (version_by T) refl version
    where
      by : (o : Option Dated) → version_by T ≡ o → IsVersionForgotten J M ix o old new → ArePairKinds J M new
      by None e same = λ c k.
          let p = pairs_apart J T.id Q M h is.history differ_by
          (λ n i t. (let s = named_had i.0 i.1 (sym i.2.txn ∙ t) in let v = installs_version i.0 n i.2 in no_value v.0 (sym e ∙ ap version_by (sym s) ∙ v.1)))
          (λ n i t. joins.absent i.0 i.1 (sym i.2.txn ∙ t)) old right c k in
          ((λ f. p.0 (sym (same c) ∙ f)), (λ f. same c ∙ p.1 f))
      by (Some d) e j = pairs_after_going J ix is T.id Q h differ_by d
          (λ n i t. (let s = named_had i.0 i.1 (sym i.2.txn ∙ t) in
          let v = installs_version i.0 n i.2 in
          let one : v.0 ≡ d = same_some (sym v.1 ∙ ap version_by s ∙ e) in
          sym (ap (λ (m : Installer). m.commit) v.2) ∙ ap (λ (x : Dated). x.0) one))
          (λ n i t. absurd (joins.absent i.0 i.1 (sym i.2.txn ∙ t)))
          old right
          (λ n i t. (let one = one_installer Q h i.0 T n (installer d) ((joins.parts i.0).1 (inl i.1)) had_T i.2 (version_installs T d e) t in joins.absent i.0 i.1 (ap (λ (X : Part). X.id) one)))
          j.0 new j.1 j.2

-- ---- T goes, and is no longer in the indexes

module _ (J : Rules) {M : OnKey} (ix : Indexes) (is : AreIndexes M ix) (T : Part) (Q : OnKey) (h : IsOfHistory Q) (joins : Joins T M Q)
    (old new : Found) (right : IsRight J Q old) (judged : IsJudgedWithout J T M ix old new) where
  was : IsSide M T Q
  was = record { history = h; initial = joins.initial; above = λ X c. (joins.parts X).1 (inl c); within = λ X c. (joins.parts X).0 c }

  stays : IsSide M T M
  stays = record { history = is.history; initial = refl; above = λ X c. c; within = λ X c. inl c }

  had : Contains Q.parts T
  had = (joins.parts T).1 (inr refl)

  collected : AreReadsOf ix (IsTouchedBy ix T) judged.others
  collected = touched_are ix is T (Q, joins, h) judged.others judged.touched

  forgotten_or_not : (o : ReadId) (k : Kind) → NotAmong judged.others o → (judged.gone.middle o ≡ Some k) ↔ IsReadKind J M o k
  forgotten_or_not o k not_other = elim (key_or_not {V = Kind} (eq_by_cmp read_cmp) read_decides id_of (λ p. None) (reads_in T) o) [
    | inl hit ↦ (
        let gone : judged.gone.middle o ≡ None = judged.gone.own_forgotten o ∙ value_stands (eq_by_cmp read_cmp) read_decides id_of (λ p. None) (reads_in T) old.reads o None hit.0 hit.1 hit.2 (λ p c e. refl) in
        ((λ e. absurd (no_value k (sym gone ∙ e))), (λ f. absurd (joins.absent f.0 f.2.part (f.3 ∙ sym (ap (λ (x : ReadId). x.txn) hit.2) ∙ sym (kept_read_id T hit.0 hit.1))))))
    | inr none ↦ (
        let same : judged.gone.middle o ≡ old.reads o = judged.gone.own_forgotten o ∙ others_stay (eq_by_cmp read_cmp) read_decides id_of (λ p. None) (reads_in T) old.reads o none in
        let kind = same_kind J ix is T T refl joins.absent Q M was stays (λ r t. t) judged.others collected o k not_other
        (λ X v read e. elim ((joins.parts X).0 read.part) [ inl m ↦ m | inr s ↦ absurd (own X v read e s none) ])
        (λ X v read e. read.part) in
        ((λ e. kind.0 ((right.reads o k).0 (sym same ∙ e))), (λ f. same ∙ (right.reads o k).1 (kind.1 f))))
  ]
    where
      own : (X : Part) (v : Option Value) → IsRead Q X o.place v → X.id ≡ o.txn → X ≡ T → NotAmong (reads_in T) o → ⊥
      own X v read e s none = none (kept_read_of X o.place v, own_value X o.place) (subst (λ Y. Contains (reads_in Y) (kept_read_of X o.place v, own_value X o.place)) s (reader_read Q X o.place v read))
          (λ i. record { txn = e i; place = o.place })

  pub right_without : IsRight J M new
  right_without = record {
    reads = λ o k. right_after J ix is judged.others (λ p c. kept_read_in ix is (IsTouchedBy ix T) judged.others collected p c) judged.gone.middle new.reads judged.gone.others_judged o k (forgotten_or_not o k);
    overlaps = pairs_without J ix is T Q h joins judged.others judged.touched old.overlaps new.overlaps right.overlaps judged.gone.version;
  }

  pub bound_without : WithinBound Q M T.id old new
  bound_without = (
    judged.gone.counted.0,
    bounded (IsTouched Q M T.id) judged.others (kept_reads_once ix is (IsTouchedBy ix T) judged.others collected)
        (λ p c. (let x = kept_read_in ix is (IsTouchedBy ix T) judged.others collected p c in record {
          part = x.0;
          value = p.0.value;
          read = is_read M x.0 p x.1 x.2;
          of = kept_read_id x.0 p x.2;
          touched = inr (inl (subst (λ s. RestsOn Q T.id s p.0.value) (started x.0 p x.2) (touches ix is T joins.absent Q was had p.0 (collected.only p c).1)));
        }))
        judged.gone.counted.0 judged.gone.counted.1,
    judged.gone.counted.2,
  )
