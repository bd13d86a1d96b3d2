-- What the judge finds of reads is kept, or the reads are marked, through the coming and going of a transaction and a set-up.
use Rattle.std.proofs.Common.{◌≡◌, ◌∙◌, ◌⊎◌, inl, inr, ℕ, List, [], Option, None, refl, sym, ap, subst}
use Rattle.std.specs.List.{Contains}
use Rattle.std.specs.Ordering.{eq_by_cmp}
use Rattle.si_lists.proofs.Members.{Contains-nil}
use Rattle.si_model.specs.declared.numbers.Value.{Value}
use Rattle.si_model.specs.declared.parts.Part.{Part}
use Rattle.si_model.specs.declared.parts.OnKey.{OnKey}
use Rattle.si_model.specs.declared.kinds.Kind.{Kind}
use Rattle.si_model.specs.Reads.{IsRead, own_value}
use Rattle.si_model.specs.Findings.{Rules}
use Rattle.si_model.specs.History.{IsOfHistory}
use Rattle.si_judge.specs.declared.reads.KeptRead.{KeptRead}
use Rattle.si_judge.specs.declared.judgements.ReadId.{ReadId}
use Rattle.si_judge.specs.declared.indexes.Indexes.{Indexes}
use Rattle.si_judge.specs.Indexes.{AreIndexes, AreReadsOf, AreTouchedReads, Fits, IsTouchedBy, Joins, kept_read_of, reads_in, writes_of}
use Rattle.si_judge.specs.Marks.{AreGathered, AreReadKindsBut, IsMarked, IsMarkedOn, IsReadRight, Marked}
use Rattle.si_judge.specs.Mending.{AreForgotten, AreReadsJudged, id_of, read_cmp}
use Rattle.si_judge.proofs.Gathered.{touched_are}
use Rattle.si_judge.proofs.IndexEdits.{no_value}
use Rattle.si_judge.proofs.Mended.{IsKeptRead, NotAmong, is_read, kept_read_id, reader_read, right_after, same_kind}
use Rattle.si_judge.proofs.Orders.{read_decides}
use Rattle.si_judge.proofs.PartLists.{read_from}
use Rattle.si_judge.proofs.Touching.{IsSide}
use Rattle.si_judge.proofs.Updates.{key_or_not, others_stay, value_stands}

-- whether o is of one of these reads
pub of_one : (xs : List (KeptRead × Option Value)) (o : ReadId) → ((p : KeptRead × Option Value) × Contains xs p × (id_of p ≡ o)) ⊎ NotAmong xs o
of_one xs o = key_or_not {V = Kind} (eq_by_cmp read_cmp) read_decides id_of (λ p. None) xs o

-- a marked read of a transaction on the key is marked there
pub marked_there : {M : OnKey} (marks : Marked) (p : KeptRead × Option Value) → IsKeptRead M p → IsMarked marks p.0 → IsMarkedOn M marks (id_of p)
marked_there {M} marks p reader marked =
    let r = read_from reader.0 p reader.2 in (
      reader.0,
      p.0.value,
      is_read M reader.0 p reader.1 reader.2,
      kept_read_id reader.0 p reader.2,
      subst (IsMarked marks) (sym (same r.place r.value (ap (λ (q : KeptRead × Option Value). q.0) r.is))) marked,
    )
  where
    same : (i : ℕ) (v : Option Value) → kept_read_of reader.0 i v ≡ p.0 → kept_read_of reader.0 p.0.place p.0.value ≡ p.0
    same i v e = ap (λ (q : KeptRead). kept_read_of reader.0 q.place q.value) (sym e) ∙ e

kept_reader : {M : OnKey} (ix : Indexes) (is : AreIndexes M ix) (P : KeptRead → Type 0) (xs : List (KeptRead × Option Value)) → AreReadsOf ix P xs → (p : KeptRead × Option Value) → Contains xs p → IsKeptRead M p
kept_reader ix is P xs are p c = (is.reads p.0 p.1).0 (are.only p c).0

-- of reads that are gathered from nothing none is another
pub gathered_only : (xs new : List (KeptRead × Option Value)) (marks more : Marked) → AreGathered xs marks more [] new → (p : KeptRead × Option Value) → Contains new p → Contains xs p
gathered_only xs new marks more gathered p c = elim (gathered.within p c) [ inl none ↦ absurd (Contains-nil p none) | inr there ↦ there ]

-- ---- T comes to what is in the indexes

module _ (J : Rules) {M R : OnKey} (ix new_ix : Indexes) (is : AreIndexes M ix) (is_new : AreIndexes R new_ix) (T U : Part) (joins : Joins T M R)
    (Q : OnKey) (before : IsSide M U Q) (named : U.id ≡ T.id) (less : (r : KeptRead) → IsTouchedBy ix U r → IsTouchedBy ix T r)
    (silent : (X : Part) (i : ℕ) (v : Option Value) → IsRead Q X i v → X.id ≡ T.id → ⊥)
    (old middle new : ReadId → Option Kind) (marks more : Marked) (all reads : List (KeptRead × Option Value)) (touched : AreTouchedReads ix T (writes_of T) all)
    (gathered : AreGathered all marks more [] reads) (others_judged : AreReadsJudged J R new_ix reads old middle) (own_judged : AreReadsJudged J R new_ix (reads_in T) middle new)
    (known : AreReadKindsBut J Q marks old) where
  fits : Fits T M
  fits = (R, joins, is_new.history)

  after : IsSide M T R
  after = record { history = is_new.history; initial = joins.initial; above = λ X c. (joins.parts X).1 (inl c); within = λ X c. (joins.parts X).0 c }

  there : Contains R.parts T
  there = (joins.parts T).1 (inr refl)

  are : AreReadsOf ix (IsTouchedBy ix T) all
  are = touched_are ix is T fits all touched

  still : (p : KeptRead × Option Value) → Contains all p → IsKeptRead R p
  still p c = let x = kept_reader ix is (IsTouchedBy ix T) all are p c in (x.0, (joins.parts x.0).1 (inl x.1), x.2)

  of_all : (p : KeptRead × Option Value) → Contains reads p → Contains all p
  of_all = gathered_only all reads marks more gathered

  -- what stands under o once all were judged, where it is right if o isn't among them
  judged_right : (o : ReadId) → (NotAmong (reads_in T) o → NotAmong reads o → IsReadRight J R old o) → IsReadRight J R new o
  judged_right o else_right k = right_after J new_ix is_new (reads_in T) (λ p c. (T, there, c)) middle new own_judged o k (λ not_own.
      right_after J new_ix is_new reads (λ p c. still p (of_all p c)) old middle others_judged o k (λ not_other. else_right not_own not_other k))

  untouched : (o : ReadId) → NotAmong all o → NotAmong (reads_in T) o → IsMarkedOn R more o ⊎ IsReadRight J R new o
  untouched o not_all not_own = elim (known o) [
    | inl m ↦ inl (m.0, m.1, record { part = stays m.0 m.1 m.2 m.3; committed = (m.2).committed; returned = (m.2).returned }, m.3, gathered.marked (kept_read_of m.0 o.place m.1) m.4)
    | inr right ↦ inr (judged_right o (λ _ _ k.
        let same = same_kind J ix is T U named joins.absent Q R before after less all are o k not_all
        (λ X v read e. elim (before.within X read.part) [ inl m ↦ m | inr s ↦ absurd (silent X o.place v read (ap (λ (Y : Part). Y.id) s ∙ named)) ])
        (λ X v read e. elim ((joins.parts X).0 read.part) [ inl m ↦ m | inr s ↦ absurd (own X v read e s) ]) in
        ((λ e. same.0 ((right k).0 e)), (λ f. (right k).1 (same.1 f)))))
  ]
    where
      stays : (X : Part) (v : Option Value) → IsRead Q X o.place v → X.id ≡ o.txn → Contains R.parts X
      stays X v read e = elim (before.within X read.part) [
        | inl m ↦ (joins.parts X).1 (inl m)
        | inr s ↦ absurd (silent X o.place v read (ap (λ (Y : Part). Y.id) s ∙ named))
      ]

      own : (X : Part) (v : Option Value) → IsRead R X o.place v → X.id ≡ o.txn → X ≡ T → ⊥
      own X v read e s = not_own (kept_read_of X o.place v, own_value X o.place) (subst (λ Y. Contains (reads_in Y) (kept_read_of X o.place v, own_value X o.place)) s (reader_read R X o.place v read))
          (λ i. record { txn = e i; place = o.place })

  pub waits_with : AreReadKindsBut J R more new
  waits_with o = elim (of_one (reads_in T) o) [
    | inl own ↦ inr (judged_right o (λ not_own _. absurd (not_own own.0 own.1 own.2)))
    | inr not_own ↦ elim (of_one all o) [
      | inl hit ↦ elim (gathered.covered hit.0 hit.1) [
        | inl judged ↦ inr (judged_right o (λ _ not_other. absurd (not_other hit.0 judged hit.2)))
        | inr marked ↦ inl (subst (IsMarkedOn R more) hit.2 (marked_there more hit.0 (still hit.0 hit.1) marked))
      ]
      | inr not_all ↦ untouched o not_all not_own
    ]
  ]

-- ---- T goes, and is no longer in the indexes

module _ (J : Rules) {M : OnKey} (ix : Indexes) (is : AreIndexes M ix) (T : Part) (Q : OnKey) (h : IsOfHistory Q) (joins : Joins T M Q)
    (old middle new : ReadId → Option Kind) (marks more : Marked) (all reads : List (KeptRead × Option Value)) (touched : AreTouchedReads ix T (writes_of T) all)
    (gathered : AreGathered all marks more [] reads) (own_forgotten : AreForgotten (reads_in T) old middle) (others_judged : AreReadsJudged J M ix reads middle new)
    (known : AreReadKindsBut J Q marks old) where
  was : IsSide M T Q
  was = record { history = h; initial = joins.initial; above = λ X c. (joins.parts X).1 (inl c); within = λ X c. (joins.parts X).0 c }

  left : IsSide M T M
  left = record { history = is.history; initial = refl; above = λ X c. c; within = λ X c. inl c }

  collected : AreReadsOf ix (IsTouchedBy ix T) all
  collected = touched_are ix is T (Q, joins, h) all touched

  remains : (p : KeptRead × Option Value) → Contains all p → IsKeptRead M p
  remains p c = kept_reader ix is (IsTouchedBy ix T) all collected p c

  rest_right : (o : ReadId) → (NotAmong reads o → IsReadRight J M middle o) → IsReadRight J M new o
  rest_right o else_right k = right_after J ix is reads (λ p c. remains p (gathered_only all reads marks more gathered p c)) middle new others_judged o k (λ not_other. else_right not_other k)

  forgotten : (o : ReadId) (p : KeptRead × Option Value) → Contains (reads_in T) p → id_of p ≡ o → IsReadRight J M middle o
  forgotten o p c e k =
      let gone : middle o ≡ None = own_forgotten o ∙ value_stands (eq_by_cmp read_cmp) read_decides id_of (λ p. None) (reads_in T) old o None p c e (λ q d s. refl) in
      ((λ f. absurd (no_value k (sym gone ∙ f))), (λ f. absurd (joins.absent f.0 f.2.part (f.3 ∙ sym (ap (λ (x : ReadId). x.txn) e) ∙ sym (kept_read_id T p c)))))

  not_touched : (o : ReadId) → NotAmong all o → NotAmong (reads_in T) o → IsMarkedOn M more o ⊎ IsReadRight J M new o
  not_touched o not_all not_own = elim (known o) [
    | inl m ↦ inl (m.0, m.1, record { part = stays m.0 m.1 m.2 m.3; committed = (m.2).committed; returned = (m.2).returned }, m.3, gathered.marked (kept_read_of m.0 o.place m.1) m.4)
    | inr right ↦ inr (rest_right o (λ _ k.
        let same : middle o ≡ old o = own_forgotten o ∙ others_stay (eq_by_cmp read_cmp) read_decides id_of (λ p. None) (reads_in T) old o not_own in
        let kind = same_kind J ix is T T refl joins.absent Q M was left (λ r t. t) all collected o k not_all stays (λ X v read e. read.part) in
        ((λ e. kind.0 ((right k).0 (sym same ∙ e))), (λ f. same ∙ (right k).1 (kind.1 f)))))
  ]
    where
      stays : (X : Part) (v : Option Value) → IsRead Q X o.place v → X.id ≡ o.txn → Contains M.parts X
      stays X v read e = elim ((joins.parts X).0 read.part) [
        | inl m ↦ m
        | inr s ↦ absurd (not_own (kept_read_of X o.place v, own_value X o.place) (subst (λ Y. Contains (reads_in Y) (kept_read_of X o.place v, own_value X o.place)) s (reader_read Q X o.place v read))
            (λ i. record { txn = e i; place = o.place }))
      ]

  pub waits_without : AreReadKindsBut J M more new
  waits_without o = elim (of_one all o) [
    | inl hit ↦ elim (gathered.covered hit.0 hit.1) [
      | inl judged ↦ inr (rest_right o (λ not_other. absurd (not_other hit.0 judged hit.2)))
      | inr marked ↦ inl (subst (IsMarkedOn M more) hit.2 (marked_there more hit.0 (remains hit.0 hit.1) marked))
    ]
    | inr not_all ↦ elim (of_one (reads_in T) o) [
      | inl own ↦ inr (rest_right o (λ _. forgotten o own.0 own.1 own.2))
      | inr not_own ↦ not_touched o not_all not_own
    ]
  ]
