-- The edits of a key whose reads are judged later, each whole.
use Rattle.std.proofs.Common.{◌≡◌, ◌∙◌, ◌⊎◌, inl, inr, List, [], ◌++◌, Some, None, Option, refl, sym, ap, subst}
use Rattle.std.specs.List.{Contains}
use Rattle.si_model.specs.declared.numbers.Stamp.{Stamp}
use Rattle.si_model.specs.declared.numbers.Value.{Value}
use Rattle.si_model.specs.declared.transactions.Outcome.{Outcome}
use Rattle.si_model.specs.declared.transactions.Status.TheVariants as status
use Rattle.si_model.specs.declared.parts.Part.{Part}
use Rattle.si_model.specs.declared.parts.OnKey.{OnKey}
use Rattle.si_model.specs.Edits.{status_after}
use Rattle.si_model.specs.KeyEdits.{set_up_on}
use Rattle.si_model.specs.Findings.{Rules}
use Rattle.si_model.specs.History.{IsOfHistory}
use Rattle.si_model.specs.Reads.{IsRead}
use Rattle.si_judge.specs.declared.indexes.Indexes.{Indexes}
use Rattle.si_judge.specs.declared.judgements.ReadId.{ReadId}
use Rattle.si_judge.specs.declared.reads.KeptRead.{KeptRead}
use Rattle.si_judge.specs.Indexes.{AreIndexes, Joins, kept_read_of, kept_reads_in}
use Rattle.si_judge.specs.Kept.{Kept, Shows, WouldShow}
use Rattle.si_judge.specs.Marks.{AreGathered, AreReadKindsBut, IsComeLater, IsGoneLater, IsMarkedOn, IsReadRight, Marked}
use Rattle.si_judge.specs.Mending.{AreReadsJudged, ArePairKinds, Found, id_of}
use Rattle.si_judge.proofs.Edited.{pairs_with, pairs_without}
use Rattle.si_judge.proofs.Mended.{NotAmong, right_after}
use Rattle.si_judge.proofs.Mendings.{doubt_idle, doubt_less, doubt_side, doubt_silent, new_idle, new_side, new_silent}
use Rattle.si_judge.proofs.SetUps.{are_set, pairs_set_up, reader, same_seen, set_up_in}
use Rattle.si_judge.proofs.Waiting.{gathered_only, marked_there, of_one, waits_with, waits_without}

-- what is found where the reads that are marked aren't judged yet
pub record StillWaits (J : Rules) (R : OnKey) (more : Marked) (new : Found) : Type 0 where
  pub reads : AreReadKindsBut J R more new.reads
  pub overlaps : ArePairKinds J R new.overlaps

-- what shows what is on the key would show it
pub would_show : (J : Rules) (M : OnKey) (s : Kept) → Shows J M s → WouldShow J M s
would_show J M s shows = record { indexes = shows.indexes; reads = λ o. inr (λ k. shows.right.reads o k); overlaps = shows.right.overlaps }

pub arrived_later : (J : Rules) {M R : OnKey} (ix new_ix : Indexes) (T : Part) (old new : Found) (marks more : Marked) → AreIndexes M ix → AreIndexes R new_ix → Joins T M R
    → AreReadKindsBut J M marks old.reads → ArePairKinds J M old.overlaps → IsComeLater J T R ix new_ix marks more old new → StillWaits J R more new
arrived_later J {M} {R} ix new_ix T old new marks more is is_new joins known pairs later =
    let side = new_side is.history T joins in
    let silent = new_silent is.history T joins in
    let idle = new_idle is.history T joins in
    record {
      reads = waits_with J ix new_ix is is_new T T joins M side refl (λ r t. t) silent old.reads later.come.middle new.reads marks more later.others later.judged later.touched later.gathered
          later.come.others_judged later.come.own_judged known;
      overlaps = pairs_with J ix new_ix is is_new T T joins M side refl (λ r t. t) idle later.others later.touched old.overlaps new.overlaps pairs later.come.version;
    }

pub resolved_later : (J : Rules) {M R : OnKey} (ix new_ix : Indexes) (T : Part) (o : Outcome) (Q : OnKey) (old new : Found) (marks more : Marked) → AreIndexes M ix → AreIndexes R new_ix → IsOfHistory Q
    → Joins T M Q → T.status ≡ status.InDoubt → Joins (record T { status = status_after o }) M R → AreReadKindsBut J Q marks old.reads → ArePairKinds J Q old.overlaps
    → IsComeLater J (record T { status = status_after o }) R ix new_ix marks more old new → StillWaits J R more new
resolved_later J {M} {R} ix new_ix T o Q old new marks more is is_new h was doubt joins known pairs later =
    let side = doubt_side ix T o Q h was doubt in
    let less = doubt_less ix T o Q h was doubt in
    let silent = doubt_silent ix T o Q h was doubt in
    let idle = doubt_idle ix T o Q h was doubt in
    record {
      reads = waits_with J ix new_ix is is_new (record T { status = status_after o }) T joins Q side refl less silent old.reads later.come.middle new.reads marks more later.others later.judged later.touched
          later.gathered later.come.others_judged later.come.own_judged known;
      overlaps = pairs_with J ix new_ix is is_new (record T { status = status_after o }) T joins Q side refl less idle later.others later.touched old.overlaps new.overlaps pairs later.come.version;
    }

pub withdrawn_later : (J : Rules) {R : OnKey} (ix : Indexes) (T : Part) (Q : OnKey) (old new : Found) (marks more : Marked) → AreIndexes R ix → IsOfHistory Q → Joins T R Q
    → AreReadKindsBut J Q marks old.reads → ArePairKinds J Q old.overlaps → IsGoneLater J T R ix marks more old new → StillWaits J R more new
withdrawn_later J ix T Q old new marks more is h joins known pairs later = record {
  reads = waits_without J ix is T Q h joins old.reads later.gone.middle new.reads marks more later.others later.judged later.touched later.gathered later.gone.own_forgotten later.gone.others_judged known;
  overlaps = pairs_without J ix is T Q h joins later.others later.touched old.overlaps new.overlaps pairs later.gone.version;
}

-- the reads that a set-up touches
abbrev pub set_up_reads : Indexes → Value → List (KeptRead × Option Value)
set_up_reads ix w = kept_reads_in (set_up_in w ix) None None ++ kept_reads_in (set_up_in w ix) (Some w) None

module _ (J : Rules) {M : OnKey} (ix : Indexes) (is : AreIndexes M ix) (w : Value) (unset : M.initial ≡ None) (h : IsOfHistory (set_up_on w M)) (old new : Found) (marks more : Marked)
    (judged : List (KeptRead × Option Value)) (gathered : AreGathered (set_up_reads ix w) marks more [] judged) (known : AreReadKindsBut J M marks old.reads) (pairs : ArePairKinds J M old.overlaps)
    (judged_so : AreReadsJudged J (set_up_on w M) (set_up_in w ix) judged old.reads new.reads) (same : (c : Stamp) → new.overlaps c ≡ old.overlaps c) where
  judged_right : (o : ReadId) → IsReadRight J (set_up_on w M) old.reads o ⊎ ((p : KeptRead × Option Value) × Contains judged p × (id_of p ≡ o)) → IsReadRight J (set_up_on w M) new.reads o
  judged_right o right k = right_after J (set_up_in w ix) (are_set ix is w unset h) judged (λ p c. reader ix is w unset h p (gathered_only (set_up_reads ix w) judged marks more gathered p c))
      old.reads new.reads judged_so o k (λ none. elim right [ inl r ↦ r k | inr one ↦ absurd (none one.0 one.1 one.2) ])

  others : (o : ReadId) → NotAmong (set_up_reads ix w) o → IsMarkedOn M marks o ⊎ IsReadRight J M old.reads o → IsMarkedOn (set_up_on w M) more o ⊎ IsReadRight J (set_up_on w M) new.reads o
  others o none (inl m) = inl (m.0, m.1, record { part = (m.2).part; committed = (m.2).committed; returned = (m.2).returned }, m.3, gathered.marked (kept_read_of m.0 o.place m.1) m.4)
  others o none (inr right) = inr (judged_right o (inl (λ k. (
    (λ e. let f = (right k).0 e in
        (f.0, f.1, record { part = f.2.part; committed = f.2.committed; returned = f.2.returned }, f.3, ap J.read (sym (same_seen ix is w unset h o none f.0 f.1 f.2 f.3)) ∙ f.4)),
    (λ f. let read : IsRead M f.0 o.place f.1 = record { part = f.2.part; committed = f.2.committed; returned = f.2.returned } in
        (right k).1 (f.0, f.1, read, f.3, ap J.read (same_seen ix is w unset h o none f.0 f.1 read f.3) ∙ f.4)),
  ))))

  pub set_up_waits : StillWaits J (set_up_on w M) more new
  set_up_waits = record {
    reads = λ o. elim (of_one (set_up_reads ix w) o) [
      | inl hit ↦ elim (gathered.covered hit.0 hit.1) [
        | inl there ↦ inr (judged_right o (inr (hit.0, there, hit.2)))
        | inr marked ↦ inl (subst (IsMarkedOn (set_up_on w M) more) hit.2 (marked_there more hit.0 (reader ix is w unset h hit.0 hit.1) marked))
      ]
      | inr none ↦ others o none (known o)
    ];
    overlaps = pairs_set_up J M w old.overlaps new.overlaps pairs same;
  }
