-- What the judge finds is kept when the key is set up.
use Rattle.std.proofs.Common.{◌≡◌, ◌∙◌, ◌⊎◌, inl, inr, ℕ, List, ◌++◌, length, Option, Some, None, refl, sym, ap, arith}
use Rattle.std.specs.List.{Contains}
use Rattle.si_model.specs.declared.numbers.Stamp.{Stamp}
use Rattle.si_model.specs.declared.numbers.Value.{Value}
use Rattle.si_model.specs.declared.parts.Part.{Part}
use Rattle.si_model.specs.declared.parts.OnKey.{OnKey}
use Rattle.si_model.specs.declared.sights.Installer.{Installer}
use Rattle.si_model.specs.declared.sights.VersionId.{VersionId}
use Rattle.si_model.specs.declared.kinds.Kind.{Kind}
use Rattle.si_model.specs.Versions.{IsNext}
use Rattle.si_model.specs.Reads.{IsRead, own_value, sight_of}
use Rattle.si_model.specs.Findings.{Rules}
use Rattle.si_model.specs.History.{IsOfHistory}
use Rattle.si_model.specs.KeyEdits.{set_up_on}
use Rattle.si_model.proofs.Sources.{sight_law}
use Rattle.si_judge.specs.declared.reads.KeptRead.{KeptRead}
use Rattle.si_judge.specs.declared.judgements.ReadId.{ReadId}
use Rattle.si_judge.specs.declared.indexes.Indexes.{Indexes}
use Rattle.si_judge.specs.Indexes.{AreIndexes, AreReadsOf, kept_read_of, kept_reads_in}
use Rattle.si_judge.specs.KeptReads.{IsKeptReadOf}
use Rattle.si_judge.specs.Mending.{ArePairKinds, AreReadsJudged, Found, IsPairKind, IsRight, risen}
use Rattle.si_judge.specs.Touched.{IsBoundedBy, IsTouchedBySetUp}
use Rattle.si_judge.proofs.Coverage.{bounded, kept_reads_once}
use Rattle.si_judge.proofs.Gathered.{both_are, kept_reads_are}
use Rattle.si_judge.proofs.IndexEdits.{no_value}
use Rattle.si_judge.proofs.Mended.{IsKeptRead, NotAmong, is_read, kept_read_id, reader_read, right_after}
use Rattle.si_judge.proofs.Staying.{others_stay}

-- the indexes once the key is set up
abbrev pub set_up_in : Value → Indexes → Indexes
set_up_in w ix = record { initial = Some w; timeline = ix.timeline; writes = ix.writes; reads = ix.reads }

pub indexes_set_up : (w : Value) {M : OnKey} (ix : Indexes) → AreIndexes M ix → IsOfHistory (set_up_on w M) → AreIndexes (set_up_on w M) (set_up_in w ix)
indexes_set_up w ix is h = record { history = h; initial = refl; timeline = is.timeline; writes = is.writes; reads = is.reads; ordered = is.ordered }

next_again : (p q : Option Value) (parts : List Part) (a : VersionId) (n : Installer) → IsNext (record { initial = p; parts = parts }) a n → IsNext (record { initial = q; parts = parts }) a n
next_again p q parts a n next = record { installs = next.installs; after = next.after; first = next.first }

pair_again : (J : Rules) (p q : Option Value) (parts : List Part) (c : Stamp) (k : Kind) → IsPairKind J (record { initial = p; parts = parts }) c k → IsPairKind J (record { initial = q; parts = parts }) c k
pair_again J p q parts c k f = (f.0, f.1, f.2, f.3, next_again p q parts _ f.1 f.4, f.5, f.6)

-- a read that returned null or the value
abbrev pub IsOfEither : Value → KeptRead → Type 0
IsOfEither w r = IsKeptReadOf None None r ⊎ IsKeptReadOf (Some w) None r

-- the pairs are the same
pub pairs_set_up : (J : Rules) (M : OnKey) (w : Value) (old new : Stamp → Option Kind) → ArePairKinds J M old → ((c : Stamp) → new c ≡ old c) → ArePairKinds J (set_up_on w M) new
pairs_set_up J M w old new right same c k = (
  (λ e. pair_again J M.initial (Some w) M.parts c k ((right c k).0 (sym (same c) ∙ e))),
  (λ f. same c ∙ (right c k).1 (pair_again J (Some w) M.initial M.parts c k f)),
)

module _ {M : OnKey} (ix : Indexes) (is : AreIndexes M ix) (w : Value) (unset : M.initial ≡ None) (h : IsOfHistory (set_up_on w M)) where
  pub are_set : AreIndexes (set_up_on w M) (set_up_in w ix)
  are_set = indexes_set_up w ix is h

  pub are_reads : AreReadsOf (set_up_in w ix) (IsOfEither w) (kept_reads_in (set_up_in w ix) None None ++ kept_reads_in (set_up_in w ix) (Some w) None)
  are_reads = both_are (set_up_in w ix) are_set (kept_reads_in (set_up_in w ix) None None) (kept_reads_in (set_up_in w ix) (Some w) None)
      (kept_reads_are (set_up_in w ix) are_set None None) (kept_reads_are (set_up_in w ix) are_set (Some w) None) (λ r a b. no_value w (sym a.0 ∙ b.0))

  pub reader : (p : KeptRead × Option Value) → Contains (kept_reads_in (set_up_in w ix) None None ++ kept_reads_in (set_up_in w ix) (Some w) None) p → IsKeptRead (set_up_on w M) p
  reader p c = (are_set.reads p.0 p.1).0 (are_reads.only p c).0

  pub same_seen : (o : ReadId) → NotAmong (kept_reads_in (set_up_in w ix) None None ++ kept_reads_in (set_up_in w ix) (Some w) None) o → (X : Part) (v : Option Value) → IsRead M X o.place v → X.id ≡ o.txn
      → sight_of M X o.place v ≡ sight_of (set_up_on w M) X o.place v
  same_seen o none X v read e =
      let seen = (sight_law M X o.place v (sight_of M X o.place v) is.history read.part).1 refl in
      let stays = others_stay M (set_up_on w M) w X o.place v (sight_of M X o.place v) (record { before = unset; after = refl; parts = refl }) read
      (λ n. untouched (inl (n, tt))) (λ n. untouched (inr (n, tt))) seen in
      (sight_law (set_up_on w M) X o.place v (sight_of M X o.place v) h stays.0.part).0 stays.1
    where
      untouched : IsOfEither w (kept_read_of X o.place v) → ⊥
      untouched t = none (kept_read_of X o.place v, own_value X o.place)
          (are_reads.all (kept_read_of X o.place v) (own_value X o.place) ((are_set.reads (kept_read_of X o.place v) (own_value X o.place)).1 (X, read.part, reader_read M X o.place v read)) t)
          (λ i. record { txn = e i; place = o.place })

module _ (J : Rules) {M : OnKey} (ix : Indexes) (is : AreIndexes M ix) (w : Value) (unset : M.initial ≡ None) (h : IsOfHistory (set_up_on w M)) (old new : Found) (right : IsRight J M old)
    (judged : AreReadsJudged J (set_up_on w M) (set_up_in w ix) (kept_reads_in (set_up_in w ix) None None ++ kept_reads_in (set_up_in w ix) (Some w) None) old.reads new.reads)
    (same : (c : Stamp) → new.overlaps c ≡ old.overlaps c)
    (counted : new.answers ≡ risen old.answers (length (kept_reads_in (set_up_in w ix) None None ++ kept_reads_in (set_up_in w ix) (Some w) None))) where
  pub right_set_up : IsRight J (set_up_on w M) new
  right_set_up = record {
    reads = λ o k. right_after J (set_up_in w ix) (are_set ix is w unset h) (kept_reads_in (set_up_in w ix) None None ++ kept_reads_in (set_up_in w ix) (Some w) None) (reader ix is w unset h) old.reads new.reads judged o k (λ none. (
      (λ e. let f = (right.reads o k).0 e in
          (f.0, f.1, record { part = f.2.part; committed = f.2.committed; returned = f.2.returned }, f.3, ap J.read (sym (same_seen ix is w unset h o none f.0 f.1 f.2 f.3)) ∙ f.4)),
      (λ f. let read : IsRead M f.0 o.place f.1 = record { part = f.2.part; committed = f.2.committed; returned = f.2.returned } in
          (right.reads o k).1 (f.0, f.1, read, f.3, ap J.read (same_seen ix is w unset h o none f.0 f.1 read f.3) ∙ f.4)),
    ));
    overlaps = pairs_set_up J M w old.overlaps new.overlaps right.overlaps same;
  }

  pub bound_set_up : (n : ℕ) × IsBoundedBy (IsTouchedBySetUp (set_up_on w M) w) n × (new.answers ≡ risen old.answers n)
  bound_set_up = (
    length (kept_reads_in (set_up_in w ix) None None ++ kept_reads_in (set_up_in w ix) (Some w) None),
    bounded (IsTouchedBySetUp (set_up_on w M) w) (kept_reads_in (set_up_in w ix) None None ++ kept_reads_in (set_up_in w ix) (Some w) None)
        (kept_reads_once (set_up_in w ix) (are_set ix is w unset h) (IsOfEither w) (kept_reads_in (set_up_in w ix) None None ++ kept_reads_in (set_up_in w ix) (Some w) None) (are_reads ix is w unset h))
        (λ p c. (let x = reader ix is w unset h p c in record {
          part = x.0;
          value = p.0.value;
          read = is_read (set_up_on w M) x.0 p x.1 x.2;
          of = kept_read_id x.0 p x.2;
          touched = elim ((are_reads ix is w unset h).only p c).1 [ inl a ↦ inl a.0 | inr b ↦ inr b.0 ];
        }))
        (length (kept_reads_in (set_up_in w ix) None None ++ kept_reads_in (set_up_in w ix) (Some w) None)) (omega arith),
    counted,
  )
