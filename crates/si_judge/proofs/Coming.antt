-- The indexes of what is on a key stay so when a transaction comes or goes.
use Rattle.std.proofs.Common.{◌≡◌, ◌≢◌, ◌∙◌, ◌<◌, inl, inr, ◌↔◌, List, Option, Some, None, refl, sym, ap, subst, IfSome}
use Rattle.std.specs.List.{AllPairs, Contains}
use Rattle.std.specs.Ordering.{eq_by_cmp}
use Rattle.si_lists.proofs.Members.{same_some}
use Rattle.si_model.specs.declared.parts.Part.{Part}
use Rattle.si_model.specs.declared.parts.OnKey.{OnKey}
use Rattle.si_model.specs.History.{IsOfHistory}
use Rattle.si_model.specs.Versions.{WritesAt}
use Rattle.si_model.proofs.Histories.{one_installer, one_part}
use Rattle.si_model.proofs.LastWrites.{last_written}
use Rattle.si_timeline.specs.Timelines.{Dated}
use Rattle.si_judge.specs.declared.indexes.Indexes.{Indexes}
use Rattle.si_judge.specs.Commits.{HaveValuesOnce}
use Rattle.si_judge.specs.Values.{at_value, value_cmp}
use Rattle.si_judge.specs.Maps.{AreInserted, AreTakenOut}
use Rattle.si_judge.specs.Indexes.{AddsVersion, AreIndexes, Fits, Joins, LacksVersion, HasVersion, KeepsValuesOnce, RemovesVersion, other_writes_of, reads_in, version_by}
use Rattle.si_judge.specs.KeptReads.{kept_read_cmp, own_at, AreInOrder}
use Rattle.si_judge.specs.Mending.{installer}
use Rattle.si_judge.proofs.IndexEdits.{comes, goes, no_value}
use Rattle.si_judge.proofs.Orders.{value_decides, kept_read_decides}
use Rattle.si_judge.proofs.PartLists.{added_are, reads_are_apart, others_are_apart, version_from, version_installs}

-- what has no other transaction than a history is one
pub history_within : (Q R : OnKey) → IsOfHistory Q → Q.initial ≡ R.initial → ((X : Part) → Contains R.parts X → Contains Q.parts X)
    → AllPairs (λ A B. A.id ≢ B.id) R.parts → IsOfHistory R
history_within Q R h initial within names = record {
  forward = λ T c a e. h.forward T c (within T a) e;
  apart = λ T c v a e w. h.apart T c v (within T a) e w;
  names = names;
  stamps = λ A B c v a b d e w. h.stamps A B c v (within A a) (within B b) d e w;
  writes = λ A B i j v a b s t. h.writes A B i j v (within A a) (within B b) s t;
  initial = λ v T e a w. h.initial v T (initial ∙ e) (within T a) w;
  places = λ T a. h.places T (within T a);
}

-- ---- one comes

module _ (old new : Indexes) (T : Part) {M R : OnKey} (is : AreIndexes M old) (joins : Joins T M R) (history : IsOfHistory R) (initial : new.initial ≡ old.initial) where
  pub came : AreInserted (eq_by_cmp value_cmp) (at_value old.writes) (other_writes_of T) (at_value new.writes)
      → AreInserted (eq_by_cmp kept_read_cmp) (own_at old.reads) (reads_in T) (own_at new.reads)
      → AddsVersion (version_by T) old.timeline new.timeline
      → AreInOrder new.reads
      → AreIndexes R new
  came writes readers timeline kept_reads_ordered = record {
    ordered = kept_reads_ordered;
    history = history;
    initial = initial ∙ is.initial ∙ joins.initial;
    timeline = versions (version_by T) refl timeline;
    writes = comes (eq_by_cmp value_cmp) value_decides other_writes_of T M.parts R.parts joins.parts (others_are_apart R history) (at_value old.writes) (at_value new.writes) is.writes writes;
    reads = comes (eq_by_cmp kept_read_cmp) kept_read_decides reads_in T M.parts R.parts joins.parts (reads_are_apart R history) (own_at old.reads) (own_at new.reads) is.reads readers;
  }
    where
      versions : (o : Option Dated) → version_by T ≡ o → AddsVersion o old.timeline new.timeline → (d : Dated)
          → Contains new.timeline d ↔ ((X : Part) × Contains R.parts X × (version_by X ≡ Some d))
      versions None e same d = (
        (λ c. let x = (is.timeline d).0 (subst (λ l. Contains l d) same c) in (x.0, (joins.parts x.0).1 (inl x.1), x.2)),
        (λ x. elim ((joins.parts x.0).0 x.1) [
          | inl c ↦ subst (λ l. Contains l d) (sym same) ((is.timeline d).1 (x.0, c, x.2))
          | inr s ↦ absurd (no_value d (sym e ∙ ap version_by (sym s) ∙ x.2))
        ]),
      )
      versions (Some n) e adds d = (
        (λ c. elim ((added_are n.0 n.1 old.timeline new.timeline adds d).0 c) [
          | inl o ↦ (let x = (is.timeline d).0 o in (x.0, (joins.parts x.0).1 (inl x.1), x.2))
          | inr s ↦ (T, (joins.parts T).1 (inr refl), e ∙ ap Some (sym s))
        ]),
        (λ x. (added_are n.0 n.1 old.timeline new.timeline adds d).1 (elim ((joins.parts x.0).0 x.1) [
          | inl c ↦ inl ((is.timeline d).1 (x.0, c, x.2))
          | inr s ↦ inr (same_some (sym x.2 ∙ ap version_by s ∙ e))
        ])),
      )

-- the accesses of one that comes stand in their order
pub accesses_rise : {M : OnKey} (T : Part) → Fits T M → AllPairs (λ a b. a.place < b.place) T.accesses
accesses_rise T fits = fits.2.places T ((fits.1.parts T).1 (inr refl))

-- no version stands yet at the commit of one that comes
pub lacks_version : {M : OnKey} (ix : Indexes) (T : Part) → AreIndexes M ix → Fits T M → LacksVersion (version_by T) ix.timeline
lacks_version ix T is fits = by (version_by T) refl
  where
    by : (o : Option Dated) → version_by T ≡ o → LacksVersion o ix.timeline
    by None e = tt
    by (Some d) e = λ v c.
        let x = (is.timeline (d.0, v)).0 c in
        let same = one_installer fits.0 fits.2 x.0 T (installer (d.0, v)) (installer d) ((fits.1.parts x.0).1 (inl x.1)) ((fits.1.parts T).1 (inr refl))
        (version_installs x.0 (d.0, v) x.2) (version_installs T d e) refl in
        fits.1.absent x.0 x.1 (ap (λ (X : Part). X.id) same)

-- versions of what is on a key have each value once
pub values_once : (Q : OnKey) → IsOfHistory Q → (ds : List Dated) → ((d : Dated) → Contains ds d → (X : Part) × Contains Q.parts X × (version_by X ≡ Some d)) → HaveValuesOnce ds
values_once Q h ds of d e c f same =
    let x = of d c in
    let y = of e f in
    let a = last_written x.0 d.1.value (version_from x.0 d x.2).value in
    let b = last_written y.0 e.1.value (version_from y.0 e y.2).value in
    let one = h.writes x.0 y.0 a.0 b.0 e.1.value x.1 y.1 (subst (λ v. WritesAt x.0 a.0 v) same a.1) b.1 in
    same_some (sym x.2 ∙ ap version_by (one_part Q h x.0 y.0 x.1 y.1 one.0) ∙ y.2)

-- and so with the version of one that comes
pub keeps_once : {M : OnKey} (ix : Indexes) (T : Part) → AreIndexes M ix → Fits T M → KeepsValuesOnce (version_by T) ix.timeline
keeps_once ix T is fits = by (version_by T) refl
  where
    by : (o : Option Dated) → version_by T ≡ o → KeepsValuesOnce o ix.timeline
    by None e = tt
    by (Some n) e = λ more adds. values_once fits.0 fits.2 more (λ d c. elim ((added_are n.0 n.1 ix.timeline more adds d).0 c) [
      | inl o ↦ (let x = (is.timeline d).0 o in (x.0, (fits.1.parts x.0).1 (inl x.1), x.2))
      | inr s ↦ (T, (fits.1.parts T).1 (inr refl), e ∙ ap Some (sym s))
    ])

-- the version of one that is there stands
pub has_version : {M : OnKey} (ix : Indexes) (T : Part) → AreIndexes M ix → Contains M.parts T → HasVersion (version_by T) ix.timeline
has_version ix T is c = by (version_by T) refl
  where
    by : (o : Option Dated) → version_by T ≡ o → HasVersion o ix.timeline
    by None e = tt
    by (Some d) e = (d.1, (is.timeline d).1 (T, c, e))

-- it itself does
pub version_stands : {M : OnKey} (ix : Indexes) (T : Part) → AreIndexes M ix → Contains M.parts T → IfSome (version_by T) (Contains ix.timeline)
version_stands ix T is c = by (version_by T) refl
  where
    by : (o : Option Dated) → version_by T ≡ o → IfSome o (Contains ix.timeline)
    by None e = tt
    by (Some d) e = (is.timeline d).1 (T, c, e)

-- ---- one goes

module _ (old new : Indexes) (T : Part) {M R : OnKey} (is : AreIndexes M old) (joins : Joins T R M) (history : IsOfHistory R) (initial : new.initial ≡ old.initial) where
  there : Contains M.parts T
  there = (joins.parts T).1 (inr refl)

  apart_T : (X : Part) → Contains R.parts X → X ≢ T
  apart_T X c e = joins.absent X c (ap (λ (Y : Part). Y.id) e)

  pub went : AreTakenOut (eq_by_cmp value_cmp) (at_value old.writes) (other_writes_of T) (at_value new.writes)
      → AreTakenOut (eq_by_cmp kept_read_cmp) (own_at old.reads) (reads_in T) (own_at new.reads)
      → RemovesVersion (version_by T) old.timeline new.timeline
      → AreInOrder new.reads
      → AreIndexes R new
  went writes readers timeline kept_reads_ordered = record {
    ordered = kept_reads_ordered;
    history = history;
    initial = initial ∙ is.initial ∙ sym joins.initial;
    timeline = versions (version_by T) refl timeline;
    writes = goes (eq_by_cmp value_cmp) value_decides other_writes_of T R.parts M.parts joins.parts (others_are_apart M is.history) (at_value old.writes) (at_value new.writes) apart_T is.writes writes;
    reads = goes (eq_by_cmp kept_read_cmp) kept_read_decides reads_in T R.parts M.parts joins.parts (reads_are_apart M is.history) (own_at old.reads) (own_at new.reads) apart_T is.reads readers;
  }
    where
      versions : (o : Option Dated) → version_by T ≡ o → RemovesVersion o old.timeline new.timeline → (d : Dated)
          → Contains new.timeline d ↔ ((X : Part) × Contains R.parts X × (version_by X ≡ Some d))
      versions None e same d = (
        (λ c. let x = (is.timeline d).0 (subst (λ l. Contains l d) same c) in elim ((joins.parts x.0).0 x.1) [
          | inl n ↦ (x.0, n, x.2)
          | inr s ↦ absurd (no_value d (sym e ∙ ap version_by (sym s) ∙ x.2))
        ]),
        (λ x. subst (λ l. Contains l d) (sym same) ((is.timeline d).1 (x.0, (joins.parts x.0).1 (inl x.1), x.2))),
      )
      versions (Some n) e removes d = (
        (λ c. let x = (is.timeline d).0 ((added_are n.0 removes.0.0 new.timeline old.timeline removes.0.1 d).1 (inl c)) in elim ((joins.parts x.0).0 x.1) [
          | inl m ↦ (x.0, m, x.2)
          | inr s ↦ (let same : n ≡ d = same_some (sym e ∙ ap version_by (sym s) ∙ x.2) in
              absurd (removes.1 n.1 (subst (Contains new.timeline) (sym same) c)))
        ]),
        (λ x. elim ((added_are n.0 removes.0.0 new.timeline old.timeline removes.0.1 d).0 ((is.timeline d).1 (x.0, (joins.parts x.0).1 (inl x.1), x.2))) [
          | inl c ↦ c
          | inr s ↦ absurd (apart_T x.0 x.1 (one_installer M is.history x.0 T (installer d) (installer n) ((joins.parts x.0).1 (inl x.1)) there
              (version_installs x.0 d x.2) (version_installs T n e) (ap (λ (y : Dated). y.0) s)))
        ]),
      )
