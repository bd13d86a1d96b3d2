-- The reads that a transaction touches are those whose sight can change with it.
use Rattle.std.proofs.Common.{◌≡◌, ◌≢◌, ◌∙◌, ◌⊎◌, inl, inr, ◌<◌, ◌≤◌, Option, Some, None, refl, sym, ap, subst, arith}
use Rattle.std.specs.List.{Contains}
use Rattle.std.proofs.lemmas.Bool.{cases_lt}
use Rattle.si_lists.proofs.Members.{same_some}
use Rattle.si_model.specs.declared.numbers.Stamp.{Stamp}
use Rattle.si_model.specs.declared.numbers.Value.{Value}
use Rattle.si_model.specs.declared.transactions.Status.TheVariants as status
use Rattle.si_model.specs.declared.parts.Part.{Part}
use Rattle.si_model.specs.declared.parts.OnKey.{OnKey}
use Rattle.si_model.specs.declared.sights.Installer.{Installer}
use Rattle.si_model.specs.declared.sights.VersionId.{VersionId}
use Rattle.si_model.specs.declared.sights.VersionId.TheVariants as version
use Rattle.si_model.specs.declared.sights.Source.{Source}
use Rattle.si_model.specs.declared.sights.Source.TheVariants as source
use Rattle.si_model.specs.Versions.{Writes, IsAfter, IsInstaller, IsNext, Installs}
use Rattle.si_model.specs.Reads.{IsSource, IsWriter, ReturnsVersion, version_of}
use Rattle.si_model.specs.History.{IsOfHistory}
use Rattle.si_model.proofs.Histories.{same_commit}
use Rattle.si_model.proofs.LastWrites.{last_is_final, last_written}
use Rattle.si_timeline.specs.Timelines.{Dated, IsNearestBefore}
use Rattle.si_judge.specs.declared.reads.KeptRead.{KeptRead}
use Rattle.si_judge.specs.declared.indexes.Indexes.{Indexes}
use Rattle.si_judge.specs.Indexes.{AreIndexes, IsTouchedBy, IsValueBefore, returned_by, version_by}
use Rattle.si_judge.specs.Mending.{installer}
use Rattle.si_judge.specs.Touched.{InstallsMissed, RestsOn}
use Rattle.si_judge.proofs.Neighbours.{installed, standing}
use Rattle.si_judge.proofs.PartLists.{installs_version, version_from, version_installs, version_to}

-- S is M with T or without it
pub record IsSide (M : OnKey) (T : Part) (S : OnKey) : Type 0 where
  pub history : IsOfHistory S
  pub initial : M.initial ≡ S.initial
  pub above : (X : Part) → Contains M.parts X → Contains S.parts X
  pub within : (X : Part) → Contains S.parts X → Contains M.parts X ⊎ (X ≡ T)

no_version : {A : Type 0} (a : A) → None ≡ Some a → ⊥
no_version a e = cc

module _ {M : OnKey} (ix : Indexes) (is : AreIndexes M ix) (T : Part) (absent : (X : Part) → Contains M.parts X → X.id ≢ T.id) (S : OnKey) (side : IsSide M T S) where
  -- of S, what has T's id is T
  named : (X : Part) → Contains S.parts X → X.id ≡ T.id → X ≡ T
  named X c e = elim (side.within X c) [ inl m ↦ absurd (absent X m e) | inr s ↦ s ]

  other : (n : Installer) → IsInstaller M n → IsInstaller S n
  other n i = (i.0, side.above i.0 i.1, i.2)

  standing_dated : (d : Dated) → Contains ix.timeline d → IsInstaller S (installer d)
  standing_dated d c = other (installer d) (installed ix is d c)

  -- ---- what rests on T is touched

  module _ (d : Dated) (is_T : version_by T ≡ Some d) where
    pub value_before : (v : Option Value) (a : VersionId) (n : Installer) → ReturnsVersion S v a → IsNext S a n → n.commit ≡ d.0 → IsValueBefore ix d.0 v
    value_before v a n returns next commit = by returns.0 returns.1 returns.2
      where
        by : (s : Source) → IsSource S v s → version_of s ≡ Some a → IsValueBefore ix d.0 v
        by source.Missing i e = absurd (no_version a e)
        by (source.InDoubt u) i e = absurd (no_version a e)
        by (source.Aborted u) i e = absurd (no_version a e)
        by (source.Earlier u) i e = absurd (no_version a e)
        by source.Initial i e = (
          None,
          (λ x c.
              let first = next.first (installer x) (standing_dated x c) (subst (λ b. IsAfter b x.0) (same_some e) tt) in
              let same : n.commit.0 ≡ d.0.0 = ap (λ y. y.0) commit in
              omega (arith, first, same)),
          i ∙ sym side.initial ∙ sym is.initial,
        )
        by (source.Installed u ca) i e =
            let w = i.0 in let Y = i.1 in let writer = i.3 in let committed = i.4 in let final = i.5 in
            let at : version.Installed ca ≡ a = same_some e in
            let after : ca.0 < n.commit.0 = subst (λ b. IsAfter b n.commit) (sym at) next.after in
            let same : n.commit.0 ≡ d.0.0 = ap (λ y. y.0) commit in
            let last = (last_is_final S Y w side.history writer.part).1 final in
            let dated = version_to Y ca w committed last in
            let in_m : Contains M.parts Y = elim (side.within Y writer.part) [
              | inl m ↦ m
              | inr s ↦ absurd (
                  let t : status.Committed ca ≡ status.Committed d.0 = sym committed ∙ ap (λ (X : Part). X.status) s ∙ (version_from T d is_T).committed in
                  let c : ca.0 ≡ d.0.0 = ap (λ y. y.0) (same_commit ca d.0 t) in
                  omega (arith, after, same, c))
            ] in (
              Some (ca, record { writer = Y.id; start = Y.start; value = w }),
              (
                (is.timeline (ca, record { writer = Y.id; start = Y.start; value = w })).1 (Y, in_m, dated),
                omega (arith, after, same),
                λ x c lt. elim (cases_lt ca.0 x.0.0) [
                  | inl more ↦ absurd (
                      let first = next.first (installer x) (standing_dated x c) (subst (λ b. IsAfter b x.0) at more) in
                      omega (arith, first, same, lt))
                  | inr least ↦ least
                ],
              ),
              i.2,
            )

  pub rests_touch : (r : KeptRead) → RestsOn S T.id r.start r.value → IsTouchedBy ix T r
  rests_touch r (inl writes) =
      let part = named writes.1 writes.3 writes.4 in
      inl (writes.0, subst (λ (X : Part). Writes X writes.0) part writes.5, writes.2)
  rests_touch r (inr missed) =
      let a = missed.0 in let n = missed.1 in let next = missed.3 in
      let X = next.installs.0 in
      let part = named X next.installs.1 (sym next.installs.2.txn ∙ missed.4) in
      let v = installs_version T n (subst (λ (Y : Part). Installs Y n) part next.installs.2) in
      let commit : n.commit ≡ v.0.0 = ap (λ (m : Installer). m.commit) (sym v.2) in
      inr (v.0, r.value, v.1, value_before v.0 v.1 r.value a n missed.2 next commit, (refl, (let lt = missed.5 in subst (λ c. c.0 < r.start.0) commit lt)))

  -- ---- what T touches, it touches by the definitions

  module _ (there : Contains S.parts T) where
    first_after : (d : Dated) → version_by T ≡ Some d → (a : VersionId) → ((x : Dated) → Contains ix.timeline x → IsAfter a x.0 → d.0.0 ≤ x.0.0)
        → (m : Installer) → IsInstaller S m → IsAfter a m.commit → d.0.0 ≤ m.commit.0
    first_after d e a least m i after = elim (side.within i.0 i.1) [
      | inl c ↦ (let s = standing ix is m (i.0, c, i.2) in
          let same : s.0.0 ≡ m.commit = ap (λ (k : Installer). k.commit) s.2 in
          subst (λ (k : Stamp). d.0.0 ≤ k.0) same (least s.0 s.1 (subst (IsAfter a) (sym same) after)))
      | inr t ↦ (
          let c : status.Committed m.commit ≡ status.Committed d.0 = sym i.2.committed ∙ ap (λ (X : Part). X.status) t ∙ (version_from T d e).committed in
          let n : m.commit.0 ≡ d.0.0 = ap (λ y. y.0) (same_commit m.commit d.0 c) in
          omega (arith, n))
    ]

    pub installs_missed : (d : Dated) (v : Option Value) (start : Stamp) → version_by T ≡ Some d → IsValueBefore ix d.0 v → d.0.0 < start.0 → InstallsMissed S T.id start v
    installs_missed d v start e before late = by before.0 before.1 before.2
      where
        is_n : IsInstaller S (installer d)
        is_n = (T, there, version_installs T d e)

        by : (o : Option Dated) → IsNearestBefore ix.timeline d.0 o → v ≡ returned_by ix.initial o → InstallsMissed S T.id start v
        by None near same = (
          version.Initial,
          installer d,
          (source.Initial, same ∙ is.initial ∙ side.initial, refl),
          record { installs = is_n; after = tt; first = first_after d e version.Initial (λ x c after. near x c) },
          (version_from T d e).writer,
          late,
        )
        by (Some b) near same =
            let y = (is.timeline b).0 near.0 in
            let f = version_from y.0 b y.2 in
            let final = (last_is_final S y.0 b.1.value side.history (side.above y.0 y.1)).0 f.value in
            let writer : IsWriter S b.1.value y.0.id y.0 = record { part = side.above y.0 y.1; id = refl; writes = last_written y.0 b.1.value f.value } in (
              version.Installed b.0,
              installer d,
              (source.Installed y.0.id b.0, (b.1.value, y.0, same, writer, f.committed, final), refl),
              record {
                installs = is_n;
                after = near.1;
                first = first_after d e (version.Installed b.0) (λ x c after. elim (cases_lt x.0.0 d.0.0) [
                  | inl lt ↦ absurd (let most = near.2 x c lt in omega (arith, most, after))
                  | inr ge ↦ ge
                ]);
              },
              (version_from T d e).writer,
              late,
            )

    pub touches : (r : KeptRead) → IsTouchedBy ix T r → RestsOn S T.id r.start r.value
    touches r (inl w) = inl (w.0, T, w.2, there, refl, w.1)
    touches r (inr i) = inr (subst (InstallsMissed S T.id r.start) (sym i.4.0) (installs_missed i.0 i.1 r.start i.2 i.3 i.4.1))
