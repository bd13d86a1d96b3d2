-- The neighbours in the timeline are the next version and the one before.
use Rattle.std.proofs.Common.{◌≡◌, ◌<◌, inl, inr, Option, Some, None, ap, arith}
use Rattle.std.specs.List.{Contains}
use Rattle.std.proofs.lemmas.Bool.{cases_lt}
use Rattle.std.specs.Option.{option_map}
use Rattle.si_model.specs.declared.numbers.Stamp.{Stamp}
use Rattle.si_model.specs.declared.parts.OnKey.{OnKey}
use Rattle.si_model.specs.declared.sights.Installer.{Installer}
use Rattle.si_model.specs.declared.sights.VersionId.{VersionId}
use Rattle.si_model.specs.declared.sights.VersionId.TheVariants as version
use Rattle.si_model.specs.Versions.{IsAfter, IsInstaller, IsNextIfAny, commit_of, next_after}
use Rattle.si_model.proofs.NextVersions.{next_exact}
use Rattle.si_timeline.specs.Timelines.{Dated, IsNearestAfter, IsNearestBefore}
use Rattle.si_judge.specs.declared.indexes.Indexes.{Indexes}
use Rattle.si_judge.specs.Indexes.{AreIndexes}
use Rattle.si_judge.specs.Mending.{installer}
use Rattle.si_judge.specs.Sights.{stamp_of}
use Rattle.si_judge.proofs.PartLists.{installs_version, version_installs}

module _ {M : OnKey} (ix : Indexes) (is : AreIndexes M ix) where
  -- what stands in the timeline is installed
  pub installed : (d : Dated) → Contains ix.timeline d → IsInstaller M (installer d)
  installed d c = let x = (is.timeline d).0 c in (x.0, x.1, version_installs x.0 d x.2)

  -- and what is installed stands in the timeline
  pub standing : (n : Installer) → IsInstaller M n → (d : Dated) × Contains ix.timeline d × (installer d ≡ n)
  standing n i = let v = installs_version i.0 n i.2 in (v.0, (is.timeline v.0).1 (i.0, i.1, v.1), v.2)

  -- a version that comes after another was installed after its stamp
  later : (a : VersionId) (n : Installer) → IsInstaller M n → IsAfter a n.commit → (stamp_of a).0 < n.commit.0
  later version.Initial n i after =
      let lt = is.history.apart i.0 n.commit i.2.writes.0 i.1 (ap commit_of i.2.committed) i.2.writes.1 in
      omega (arith, lt)
  later (version.Installed c) n i after = after

  after_stamp : (a : VersionId) (c : Stamp) → (stamp_of a).0 < c.0 → IsAfter a c
  after_stamp version.Initial c lt = tt
  after_stamp (version.Installed b) c lt = lt

  pub next_version : (a : VersionId) (o : Option Dated) → IsNearestAfter ix.timeline (stamp_of a) o → option_map installer o ≡ next_after M.parts a
  next_version a o near = (next_exact M a (option_map installer o) is.history).0 (by o near)
    where
      by : (o : Option Dated) → IsNearestAfter ix.timeline (stamp_of a) o → IsNextIfAny M a (option_map installer o)
      by None none = λ n i after.
          let s = standing n i in
          let most = none s.0 s.1 in
          let lt = later a n i after in
          let same : s.0.0.0 ≡ n.commit.0 = ap (λ (m : Installer). m.commit.0) s.2 in
          absurd (omega (arith, most, lt, same))
      by (Some d) near = record {
        installs = installed d near.0;
        after = after_stamp a d.0 near.1;
        first = λ m i after.
            let s = standing m i in
            let same : s.0.0.0 ≡ m.commit.0 = ap (λ (k : Installer). k.commit.0) s.2 in
            let lt = later a m i after in
            let least = near.2 s.0 s.1 (omega (arith, lt, same)) in
            omega (arith, least, same);
      }

  -- what was installed next after the version that was installed last before one is that one
  pub former_then : (b d : Dated) → IsNearestBefore ix.timeline d.0 (Some b) → Contains ix.timeline d → Some (installer d) ≡ next_after M.parts (version.Installed b.0)
  former_then b d near stands = next_version (version.Installed b.0) (Some d) (
    stands,
    near.1,
    (λ e c more. elim (cases_lt e.0.0 d.0.0) [
      | inl less ↦ (let most = near.2 e c less in absurd (omega (arith, most, more)))
      | inr least ↦ least
    ]),
  )
