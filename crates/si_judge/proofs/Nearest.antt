-- What is seen at a read that returned the last version before its reader's start.
use Rattle.std.proofs.Common.{◌≡◌, ◌≢◌, ◌∙◌, Bool, true, false, if◌then◌else◌, nat_lt, not, ◌&&◌, Option, Some, None, refl, sym, ap, ap₂, arith}
use Rattle.std.specs.Option.{option_eq}
use Rattle.std.proofs.lemmas.Bool.{ltb-true}
use Rattle.si_model.specs.declared.numbers.Value.{Value}
use Rattle.si_model.specs.declared.parts.OnKey.{OnKey}
use Rattle.si_model.specs.declared.sights.Installer.{Installer}
use Rattle.si_model.specs.declared.sights.Source.TheVariants as source
use Rattle.si_model.specs.declared.sights.VersionId.TheVariants as version
use Rattle.si_model.specs.Edits.{same_id}
use Rattle.si_model.specs.Operations.{same_value}
use Rattle.si_model.specs.Reads.{if_before, missed_of, version_of}
use Rattle.si_model.specs.Versions.{IsNextIfAny, next_after}
use Rattle.si_model.proofs.Equalities.{read_is, same_id_is}
use Rattle.si_model.proofs.LastWrites.{last_written}
use Rattle.si_model.proofs.NextVersions.{next_exact}
use Rattle.si_timeline.specs.Timelines.{Dated, IsNearestBefore}
use Rattle.si_judge.specs.declared.reads.KeptRead.{KeptRead}
use Rattle.si_judge.specs.declared.indexes.Indexes.{Indexes}
use Rattle.si_judge.specs.Indexes.{AreIndexes}
use Rattle.si_judge.specs.Sights.{later_with, sight_in, sight_of_nearest, source_in, source_with, version_in, write_in}
use Rattle.si_judge.proofs.Neighbours.{standing}
use Rattle.si_judge.proofs.PartLists.{version_from}
use Rattle.si_judge.proofs.Told.{found_once, installed_alone, once}

module _ {M : OnKey} (ix : Indexes) (is : AreIndexes M ix) (p : KeptRead × Option Value) (d : Dated) (near : IsNearestBefore ix.timeline p.0.start (Some d))
    (returned : p.0.value ≡ Some d.1.value) (others : d.1.writer ≢ p.0.txn) where
  no_write : write_in ix p.0.value ≡ None
  no_write = ap (write_in ix) returned ∙ installed_alone ix is d near.0

  version_is : version_in ix p.0.value ≡ Some d
  version_is = ap (version_in ix) returned ∙ sym (found_once ix.timeline d.1.value (Some d) (once ix is) (near.0, refl))

  not_initial : (b : Bool) → option_eq same_value p.0.value ix.initial ≡ b → b ≡ false
  not_initial false e = refl
  not_initial true e =
      let x = (is.timeline d).0 near.0 in
      let same : M.initial ≡ Some d.1.value = sym is.initial ∙ sym ((read_is p.0.value ix.initial).0 e) ∙ returned in
      absurd (is.history.initial d.1.value x.0 same x.1 (last_written x.0 d.1.value (version_from x.0 d x.2).value))

  source_is : source_in ix p.0.value ≡ source.Installed d.1.writer d.0
  source_is = ap (λ b. if b then source.Initial else source_with (write_in ix p.0.value) (version_in ix p.0.value)) (not_initial (option_eq same_value p.0.value ix.initial) refl)
      ∙ ap₂ source_with no_write version_is

  none_later : later_with p (write_in ix p.0.value) (version_in ix p.0.value) ≡ false
  none_later = ap₂ (later_with p) no_write version_is ∙ ap (λ b. b && not (option_eq same_value p.1 p.0.value)) (other (same_id d.1.writer p.0.txn) refl)
    where
      other : (b : Bool) → same_id d.1.writer p.0.txn ≡ b → b ≡ false
      other false e = refl
      other true e = absurd (others (same_id_is d.1.writer p.0.txn e))

  none_missed : missed_of M.parts p.0.start (Some (version.Installed d.0)) ≡ None
  none_missed = by (next_after M.parts (version.Installed d.0)) ((next_exact M (version.Installed d.0) (next_after M.parts (version.Installed d.0)) is.history).1 refl)
    where
      too_late : (n : Installer) (b : Bool) → IsNextIfAny M (version.Installed d.0) (Some n) → nat_lt n.commit.0 p.0.start.0 ≡ b → (if b then Some n else None) ≡ None
      too_late n false next e = refl
      too_late n true next e =
          let s = standing ix is n next.installs in
          let same : s.0.0.0 ≡ n.commit.0 = ap (λ (m : Installer). m.commit.0) s.2 in
          let before = ltb-true n.commit.0 p.0.start.0 e in
          let most = near.2 s.0 s.1 (omega (arith, before, same)) in
          let after = next.after in
          absurd (omega (arith, most, same, after))

      by : (o : Option Installer) → IsNextIfAny M (version.Installed d.0) o → if_before p.0.start o ≡ None
      by None next = refl
      by (Some n) next = too_late n (nat_lt n.commit.0 p.0.start.0) next refl

  pub nearest_seen : sight_of_nearest p d.1.writer d.0 ≡ sight_in M ix p
  nearest_seen = λ k. record {
    txn = p.0.txn;
    op = p.0.place;
    start = p.0.start;
    read = p.0.value;
    own = p.1;
    later = sym none_later k;
    source = sym source_is k;
    missed = sym (ap (λ s. missed_of M.parts p.0.start (version_of s)) source_is ∙ none_missed) k;
  }
