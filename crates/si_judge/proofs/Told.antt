-- Where a value is told of: among the writes that installed no version, or among the versions.
use Rattle.std.proofs.Common.{◌≡◌, ◌∙◌, Bool, true, false, if◌then◌else◌, List, Option, Some, None, refl, sym, ap, ap₂}
use Rattle.std.specs.List.{Contains, find}
use Rattle.std.specs.Option.{option_eq}
use Rattle.si_lists.proofs.Members.{Contains-filter}
use Rattle.si_lists.proofs.Tests.{find-None, find-Some, find_none}
use Rattle.si_model.specs.declared.numbers.Stamp.{Stamp}
use Rattle.si_model.specs.declared.numbers.Value.{Value}
use Rattle.si_model.specs.declared.parts.Part.{Part}
use Rattle.si_model.specs.declared.parts.OnKey.{OnKey}
use Rattle.si_model.specs.declared.transactions.Status.{Status}
use Rattle.si_model.specs.declared.transactions.Status.TheVariants as status
use Rattle.si_model.specs.Operations.{same_value}
use Rattle.si_model.specs.Versions.{Writes}
use Rattle.si_model.proofs.Equalities.{read_is, same_value_from, same_value_is}
use Rattle.si_model.proofs.Histories.{one_part}
use Rattle.si_model.proofs.LastWrites.{last_written}
use Rattle.si_timeline.specs.Timelines.{Dated, IsOfValue}
use Rattle.si_judge.specs.declared.reads.Fate.TheVariants as fate
use Rattle.si_judge.specs.declared.reads.Write.{Write}
use Rattle.si_judge.specs.declared.indexes.Indexes.{Indexes}
use Rattle.si_judge.specs.Commits.{HaveValuesOnce}
use Rattle.si_judge.specs.Indexes.{AreIndexes, fate_of, is_other, write_of, writes_of}
use Rattle.si_judge.specs.Sights.{version_in}
use Rattle.si_judge.specs.Values.{at_value}
use Rattle.si_judge.proofs.Coming.{values_once}
use Rattle.si_judge.proofs.IndexEdits.{no_value}
use Rattle.si_judge.proofs.PartLists.{other_from, version_from, version_to, write_from, write_to}

true_false : true ≡ false → ⊥
true_false e = cc

some_none : {Y : Type 0} (y : Y) → Some y ≡ None → ⊥
some_none y e = cc

-- the version of the value is the first one that has it, where each value is there once
pub found_once : (ds : List Dated) (v : Value) (o : Option Dated) → HaveValuesOnce ds → IsOfValue ds v o → o ≡ find (λ d. same_value d.1.value v) ds
found_once ds v None once none = sym (find_none (λ d. same_value d.1.value v) ds (λ d c e. none d c (same_value_is d.1.value v e)))
found_once ds v (Some d) once one = by (find (λ x. same_value x.1.value v) ds) refl
  where
    by : (o : Option Dated) → find (λ x. same_value x.1.value v) ds ≡ o → Some d ≡ o
    by None e = absurd (true_false (sym (same_value_from d.1.value v one.1) ∙ find-None (λ x. same_value x.1.value v) ds e d one.0))
    by (Some x) e = let f = find-Some (λ y. same_value y.1.value v) ds x e in ap Some (once d x one.0 f.0 (one.1 ∙ sym (same_value_is x.1.value v f.1)))

pub installed_fate : (s : Status) (l : Option Value) (d : Dated) → s ≡ status.Committed d.0 → l ≡ Some d.1.value → fate_of s l d.1.value ≡ fate.Installed d.0
installed_fate s l d e f = ap₂ (λ t m. fate_of t m d.1.value) e f
    ∙ ap (λ b. if b then fate.Installed d.0 else fate.Earlier) ((read_is (Some d.1.value) (Some d.1.value)).1 refl)

-- a write that isn't among the others installed a version
pub not_other : (s : Status) (l : Option Value) (v : Value) → is_other (fate_of s l v) ≡ false → (c : Stamp) × (s ≡ status.Committed c) × (l ≡ Some v)
not_other status.Aborted l v e = absurd (true_false e)
not_other status.InDoubt l v e = absurd (true_false e)
not_other (status.Committed c) l v e = by (option_eq same_value l (Some v)) refl e
  where
    by : (b : Bool) → option_eq same_value l (Some v) ≡ b → is_other (if b then fate.Installed c else fate.Earlier) ≡ false → (k : Stamp) × (status.Committed c ≡ status.Committed k) × (l ≡ Some v)
    by true f g = (c, refl, (read_is l (Some v)).0 f)
    by false f g = absurd (true_false g)

module _ {M : OnKey} (ix : Indexes) (is : AreIndexes M ix) where
  pub once : HaveValuesOnce ix.timeline
  once = values_once M is.history ix.timeline (λ d c. (is.timeline d).0 c)

  -- an installed value stands among no others
  pub installed_alone : (d : Dated) → Contains ix.timeline d → at_value ix.writes d.1.value ≡ None
  installed_alone d c = by (at_value ix.writes d.1.value) refl
    where
      by : (o : Option Write) → at_value ix.writes d.1.value ≡ o → o ≡ None
      by None e = refl
      by (Some w) e =
          let x = (is.timeline d).0 c in
          let v = version_from x.0 d x.2 in
          let at = last_written x.0 d.1.value v.value in
          let u = (is.writes d.1.value w).0 e in
          let other = other_from u.0 d.1.value w u.2 in
          let from = write_from u.0 d.1.value w other.0 in
          let one = is.history.writes u.0 x.0 from.0 at.0 d.1.value u.1 x.1 from.1 at.1 in
          let part = one_part M is.history u.0 x.0 u.1 x.1 one.0 in
          let fated : w.fate ≡ fate.Installed d.0 = sym (ap (λ p. p.1.fate) from.2) ∙ ap (λ (T : Part). (write_of T from.0 d.1.value).1.fate) part ∙ installed_fate _ _ d v.committed v.value in
          absurd (true_false (sym other.1 ∙ ap is_other fated))

  -- a value that is told of nowhere isn't written
  pub unwritten : (v : Value) → at_value ix.writes v ≡ None → version_in ix (Some v) ≡ None → (U : Part) → Contains M.parts U → Writes U v → ⊥
  unwritten v none no_version U c i = by (is_other (write_of U i.0 v).1.fate) refl
    where
      by : (b : Bool) → is_other (write_of U i.0 v).1.fate ≡ b → ⊥
      by true e = no_value _ (sym none ∙ (is.writes v (write_of U i.0 v).1).1 (U, c, Contains-filter (λ x. is_other x.1.fate) (writes_of U) (write_of U i.0 v) (write_to U i.0 v i.1) e))
      by false e =
          let s = not_other U.status _ v e in
          let stands = (is.timeline (s.0, record { writer = U.id; start = U.start; value = v })).1 (U, c, version_to U s.0 v s.1 s.2) in
          true_false (sym (same_value_from v v refl) ∙ find-None (λ d. same_value d.1.value v) ix.timeline no_version (s.0, record { writer = U.id; start = U.start; value = v }) stands)
