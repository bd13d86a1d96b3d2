-- Of a history: its findings against the phenomena, both ways.
use Rattle.std.proofs.Common.{◌≡◌, inl, inr, false, List, [], ◌∷◌, Some, refl, sym, subst, arith}
use Rattle.std.specs.Prelude.{◌↔◌}
use Rattle.std.specs.List.{Contains}
use Rattle.si_model.specs.declared.kinds.Kind.{Kind}
use Rattle.si_model.specs.declared.kinds.Kind.TheVariants as kind
use Rattle.si_model.specs.declared.findings.Finding.{Finding}
use Rattle.si_model.specs.declared.evidence.Label.TheVariants as label
use Rattle.si_model.specs.declared.evidence.Evidence.{Evidence}
use Rattle.si_model.specs.declared.evidence.Evidence.TheVariants as evidence
use Rattle.si_model.specs.Parts.{Present}
use Rattle.si_model.specs.Order.{number}
use Rattle.si_model.specs.Findings.{findings}
use Rattle.si_model.specs.History.{IsHistory}
use Rattle.si_model.specs.Form.{IsWellFormed, concerns_form}
use Rattle.si_model.specs.Evidence.{edge, missed_walk, evidence_of}
use Rattle.si_graph.specs.Phenomena.{HasAbortedRead, HasIntermediateRead, HasCircularFlow, HasInterference, HasMissedEffects, IsPlSi}
use Rattle.si_graph.specs.Emptiness.{FindsAbortedRead, FindsIntermediateRead, FindsInterference, FindsMissedEffects}
use Rattle.si_graph.specs.Laws.{HasPhenomenonOf, ModelLaws}
use Rattle.si_lists.proofs.Members.{Contains-nil, here}
use Rattle.si_graph.proofs.Explained.{explained}
use Rattle.si_graph.proofs.Phenomena.{explained_is_of, phenomenon_is_there}
use Rattle.si_graph.proofs.Found.{aborted_found, intermediate_found, interference_found, no_circular_flow, missed_found}

-- the phenomenon of the evidence for that kind is there
abbrev IsPresent : Present → Kind → Type 0
IsPresent P k = (e : Evidence) → evidence_of k ≡ Some e → HasPhenomenonOf P e

module _ (laws : ModelLaws) (P : Present) (h : IsHistory P) where
  told : (f : Finding) → Contains (findings P) f → IsPresent P f.kind
  told f c e is = phenomenon_is_there P e h (explained_is_of f.kind e is) (explained laws P h f ((laws.findings P h).sound f c) e is)

  module _ (form : IsWellFormed P) where
    pub aborted_both : HasAbortedRead P ↔ FindsAbortedRead P
    aborted_both = (aborted_found laws P h form, λ f. go f.0.kind f.2 (told f.0 f.1))
      where
        go : (k : Kind) → number k ≡ 4 → IsPresent P k → HasAbortedRead P
        go (kind.Aborted t i v u) e m = m (evidence.AbortedRead t i u) refl
        go _ e m = absurd (omega arith)

    pub intermediate_both : (FindsAbortedRead P → ⊥) → HasIntermediateRead P ↔ FindsIntermediateRead P
    intermediate_both none = (intermediate_found laws P h form none, λ f. go f.0.kind f.2 (told f.0 f.1))
      where
        go : (k : Kind) → number k ≡ 5 → IsPresent P k → HasIntermediateRead P
        go (kind.Intermediate t i v u) e m = m (evidence.IntermediateRead t i u) refl
        go _ e m = absurd (omega arith)

    pub interference_both : HasInterference P ↔ FindsInterference P
    interference_both = (interference_found laws P h form, λ found. elim found [ inl f ↦ future f.0.kind f.2 (told f.0 f.1) | inr f ↦ overlap f.0.kind f.2 (told f.0 f.1) ])
      where
        future : (k : Kind) → number k ≡ 6 → IsPresent P k → HasInterference P
        future (kind.Future t i v u) e m = m (evidence.Interference (edge label.Wr u t)) refl
        future _ e m = absurd (omega arith)

        overlap : (k : Kind) → number k ≡ 8 → IsPresent P k → HasInterference P
        overlap (kind.Overlap a b) e m = m (evidence.Interference (edge label.Ww a b)) refl
        overlap _ e m = absurd (omega arith)

    pub circular_interferes : (HasInterference P → ⊥) → HasCircularFlow P → ⊥
    circular_interferes none = no_circular_flow laws P h form (λ f. none (interference_both.1 f))

    pub missed_both : (HasInterference P → ⊥) → HasMissedEffects P ↔ FindsMissedEffects P
    missed_both none = (missed_found laws P h form (λ f. none (interference_both.1 f)), λ f. go f.0.kind f.2 (told f.0 f.1))
      where
        go : (k : Kind) → number k ≡ 7 → IsPresent P k → HasMissedEffects P
        go (kind.Stale t i v n) e m = m (evidence.Missed (missed_walk t n)) refl
        go _ e m = absurd (omega arith)

  -- where there is no finding
  clean : findings P ≡ [] → IsWellFormed P × IsPlSi P
  clean none =
      let form : IsWellFormed P = (laws.form P h).1 (λ f c. absurd (empty f c)) in
      let no_interference : HasInterference P → ⊥ = λ i. elim ((interference_both form).0 i) [ inl f ↦ empty f.0 f.1 | inr f ↦ empty f.0 f.1 ] in (
        form,
        record {
          aborted_reads = λ a. (let f = (aborted_both form).0 a in empty f.0 f.1);
          intermediate_reads = λ a. (let f = (intermediate_both form (λ g. empty g.0 g.1)).0 a in empty f.0 f.1);
          circular_flow = circular_interferes form no_interference;
          interference = no_interference;
          missed_effects = λ m. (let f = (missed_both form no_interference).0 m in empty f.0 f.1);
        },
      )
    where
      empty : (f : Finding) → Contains (findings P) f → ⊥
      empty f c = Contains-nil f (subst (λ l. Contains l f) none c)

  -- where there is no phenomenon
  dirty : IsWellFormed P → IsPlSi P → (f : Finding) → Contains (findings P) f → ⊥
  dirty form plain f c = go f.kind ((laws.form P h).0 form f c) (told f c)
    where
      go : (k : Kind) → concerns_form k ≡ false → IsPresent P k → ⊥
      go (kind.Aborted t i v u) e m = plain.aborted_reads (m (evidence.AbortedRead t i u) refl)
      go (kind.Intermediate t i v u) e m = plain.intermediate_reads (m (evidence.IntermediateRead t i u) refl)
      go (kind.Future t i v u) e m = plain.interference (m (evidence.Interference (edge label.Wr u t)) refl)
      go (kind.Stale t i v n) e m = plain.missed_effects (m (evidence.Missed (missed_walk t n)) refl)
      go (kind.Overlap a b) e m = plain.interference (m (evidence.Interference (edge label.Ww a b)) refl)
      go _ e m = cc

  pub empty_both : (findings P ≡ []) ↔ (IsWellFormed P × IsPlSi P)
  empty_both = (clean, λ both. go (findings P) refl (dirty both.0 both.1))
    where
      go : (l : List Finding) → findings P ≡ l → ((f : Finding) → Contains (findings P) f → ⊥) → findings P ≡ []
      go [] is none = is
      go (f ∷ fs) is none = absurd (none f (subst (λ l. Contains l f) (sym is) (here f fs)))
