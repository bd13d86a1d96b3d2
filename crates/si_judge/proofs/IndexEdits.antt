-- An index of what transactions give stays one when a transaction comes or goes.
use Rattle.std.proofs.Common.{◌≡◌, ◌≢◌, ◌∙◌, ◌⊎◌, inl, inr, ◌↔◌, Bool, true, List, Option, Some, None, refl, sym, ap, subst}
use Rattle.std.specs.List.{Contains}
use Rattle.si_lists.proofs.Members.{same_some}
use Rattle.si_model.specs.declared.parts.Part.{Part}
use Rattle.si_judge.specs.Maps.{AreInserted, AreTakenOut}
use Rattle.si_judge.specs.Indexes.{IsIndexOf}
use Rattle.si_judge.proofs.Updates.{others_stay, key_or_not, value_stands}

-- what f gives under one key is of one transaction, and one value
abbrev pub IsApart : {K V : Type 0} → (Part → List (K × V)) → List Part → Type 0
IsApart {K} {V} f parts = (A B : Part) (k : K) (v w : V) → Contains parts A → Contains parts B → Contains (f A) (k, v) → Contains (f B) (k, w) → (A ≡ B) × (v ≡ w)

pub no_value : {V : Type 0} (v : V) → None ≡ Some v → ⊥
no_value v e = cc

module _ {K V : Type 0} (same : K → K → Bool) (decides : (a b : K) → (same a b ≡ true) ↔ (a ≡ b)) (f : Part → List (K × V)) (T : Part) (few more : List Part)
    (joined : (X : Part) → Contains more X ↔ (Contains few X ⊎ (X ≡ T))) (apart : IsApart f more) where
  has_T : Contains more T
  has_T = (joined T).1 (inr refl)

  pub comes : (old new : K → Option V) → IsIndexOf f few old → AreInserted same old (f T) new → IsIndexOf f more new
  comes old new is inserted k v = by (key_or_not {V = V} same decides (λ p. p.0) (λ p. Some p.1) (f T) k)
    where
      by : ((p : K × V) × Contains (f T) p × (p.0 ≡ k)) ⊎ ((p : K × V) → Contains (f T) p → p.0 ≢ k) → (new k ≡ Some v) ↔ ((X : Part) × Contains more X × Contains (f X) (k, v))
      by (inl h) =
          let given : Contains (f T) (k, h.0.1) = subst (λ q. Contains (f T) (q, h.0.1)) h.2 h.1 in
          let stands : new k ≡ Some h.0.1 = inserted k ∙ value_stands same decides (λ p. p.0) (λ p. Some p.1) (f T) old k (Some h.0.1) h.0 h.1 h.2
          (λ p c e. ap Some (apart T T k p.1 h.0.1 has_T has_T (subst (λ q. Contains (f T) (q, p.1)) e c) given).1) in (
            (λ e. (T, has_T, subst (λ w. Contains (f T) (k, w)) (same_some (sym stands ∙ e)) given)),
            (λ x. stands ∙ ap Some (apart T x.0 k h.0.1 v has_T x.1 given x.2).1),
          )
      by (inr none) =
          let stays : new k ≡ old k = inserted k ∙ others_stay same decides (λ p. p.0) (λ p. Some p.1) (f T) old k none in (
            (λ e. let x = (is k v).0 (sym stays ∙ e) in (x.0, (joined x.0).1 (inl x.1), x.2)),
            (λ x. elim ((joined x.0).0 x.1) [
              | inl c ↦ stays ∙ (is k v).1 (x.0, c, x.2)
              | inr e ↦ absurd (none (k, v) (subst (λ X. Contains (f X) (k, v)) e x.2) refl)
            ]),
          )

  pub goes : (old new : K → Option V) → ((X : Part) → Contains few X → X ≢ T) → IsIndexOf f more old → AreTakenOut same old (f T) new → IsIndexOf f few new
  goes old new absent is taken k v = by (key_or_not {V = V} same decides (λ p. p.0) (λ p. None) (f T) k)
    where
      by : ((p : K × V) × Contains (f T) p × (p.0 ≡ k)) ⊎ ((p : K × V) → Contains (f T) p → p.0 ≢ k) → (new k ≡ Some v) ↔ ((X : Part) × Contains few X × Contains (f X) (k, v))
      by (inl h) =
          let given : Contains (f T) (k, h.0.1) = subst (λ q. Contains (f T) (q, h.0.1)) h.2 h.1 in
          let gone : new k ≡ None = taken k ∙ value_stands same decides (λ p. p.0) (λ p. None) (f T) old k None h.0 h.1 h.2 (λ p c e. refl) in (
            (λ e. absurd (no_value v (sym gone ∙ e))),
            (λ x. absurd (absent x.0 x.1 (apart x.0 T k v h.0.1 ((joined x.0).1 (inl x.1)) has_T x.2 given).0)),
          )
      by (inr none) =
          let stays : new k ≡ old k = taken k ∙ others_stay same decides (λ p. p.0) (λ p. None) (f T) old k none in (
            (λ e. let x = (is k v).0 (sym stays ∙ e) in elim ((joined x.0).0 x.1) [
              | inl c ↦ (x.0, c, x.2)
              | inr same_part ↦ absurd (none (k, v) (subst (λ X. Contains (f X) (k, v)) same_part x.2) refl)
            ]),
            (λ x. stays ∙ (is k v).1 (x.0, (joined x.0).1 (inl x.1), x.2)),
          )
