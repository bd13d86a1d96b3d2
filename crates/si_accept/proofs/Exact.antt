-- What an index says stays exact when a transaction arrives, is withdrawn or changes.
use Rattle.std.proofs.Common.{◌≡◌, ◌⊎◌, inl, inr, ◌↔◌, true, false, not, List, [], ◌∷◌, ◌++◌, map, refl, sym, ap, subst, ◌∙◌}
use Rattle.std.specs.List.{Contains, filter}
use Rattle.std.proofs.lemmas.List.Elements.{Contains-append_left, Contains-append_right}
use Rattle.si_model.specs.declared.transactions.Txn.{Txn}
use Rattle.si_model.specs.Edits.{same_id, is_another}
use Rattle.si_model.proofs.Equalities.{same_id_is, same_id_from}
use Rattle.si_lists.proofs.Pushes.{push_cases}
use Rattle.si_lists.proofs.Members.{here, Contains-map, Contains-from_map, Contains-filter, Contains-from_filter}
use Rattle.si_accept.specs.Indexes.{IsExact}

pub arrived : (P : List Txn) (T A : Txn) → Contains (P ++ T ∷ []) A → Contains P A ⊎ (T ≡ A)
arrived P T A c = push_cases P T A c

module _ {K : Type 0} (of_txn : Txn → K → Type 0) where
  -- an arrival adds its own places
  pub exact_arrived : (was is : K → Type 0) (P : List Txn) (T : Txn) → IsExact was of_txn P → ((k : K) → is k ↔ (was k ⊎ of_txn T k)) → IsExact is of_txn (P ++ T ∷ [])
  exact_arrived was is P T h g k = (
    λ i. elim ((g k).0 i) [
      | inl w ↦ (let r = (h k).0 w in (r.0, Contains-append_left P (T ∷ []) r.0 r.1, r.2))
      | inr o ↦ (T, Contains-append_right P (T ∷ []) T (here T []), o)
    ],
    λ r. elim (arrived P T r.0 r.1) [
      | inl c ↦ (g k).1 (inl ((h k).1 (r.0, c, r.2)))
      | inr e ↦ (g k).1 (inr (subst (λ A. of_txn A k) (sym e) r.2))
    ],
  )

  -- a withdrawal takes its own places out
  pub exact_withdrawn : (was is : K → Type 0) (P : List Txn) (T : Txn) → Contains P T → ((A B : Txn) → Contains P A → Contains P B → A.id ≡ B.id → A ≡ B) → ((A B : Txn) (k : K) → of_txn A k → of_txn B k → A.id ≡ B.id) → IsExact was of_txn P → ((k : K) → is k ↔ (was k × ¬ of_txn T k)) → IsExact is of_txn (filter (is_another T.id) P)
  exact_withdrawn was is P T t names one h g k = (
    λ i. let w = (g k).0 i in
        let r = (h k).0 w.0 in
        (r.0, Contains-filter (is_another T.id) P r.0 r.1 (differs r.0 r.1 r.2 w.1), r.2),
    λ r. let c = Contains-from_filter (is_another T.id) P r.0 r.1 in
        (g k).1 ((h k).1 (r.0, c.0, r.2), λ o. apart r.0 c.1 (one r.0 T k r.2 o)),
  )
    where
      apart : (A : Txn) → is_another T.id A ≡ true → A.id ≡ T.id → ⊥
      apart A e s = (let n = sym e ∙ ap not (same_id_from A.id T.id s) in cc)

      differs : (A : Txn) → Contains P A → of_txn A k → (of_txn T k → ⊥) → is_another T.id A ≡ true
      differs A c o n = elim (same_id A.id T.id) as (λ b. same_id A.id T.id ≡ b → not b ≡ true) [
        | true ↦ λ e. absurd (n (subst (λ B. of_txn B k) (names A T c t (same_id_is A.id T.id e)) o))
        | false ↦ λ e. refl
      ] refl

  -- a change of what the index doesn't look at
  pub exact_changed : (there : K → Type 0) (P : List Txn) (f : Txn → Txn) → ((A : Txn) (k : K) → Contains P A → of_txn A k ↔ of_txn (f A) k) → IsExact there of_txn P → IsExact there of_txn (map f P)
  exact_changed there P f same h k = (
    λ i. let r = (h k).0 i in (f r.0, Contains-map f P r.0 r.1, (same r.0 k r.1).0 r.2),
    λ r. let c = Contains-from_map f P r.0 r.1 in (h k).1 (c.0, c.1, (same c.0 k c.1).1 (subst (λ A. of_txn A k) (sym c.2) r.2)),
  )
