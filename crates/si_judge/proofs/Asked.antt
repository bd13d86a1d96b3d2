-- What the indexes hold after an edit is what was asked for, in whatever order.
use Rattle.std.proofs.Common.{◌≡◌, ◌≢◌, ◌∙◌, ◌⊎◌, inl, inr, Bool, true, false, cond, not, [], ◌∷◌, ◌++◌, map, refl, sym, ap, subst, true≢false}
use Rattle.std.specs.List.{AllPairs, Contains}
use Rattle.std.proofs.lemmas.List.Kept.{AllPairs-filter}
use Rattle.si_lists.proofs.Members.{Contains-filter, Contains-from_filter, Contains-from_map, Contains-map}
use Rattle.si_lists.proofs.Names.{pairs_last, pairs_push}
use Rattle.si_lists.proofs.Pushes.{push_cases, push_keeps, push_last}
use Rattle.si_model.specs.declared.numbers.TxnId.{TxnId}
use Rattle.si_model.specs.declared.transactions.Outcome.{Outcome}
use Rattle.si_model.specs.declared.parts.Part.{Part}
use Rattle.si_model.specs.declared.parts.OnKey.{OnKey}
use Rattle.si_model.specs.Edits.{same_id, status_after}
use Rattle.si_model.specs.KeyEdits.{arrived_on, is_another_part, resolved_on, resolved_part, withdrawn_on}
use Rattle.si_model.specs.History.{IsOfHistory}
use Rattle.si_model.proofs.Equalities.{same_id_is, same_id_from}
use Rattle.si_model.proofs.Histories.{one_part}
use Rattle.si_judge.specs.Indexes.{Joins}
use Rattle.si_judge.specs.States.{AreSameOnKey}
use Rattle.si_judge.proofs.Coming.{history_within}

-- ---- an arrival

pub push_joins : (T : Part) (Q : OnKey) → ((X : Part) → Contains Q.parts X → X.id ≢ T.id) → Joins T Q (arrived_on T Q)
push_joins T Q absent = record {
  initial = refl;
  absent = absent;
  parts = λ X. (
    (λ c. elim (push_cases Q.parts T X c) [ inl o ↦ inl o | inr e ↦ inr (sym e) ]),
    (λ c. elim c [ inl o ↦ push_keeps Q.parts T X o | inr e ↦ subst (Contains (Q.parts ++ T ∷ [])) (sym e) (push_last Q.parts T) ]),
  );
}

pub arrival_joins : (T : Part) (Q : OnKey) → IsOfHistory (arrived_on T Q) → Joins T Q (arrived_on T Q)
arrival_joins T Q h = push_joins T Q (λ X c e. pairs_last (λ A B. A.id ≢ B.id) Q.parts T X h.names c e)

-- what it joins to is of a history in that order too
pub push_history : (T : Part) (Q R : OnKey) → Joins T Q R → IsOfHistory R → AllPairs (λ A B. A.id ≢ B.id) Q.parts → IsOfHistory (arrived_on T Q)
push_history T Q R joins h names = history_within R (arrived_on T Q) h (sym joins.initial) (λ X c. (joins.parts X).1 (((push_joins T Q joins.absent).parts X).0 c))
    (pairs_push (λ A B. A.id ≢ B.id) Q.parts T names joins.absent)

-- what joins the same to the same is the same
pub same_joined : (T : Part) (M Q R : OnKey) → Joins T M Q → Joins T M R → AreSameOnKey Q R
same_joined T M Q R a b = record { initial = sym a.initial ∙ b.initial; parts = λ X. ((λ c. (b.parts X).1 ((a.parts X).0 c)), (λ c. (a.parts X).1 ((b.parts X).0 c))) }

-- ---- the same in another order

pub joined_same : (T : Part) (M Q R : OnKey) → Joins T M Q → AreSameOnKey Q R → Joins T M R
joined_same T M Q R joins same = record {
  initial = joins.initial ∙ same.initial;
  absent = joins.absent;
  parts = λ X. ((λ c. (joins.parts X).0 ((same.parts X).1 c)), (λ c. (same.parts X).0 ((joins.parts X).1 c)));
}

pub left_same : (T : Part) (M N Q : OnKey) → Joins T M Q → AreSameOnKey M N → Joins T N Q
left_same T M N Q joins same = record {
  initial = sym same.initial ∙ joins.initial;
  absent = λ X c. joins.absent X ((same.parts X).1 c);
  parts = λ X. (
    (λ c. elim ((joins.parts X).0 c) [ inl m ↦ inl ((same.parts X).0 m) | inr e ↦ inr e ]),
    (λ c. (joins.parts X).1 (elim c [ inl n ↦ inl ((same.parts X).1 n) | inr e ↦ inr e ])),
  );
}

-- ---- a resolution

resolved_itself : (u : TxnId) (o : Outcome) (X : Part) → X.id ≢ u → resolved_part u o X ≡ X
resolved_itself u o X other = by (same_id X.id u) refl
  where
    by : (b : Bool) → same_id X.id u ≡ b → cond b (record X { status = status_after o }) X ≡ X
    by true e = absurd (other (same_id_is X.id u e))
    by false e = refl

resolved_there : (u : TxnId) (o : Outcome) (X : Part) → X.id ≡ u → resolved_part u o X ≡ record X { status = status_after o }
resolved_there u o X e = ap (λ b. cond b (record X { status = status_after o }) X) (same_id_from X.id u e)

-- the transaction in doubt was taken out of Q; resolved it joins what is left
pub resolution_joins : (T : Part) (o : Outcome) (M Q : OnKey) → Joins T M Q → Joins (record T { status = status_after o }) M (resolved_on T.id o Q)
resolution_joins T o M Q joins = record {
  initial = joins.initial;
  absent = joins.absent;
  parts = λ X. (
    (λ c. let y = Contains-from_map (resolved_part T.id o) Q.parts X c in elim ((joins.parts y.0).0 y.1) [
      | inl m ↦ inl (subst (Contains M.parts) (sym (resolved_itself T.id o y.0 (joins.absent y.0 m)) ∙ y.2) m)
      | inr e ↦ inr (sym y.2 ∙ ap (resolved_part T.id o) e ∙ resolved_there T.id o T refl)
    ]),
    (λ c. elim c [
      | inl m ↦ subst (Contains (map (resolved_part T.id o) Q.parts)) (resolved_itself T.id o X (joins.absent X m)) (Contains-map (resolved_part T.id o) Q.parts X ((joins.parts X).1 (inl m)))
      | inr e ↦ subst (Contains (map (resolved_part T.id o) Q.parts)) (resolved_there T.id o T refl ∙ sym e) (Contains-map (resolved_part T.id o) Q.parts T ((joins.parts T).1 (inr refl)))
    ]),
  );
}

-- ---- a withdrawal

another_or_not : (T X : Part) → (is_another_part T.id X ≡ true × (X.id ≢ T.id)) ⊎ (X.id ≡ T.id)
another_or_not T X = by (same_id X.id T.id) refl
  where
    by : (b : Bool) → same_id X.id T.id ≡ b → (is_another_part T.id X ≡ true × (X.id ≢ T.id)) ⊎ (X.id ≡ T.id)
    by true e = inr (same_id_is X.id T.id e)
    by false e = inl (ap not e, (λ same. true≢false (sym (same_id_from X.id T.id same) ∙ e)))

-- a transaction joins what is left without it
pub withdrawal_joins : (T : Part) (Q : OnKey) → IsOfHistory Q → Contains Q.parts T → Joins T (withdrawn_on T.id Q) Q
withdrawal_joins T Q h there = record {
  initial = refl;
  absent = λ X c e. true≢false (sym (Contains-from_filter (is_another_part T.id) Q.parts X c).1 ∙ ap not (same_id_from X.id T.id e));
  parts = λ X. (
    (λ c. elim (another_or_not T X) [
      | inl other ↦ inl (Contains-filter (is_another_part T.id) Q.parts X c other.0)
      | inr same ↦ inr (one_part Q h X T c there same)
    ]),
    (λ c. elim c [
      | inl m ↦ (Contains-from_filter (is_another_part T.id) Q.parts X m).0
      | inr e ↦ subst (Contains Q.parts) (sym e) there
    ]),
  );
}

-- what the same transaction joins to the same is the same
pub same_without : (T : Part) (M N Q : OnKey) → Joins T M Q → Joins T N Q → AreSameOnKey M N
same_without T M N Q a b = record { initial = a.initial ∙ sym b.initial; parts = λ X. (within M N a b X, within N M b a X) }
  where
    within : (K L : OnKey) → Joins T K Q → Joins T L Q → (X : Part) → Contains K.parts X → Contains L.parts X
    within K L k l X c = elim ((l.parts X).0 ((k.parts X).1 (inl c))) [ inl m ↦ m | inr e ↦ absurd (k.absent X c (ap (λ (Y : Part). Y.id) e)) ]

pub withdrawal_history : (u : TxnId) (Q : OnKey) → IsOfHistory Q → IsOfHistory (withdrawn_on u Q)
withdrawal_history u Q h = history_within Q (withdrawn_on u Q) h refl (λ X c. (Contains-from_filter (is_another_part u) Q.parts X c).0)
    (AllPairs-filter (λ A B. A.id ≢ B.id) (is_another_part u) Q.parts h.names)
