-- What an edit is on the keys of a shard.
use Rattle.std.proofs.Common.{◌≡◌, ◌∙◌, ◌⊎◌, inl, inr, ℕ, Bool, true, false, cond, List, [], ◌∷◌, Option, Some, None, refl, sym, ap, subst}
use Rattle.std.specs.List.{Contains}
use Rattle.si_lists.proofs.Members.{Contains-filter_map, Contains-nil, here}
use Rattle.si_model.specs.declared.numbers.TxnId.{TxnId}
use Rattle.si_model.specs.declared.transactions.Txn.{Txn}
use Rattle.si_model.specs.declared.parts.Part.{Part}
use Rattle.si_model.specs.declared.parts.Placed.{Placed}
use Rattle.si_model.specs.declared.parts.OnKey.{OnKey}
use Rattle.si_model.specs.declared.edits.Edit.{Edit}
use Rattle.si_model.specs.declared.edits.Edit.TheVariants as edit
use Rattle.si_model.specs.Operations.{same_key}
use Rattle.si_model.specs.Parts.{accesses, on_key, part, part_with}
use Rattle.si_model.specs.History.{IsHistory, IsOfHistory}
use Rattle.si_model.specs.Edits.{IsAcceptable, after, with_id}
use Rattle.si_model.specs.Journals.{IsAccepted, present}
use Rattle.si_model.specs.KeyEdits.{edited_on, perhaps_arrived_on, resolved_on, set_up_on, withdrawn_on}
use Rattle.si_model.proofs.Equalities.{same_key_from, same_key_is}
use Rattle.std.specs.Option.{option_map}
use Rattle.si_model.proofs.Histories.{id_found, key_of_history}
use Rattle.si_model.proofs.KeyEditing.{key_edits}
use Rattle.si_model.proofs.KeyParts.{part_some}
use Rattle.si_model.proofs.PresentHistories.{acceptance_exact, present_history}
use Rattle.si_accept.specs.Notes.{txn_before}
use Rattle.si_judge.specs.Following.{empty_key}
use Rattle.si_judge.specs.States.{HasPart}
use Rattle.si_judge.proofs.Following.{nothing_of_history, others_not_had, others_pass, same_itself, set_ups_follow}
use Rattle.si_shard.specs.declared.shard_ids.ShardId.{ShardId}
use Rattle.si_shard.specs.declared.applied_edits.Applied.{Applied}
use Rattle.si_shard.specs.declared.key_changes.Change.{Change}
use Rattle.si_shard.specs.declared.key_changes.Change.TheVariants as change
use Rattle.si_shard.specs.AppliedEdits.{AreSettled, IsAccessChange, IsChangeOn, TxnBefore, change_by, txn_told, whole_txn}
use Rattle.si_shard.specs.KeyChanges.{AsksRightly, CanChange, changed_on}
use Rattle.si_shard.specs.KeyStates.{IsOn}
use Rattle.si_shard.specs.ShardIds.{is_ours}

some_or_none : (ys : List Placed) → ((b : Placed) × Contains ys b) ⊎ (ys ≡ [])
some_or_none [] = inr refl
some_or_none (b ∷ ys) = inl (b, here b ys)

part_there : (x : List ℕ) (T : Txn) (b : Placed) → Contains (accesses x T.ops) b
    → part x T ≡ Some (record { id = T.id; start = T.start; status = T.status; accesses = accesses x T.ops })
part_there x T b c = part_some x T (record { id = T.id; start = T.start; status = T.status; accesses = accesses x T.ops })
    (record { id = refl; start = refl; status = refl; accesses = refl; some = (b, c) })

part_not : (x : List ℕ) (T : Txn) → accesses x T.ops ≡ [] → part x T ≡ None
unfolding part
part_not x T e = ap (part_with T) e

module _ (id : ShardId) (edits : List Edit) (accepted : IsAccepted edits) where
  h : IsHistory (present edits)
  h = present_history edits accepted

  module _ (x : List ℕ) (ours : is_ours id x ≡ true) where
    -- what is on the key
    abbrev Q : OnKey
    Q = on_key x (present edits)

    -- what it does on the key
    abbrev does : Txn → Part
    does T = record { id = T.id; start = T.start; status = T.status; accesses = accesses x T.ops }

    -- where it is present and asked for it is found
    found : (T : Txn) → Contains (present edits).txns T → (u : TxnId) → T.id ≡ u → option_map whole_txn (with_id (present edits).txns u) ≡ Some (whole_txn T)
    found T c u is = ap (option_map whole_txn) ((id_found (present edits) u T h).1 (c, is))

    does_there : (T : Txn) → Contains (present edits).txns T → (b : Placed) → Contains (accesses x T.ops) b → Contains Q.parts (does T)
    does_there T c b d = Contains-filter_map (part x) (present edits).txns T (does T) c (part_there x T b d)

    not_had : (T : Txn) → Contains (present edits).txns T → accesses x T.ops ≡ [] → HasPart Q T.id → ⊥
    not_had T c e = others_not_had (present edits) x T Q h (same_itself Q) c (part_not x T e)

    -- a change by an edit that is acceptable is what the edit is on the key, and asks rightly
    IsRight : Edit → Change → Type 0
    IsRight e c = (changed_on c Q ≡ edited_on x e Q) × AsksRightly c Q

    abbrev told : Edit → Option TxnBefore
    told e = txn_told e (txn_before (present edits) e)

    right_change : (e : Edit) → IsAcceptable (present edits) e → (c : Change) → IsChangeOn (told e) e x c → IsRight e c
    unfolding IsRight edited_on
    right_change (edit.Arrive T) ok c (b, d, is) = (
      subst (λ k. changed_on k Q ≡ perhaps_arrived_on (part x T) Q) (sym is) (ap (λ o. perhaps_arrived_on o Q) (sym (part_there x T b d))),
      subst (λ k. AsksRightly k Q) (sym is) tt,
    )
    right_change (edit.Resolve u o) ok c k =
        let asked = ((acceptance_exact (present edits) (edit.Resolve u o) h).0 ok).0 in
        let t = subst (λ t. IsAccessChange t (edit.Resolve u o) x c) (found asked.0 asked.1 u asked.2) k in (
          ap (λ k. changed_on k Q) t.2 ∙ ap (λ w. resolved_on w o Q) asked.2,
          subst (λ k. AsksRightly k Q) (sym t.2) (record { part = does_there asked.0 asked.1 t.0 t.1; doubt = asked.3 }),
        )
    right_change (edit.Withdraw u) ok c k =
        let asked = ((acceptance_exact (present edits) (edit.Withdraw u) h).0 ok).0 in
        let t = subst (λ t. IsAccessChange t (edit.Withdraw u) x c) (found asked.0 asked.1 u asked.2) k in (
          ap (λ k. changed_on k Q) t.2 ∙ ap (λ w. withdrawn_on w Q) asked.2,
          subst (λ k. AsksRightly k Q) (sym t.2) (does_there asked.0 asked.1 t.0 t.1),
        )
    right_change (edit.SetUp y v) ok c (key, is) = (
      ap (λ k. changed_on k Q) is ∙ ap (λ b. cond b (set_up_on v Q) Q) (sym (same_key_from y x (sym key))),
      subst (λ k. AsksRightly k Q) (sym is) (set_ups_follow (present edits) x v Q (subst (λ z. IsAcceptable (present edits) (edit.SetUp z v)) (sym key) ok) (same_itself Q)),
    )

    -- the edit's transaction does something on the key, or nothing
    accessed_or_not : (e : Edit) (t : Option TxnBefore) (T : Txn) → t ≡ Some (whole_txn T)
        → ((c : Change) × IsAccessChange t e x c) ⊎ (((c : Change) → IsAccessChange t e x c → ⊥) × (accesses x T.ops ≡ []))
    accessed_or_not e t T is = subst (λ k. ((c : Change) × IsAccessChange k e x c) ⊎ (((c : Change) → IsAccessChange k e x c → ⊥) × (accesses x T.ops ≡ []))) (sym is) (by (some_or_none (accesses x T.ops)))
      where
        by : ((b : Placed) × Contains (accesses x T.ops) b) ⊎ (accesses x T.ops ≡ [])
            → ((c : Change) × IsAccessChange (Some (whole_txn T)) e x c) ⊎ (((c : Change) → IsAccessChange (Some (whole_txn T)) e x c → ⊥) × (accesses x T.ops ≡ []))
        by (inl s) = inl (change_by (whole_txn T).0 e (accesses x T.ops), (s.0, s.1, refl))
        by (inr none) = inr ((λ c k. Contains-nil k.0 (subst (λ ys. Contains ys k.0) none k.1)), none)

    -- there is a change, or the edit leaves the key as it is
    StaysOr : Edit → Type 0
    StaysOr e = ((c : Change) × IsChangeOn (told e) e x c)
        ⊎ (((c : Change) → IsChangeOn (told e) e x c → ⊥) × (edited_on x e Q ≡ Q))

    change_or_none : (e : Edit) → IsAcceptable (present edits) e → StaysOr e
    unfolding StaysOr edited_on
    change_or_none (edit.Arrive T) ok = elim (accessed_or_not (edit.Arrive T) (Some (whole_txn T)) T refl) [
      | inl k ↦ inl k
      | inr k ↦ inr (k.0, ap (λ o. perhaps_arrived_on o Q) (part_not x T k.1))
    ]
    change_or_none (edit.Resolve u o) ok =
        let asked = ((acceptance_exact (present edits) (edit.Resolve u o) h).0 ok).0 in
        elim (accessed_or_not (edit.Resolve u o) (told (edit.Resolve u o)) asked.0 (found asked.0 asked.1 u asked.2)) [
          | inl k ↦ inl k
          | inr k ↦ inr (k.0, others_pass.resolution u o Q (subst (λ w. HasPart Q w → ⊥) asked.2 (not_had asked.0 asked.1 k.1)))
        ]
    change_or_none (edit.Withdraw u) ok =
        let asked = ((acceptance_exact (present edits) (edit.Withdraw u) h).0 ok).0 in
        elim (accessed_or_not (edit.Withdraw u) (told (edit.Withdraw u)) asked.0 (found asked.0 asked.1 u asked.2)) [
          | inl k ↦ inl k
          | inr k ↦ inr (k.0, others_pass.withdrawal u Q (subst (λ w. HasPart Q w → ⊥) asked.2 (not_had asked.0 asked.1 k.1)))
        ]
    change_or_none (edit.SetUp y v) ok = by (same_key y x) refl
      where
        by : (b : Bool) → same_key y x ≡ b → ((c : Change) × ((x ≡ y) × (c ≡ change.SetUp v))) ⊎ (((c : Change) → (x ≡ y) × (c ≡ change.SetUp v) → ⊥) × (cond (same_key y x) (set_up_on v Q) Q ≡ Q))
        by true s = inl (change.SetUp v, (sym (same_key_is y x s), refl))
        by false s = inr (λ c k. (let no : true ≡ false = sym (same_key_from y x (sym k.0)) ∙ s in cc), ap (λ b. cond b (set_up_on v Q) Q) s)

    module _ (e : Edit) (ok : IsAcceptable (present edits) e) where
      follows : on_key x (after e (present edits)) ≡ edited_on x e Q
      follows = key_edits (present edits) e x ok

      -- a change that the edit is there leads to what is present then, and can be made
      pub follows_change : (c : Change) → IsChangeOn (told e) e x c → changed_on c (on_key x (present edits)) ≡ on_key x (after e (present edits))
      unfolding IsRight
      follows_change c k = (right_change e ok c k).0 ∙ sym follows

      pub can_change : (c : Change) → IsChangeOn (told e) e x c → CanChange c (on_key x (present edits))
      unfolding IsRight
      can_change c k = record {
        asks = (right_change e ok c k).1;
        history = subst IsOfHistory (sym (follows_change c k)) (key_of_history (after e (present edits)) x ((acceptance_exact (present edits) e h).0 ok).1);
      }

      -- where it is no change the key stays as it is
      pub stays : ((c : Change) → IsChangeOn (told e) e x c → ⊥) → on_key x (present edits) ≡ on_key x (after e (present edits))
      unfolding StaysOr
      stays none = elim (change_or_none e ok) [
        | inl k ↦ absurd (none k.0 k.1)
        | inr k ↦ sym (follows ∙ k.1)
      ]

      -- the edit is a change on the key, or none
      pub change_or_not : ((c : Change) × IsChangeOn (told e) e x c) ⊎ ((c : Change) → IsChangeOn (told e) e x c → ⊥)
      unfolding StaysOr
      change_or_not = elim (change_or_none e ok) [
        | inl k ↦ inl k
        | inr k ↦ inr k.0
      ]

-- before any edit
pub none_applied : (id : ShardId) (a : Applied) → ((x : List ℕ) → IsOn a.keys x empty_key) → a.keys.marked.items ≡ [] → a.noted ≡ None → AreSettled id [] a
unfolding present
none_applied id a none unmarked unnoted = record {
  applied = record {
    ours = λ x e. subst (IsOn a.keys x) (sym (nothing_of_history.on_key x)) (none x);
    others = λ x e. none x;
    noted = λ n is. (let no : None ≡ Some n = sym unnoted ∙ is in cc);
  };
  settled = unmarked;
}
