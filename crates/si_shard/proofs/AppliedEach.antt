-- One more edit that goes straight to the keys.
use Rattle.std.proofs.Common.{◌≡◌, ◌∙◌, inl, inr, ℕ, true, false, List, [], ◌∷◌, ◌++◌, IfOk, OnOk, Ok, Err, sym, ap, subst, arith, length-append, None, Option, Some}
use Rattle.std.specs.declared.result.Result.{Result}
use Rattle.si_model.specs.declared.edits.Edit.{Edit}
use Rattle.si_model.specs.declared.transactions.Txn.{Txn}
use Rattle.std.specs.List.{filter}
use Rattle.std.proofs.lemmas.List.{take-append-le}
use Rattle.si_model.specs.Findings.{findings}
use Rattle.si_model.specs.Parts.{on_key}
use Rattle.si_model.specs.Edits.{IsAcceptable, after}
use Rattle.si_model.specs.Journals.{IsAccepted, present}
use Rattle.si_model.proofs.Acceptance.{accepted_push, present_push}
use Rattle.si_accept.specs.Notes.{txn_before}
use Rattle.si_judge.specs.Following.{empty_key}
use Rattle.si_shard.specs.declared.shard_ids.ShardId.{ShardId}
use Rattle.si_shard.specs.declared.applied_edits.Applied.{Applied}
use Rattle.si_shard.specs.ShardIds.{is_ours}
use Rattle.si_shard.specs.declared.key_states.KeyStates.{KeyStates}
use Rattle.si_shard.specs.AppliedEdits.{AreApplied, AreNotedSince, AreSettled, IsChangeOn, IsNext, found_first, txn_told}
use Rattle.si_shard.specs.KeyStates.{IsOn, KeepsNotesOf, WereFoundOn}
use Rattle.si_shard.specs.SingleEdits.{CanBeMadeBy, IsMadeBy}
use Rattle.si_shard.proofs.KeyChanges.{can_change, change_or_not, follows_change, stays}

-- what follows from what is so at `Ok`
pub ok_then : {A E P Q : Type 0} (r : Result A E) → OnOk r P → (P → Q) → OnOk r Q
ok_then (Ok a) p f = f p
ok_then (Err e) p f = tt

-- the same from two things
pub ok_both : {A E P R Q : Type 0} (r : Result A E) → OnOk r P → OnOk r R → (P → R → Q) → OnOk r Q
ok_both (Ok a) p s f = f p s
ok_both (Err e) p s f = tt

-- what follows of a value from two things
pub where_both : {A E : Type 0} {P R Q : A → Type 0} (r : Result A E) → IfOk r P → IfOk r R → ((a : A) → P a → R a → Q a) → IfOk r Q
where_both (Ok a) p s f = f a p s
where_both (Err e) p s f = tt

-- a look ahead changes nothing
pub looked : (id : ShardId) (edits : List Edit) (a b : Applied) → AreApplied id edits a → b ≡ record a { ahead = b.ahead } → AreApplied id edits b
looked id edits a b sound is = subst (AreApplied id edits) (sym is) (record { ours = sound.ours; others = sound.others; noted = sound.noted })

-- without notes all else is as before
pub settled_unnoted : (id : ShardId) (edits : List Edit) (a b : Applied) → b.noted ≡ None → b.keys ≡ record a.keys { notes = b.keys.notes } → AreSettled id edits a → AreSettled id edits b
settled_unnoted id edits a b none same sound = record {
  applied = record {
    ours = λ x ours. subst (λ ks. IsOn ks x (on_key x (present edits))) (sym same) (sound.applied.ours x ours);
    others = λ x other. subst (λ ks. IsOn ks x empty_key) (sym same) (sound.applied.others x other);
    noted = λ n is. (let no : None ≡ Some n = sym none ∙ is in cc);
  };
  settled = ap (λ (ks : KeyStates). ks.marked.items) same ∙ sound.settled;
}

-- with them too
pub settled_noted : (id : ShardId) (edits : List Edit) (a b : Applied) → b.keys ≡ a.keys → ((n : ℕ) → b.noted ≡ Some n → AreNotedSince id edits n b.keys) → AreSettled id edits a → AreSettled id edits b
settled_noted id edits a b same noted sound = record {
  applied = record {
    ours = λ x ours. subst (λ ks. IsOn ks x (on_key x (present edits))) (sym same) (sound.applied.ours x ours);
    others = λ x other. subst (λ ks. IsOn ks x empty_key) (sym same) (sound.applied.others x other);
    noted = noted;
  };
  settled = ap (λ (ks : KeyStates). ks.marked.items) same ∙ sound.settled;
}

-- what is noted still is, also after more edits
pub noted_longer : (id : ShardId) (edits more : List Edit) (n : ℕ) (old new : KeyStates) → KeepsNotesOf old new → AreNotedSince id edits n old → AreNotedSince id (edits ++ more) n new
noted_longer id edits more n old new keeps are = record {
  within = omega (arith, are.within, length-append edits more);
  found = subst (λ l. WereFoundOn (filter (λ f. is_ours id f.key) (findings (present l))) new) (sym (take-append-le n edits more are.within)) (keeps (found_first id edits n) are.found);
}

module _ (id : ShardId) (edits : List Edit) (e : Edit) (before : Option Txn) (next : IsNext edits e before) (old : Applied) (sound : AreApplied id edits old) where
  first : IsAccepted edits
  first = ((accepted_push edits e).0 next.accepted).0

  ok : IsAcceptable (present edits) e
  ok = ((accepted_push edits e).0 next.accepted).1

  told_is : txn_told e (txn_before (present edits) e) ≡ txn_told e before
  told_is = ap (txn_told e) (sym next.before_is)

  -- what the edit is on a key can be made there
  pub can_be_made : CanBeMadeBy id (txn_told e before) e old.keys
  can_be_made x c ours k = (
    on_key x (present edits),
    sound.ours x ours,
    can_change id edits first x ours e ok c (subst (λ t. IsChangeOn t e x c) (sym told_is) k),
  )

  -- and once it was made the edit is applied
  pub applied_next : (new : Applied) → new.noted ≡ old.noted → IsMadeBy id (txn_told e before) e old.keys new.keys → KeepsNotesOf old.keys new.keys → AreApplied id (edits ++ e ∷ []) new
  applied_next new same made_so keeps = record {
    noted = λ n is. noted_longer id edits (e ∷ []) n old.keys new.keys keeps (sound.noted n (sym same ∙ is));
    ours = λ x ours. subst (λ P. IsOn new.keys x (on_key x P)) (sym (present_push edits e)) (ours_by x ours);
    others = λ x other. made.others x (λ o. (let no : true ≡ false = sym o ∙ other in cc)) empty_key (sound.others x other);
  }
    where
      made : IsMadeBy id (txn_told e (txn_before (present edits) e)) e old.keys new.keys
      made = subst (λ t. IsMadeBy id t e old.keys new.keys) (sym told_is) made_so

      ours_by : (x : List ℕ) → is_ours id x ≡ true → IsOn new.keys x (on_key x (after e (present edits)))
      ours_by x ours = elim (change_or_not id edits first x ours e ok) [
        | inl k ↦ subst (IsOn new.keys x) (follows_change id edits first x ours e ok k.0 k.1)
            (made.changed x k.0 ours k.1 (on_key x (present edits)) (sound.ours x ours) (can_change id edits first x ours e ok k.0 k.1))
        | inr none ↦ subst (IsOn new.keys x) (stays id edits first x ours e ok none) (made.others x (λ o. none) (on_key x (present edits)) (sound.ours x ours))
      ]
