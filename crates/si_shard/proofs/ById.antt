-- The transactions that are present, entered by their ids edit by edit.
use Rattle.std.proofs.Common.{◌≡◌, ◌∙◌, ℕ, Bool, true, false, cond, not, nat_eq, List, [], ◌∷◌, ◌++◌, map, Option, Some, None, refl, sym, ap, eq-eqb, eqb-true}
use Rattle.std.specs.List.{filter}
use Rattle.std.specs.Option.{option_map}
use Rattle.si_model.specs.declared.numbers.TxnId.{TxnId}
use Rattle.si_model.specs.declared.transactions.Outcome.{Outcome}
use Rattle.si_model.specs.declared.transactions.Txn.{Txn}
use Rattle.si_model.specs.declared.edits.Edit.{Edit}
use Rattle.si_model.specs.declared.edits.Edit.TheVariants as edit
use Rattle.si_model.specs.Edits.{IsAcceptable, after, is_another, resolved, same_id, with_id}
use Rattle.si_model.specs.Journals.{IsAccepted, present}
use Rattle.si_model.proofs.Acceptance.{accepted_push, present_push}
use Rattle.si_model.proofs.PresentHistories.{acceptance_exact, present_history}
use Rattle.si_lists.proofs.Tests.{find-Some, no_value}
use Rattle.si_accept.specs.Notes.{txn_before}
use Rattle.si_shard.specs.PresentTxns.{AreById, EntersTxn, resolved_to, txn_asked}

same_ids : (u w : TxnId) → same_id u w ≡ true → u ≡ w
same_ids u w e = ap (λ n. let r : TxnId = record { 0 = n } in r) (eqb-true u.0 w.0 e)

-- one arrives whose id is new
arrived_by : (txns : List Txn) (T : Txn) (u : TxnId) → (same_id T.id u ≡ true → with_id txns u ≡ None) → with_id (txns ++ T ∷ []) u ≡ cond (nat_eq T.id.0 u.0) (Some T) (with_id txns u)
arrived_by [] T u new = refl
arrived_by (U ∷ txns) T u new = by (same_id U.id u) (same_id T.id u) new (arrived_by txns T u)
  where
    by : (b c : Bool) → (c ≡ true → cond b (Some U) (with_id txns u) ≡ None) → ((c ≡ true → with_id txns u ≡ None) → with_id (txns ++ T ∷ []) u ≡ cond c (Some T) (with_id txns u))
        → cond b (Some U) (with_id (txns ++ T ∷ []) u) ≡ cond c (Some T) (cond b (Some U) (with_id txns u))
    by true true n rest = (let no : Some U ≡ None = n refl in cc)
    by true false n rest = refl
    by false true n rest = rest n
    by false false n rest = rest n

-- one is resolved
resolved_by : (txns : List Txn) (v : TxnId) (o : Outcome) (u : TxnId) → with_id (map (resolved v o) txns) u ≡ cond (nat_eq v.0 u.0) (option_map (resolved_to o) (with_id txns u)) (with_id txns u)
resolved_by [] v o u = by (nat_eq v.0 u.0)
  where
    by : (b : Bool) → ◌≡◌ {A = Option Txn} None (cond b None None)
    by true = refl
    by false = refl
resolved_by (T ∷ txns) v o u = first (same_id T.id v) refl (same_id T.id u) refl (nat_eq v.0 u.0) refl (resolved_by txns v o u)
  where
    first : (a : Bool) → same_id T.id v ≡ a → (b : Bool) → same_id T.id u ≡ b → (c : Bool) → nat_eq v.0 u.0 ≡ c
        → with_id (map (resolved v o) txns) u ≡ cond c (option_map (resolved_to o) (with_id txns u)) (with_id txns u)
        → cond (same_id (cond a (resolved_to o T) T).id u) (Some (cond a (resolved_to o T) T)) (with_id (map (resolved v o) txns) u) ≡ cond c (option_map (resolved_to o) (cond b (Some T) (with_id txns u))) (cond b (Some T) (with_id txns u))
    first true a true b true c rest = ap (λ d. cond d (Some (resolved_to o T)) (with_id (map (resolved v o) txns) u)) b
    first true a true b false c rest = (let no : true ≡ false = sym (eq-eqb v.0 u.0 (sym (eqb-true T.id.0 v.0 a) ∙ eqb-true T.id.0 u.0 b)) ∙ c in cc)
    first true a false b true c rest = (let no : true ≡ false = sym (eq-eqb T.id.0 u.0 (eqb-true T.id.0 v.0 a ∙ eqb-true v.0 u.0 c)) ∙ b in cc)
    first true a false b false c rest = ap (λ d. cond d (Some (resolved_to o T)) (with_id (map (resolved v o) txns) u)) b ∙ rest
    first false a true b true c rest = (let no : true ≡ false = sym (eq-eqb T.id.0 v.0 (eqb-true T.id.0 u.0 b ∙ sym (eqb-true v.0 u.0 c))) ∙ a in cc)
    first false a true b false c rest = ap (λ d. cond d (Some T) (with_id (map (resolved v o) txns) u)) b
    first false a false b true c rest = ap (λ d. cond d (Some T) (with_id (map (resolved v o) txns) u)) b ∙ rest
    first false a false b false c rest = ap (λ d. cond d (Some T) (with_id (map (resolved v o) txns) u)) b ∙ rest

-- one is withdrawn
withdrawn_by : (txns : List Txn) (v u : TxnId) → with_id (filter (is_another v) txns) u ≡ cond (nat_eq v.0 u.0) None (with_id txns u)
withdrawn_by [] v u = by (nat_eq v.0 u.0)
  where
    by : (b : Bool) → ◌≡◌ {A = Option Txn} None (cond b None None)
    by true = refl
    by false = refl
withdrawn_by (T ∷ txns) v u = first (same_id T.id v) refl (same_id T.id u) refl (nat_eq v.0 u.0) refl (withdrawn_by txns v u)
  where
    first : (a : Bool) → same_id T.id v ≡ a → (b : Bool) → same_id T.id u ≡ b → (c : Bool) → nat_eq v.0 u.0 ≡ c
        → with_id (filter (is_another v) txns) u ≡ cond c None (with_id txns u)
        → with_id (cond (not a) (T ∷ filter (is_another v) txns) (filter (is_another v) txns)) u ≡ cond c None (cond b (Some T) (with_id txns u))
    first true a true b true c rest = rest
    first true a true b false c rest = (let no : true ≡ false = sym (eq-eqb v.0 u.0 (sym (eqb-true T.id.0 v.0 a) ∙ eqb-true T.id.0 u.0 b)) ∙ c in cc)
    first true a false b true c rest = rest
    first true a false b false c rest = rest
    first false a true b true c rest = (let no : true ≡ false = sym (eq-eqb T.id.0 v.0 (eqb-true T.id.0 u.0 b ∙ sym (eqb-true v.0 u.0 c))) ∙ a in cc)
    first false a true b false c rest = ap (λ d. cond d (Some T) (with_id (filter (is_another v) txns) u)) b
    first false a false b true c rest = ap (λ d. cond d (Some T) (with_id (filter (is_another v) txns) u)) b ∙ rest
    first false a false b false c rest = ap (λ d. cond d (Some T) (with_id (filter (is_another v) txns) u)) b ∙ rest

-- one more edit is entered
module _ (edits : List Edit) (at new : ℕ → Option Txn) (are : AreById edits at) where
  entered_by : (e : Edit) → IsAcceptable (present edits) e → IsAccepted edits → EntersTxn e at new → (u : TxnId) → new u.0 ≡ with_id (after e (present edits)).txns u
  unfolding after
  entered_by (edit.Arrive T) ok accepted sets u =
      let absent = ((acceptance_exact (present edits) (edit.Arrive T) (present_history edits accepted)).0 ok).0 in
      let fresh : same_id T.id u ≡ true → with_id (present edits).txns u ≡ None = λ s. no_value (with_id (present edits).txns u) (λ U e.
      (let f = find-Some (λ V. same_id V.id u) (present edits).txns U e in absurd (absent U f.0 (same_ids U.id u f.1 ∙ sym (same_ids T.id u s))))) in
      sets u.0 ∙ ap (λ o. cond (nat_eq T.id.0 u.0) (Some T) o) (are u) ∙ sym (arrived_by (present edits).txns T u fresh)
  entered_by (edit.Resolve v o) ok accepted sets u =
      sets u.0 ∙ ap (λ p. cond (nat_eq v.0 u.0) (option_map (resolved_to o) p) p) (are u) ∙ sym (resolved_by (present edits).txns v o u)
  entered_by (edit.Withdraw v) ok accepted sets u = sets u.0 ∙ ap (λ p. cond (nat_eq v.0 u.0) None p) (are u) ∙ sym (withdrawn_by (present edits).txns v u)
  entered_by (edit.SetUp x v) ok accepted sets u = sets u.0 ∙ are u

  pub entered : (e : Edit) → IsAccepted (edits ++ e ∷ []) → EntersTxn e at new → AreById (edits ++ e ∷ []) new
  entered e accepted sets u =
      let k = (accepted_push edits e).0 accepted in
      entered_by e k.1 k.0 sets u ∙ ap (λ P. with_id P.txns u) (sym (present_push edits e))

-- the transaction that is asked for is found
pub asked_is : (edits : List Edit) (at : ℕ → Option Txn) → AreById edits at → (e : Edit) → txn_asked e at ≡ txn_before (present edits) e
asked_is edits at are (edit.Arrive T) = refl
asked_is edits at are (edit.Resolve u o) = are u
asked_is edits at are (edit.Withdraw u) = are u
asked_is edits at are (edit.SetUp x v) = refl

-- before any edit
pub none_by_id : (at : ℕ → Option Txn) → ((n : ℕ) → at n ≡ None) → AreById [] at
unfolding present
none_by_id at none u = none u.0
