-- What an edit makes of what is on a key.
use Rattle.std.proofs.Common.{◌≡◌, ℕ, Bool, true, false, not, List, [], ◌∷◌, ◌++◌, map, Option, Some, None, refl, sym, ap, subst, ◌∙◌, cond, append-nil}
use Rattle.std.specs.List.{filter, cons_option, find}
use Rattle.std.specs.Option.{option_map, is_some}
use Rattle.si_model.specs.declared.numbers.TxnId.{TxnId}
use Rattle.si_model.specs.declared.numbers.Value.{Value}
use Rattle.si_model.specs.declared.transactions.Outcome.{Outcome}
use Rattle.si_model.specs.declared.transactions.Txn.{Txn}
use Rattle.si_model.specs.declared.parts.Placed.{Placed}
use Rattle.si_model.specs.declared.parts.Part.{Part}
use Rattle.si_model.specs.declared.edits.Edit.{Edit}
use Rattle.si_model.specs.declared.edits.Edit.TheVariants as edit
use Rattle.si_model.specs.declared.refusals.Refusal.TheVariants as refusal
use Rattle.si_model.specs.Operations.{same_key}
use Rattle.si_model.specs.Parts.{Present, accesses, part_with, part, parts, set_up_value, on_key}
use Rattle.si_model.specs.Edits.{same_id, status_after, refusal_on, IsAcceptable, resolved, is_another, after}
use Rattle.si_model.specs.KeyEdits.{resolved_part, is_another_part, perhaps_arrived_on, set_up_on, edited_on}
use Rattle.si_lists.proofs.Tests.{none_both}
use Rattle.si_model.proofs.Equalities.{same_key_is}

-- ---- parts of a list with one more transaction

part_pushed : (x : List ℕ) (txns : List Txn) (T : Txn) → parts x (txns ++ T ∷ []) ≡ parts x txns ++ cons_option (part x T) []
part_pushed x [] T = refl
part_pushed x (U ∷ txns) T = ap (cons_option (part x U)) (part_pushed x txns T) ∙ joined (part x U) (parts x txns) (cons_option (part x T) [])
  where
    joined : (o : Option Part) (ys zs : List Part) → cons_option o (ys ++ zs) ≡ cons_option o ys ++ zs
    joined None ys zs = refl
    joined (Some y) ys zs = refl

arrives : (x : List ℕ) (P : Present) (T : Txn) → on_key x (record P { txns = P.txns ++ T ∷ [] }) ≡ perhaps_arrived_on (part x T) (on_key x P)
arrives x P T = ap (λ ps. record { initial = set_up_value x P.initial; parts = ps }) (part_pushed x P.txns T) ∙ by (part x T)
  where
    by : (o : Option Part) → record { initial = set_up_value x P.initial; parts = parts x P.txns ++ cons_option o [] } ≡ perhaps_arrived_on o (on_key x P)
    by None = ap (λ ps. record { initial = set_up_value x P.initial; parts = ps }) (append-nil (parts x P.txns))
    by (Some Q) = refl

-- ---- a resolution

part_resolved : (x : List ℕ) (u : TxnId) (o : Outcome) (T : Txn) → part x (resolved u o T) ≡ option_map (resolved_part u o) (part x T)
unfolding part
part_resolved x u o T = by (same_id T.id u) refl
  where
    with : (ys : List Placed) (b : Bool) → same_id T.id u ≡ b → part_with (cond b (record T { status = status_after o }) T) ys ≡ option_map (resolved_part u o) (part_with T ys)
    with [] b e = refl
    with (a ∷ ys) true e = ap Some (sym (ap (λ b. cond b (record { id = T.id; start = T.start; status = status_after o; accesses = a ∷ ys }) (record { id = T.id; start = T.start; status = T.status; accesses = a ∷ ys })) e))
    with (a ∷ ys) false e = ap Some (sym (ap (λ b. cond b (record { id = T.id; start = T.start; status = status_after o; accesses = a ∷ ys }) (record { id = T.id; start = T.start; status = T.status; accesses = a ∷ ys })) e))

    ops_same : (b : Bool) → accesses x (cond b (record T { status = status_after o }) T).ops ≡ accesses x T.ops
    ops_same true = refl
    ops_same false = refl

    by : (b : Bool) → same_id T.id u ≡ b → part_with (cond b (record T { status = status_after o }) T) (accesses x (cond b (record T { status = status_after o }) T).ops) ≡ option_map (resolved_part u o) (part_with T (accesses x T.ops))
    by b e = ap (part_with (cond b (record T { status = status_after o }) T)) (ops_same b) ∙ with (accesses x T.ops) b e

pub resolves : (x : List ℕ) (u : TxnId) (o : Outcome) (txns : List Txn) → parts x (map (resolved u o) txns) ≡ map (resolved_part u o) (parts x txns)
resolves x u o [] = refl
resolves x u o (T ∷ txns) = ap (λ p. cons_option p (parts x (map (resolved u o) txns))) (part_resolved x u o T) ∙ ap (cons_option (option_map (resolved_part u o) (part x T))) (resolves x u o txns) ∙ mapped (part x T) (parts x txns)
  where
    mapped : (p : Option Part) (ys : List Part) → cons_option (option_map (resolved_part u o) p) (map (resolved_part u o) ys) ≡ map (resolved_part u o) (cons_option p ys)
    mapped None ys = refl
    mapped (Some y) ys = refl

-- ---- a withdrawal

part_id : (T : Txn) (ys : List Placed) (Q : Part) → part_with T ys ≡ Some Q → Q.id ≡ T.id
part_id T [] Q e = cc
part_id T (a ∷ ys) Q e = (let s : record { id = T.id; start = T.start; status = T.status; accesses = a ∷ ys } ≡ Q = cc in ap (λ q. q.id) (sym s))

withdraws : (x : List ℕ) (u : TxnId) (txns : List Txn) → parts x (filter (is_another u) txns) ≡ filter (is_another_part u) (parts x txns)
unfolding part
withdraws x u [] = refl
withdraws x u (T ∷ txns) = by (withdraws x u txns) (part_with T (accesses x T.ops)) refl (same_id T.id u) refl
  where
    by : parts x (filter (is_another u) txns) ≡ filter (is_another_part u) (parts x txns) → (o : Option Part) → part_with T (accesses x T.ops) ≡ o → (b : Bool) → same_id T.id u ≡ b → parts x (cond (not (same_id T.id u)) (T ∷ filter (is_another u) txns) (filter (is_another u) txns)) ≡ filter (is_another_part u) (cons_option (part_with T (accesses x T.ops)) (parts x txns))
    by more None e true t =
        ap (λ b. parts x (cond (not b) (T ∷ filter (is_another u) txns) (filter (is_another u) txns))) t
        ∙ more ∙ ap (λ o. filter (is_another_part u) (cons_option o (parts x txns))) (sym e)
    by more None e false t =
        ap (λ b. parts x (cond (not b) (T ∷ filter (is_another u) txns) (filter (is_another u) txns))) t
        ∙ ap (λ o. cons_option o (parts x (filter (is_another u) txns))) e
        ∙ more ∙ ap (λ o. filter (is_another_part u) (cons_option o (parts x txns))) (sym e)
    by more (Some Q) e true t =
        ap (λ b. parts x (cond (not b) (T ∷ filter (is_another u) txns) (filter (is_another u) txns))) t
        ∙ more
        ∙ sym (ap (λ b. cond (not b) (Q ∷ filter (is_another_part u) (parts x txns)) (filter (is_another_part u) (parts x txns))) (ap (λ i. same_id i u) (part_id T (accesses x T.ops) Q e) ∙ t))
        ∙ ap (λ o. filter (is_another_part u) (cons_option o (parts x txns))) (sym e)
    by more (Some Q) e false t =
        ap (λ b. parts x (cond (not b) (T ∷ filter (is_another u) txns) (filter (is_another u) txns))) t
        ∙ ap (λ o. cons_option o (parts x (filter (is_another u) txns))) e
        ∙ ap (λ ps. Q ∷ ps) more
        ∙ sym (ap (λ b. cond (not b) (Q ∷ filter (is_another_part u) (parts x txns)) (filter (is_another_part u) (parts x txns))) (ap (λ i. same_id i u) (part_id T (accesses x T.ops) Q e) ∙ t))
        ∙ ap (λ o. filter (is_another_part u) (cons_option o (parts x txns))) (sym e)

-- ---- a set-up

found_pushed : (x y : List ℕ) (v : Value) (initial : List (List ℕ × Value)) → find (λ p. same_key p.0 x) initial ≡ None → find (λ p. same_key p.0 x) (initial ++ (y, v) ∷ []) ≡ cond (same_key y x) (Some (y, v)) None
found_pushed x y v [] e = refl
found_pushed x y v (p ∷ initial) e = by (found_pushed x y v initial) (same_key p.0 x) refl e
  where
    by : (find (λ p. same_key p.0 x) initial ≡ None → find (λ p. same_key p.0 x) (initial ++ (y, v) ∷ []) ≡ cond (same_key y x) (Some (y, v)) None) → (b : Bool) → same_key p.0 x ≡ b → cond b (Some p) (find (λ p. same_key p.0 x) initial) ≡ None → cond (same_key p.0 x) (Some p) (find (λ p. same_key p.0 x) (initial ++ (y, v) ∷ [])) ≡ cond (same_key y x) (Some (y, v)) None
    by more true t f = cc
    by more false t f = ap (λ b. cond b (Some p) (find (λ p. same_key p.0 x) (initial ++ (y, v) ∷ []))) t ∙ more f

found_still : (x y : List ℕ) (v : Value) (q : List ℕ × Value) (initial : List (List ℕ × Value)) → find (λ p. same_key p.0 x) initial ≡ Some q → find (λ p. same_key p.0 x) (initial ++ (y, v) ∷ []) ≡ Some q
found_still x y v q [] e = cc
found_still x y v q (p ∷ initial) e = by (found_still x y v q initial) (same_key p.0 x) refl e
  where
    by : (find (λ p. same_key p.0 x) initial ≡ Some q → find (λ p. same_key p.0 x) (initial ++ (y, v) ∷ []) ≡ Some q) → (b : Bool) → same_key p.0 x ≡ b → cond b (Some p) (find (λ p. same_key p.0 x) initial) ≡ Some q → cond (same_key p.0 x) (Some p) (find (λ p. same_key p.0 x) (initial ++ (y, v) ∷ [])) ≡ Some q
    by more true t f = ap (λ b. cond b (Some p) (find (λ p. same_key p.0 x) (initial ++ (y, v) ∷ []))) t ∙ f
    by more false t f = ap (λ b. cond b (Some p) (find (λ p. same_key p.0 x) (initial ++ (y, v) ∷ []))) t ∙ more f

-- a key that isn't set up yet is set up by a set-up of it
set_up_pushed : (x y : List ℕ) (v : Value) (initial : List (List ℕ × Value)) → (same_key y x ≡ true → set_up_value x initial ≡ None) → set_up_value x (initial ++ (y, v) ∷ []) ≡ cond (same_key y x) (Some v) (set_up_value x initial)
unfolding set_up_value
set_up_pushed x y v initial new = by (find (λ p. same_key p.0 x) initial) refl (same_key y x) refl
  where
    by : (o : Option (List ℕ × Value)) → find (λ p. same_key p.0 x) initial ≡ o → (b : Bool) → same_key y x ≡ b
        → option_map (λ (p : List ℕ × Value). p.1) (find (λ p. same_key p.0 x) (initial ++ (y, v) ∷ [])) ≡ cond (same_key y x) (Some v) (option_map (λ (p : List ℕ × Value). p.1) (find (λ p. same_key p.0 x) initial))
    by None e b t = ap (option_map (λ (p : List ℕ × Value). p.1)) (found_pushed x y v initial e) ∙ chosen (same_key y x) ∙ ap (λ o. cond (same_key y x) (Some v) (option_map (λ (p : List ℕ × Value). p.1) o)) (sym e)
      where
        chosen : (b : Bool) → option_map (λ (p : List ℕ × Value). p.1) (cond b (Some (y, v)) None) ≡ cond b (Some v) None
        chosen true = refl
        chosen false = refl
    by (Some q) e true t = (let none = new t in let some = ap (option_map (λ (p : List ℕ × Value). p.1)) e in cc)
    by (Some q) e false t =
        ap (option_map (λ (p : List ℕ × Value). p.1)) (found_still x y v q initial e)
        ∙ ap (option_map (λ (p : List ℕ × Value). p.1)) (sym e)
        ∙ sym (ap (λ b. cond b (Some v) (option_map (λ (p : List ℕ × Value). p.1) (find (λ p. same_key p.0 x) initial))) t)

not_yet : (o : Option Value) → cond (is_some o) (Some refusal.SetUpTwice) None ≡ None → o ≡ None
not_yet None e = refl
not_yet (Some v) e = cc

set_ups : (x : List ℕ) (P : Present) (y : List ℕ) (v : Value) → (same_key y x ≡ true → set_up_value x P.initial ≡ None) → on_key x (record P { initial = P.initial ++ (y, v) ∷ [] }) ≡ cond (same_key y x) (set_up_on v (on_key x P)) (on_key x P)
set_ups x P y v new = ap (λ o. record { initial = o; parts = parts x P.txns }) (set_up_pushed x y v P.initial new) ∙ by (same_key y x)
  where
    by : (b : Bool) → record { initial = cond b (Some v) (set_up_value x P.initial); parts = parts x P.txns } ≡ cond b (set_up_on v (on_key x P)) (on_key x P)
    by true = refl
    by false = refl

-- ---- any edit

pub key_edits : (P : Present) (e : Edit) (x : List ℕ) → IsAcceptable P e → on_key x (after e P) ≡ edited_on x e (on_key x P)
unfolding after refusal_on edited_on
key_edits P (edit.Arrive T) x a = arrives x P T
key_edits P (edit.Resolve u o) x a = ap (λ ps. record { initial = set_up_value x P.initial; parts = ps }) (resolves x u o P.txns)
key_edits P (edit.Withdraw u) x a = ap (λ ps. record { initial = set_up_value x P.initial; parts = ps }) (withdraws x u P.txns)
key_edits P (edit.SetUp y v) x a =
    let first = none_both (cond (is_some (set_up_value y P.initial)) (Some refusal.SetUpTwice) None) _ a in
    set_ups x P y v (λ t. subst (λ z. set_up_value z P.initial ≡ None) (same_key_is y x t) (not_yet (set_up_value y P.initial) first.0))
