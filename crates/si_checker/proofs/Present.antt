-- No more transactions are present after a journal than it has edits.
use Rattle.std.proofs.Common.{◌≡◌, ◌≤◌, ◌+◌, ℕ, suc, Bool, true, false, cond, List, [], ◌∷◌, ◌++◌, length, map, fold, refl, arith}
use Rattle.std.specs.List.{filter}
use Rattle.std.proofs.lemmas.List.{length-map}
use Rattle.si_model.specs.declared.edits.Edit.{Edit}
use Rattle.si_model.specs.declared.edits.Edit.TheVariants as edit
use Rattle.si_model.specs.declared.transactions.Txn.{Txn}
use Rattle.si_model.specs.Parts.{Present}
use Rattle.si_model.specs.Edits.{after, is_another, resolved}
use Rattle.si_model.specs.Journals.{nothing, present}

fewer : (p : Txn → Bool) (txns : List Txn) → length (filter p txns) ≤ length txns
fewer p [] = omega arith
fewer p (T ∷ rest) = by (p T) (fewer p rest)
  where
    by : (b : Bool) → length (filter p rest) ≤ length rest → length (cond b (T ∷ filter p rest) (filter p rest)) ≤ suc (length rest)
    by true few = omega arith
    by false few = omega arith

one_more : (T : Txn) (txns : List Txn) → length (txns ++ T ∷ []) ≡ length txns + 1
one_more T [] = refl
one_more T (U ∷ rest) = (let more = one_more T rest in omega (arith, more))

at_most_one : (e : Edit) (P : Present) → length (after e P).txns ≤ length P.txns + 1
unfolding after
at_most_one (edit.Arrive T) P = (let many = one_more T P.txns in omega (arith, many))
at_most_one (edit.Resolve u o) P = (let many = length-map P.txns (resolved u o) in omega (arith, many))
at_most_one (edit.Withdraw u) P = (let few = fewer (is_another u) P.txns in omega (arith, few))
at_most_one (edit.SetUp x v) P = omega arith

within : (P : Present) (edits : List Edit) → length (fold (λ P e. after e P) P edits).txns ≤ length P.txns + length edits
within P [] = omega arith
within P (e ∷ rest) = (let more = within (after e P) rest in let one = at_most_one e P in omega (arith, more, one))

pub no_more_than_edits : (edits : List Edit) → length (present edits).txns ≤ length edits
unfolding present
no_more_than_edits edits = (let most = within nothing edits in omega (arith, most))
