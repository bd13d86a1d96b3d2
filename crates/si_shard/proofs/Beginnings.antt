-- The beginnings of an accepted journal.
use Rattle.std.proofs.Common.{◌≡◌, ℕ, List, [], ◌∷◌, ◌++◌, drop, take, sym, subst}
use Rattle.std.proofs.lemmas.List.{take-append-drop}
use Rattle.si_model.specs.declared.edits.Edit.{Edit}
use Rattle.si_model.specs.Edits.{IsAcceptable}
use Rattle.si_model.specs.Journals.{IsAccepted, present}
use Rattle.si_model.proofs.Acceptance.{accepted_begins}

-- the empty journal is accepted
pub none_accepted : IsAccepted []
none_accepted before e rest is = by before is
  where
    by : (xs : List Edit) → [] ≡ xs ++ e ∷ rest → IsAcceptable (present before) e
    by [] f = cc
    by (x ∷ xs) f = cc

-- a beginning is accepted
pub beginning_accepted : (edits : List Edit) (i : ℕ) → IsAccepted edits → IsAccepted (take i edits)
beginning_accepted edits i accepted = accepted_begins (take i edits) (drop i edits) (subst IsAccepted (sym (take-append-drop i edits)) accepted)
