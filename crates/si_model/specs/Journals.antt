-- Journals of edits. All of it is this project's choice.
use Rattle.std.specs.Prelude.{◌≡◌, ℕ, if◌then◌else◌, nat_le, List, [], ◌∷◌, ◌++◌, length, Some, Option}
use Rattle.std.specs.List.{fold}
use Rattle.si_model.specs.declared.edits.Edit.{Edit}
use Rattle.si_model.specs.declared.refusals.Refusal.{Refusal}
use Rattle.si_model.specs.declared.refusals.Refusal.TheVariants as refusal
use Rattle.si_model.specs.Parts.{Present}
use Rattle.si_model.specs.Edits.{refusal_on, IsAcceptable, after}

-- nothing is present
abbrev pub nothing : Present
nothing = record { txns = []; initial = [] }

-- what is present after these edits, in the order of arrival
unfoldable pub present : List Edit → Present
present edits = fold (λ P e. after e P) nothing edits

-- each edit is acceptable on what is present before it
abbrev pub IsAccepted : List Edit → Type 0
IsAccepted edits = (before : List Edit) (e : Edit) (rest : List Edit) → edits ≡ before ++ e ∷ rest → IsAcceptable (present before) e

-- the first reason against an edit after these, of which there may be so many
unfoldable pub refusal_after : ℕ → List Edit → Edit → Option Refusal
refusal_after limit edits e = if nat_le limit (length edits) then Some refusal.Full else refusal_on (present edits) e
