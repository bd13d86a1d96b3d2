-- The laws of the definitions, each the contract of a public function of `laws` with an empty body. They are this project's.
use Rattle.std.specs.Prelude.{◌≡◌, ◌≤◌, ◌↔◌, ℕ, List, length, Some, Ok, Err}
use Rattle.serde_json.specs.Data.{Data}
use Rattle.si_model.specs.declared.edits.Edit.{Edit}
use Rattle.si_text.specs.Conditions.{Not, Applies, IsLeastFault, IsSaid}
use Rattle.si_text.specs.Lines.{value_of, edit_of}
use Rattle.si_text.specs.Telling.{Tells, KeepsLimits}
use Rattle.si_text.specs.declared.faults.LineFault.{LineFault}
use Rattle.si_text.specs.declared.read_edits.TheConstants.{MOST_LINE_BYTES}

-- the fault of a line is the one of least number whose condition holds
abbrev pub LeastFaultIsTold : Type 0
LeastFaultIsTold = (line : List ℕ) (fault : LineFault) → (edit_of line ≡ Err fault) ↔ IsLeastFault line fault

-- a line is an edit exactly where no condition holds
abbrev pub EditsHaveNoFault : Type 0
EditsHaveNoFault = (line : List ℕ) → ((edit : Edit) × (edit_of line ≡ Ok edit)) ↔ ((fault : LineFault) → Not (Applies line fault))

-- a line with the members of an edit that keeps the limits is read as that edit
abbrev pub WrittenEditsReadBack : Type 0
WrittenEditsReadBack =
    (line : List ℕ) (d : Data) (edit : Edit) → length line ≤ MOST_LINE_BYTES → value_of line ≡ Some d → KeepsLimits edit → Tells d edit → edit_of line ≡ Ok edit

-- a line that is read as an edit has that edit's members, and the edit keeps the limits
abbrev pub ReadEditsAreTold : Type 0
ReadEditsAreTold =
    (line : List ℕ) (edit : Edit) → edit_of line ≡ Ok edit → (length line ≤ MOST_LINE_BYTES) × KeepsLimits edit × IsSaid line (λ d. Tells d edit)
