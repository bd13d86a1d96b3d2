-- What a fault of `explain` says. All of it is this project's choice.
use Rattle.std.specs.Prelude.{◌≡◌, ℕ, true, Some, None, Option, ⊤}
use Rattle.si_model.specs.declared.findings.Finding.{Finding}
use Rattle.si_model.specs.Parts.{Present}
use Rattle.si_model.specs.Findings.{IsFinding}
use Rattle.si_model.specs.Form.{concerns_form}
use Rattle.si_graph.specs.declared.faults.ExplainFault.{ExplainFault}
use Rattle.si_graph.specs.declared.faults.ExplainFault.TheVariants as fault

-- it isn't a finding, or it is one that concerns form, or the growth of some memory was refused
abbrev pub IsExplainFault : Present → Finding → ExplainFault → Type 0
IsExplainFault P f fault.NotAFinding = IsFinding P f → ⊥
IsExplainFault P f fault.FormFinding = IsFinding P f × (concerns_form f.kind ≡ true)
IsExplainFault P f fault.OutOfMemory = ⊤

-- the number of a fault, if it has one
abbrev pub fault_code : ExplainFault → Option ℕ
fault_code fault.NotAFinding = Some 31
fault_code fault.FormFinding = Some 32
fault_code fault.OutOfMemory = None
