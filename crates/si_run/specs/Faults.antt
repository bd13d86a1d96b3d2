-- What a fault of an opening is to a run.
use Rattle.si_checker.specs.declared.openings.OpenFault.{OpenFault}
use Rattle.si_checker.specs.declared.openings.OpenFault.TheVariants as opening
use Rattle.si_run.specs.declared.faults.RunFault.{RunFault}
use Rattle.si_run.specs.declared.faults.RunFault.TheVariants as fault

-- refused memory, or the bound that the options break
abbrev pub fault_of_opening : OpenFault → RunFault
fault_of_opening opening.OutOfMemory = fault.Memory
fault_of_opening opening.BadShards = fault.Open opening.BadShards
fault_of_opening opening.BadPasses = fault.Open opening.BadPasses
fault_of_opening opening.BadLimit = fault.Open opening.BadLimit
