-- What a fault of `accept` says.
use Rattle.std.specs.Prelude.{◌≡◌, Some, None, Option}
use Rattle.si_model.specs.declared.refusals.Refusal.{Refusal}
use Rattle.si_accept.specs.declared.faults.AcceptFault.{AcceptFault}
use Rattle.si_accept.specs.declared.faults.AcceptFault.TheVariants as fault

-- the fault is the first reason against the edit, or nothing is against it and the growth of some memory was refused
abbrev pub IsFaultOf : Option Refusal → AcceptFault → Type 0
IsFaultOf reason (fault.Refused r) = reason ≡ Some r
IsFaultOf reason fault.OutOfMemory = reason ≡ None
