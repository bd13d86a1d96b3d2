-- A thread that submits may go to another thread.
use denote.RattleType.{RattleType}
use denote.Ref.{NamedLft}
use denote.Param.Send.{IsSend, recorded_send, sendable, struct_send}
use denote.Struct.Declared.{shape}
use Rattle.si_checker.specs.declared.names.Name.{Ghosts}
use Rattle.si_checker_tests.specs.contracts.tests.long_runs.Submitter as Submitter
use Rattle.si_checker_tests.proofs.tests.Crossing.{caller_field_send}
use Rattle.si_checker_tests.proofs.tests.long_runs.Drawn.TheSendSync as drawn

pub submitter_send : (ℓ : NamedLft) (N : RattleType) (names : Ghosts N.Denot) → IsSend (Submitter.the_row ℓ N names)
submitter_send ℓ N names =
    recorded_send (Submitter.the_field ℓ N names).row _ _ (Submitter.the_type ℓ N names).to_one (struct_send (shape (Submitter.the_type ℓ N names)) (
      caller_field_send ℓ N names,
      (drawn.the_field_send, (search sendable, (search sendable, tt))),
    ))
