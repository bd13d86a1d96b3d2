use denote.Exit.{no}
use denote.Param.{param}
use denote.Param.Send.{arg_send, param_send, shr_send}
use Rattle.si_checker.proofs.Crossing.{checker_sync, three_send}
use Rattle.si_checker_tests.proofs.tests.threads.Holding.TheSendSync as holding
use Rattle.si_checker_tests.proofs.tests.threads.are_worked_and_looked_on.Goals as goal

pub join-all_closed-requires-send-F : goal.join-all_closed-requires-send-F
join-all_closed-requires-send-F g c κs within =
    param_send _ _ (arg_send _ no _ (three_send _ _ _ _
    (shr_send _ _ _ c.type_bounds.sync-R) (shr_send _ _ _ (checker_sync (param 0 g.row.N) g.N.Name)) (shr_send _ _ _ holding.the_sync)))
