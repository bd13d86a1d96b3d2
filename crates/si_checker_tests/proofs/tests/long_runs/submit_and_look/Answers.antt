use denote.Exit.{no}
use denote.Param.{param}
use denote.Param.Send.{arg_send, param_send, shr_send}
use Rattle.std.proofs.Crossing.{Vec-send}
use Rattle.si_checker.proofs.Crossing.{three_send}
use Rattle.si_checker_tests.proofs.tests.long_runs.Crossing.{submitter_send}
use Rattle.si_checker_tests.proofs.tests.long_runs.Pace.TheSendSync as pace
use Rattle.si_checker_tests.proofs.tests.long_runs.submit_and_look.Goals as goal

pub join-submitters-requires-send-F : goal.join-submitters-requires-send-F
join-submitters-requires-send-F g c κs within =
    param_send _ _ (arg_send _ no _ (three_send _ _ _ _
    (shr_send _ _ _ c.type_bounds.sync-R) (Vec-send _ (submitter_send _ (param 0 g.row.N) g.N.Name)) (shr_send _ _ _ pace.the_sync)))

pub join-submitters-requires-send-A : goal.join-submitters-requires-send-A
join-submitters-requires-send-A g c κs within = param_send _ _ (arg_send _ no _ (Vec-send _ (submitter_send _ (param 0 g.row.N) g.N.Name)))
