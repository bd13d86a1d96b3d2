use denote.Exit.{no}
use denote.Param.{param}
use denote.Param.Send.{arg_send, param_send, shr_send}
use Rattle.si_checker.proofs.Crossing.{two_send}
use Rattle.si_run.proofs.Crossing.{session_sync}
use Rattle.si_run.proofs.runs.work_and_accept.Goals as goal

pub join_mut-ended-requires-send-F : goal.join_mut-ended-requires-send-F
join_mut-ended-requires-send-F g c κs within =
    param_send _ _ (arg_send _ no _ (two_send _ _ _ (shr_send _ _ _ c.type_bounds.sync-R) (shr_send _ _ _ (session_sync _ (param 0 g.row.N) (param 4 g.row.G) g.N.Name c.type_bounds.sync-G))))
