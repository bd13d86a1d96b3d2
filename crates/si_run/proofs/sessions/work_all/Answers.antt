use denote.Exit.{no}
use denote.Param.{param}
use denote.Param.Send.{arg_sync, param_sync, shr_sync}
use Rattle.si_checker.proofs.Crossing.{checker_sync, three_sync}
use Rattle.si_run.proofs.sessions.work_all.Goals as goal

pub map_indices-ended-requires-sync-F : goal.map_indices-ended-requires-sync-F
map_indices-ended-requires-sync-F g c κs within =
    param_sync 3 _ (arg_sync _ no _ (three_sync _ _ _ _
    (shr_sync _ _ _ (checker_sync (param 0 g.row.N) g.N.Name)) (shr_sync _ _ _ c.type_bounds.sync-R) (shr_sync _ _ _ c.type_bounds.sync-G)))
