use denote.Exit.{no}
use denote.Param.{param}
use denote.Param.Send.{arg_send, param_send, shr_send}
use Rattle.si_checker.proofs.Crossing.{checker_sync, three_send}
use Rattle.si_words.proofs.seats.Pass.TheSendSync as pass
use Rattle.embedded_checker.proofs.shared.Goals as goal

pub join-first-requires-send-F : goal.join-first-requires-send-F
join-first-requires-send-F g c κs within =
    param_send _ _ (arg_send _ no _ (three_send _ _ _ _ (shr_send _ _ _ c.type_bounds.sync-R) (shr_send _ _ _ (checker_sync (param 0 g.row.N) g.N.Name)) pass.the_send))
