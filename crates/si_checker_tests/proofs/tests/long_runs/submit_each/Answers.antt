use denote.Exit.{no}
use denote.Param.{param}
use denote.Param.Send.{arg_send, param_send}
use Rattle.si_checker_tests.proofs.tests.long_runs.Crossing.{submitter_send}
use Rattle.si_checker_tests.proofs.tests.long_runs.submit_each.Goals as goal

pub for_each_mut-requires-send-T : goal.for_each_mut-requires-send-T
for_each_mut-requires-send-T g c κs within = param_send _ _ (arg_send _ no _ (submitter_send _ (param 0 g.row.N) g.N.Name))
