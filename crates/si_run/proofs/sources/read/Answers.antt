use Rattle.si_run.proofs.Runnings.{unended_after}
use Rattle.si_run.proofs.sources.read.Goals as goal

pub put-requires-clause-unended : goal.put-requires-clause-unended
put-requires-clause-unended g c = unended_after c.args.end.now c.put_lines-what.new.end c.put_lines-what.ensures.0 c.requires.fresh c.put_lines-what.ensures.1
