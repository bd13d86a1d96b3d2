use Rattle.std.proofs.KnownBytes.{Appends-nil}
use Rattle.si_run.proofs.showing.write_findings.Goals as goal

pub returns-in-None-clause-ok : goal.returns-in-None-clause-ok
returns-in-None-clause-ok g c = rw c.in-None.is (Appends-nil (g.E.ByteSink.seen c.args.err.now).written)
