use Rattle.std.proofs.Common.{length, ◌+◌, ◌*◌}
use Rattle.si_run.proofs.sources.+inputs.Given as goal

abbrev pub decreases-read_all : goal.decreases-read_all
decreases-read_all g l = 3 * length l.inputs.now

abbrev pub decreases-read_both : goal.decreases-read_both
decreases-read_both g l = 3 * length l.inputs.now + 2

abbrev pub decreases-read_both-others : goal.decreases-read_both-others
decreases-read_both-others g l = 3 * length l.inputs.now + 1
