use Rattle.std.proofs.Common.{subst, sym}
use Rattle.si_judge.specs.Commits.{AreCommitsOf}
use Rattle.si_judge.proofs.versions.first_commits.Goals as goal

pub returns : goal.returns
returns c = subst (AreCommitsOf c.args.timeline.now) (sym c.in_ok-new.ensures.ok) c.in_ok-commits.ensures
