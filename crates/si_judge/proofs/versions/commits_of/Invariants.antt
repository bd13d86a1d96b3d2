use Rattle.std.proofs.Common.{take}
use Rattle.si_judge.specs.Commits.{AreCommitsOf}
use Rattle.si_judge.proofs.versions.commits_of.Given as goal

abbrev pub invariant-loop-dated : goal.invariant-loop-dated
invariant-loop-dated l = AreCommitsOf (take l.dated-index l.dated-items) l.commits
