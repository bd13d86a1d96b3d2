use Rattle.si_words.proofs.Shared.{lone_pass}
use Rattle.si_words.proofs.laws.lone_pass_issues_all.Goals as goal

pub returns : goal.returns
returns c = lone_pass
