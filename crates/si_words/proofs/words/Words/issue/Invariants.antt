use Rattle.std.proofs.Common.{Some}
use Rattle.si_words.proofs.words.Words.issue.Given as goal

abbrev pub ghosts-issue_as : goal.ghosts-issue_as
ghosts-issue_as a = record { edit = Some a.edit.value }
