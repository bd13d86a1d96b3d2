use Rattle.si_text.proofs.FoundMembers.{AreRead}
use Rattle.si_text.proofs.token_lines.take_members.Given as goal

abbrev pub invariant-members : goal.invariant-members
invariant-members l = AreRead l.initial.reader l.reader l.found
