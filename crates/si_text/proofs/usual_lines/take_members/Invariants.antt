use Rattle.si_text.proofs.UsualLines.{AreReadAt}
use Rattle.si_text.proofs.usual_lines.take_members.Given as goal

abbrev pub invariant-members : goal.invariant-members
invariant-members l = AreReadAt l.fn.rest l.rest l.found
