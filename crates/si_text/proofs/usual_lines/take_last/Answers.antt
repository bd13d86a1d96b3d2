use Rattle.si_text.proofs.UsualLines.{last_taken}
use Rattle.si_text.proofs.usual_lines.take_last.Goals as goal

pub returns : goal.returns
returns c = last_taken c.in_ok-number.number c.args.rest.now c.number.new.self c.take.new.self c.in_ok-number.ensures c.if-not-take.ensures
