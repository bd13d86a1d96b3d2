use Rattle.std.proofs.Common.{codes}
use Rattle.si_text.proofs.UsualLines.{taken_after, write_begun, read_begun}
use Rattle.si_text.proofs.usual_lines.take_word.Goals as goal

pub returns-then-take : goal.returns-then-take
returns-then-take c = write_begun c.args.rest.now c.take.new.self c.if-take.ensures

pub returns-then-take-2 : goal.returns-then-take-2
returns-then-take-2 c = read_begun c.args.rest.now c.take-2.new.self (taken_after (codes "[\"r\",") c.args.rest.now c.take.new.self c.take-2.new.self c.if-take.ensures c.if-take-2.ensures)
