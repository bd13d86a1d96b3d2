use Rattle.std.proofs.Common.{subst}
use Rattle.si_text.specs.UsualBytes.{TakesOpWord, TakesLast}
use Rattle.si_text.proofs.UsualLines.{write_taken, read_taken, first_read_taken}
use Rattle.si_text.proofs.usual_lines.take_op.Goals as goal

pub returns-then-writes : goal.returns-then-writes
returns-then-writes c =
    write_taken c.in_ok-key.key c.args.rest.now c.take_word.new.rest c.key.new.self c.take.new.self c.in_ok-key.ensures.fits c.in_ok-key.ensures.text c.if-not-take.ensures
    (record { 0 = c.in_ok-value.value }) c.take_last.new.rest c.in_ok-value.ensures (subst (λ b. TakesOpWord b c.args.rest.now c.take_word.new.rest) c.if-writes.true c.in_ok-writes.ensures)

pub returns-then-take : goal.returns-then-take
returns-then-take c =
    first_read_taken c.in_ok-key.key c.args.rest.now c.take_word.new.rest c.key.new.self c.take.new.self c.in_ok-key.ensures.fits c.in_ok-key.ensures.text c.if-not-take.ensures
    c.take-2.new.self (subst (λ b. TakesOpWord b c.args.rest.now c.take_word.new.rest) c.if-writes.false c.in_ok-writes.ensures) c.if-take.ensures

pub returns : goal.returns
returns c =
    read_taken c.in_ok-key.key c.args.rest.now c.take_word.new.rest c.key.new.self c.take.new.self c.in_ok-key.ensures.fits c.in_ok-key.ensures.text c.if-not-take.ensures
    (record { 0 = c.in_ok-value-2.value }) c.take_last-2.new.rest (subst (λ r. TakesLast c.in_ok-value-2.value r c.take_last-2.new.rest) c.if-take.ensures c.in_ok-value-2.ensures)
    (subst (λ b. TakesOpWord b c.args.rest.now c.take_word.new.rest) c.if-writes.false c.in_ok-writes.ensures)
