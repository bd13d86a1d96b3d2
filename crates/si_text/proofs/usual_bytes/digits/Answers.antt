use Rattle.std.proofs.Common.{arith}
use Rattle.si_text.proofs.UsualBytes.{digits_more, digits_below}
use Rattle.si_text.proofs.usual_bytes.digits.Goals as goal

pub overflow_mul-number : goal.overflow_mul-number
overflow_mul-number c = omega (arith, digits_below c.digits.number c.args.bytes.now c.digits.count 18 c.digits.invariant.digits (omega arith))

pub overflow_add-number : goal.overflow_add-number
overflow_add-number c = omega (arith, c.from.ensures, digits_below c.digits.number c.args.bytes.now c.digits.count 18 c.digits.invariant.digits (omega arith))

pub digits-preserved : goal.digits-preserved
digits-preserved c = record {
  digits = digits_more c.args.bytes.now c.digits.count c.digits.number c.from.result c.from.ensures c.if-count-bytes.true c.if-byte-lt48.false c.if-byte-gt57.false c.digits.invariant.digits;
  few = omega arith;
  within = omega arith;
}
