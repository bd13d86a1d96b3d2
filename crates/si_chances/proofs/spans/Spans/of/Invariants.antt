use Rattle.std.proofs.Common.{take}
use Rattle.si_chances.specs.Spans.{CountSpans}
use Rattle.si_chances.proofs.spans.Spans.of.Given as goal

abbrev pub invariant-loop-part : goal.invariant-loop-part
invariant-loop-part l = CountSpans l.places (take l.part-index l.parts) l.spans
