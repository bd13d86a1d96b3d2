use Rattle.std.proofs.Common.{◌≡◌, ◌≤◌, ◌+◌, length, []}
use Rattle.si_text.specs.Inputs.{lines_of}
use Rattle.si_evidence.specs.Judging.{Judges, Verdicts}
use Rattle.si_evidence.proofs.judging.judge_lines.Given as goal

-- what is judged leads to the same as all lines do
abbrev pub invariant-lines : goal.invariant-lines
invariant-lines g l =
    let P = g.L.Lookup.present l.fn.lookup in
    ((b : Verdicts) → Judges P (l.number + 1) (lines_of l.rest) l.judging b → Judges P 1 (lines_of l.answer) (record { text = []; told = 0; failed = 0 }) b)
    × (l.judging.told ≤ l.number) × (l.judging.failed ≤ l.number) × (l.number + length l.rest ≤ length l.answer)

abbrev pub decreases-lines : goal.decreases-lines
decreases-lines g l = length l.rest
