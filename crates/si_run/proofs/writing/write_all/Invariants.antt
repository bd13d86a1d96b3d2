use Rattle.std.proofs.Common.{◌≡◌, ◌++◌, List, ℕ, length}
use Rattle.std.specs.Io.KnownBytes.{Appends}
use Rattle.si_run.proofs.writing.write_all.Given as goal

-- what was taken so far, and what is left
abbrev pub invariant-loop-rest : goal.invariant-loop-rest
invariant-loop-rest g l =
    let seen = g.W.ByteSink.seen in
    ((done : List ℕ) × (l.bytes ≡ done ++ l.rest) × Appends (seen l.fn.writer).written (seen l.writer).written done) × ((seen l.writer).failed ≡ (seen l.fn.writer).failed)

abbrev pub decreases-loop-rest : goal.decreases-loop-rest
decreases-loop-rest g l = length l.rest
