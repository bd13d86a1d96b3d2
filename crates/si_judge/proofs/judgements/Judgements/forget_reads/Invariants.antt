use Rattle.std.proofs.Common.{◌≡◌, take}
use Rattle.si_sorted.specs.Entries.{value_at}
use Rattle.si_judge.specs.Mending.{AreForgotten, read_cmp}
use Rattle.si_judge.specs.Notes.{KeepsNotes}
use Rattle.si_judge.proofs.judgements.Judgements.forget_reads.Given as goal

abbrev pub invariant-loop-read : goal.invariant-loop-read
invariant-loop-read g l = AreForgotten (take l.read-index l.reads) (value_at read_cmp l.initial.self.reads) (value_at read_cmp l.self.reads)
    × (l.self.overlaps ≡ l.initial.self.overlaps) × (l.self.judge ≡ l.initial.self.judge)
    × KeepsNotes l.initial.self l.self
