use Rattle.std.proofs.Common.{◌≡◌, take}
use Rattle.si_sorted.specs.Entries.{value_at}
use Rattle.si_model.specs.declared.parts.OnKey.{OnKey}
use Rattle.si_judge.specs.Indexes.{AreIndexes}
use Rattle.si_judge.specs.Mending.{AreReadsJudged, read_cmp, risen}
use Rattle.si_judge.specs.Notes.{KeepsNotes}
use Rattle.si_judge.proofs.judgements.Judgements.judge_reads.Given as goal

abbrev pub invariant-loop-read : goal.invariant-loop-read
invariant-loop-read g l = ((M : OnKey) → AreIndexes M l.indexes → AreReadsJudged g.J.Judge.rules M l.indexes (take l.read-index l.reads) (value_at read_cmp l.initial.self.reads) (value_at read_cmp l.self.reads))
    × (l.self.overlaps ≡ l.initial.self.overlaps) × (g.J.Judge.answers l.self.judge ≡ risen (g.J.Judge.answers l.initial.self.judge) l.read-index)
    × KeepsNotes l.initial.self l.self
