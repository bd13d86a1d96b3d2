use Rattle.std.proofs.Common.{◌≡◌, length, take}
use Rattle.si_sorted.specs.Entries.{value_at}
use Rattle.std.specs.List.{filter_map}
use Rattle.si_model.specs.declared.parts.OnKey.{OnKey}
use Rattle.si_model.specs.Versions.{last_write}
use Rattle.si_judge.specs.Indexes.{AreIndexes, read_at}
use Rattle.si_judge.specs.Mending.{AreReadsJudged, read_cmp, risen}
use Rattle.si_judge.specs.Notes.{KeepsNotes}
use Rattle.si_judge.proofs.judgements.Judgements.judge_reads_of.Given as goal

abbrev pub invariant-loop-placed : goal.invariant-loop-placed
invariant-loop-placed g l = (l.own ≡ last_write (take l.placed-index l.part.accesses))
    × ((M : OnKey) → AreIndexes M l.indexes → AreReadsJudged g.J.Judge.rules M l.indexes (filter_map (read_at l.part) (take l.placed-index l.part.accesses)) (value_at read_cmp l.initial.self.reads) (value_at read_cmp l.self.reads))
    × (l.self.overlaps ≡ l.initial.self.overlaps)
    × (g.J.Judge.answers l.self.judge ≡ risen (g.J.Judge.answers l.initial.self.judge) (length (filter_map (read_at l.part) (take l.placed-index l.part.accesses))))
    × KeepsNotes l.initial.self l.self
