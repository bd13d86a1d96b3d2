use Rattle.std.proofs.Common.{◌≡◌, take}
use Rattle.std.specs.List.{flat_map}
use Rattle.si_model.specs.declared.parts.OnKey.{OnKey}
use Rattle.si_sorted.specs.Entries.{value_at}
use Rattle.si_judge.specs.Indexes.{AreIndexes, kept_reads_in}
use Rattle.si_judge.specs.Mending.{AreReadsJudged, read_cmp}
use Rattle.si_judge.specs.Notes.{KeepsNotes}
use Rattle.si_judge.proofs.key_findings.judge_marked.Given as goal

abbrev pub invariant-loop-mark : goal.invariant-loop-mark
invariant-loop-mark g l = ((M : OnKey) → AreIndexes M l.indexes → AreReadsJudged g.J.Judge.rules M l.indexes (flat_map (λ m. kept_reads_in l.indexes m.0 m.1) (take l.mark-index l.marks))
    (value_at read_cmp l.initial.judgements.reads) (value_at read_cmp l.judgements.reads)) × (l.judgements.overlaps ≡ l.initial.judgements.overlaps) × KeepsNotes l.initial.judgements l.judgements
