use Rattle.std.proofs.Common.{◌∙◌, subst, sym}
use Rattle.std.specs.List.Sorted.{IsStrictlySortedBy}
use Rattle.std.specs.Map.{keys_of}
use Rattle.si_sorted.specs.Entries.{Sets}
use Rattle.si_judge.specs.Mending.{read_cmp}
use Rattle.si_judge.specs.Notes.{WasFound, times_found}
use Rattle.si_judge.proofs.Noting.{noted_read, unnoted}
use Rattle.si_judge.proofs.judgements.Judgements.put_read.Goals as goal
use Rattle.si_judge.proofs.judgements.Judgements.put_read.Goals.{then-is_some+in_ok-note_read, else-is_some}

pub returns-clause-noted : goal.returns-clause-noted
returns-clause-noted g c = λ k n was.
    let o = c.args.self.now in
    let put = c.put.new.self in
    elim c.if-is_some.branch [
      | then-is_some+in_ok-note_read w ↦ subst (λ m. IsStrictlySortedBy read_cmp (keys_of m.reads) → Sets read_cmp c.args.id c.args.kind m.reads put → WasFound m.notes k n (times_found k put m.overlaps))
          (sym (w.self-is ∙ w.note_read.ensures.others))
          (λ rose sets. noted_read c.args.id c.args.kind o.reads put o.overlaps o.notes w.note_read.new.self.notes rose c.len-rises.ensures.rising sets w.in_ok-note_read.ensures.noted k n was)
          c.len-rising.ensures.rising c.in_ok-put.ensures
      | else-is_some w ↦ absurd (unnoted o.notes k n (times_found k o.reads o.overlaps) (sym c.is_some.ensures ∙ w.if-is_some.false) was)
    ]
