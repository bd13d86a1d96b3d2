use Rattle.std.proofs.Common.{◌∙◌, subst, sym}
use Rattle.std.specs.List.Sorted.{IsStrictlySortedBy}
use Rattle.std.specs.Map.{keys_of}
use Rattle.std.specs.Option.{option_map}
use Rattle.si_sorted.specs.Entries.{Sets}
use Rattle.si_judge.specs.Found.{overlap_of}
use Rattle.si_judge.specs.Mending.{stamp_cmp}
use Rattle.si_judge.specs.Notes.{WasFound, times_found}
use Rattle.si_judge.proofs.Noting.{noted_pair, unnoted}
use Rattle.si_judge.proofs.judgements.Judgements.put_pair.Goals as goal
use Rattle.si_judge.proofs.judgements.Judgements.put_pair.Goals.{then-is_some+in_ok-note_pair, else-is_some}

pub returns-clause-noted : goal.returns-clause-noted
returns-clause-noted g c = λ k n was.
    let o = c.args.self.now in
    let put = c.put.new.self in
    let v = option_map overlap_of c.args.pair in
    elim c.if-is_some.branch [
      | then-is_some+in_ok-note_pair w ↦ subst (λ m. IsStrictlySortedBy stamp_cmp (keys_of m.overlaps) → Sets stamp_cmp c.args.commit v m.overlaps put → WasFound m.notes k n (times_found k m.reads put))
          (sym (w.self-is ∙ w.note_pair.ensures.others))
          (λ rose sets. noted_pair c.args.commit v o.overlaps put o.reads o.notes w.note_pair.new.self.notes rose c.len-rises.ensures.rising sets w.in_ok-note_pair.ensures.noted k n was)
          c.len-rising.ensures.rising c.in_ok-put.ensures
      | else-is_some w ↦ absurd (unnoted o.notes k n (times_found k o.reads o.overlaps) (sym c.is_some.ensures ∙ w.if-is_some.false) was)
    ]
