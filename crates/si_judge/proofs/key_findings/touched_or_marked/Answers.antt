use Rattle.std.proofs.Common.{◌++◌, [], refl, subst, sym, take}
use Rattle.std.specs.List.{filter_map, flat_map}
use Rattle.si_judge.specs.Indexes.{AreReadsBefore, readers_of, write_at}
use Rattle.si_judge.specs.Marks.{AreGathered}
use Rattle.si_judge.proofs.MarkLists.{gathered_more, none_gathered}
use Rattle.si_judge.proofs.Passes.{all_passed, readers, readers_added}
use Rattle.si_judge.proofs.key_findings.touched_or_marked.Goals as goal

pub loop-placed-init : goal.loop-placed-init
loop-placed-init c = subst (AreGathered [] c.args.marks.now c.args.marks.now []) (sym c.new-reads.ensures.items) (none_gathered c.args.marks.now [])

pub loop-placed-preserved : goal.loop-placed-preserved
loop-placed-preserved c =
    let ix = c.args.indexes.now in
    let T = c.args.part.now in
    let items = c.as_slice-placed-items in
    let before = flat_map (readers ix) (filter_map (write_at T) (take c.loop-placed.placed-index T.accesses)) in
    let grown = readers_added ix T c.loop-placed.placed-index c.written.result before (before ++ readers_of ix c.written.result)
    (items.result.now, _, items.ensures, c.loop-placed-test.true, c.written.ensures) refl refl in
    subst (λ l. AreGathered l c.args.marks.now c.gather_readers.new.marks [] c.gather_readers.new.reads.items) grown
    (gathered_more before (readers_of ix c.written.result) c.args.marks.now c.loop-placed.marks c.gather_readers.new.marks [] c.loop-placed.reads.items c.gather_readers.new.reads.items
    c.loop-placed.invariant c.in_ok-gather_readers.ensures)

pub returns : goal.returns
returns c =
    let ix = c.args.indexes.now in
    let T = c.args.part.now in
    let items = c.as_slice-placed-items in
    let before = c.in_ok-gather_before.ensures in
    let all = all_passed items.result.now T.accesses c.loop-placed.placed-index items.ensures c.loop-placed-test.false in
    let written = flat_map (readers ix) (filter_map (write_at T) T.accesses) in
    let first = subst (λ ys. AreGathered (flat_map (readers ix) (filter_map (write_at T) ys)) c.args.marks.now c.loop-placed.marks [] c.loop-placed.reads.items) all c.loop-placed.invariant in (
      written ++ before.0,
      (before.0, subst (λ v. AreReadsBefore ix v before.0) c.requires before.1, refl),
      gathered_more written before.0 c.args.marks.now c.loop-placed.marks c.gather_before.new.marks [] c.loop-placed.reads.items c.gather_before.new.reads.items first before.2,
    )
