use Rattle.std.proofs.Common.{◌∙◌, ◌++◌, ap, subst}
use Rattle.std.specs.List.{filter_map, flat_map}
use Rattle.si_judge.specs.Indexes.{AreReadsBefore, write_at}
use Rattle.si_judge.proofs.Passes.{all_passed, readers, readers_added}
use Rattle.si_judge.proofs.key_findings.touched.Goals as goal

pub loop-placed-preserved : goal.loop-placed-preserved
loop-placed-preserved c =
    let items = c.as_slice-placed-items in
    readers_added c.args.indexes.now c.args.part.now c.loop-placed.placed-index c.written.result c.loop-placed.reads.items c.add_readers.new.reads.items
    (items.result.now, _, items.ensures, c.loop-placed-test.true, c.written.ensures) c.loop-placed.invariant c.in_ok-add_readers.ensures

pub returns : goal.returns
returns c =
    let ix = c.args.indexes.now in
    let T = c.args.part.now in
    let items = c.as_slice-placed-items in
    let before = c.in_ok-add_reads_before.ensures in
    let all = all_passed items.result.now T.accesses c.loop-placed.placed-index items.ensures c.loop-placed-test.false in (
      before.0,
      subst (λ v. AreReadsBefore ix v before.0) c.requires before.1,
      before.2 ∙ ap (λ l. l ++ before.0) (c.loop-placed.invariant ∙ ap (λ ys. flat_map (readers ix) (filter_map (write_at T) ys)) all),
    )
