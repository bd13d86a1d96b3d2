use Rattle.std.proofs.Common.{◌+◌, lit<}
use Rattle.si_text.specs.declared.read_edits.TheConstants.{MOST_LINE_BYTES}
use Rattle.si_text.proofs.LineFeeds.{behind}
use Rattle.si_text.proofs.InputItems.{gathered_as, held_shrinks, kept_without}
use Rattle.si_text.proofs.read_lines.LineBuffer.gather.Goals as goal

pub invariant_of-self-2-clause-unended : goal.invariant_of-self-2-clause-unended
invariant_of-self-2-clause-unended c = kept_without (MOST_LINE_BYTES + 1) _ _ _ _ _ _ c.as_slice.ensures c.length_to_line_feed-count.ensures c.as_slice-3.ensures c.in_ok-keep.ensures.ok c.args.self.now.unended

pub returns-clause-items : goal.returns-clause-items
returns-clause-items c = record {
  same = λ more. gathered_as _ (MOST_LINE_BYTES + 1) _ _ _ _ _ _ _ more (lit< tt) c.args.self.now.unended c.as_slice.ensures c.length_to_line_feed-count.ensures c.as_slice-3.ensures c.in_ok-keep.ensures.ok c.take.ensures;
}

pub returns-clause-whole : goal.returns-clause-whole
returns-clause-whole c = behind _ _ _ _ _ c.as_slice.ensures c.length_to_line_feed-count.ensures c.as_slice-2.ensures c.take.ensures

pub returns-clause-held : goal.returns-clause-held
returns-clause-held c = held_shrinks (MOST_LINE_BYTES + 1) _ _ _ _ _ _ c.as_slice-3.ensures c.in_ok-keep.ensures.ok c.take.ensures
