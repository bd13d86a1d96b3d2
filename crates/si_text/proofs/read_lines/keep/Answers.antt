use Rattle.std.proofs.Common.{◌≡◌, ◌+◌, ◌-◌, ◌++◌, length, take, arith}
use Rattle.si_text.specs.declared.read_edits.TheConstants.{MOST_LINE_BYTES}
use Rattle.si_text.proofs.InputItems.{kept_after, kept_more}
use Rattle.si_text.proofs.read_lines.keep.Goals as goal

pub returns-clause-ok : goal.returns-clause-ok
returns-clause-ok c =
    let size = c.len.ensures in
    let room : length c.args.line.now.items + ((MOST_LINE_BYTES + 1) - c.len.result) ≡ (MOST_LINE_BYTES + 1) = omega (arith, c.requires, c.args.line.now.ok.0) in
    kept_after c.extend_from_slice.result _ c.args.line.now.items (take c.min-count.result c.args.bytes.now) (take (MOST_LINE_BYTES + 1) (c.args.line.now.items ++ c.args.bytes.now)) c.extend_from_slice.ensures.items
    (kept_more (MOST_LINE_BYTES + 1) ((MOST_LINE_BYTES + 1) - c.len.result) c.min-count.result c.args.line.now.items c.args.bytes.now room c.min-count.ensures)
