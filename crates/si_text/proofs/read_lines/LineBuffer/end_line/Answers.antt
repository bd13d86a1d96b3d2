use Rattle.si_text.proofs.InputItems.{ended_as}
use Rattle.si_text.proofs.read_lines.LineBuffer.end_line.Goals as goal

pub returns-clause-items : goal.returns-clause-items
returns-clause-items c = record {
  same = λ more. ended_as _ _ _ c.requires.0 _ _ more _ c.args.self.now.unended c.requires.1 c.clear.ensures.items c.take.ensures c.in_ok-item.ensures.item;
}
