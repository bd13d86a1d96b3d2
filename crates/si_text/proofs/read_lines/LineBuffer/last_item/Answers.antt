use Rattle.si_text.proofs.InputItems.{last_as}
use Rattle.si_text.proofs.read_lines.LineBuffer.last_item.Goals as goal

pub returns-clause-items : goal.returns-clause-items
returns-clause-items c = last_as _ _ _ _ c.args.self.now.unended c.requires c.in_ok-item.ensures.item
