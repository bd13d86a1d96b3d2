use Rattle.std.proofs.Common.{◌∙◌}
use Rattle.si_model.specs.declared.operations.Op.TheVariants as op
use Rattle.si_accept.proofs.IndexFinds.{writer_is}
use Rattle.si_accept.proofs.contents.ContentsHolders.writer.Goals as goal

pub returns : goal.returns
returns c = rw (← c.self.view_is) (c.writer.ensures ∙ writer_is c.self.inside.arrivals.txns c.self.inside.index c.self.invariant (op.Write c.args.key.now c.args.value))
