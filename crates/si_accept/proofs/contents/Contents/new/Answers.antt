use Rattle.si_accept.proofs.IndexFinds.{nothing_indexed}
use Rattle.si_accept.proofs.contents.Contents.new.Goals as goal

pub invariant_of-result : goal.invariant_of-result
invariant_of-result c = rw c.new.ensures.txns (nothing_indexed c.new-3.result c.new-3.ensures.starts c.new-3.ensures.installs c.new-3.ensures.others c.new-3.ensures.writers)
