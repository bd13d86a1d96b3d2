use Rattle.si_text.proofs.Appended.{then}
use Rattle.si_text.proofs.explaining.put_fork.Goals as goal

pub returns : goal.returns
returns c = then c.in_ok-put_key.ensures c.put_two.ensures
