use Rattle.si_accept.proofs.KeyPlaces.{with_key_there}
use Rattle.si_accept.proofs.key_numbers.KeyNumbers.add.Goals as goal

pub returns-in-Some-clause-ok : goal.returns-in-Some-clause-ok
returns-in-Some-clause-ok c = with_key_there c.args.self.now c.args.key.now c.in-Some.number c.in-Some.ensures
