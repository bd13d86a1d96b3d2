use Rattle.si_checker.proofs.Machines.{words_machine}
use Rattle.si_checker.proofs.laws.words_are_machine.Goals as goal

pub returns : goal.returns
returns c = words_machine c.one_journal_for_all.ensures c.sound_is_reached.ensures
