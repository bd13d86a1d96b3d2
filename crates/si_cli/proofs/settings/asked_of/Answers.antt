use Rattle.si_cli.specs.declared.command_lines.TheConstants.{MOST_PLACES}
use Rattle.si_cli.proofs.settings.asked_of.Goals as goal

pub number_of-requires : goal.number_of-requires
number_of-requires c = (0, MOST_PLACES, c.requires.places.own)
