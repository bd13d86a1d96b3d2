use Rattle.si_cli.specs.declared.command_lines.TheConstants.{MOST_EVERY}
use Rattle.si_cli.proofs.settings.every_of.Goals as goal

pub number_of-requires : goal.number_of-requires
number_of-requires c = (1, MOST_EVERY, c.requires.every)
