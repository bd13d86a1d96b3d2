use Rattle.si_model.specs.declared.edits.TheConstants.{MOST_EDITS}
use Rattle.si_cli.proofs.settings.expected_of.Goals as goal

pub number_of-requires : goal.number_of-requires
number_of-requires c = (0, MOST_EDITS, c.requires.expected)
