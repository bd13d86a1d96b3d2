use Rattle.std.proofs.Common.{◌∙◌}
use Rattle.std.specs.Str.Parse.{ParsesUnsigned, ExplainsUnsignedError, HasUnsignedDigitsIfOk}
use Rattle.clap.specs.Words.{found_of, rows_of}
use Rattle.clap.proofs.WalkLemmas.{one_text-rows}
use Rattle.si_cli.proofs.GivenValues.{number_reads}
use Rattle.si_cli.proofs.settings.number_of.Goals as goal

pub returns : goal.returns
returns c = number_reads c.args.name.now c.requires.0 c.requires.1 _ (λ bs r. ParsesUnsigned 64 10 bs r × ExplainsUnsignedError 10 bs r × HasUnsignedDigitsIfOk bs r) (rows_of (found_of c.args.check.now)) c.get_one.result
    (λ none. c.get_one.ensures.none (one_text-rows (found_of c.args.check.now) c.args.name.now ∙ none))
    (λ text some. c.get_one.ensures.value text (one_text-rows (found_of c.args.check.now) c.args.name.now ∙ some))
    (λ text r given. given.0) c.requires.2
