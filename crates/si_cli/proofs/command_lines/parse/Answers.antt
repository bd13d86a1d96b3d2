use Rattle.std.proofs.Common.{map, ap, subst, ◌∙◌}
use Rattle.std.proofs.lemmas.Result.{IfOk-weaker}
use Rattle.clap.specs.Faults.{is_simple_and_free}
use Rattle.clap.specs.Words.{App, FailsBy, HasMatchesOf, fault_of}
use Rattle.si_cli.proofs.Simple.{simple, simple_and_free}
use Rattle.si_cli.proofs.command_lines.parse.Goals as goal

pub returns-clause-kinds : goal.returns-clause-kinds
returns-clause-kinds g c =
    let same = c.in_ok-command.ensures in
    subst (λ (a : App). FailsBy (fault_of a (map g.S.AsStr.text c.args.words.now)) c.try_get_matches_from.result) same
    (c.try_get_matches_from.ensures.kinds (ap is_simple_and_free same ∙ simple_and_free))

pub returns-clause-check : goal.returns-clause-check
returns-clause-check g c =
    IfOk-weaker c.try_get_matches_from.result _ _
    (λ m h. (subst (λ (a : App). HasMatchesOf a (map g.S.AsStr.text c.args.words.now) m) c.in_ok-command.ensures h simple).1) c.try_get_matches_from.ensures.matches
