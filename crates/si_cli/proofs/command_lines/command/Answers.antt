use Rattle.std.proofs.Common.{rules, ap, ◌≡◌, ◌∙◌}
use Rattle.std.proofs.lemmas.Result.{IfOk-weaker}
use Rattle.clap.specs.Words.{App, app_of, with_subcommand}
use Rattle.si_cli.specs.CommandLines.{check_app, top_app}
use Rattle.si_cli.proofs.command_lines.command.Goals as goal

pub returns : goal.returns
returns c =
    let top : app_of c.subcommand_required-top.result ≡ top_app = search rules in
    IfOk-weaker c.subcommand.result _ _ (λ m h. c.in_ok-check.ensures _ _ h ∙ ap (λ (a : App). with_subcommand a check_app.top) top) c.subcommand.ensures
