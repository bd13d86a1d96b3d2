use Rattle.std.proofs.Common.{rules, ◌≡◌, inl, true, [], refl, sym, subst}
use Rattle.si_text.specs.Devices.{lent}
use Rattle.si_run.proofs.Shown.{untouched}
use Rattle.si_cli.specs.Programs.{TellsCause}
use Rattle.si_cli.proofs.programs.tell_cause.Goals as goal

pub returns-in_default-format : goal.returns-in_default-format
returns-in_default-format g c =
    let here = g.E.ByteSink.seen c.args.err.now in
    let asked : c.args.shows ≡ true = search rules in
    subst (λ b. TellsCause b c.args.name.now (lent here here)) (sym asked) ([], inl refl, untouched here)
