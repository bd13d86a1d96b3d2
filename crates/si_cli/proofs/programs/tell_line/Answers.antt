use Rattle.std.proofs.Common.{rules, ◌≡◌, inl}
use Rattle.clap.specs.declared.error.kind.ErrorKind.TheVariants.{DisplayHelp}
use Rattle.clap.specs.Words.{kind_of}
use Rattle.si_cli.proofs.programs.tell_line.Goals as goal

pub returns-in-DisplayHelp : goal.returns-in-DisplayHelp
returns-in-DisplayHelp g c =
    let asked : kind_of c.args.error.now ≡ DisplayHelp = search rules in
    inl (asked, rw c.head_of.ensures at c.tell_asked.ensures)
