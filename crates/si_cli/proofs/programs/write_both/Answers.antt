use Rattle.std.proofs.Common.{◌++◌}
use Rattle.si_run.specs.Runs.{AppendsBeginning}
use Rattle.si_cli.proofs.Parts.{in_rest, of_err}
use Rattle.si_cli.proofs.programs.write_both.Goals as goal

pub returns-in_err-write_all-2-clause-err : goal.returns-in_err-write_all-2-clause-err
returns-in_err-write_all-2-clause-err g c =
    let seen = g.O.ByteSink.seen in
    let before = (seen c.args.out.now).written in
    let after = (seen c.write_all-2.new.writer).written in
    of_err c.from_residual-in_err-write_all-2.result (AppendsBeginning before after (c.args.head.now ++ c.args.rest.now))
    (in_rest before (seen c.write_all.new.writer).written after c.args.head.now c.args.rest.now c.in_ok-write_all.ensures.ok c.in_err-write_all-2.ensures.err)
