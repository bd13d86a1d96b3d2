use Rattle.std.proofs.Common.{map}
use Rattle.si_text.specs.Devices.{lent}
use Rattle.si_cli.proofs.Opened.{run_told}
use Rattle.si_cli.proofs.programs.check.Goals as goal

pub returns : goal.returns
returns g c =
    let ran = c.run_telling-ended in
    let seen = g.E.ByteSink.seen in
    run_told c.args.options (map (λ name. name.now) c.args.names.now) (lent (map g.I.ByteSource.seen c.args.sources.now) (map g.I.ByteSource.seen ran.new.inputs))
    (lent (g.O.ByteSink.seen c.args.out.now) (g.O.ByteSink.seen ran.new.writer)) (seen c.args.err.now) (seen ran.new.err) (seen c.tell_causes.new.err)
    c.code_of.result ran.result c.requires.options ran.ensures.ends ran.ensures.told c.tell_causes.ensures c.code_of.ensures
