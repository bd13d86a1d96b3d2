use Rattle.std.proofs.Common.{rules, ◌≡◌, ◌++◌, codes, decimal, subst}
use Rattle.std.specs.Io.KnownBytes.{Appends}
use Rattle.si_run.specs.Telling.{erasure}
use Rattle.si_run.proofs.Shown.{three}
use Rattle.si_run.proofs.showing.write_lines.Goals as goal

pub returns-clause-ok : goal.returns-clause-ok
returns-clause-ok g c =
    let seen = g.E.ByteSink.seen in
    let number : c.as_bytes.result.now ≡ decimal c.args.lines = search rules in
    let first = (seen c.write_all.new.writer).written in
    let second = (seen c.write_all-2.new.writer).written in
    three (seen c.args.err.now).written first second (seen c.write_all-3.new.writer).written (erasure ++ codes "sicheck: ") (decimal c.args.lines) (codes " lines, ")
    c.in_ok-write_all.ensures.ok (subst (Appends first second) number c.in_ok-write_all-2.ensures.ok) c.in_ok-write_all-3.ensures.ok
