use Rattle.std.proofs.Common.{rules, ◌≡◌, codes, decimal, subst}
use Rattle.std.specs.Io.KnownBytes.{Appends}
use Rattle.si_run.proofs.Shown.{three}
use Rattle.si_run.proofs.showing.write_count.Goals as goal

pub returns-clause-ok : goal.returns-clause-ok
returns-clause-ok g c =
    let seen = g.E.ByteSink.seen in
    let number : c.as_bytes.result.now ≡ decimal c.args.count = search rules in
    let first = (seen c.write_all.new.writer).written in
    let second = (seen c.write_all-2.new.writer).written in
    three (seen c.args.err.now).written first second (seen c.write_all-3.new.writer).written (codes ", ") (decimal c.args.count) (codes " findings at the last report")
    c.in_ok-write_all.ensures.ok (subst (Appends first second) number c.in_ok-write_all-2.ensures.ok) c.in_ok-write_all-3.ensures.ok
