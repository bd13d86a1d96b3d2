use Rattle.si_run.specs.Telling.{findings_words, lines_words, rate_words}
use Rattle.si_run.proofs.Shown.{three}
use Rattle.si_run.proofs.showing.write_note.Goals as goal

pub returns-clause-ok : goal.returns-clause-ok
returns-clause-ok g c =
    let seen = g.E.ByteSink.seen in
    three (seen c.args.err.now).written (seen c.write_lines.new.err).written (seen c.write_rate.new.err).written (seen c.write_findings.new.err).written
    (lines_words c.args.lines) (rate_words c.args.rate) (findings_words c.args.findings)
    c.in_ok-write_lines.ensures.ok c.in_ok-write_rate.ensures.ok c.in_ok-write_findings.ensures.ok
