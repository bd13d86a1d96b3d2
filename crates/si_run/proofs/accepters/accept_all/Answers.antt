use Rattle.std.proofs.Common.{ap, subst}
use Rattle.si_text.specs.Devices.{lent}
use Rattle.si_run.specs.Engines.{EngineState}
use Rattle.si_run.specs.Telling.{IsTold, TellsBehind, fault_line}
use Rattle.si_run.proofs.Beginnings.{dropped, reported}
use Rattle.si_run.proofs.Shown.{notes_behind, notes_told}
use Rattle.si_run.proofs.accepters.accept_all.Goals as goal

pub returns-in-Ok-clause-accepted : goal.returns-in-Ok-clause-accepted
returns-in-Ok-clause-accepted g c =
    let seen = g.W.ByteSink.seen in
    let finish = c.finish-ended in
    reported c.args.engine.now.terms c.decide_all.new.engine.terms c.args.accepter.now c.decide_all.new.accepter
    (seen c.args.writer.now) (seen c.decide_all.new.writer) (seen finish.new.writer) c.decide_all.new.engine.progress finish.new.engine.progress
    finish.result c.decide_all.ensures.terms c.decide_all.ensures.same c.in-Ok.ensures.ended c.in-Ok.ensures.ok (ap (λ (e : EngineState). e.progress) finish.ensures.engine)
    finish.ensures.written finish.ensures.status finish.ensures.works finish.ensures.err

pub returns-clause-accepted : goal.returns-clause-accepted
returns-clause-accepted g c =
    let seen = g.W.ByteSink.seen in
    dropped c.args.engine.now.terms c.args.accepter.now c.decide_all.new.accepter c.drop_all.new.accepter c.drop_all.ensures.taken.0
    (lent (seen c.args.writer.now) (seen c.decide_all.new.writer)) c.decide_all.new.engine.progress c.in-Err.fault
    c.decide_all.ensures.same c.drop_all.ensures.taken.1 c.drop_all.ensures.ended c.in-Err.ensures.err

pub returns-in-Ok-clause-told : goal.returns-in-Ok-clause-told
returns-in-Ok-clause-told g c =
    let seen = g.E.ByteSink.seen in
    let end = lent (seen c.decide_all.new.err) (seen c.tell_end.new.err) in
    notes_told c.args.engine.now.terms.shows c.finish-ended.result (seen c.args.err.now) (seen c.decide_all.new.err) (seen c.tell_end.new.err) c.decide_all.ensures.shown
    (subst (λ b. IsTold b c.finish-ended.result end) c.shows-shows.ensures c.tell_end.ensures)

pub returns-clause-told : goal.returns-clause-told
returns-clause-told g c =
    let seen = g.E.ByteSink.seen in
    let end = lent (seen c.decide_all.new.err) (seen c.tell_behind.new.err) in
    notes_behind c.args.engine.now.terms.shows (seen c.args.err.now) (seen c.decide_all.new.err) (seen c.tell_behind.new.err) (fault_line c.in-Err.fault) c.decide_all.ensures.shown
    (subst (λ b. TellsBehind b end (fault_line c.in-Err.fault)) c.shows-shows.ensures c.tell_behind.ensures)
