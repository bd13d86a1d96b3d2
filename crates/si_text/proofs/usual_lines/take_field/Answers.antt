use Rattle.std.proofs.Common.{codes}
use Rattle.si_text.proofs.UsualLines.{taken_after, id_named, start_named, status_named, commit_named, ops_named, key_named, value_named}
use Rattle.si_text.proofs.usual_lines.take_field.Goals as goal

pub returns-then-take : goal.returns-then-take
returns-then-take c = id_named c.args.rest.now c.take.new.self c.if-take.ensures

pub returns-then-take-2 : goal.returns-then-take-2
returns-then-take-2 c = start_named c.args.rest.now c.take-in-115.new.self c.if-take-2.ensures

pub returns-then-take-3 : goal.returns-then-take-3
returns-then-take-3 c = status_named c.args.rest.now c.take-in-115-2.new.self (taken_after (codes "\"status\":") c.args.rest.now c.take-in-115.new.self c.take-in-115-2.new.self c.if-take-2.ensures c.if-take-3.ensures)

pub returns-then-take-4 : goal.returns-then-take-4
returns-then-take-4 c = commit_named c.args.rest.now c.take-in-99.new.self c.if-take-4.ensures

pub returns-then-take-5 : goal.returns-then-take-5
returns-then-take-5 c = ops_named c.args.rest.now c.take-in-111.new.self c.if-take-5.ensures

pub returns-then-take-6 : goal.returns-then-take-6
returns-then-take-6 c = key_named c.args.rest.now c.take-in-107.new.self c.if-take-6.ensures

pub returns-then-take-7 : goal.returns-then-take-7
returns-then-take-7 c = value_named c.args.rest.now c.take-in-118.new.self c.if-take-7.ensures
