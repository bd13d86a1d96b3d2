use Rattle.std.proofs.Common.{codes, refl}
use Rattle.json.specs.Lex.{fresh}
use Rattle.si_text.proofs.UsualLines.{taken_after, none_at, one_at, all_at}
use Rattle.si_text.proofs.usual_lines.take_members.Goals as goal

pub members-init : goal.members-init
members-init c = none_at c.args.rest.now c.none-found.result c.none-found.ensures

pub put-requires : goal.put-requires
put-requires c = (c.in_ok-member.ensures fresh refl).value.within

pub returns-then-take : goal.returns-then-take
returns-then-take c =
    all_at c.args.rest.now c.members.rest c.take_member.new.rest c.take.new.self c.members.found c.put.new.self c.in_ok-member.member c.members.invariant c.in_ok-member.ensures c.put.ensures c.if-take.ensures

pub members-preserved : goal.members-preserved
members-preserved c =
    one_at c.args.rest.now c.members.rest c.take_member.new.rest c.take-in-members.new.self c.members.found c.put.new.self c.in_ok-member.member c.members.invariant c.in_ok-member.ensures c.put.ensures
    (taken_after (codes ",") c.take_member.new.rest c.take.new.self c.take-in-members.new.self c.if-take.ensures c.if-not-take.ensures)
