use Rattle.std.proofs.Common.{codes, refl, ◌∙◌}
use Rattle.si_text.specs.declared.found_members.LineKind.TheVariants.{Arrive, Resolve, Withdraw, SetUp}
use Rattle.si_text.specs.declared.found_members.Member.TheVariants.{Kind}
use Rattle.si_text.proofs.UsualLines.{whole_after, text_member, do_named, arrival_word, resolution_word, withdrawal_word, set_up_word}
use Rattle.si_text.proofs.usual_lines.take_kind.Goals as goal

pub returns-then-take_whole : goal.returns-then-take_whole
returns-then-take_whole c =
    text_member (Kind Arrive) c.args.rest.now c.take.new.self c.take_whole.new.self (do_named c.args.rest.now c.take.new.self c.if-not-take.ensures) (codes "txn") refl tt
    (arrival_word c.take.new.self c.take_whole.new.self c.if-take_whole.ensures)

pub returns-then-take_whole-2 : goal.returns-then-take_whole-2
returns-then-take_whole-2 c =
    text_member (Kind Resolve) c.args.rest.now c.take.new.self c.take_whole-2.new.self (do_named c.args.rest.now c.take.new.self c.if-not-take.ensures) (codes "resolve") refl tt
    (resolution_word c.take.new.self c.take_whole-2.new.self (whole_after (codes "\"resolve\"") c.take.new.self c.take_whole.new.self c.take_whole-2.new.self (c.if-take_whole.ensures) c.if-take_whole-2.ensures))

pub returns-then-take_whole-3 : goal.returns-then-take_whole-3
returns-then-take_whole-3 c =
    text_member (Kind Withdraw) c.args.rest.now c.take.new.self c.take_whole-3.new.self (do_named c.args.rest.now c.take.new.self c.if-not-take.ensures) (codes "withdraw") refl tt
    (withdrawal_word c.take.new.self c.take_whole-3.new.self (whole_after (codes "\"withdraw\"") c.take.new.self c.take_whole-2.new.self c.take_whole-3.new.self (c.if-take_whole-2.ensures ∙ c.if-take_whole.ensures) c.if-take_whole-3.ensures))

pub returns-then-take_whole-4 : goal.returns-then-take_whole-4
returns-then-take_whole-4 c =
    text_member (Kind SetUp) c.args.rest.now c.take.new.self c.take_whole-4.new.self (do_named c.args.rest.now c.take.new.self c.if-not-take.ensures) (codes "setup") refl tt
    (set_up_word c.take.new.self c.take_whole-4.new.self (whole_after (codes "\"setup\"") c.take.new.self c.take_whole-3.new.self c.take_whole-4.new.self (c.if-take_whole-3.ensures ∙ c.if-take_whole-2.ensures ∙ c.if-take_whole.ensures) c.if-take_whole-4.ensures))
