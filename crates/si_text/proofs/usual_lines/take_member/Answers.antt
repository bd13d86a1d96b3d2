use Rattle.std.proofs.Common.{refl, subst}
use Rattle.si_text.specs.Faults.{field_name}
use Rattle.si_text.specs.FoundMembers.{status_word}
use Rattle.si_text.specs.UsualBytes.{TakesName}
use Rattle.si_text.specs.declared.found_members.Member.TheVariants.{Id, Start, Status, Commit, Key, Value}
use Rattle.si_text.proofs.UsualBytes.{string_taken}
use Rattle.si_text.proofs.UsualLines.{number_member, text_member}
use Rattle.si_text.proofs.usual_lines.take_member.Goals as goal

pub returns-in_ok-number-in-Id : goal.returns-in_ok-number-in-Id
returns-in_ok-number-in-Id c =
    let n = c.in_ok-number-in-Id.field-0 in
    number_member (Id n) c.args.rest.now c.take_field.new.rest c.number.new.self (subst (λ f. TakesName (field_name f) c.args.rest.now c.take_field.new.rest) c.in-Id.is c.in_ok-take_field.ensures) n refl tt c.in_ok-number-in-Id.ensures

pub returns-in_ok-number-in-Start : goal.returns-in_ok-number-in-Start
returns-in_ok-number-in-Start c =
    let n = c.in_ok-number-in-Start.field-0 in
    number_member (Start n) c.args.rest.now c.take_field.new.rest c.number-in-Start.new.self (subst (λ f. TakesName (field_name f) c.args.rest.now c.take_field.new.rest) c.in-Start.is c.in_ok-take_field.ensures) n refl tt c.in_ok-number-in-Start.ensures

pub returns-in_ok-number-in-Commit : goal.returns-in_ok-number-in-Commit
returns-in_ok-number-in-Commit c =
    let n = c.in_ok-number-in-Commit.field-0 in
    number_member (Commit n) c.args.rest.now c.take_field.new.rest c.number-in-Commit.new.self (subst (λ f. TakesName (field_name f) c.args.rest.now c.take_field.new.rest) c.in-Commit.is c.in_ok-take_field.ensures) n refl tt c.in_ok-number-in-Commit.ensures

pub returns-in_ok-number-in-Value : goal.returns-in_ok-number-in-Value
returns-in_ok-number-in-Value c =
    let n = c.in_ok-number-in-Value.field-0 in
    number_member (Value n) c.args.rest.now c.take_field.new.rest c.number-in-Value.new.self (subst (λ f. TakesName (field_name f) c.args.rest.now c.take_field.new.rest) c.in-Value.is c.in_ok-take_field.ensures) n refl tt c.in_ok-number-in-Value.ensures

pub returns-in_ok-take_status-in-Status : goal.returns-in_ok-take_status-in-Status
returns-in_ok-take_status-in-Status c =
    let status = c.in_ok-take_status-in-Status.field-0 in
    text_member (Status status) c.args.rest.now c.take_field.new.rest c.take_status.new.rest (subst (λ f. TakesName (field_name f) c.args.rest.now c.take_field.new.rest) c.in-Status.is c.in_ok-take_field.ensures) (status_word status) refl tt c.in_ok-take_status-in-Status.ensures

pub returns-else-not-ends_value : goal.returns-else-not-ends_value
returns-else-not-ends_value c =
    let key = c.in_ok-key-in-Key.key in
    text_member (Key key) c.args.rest.now c.take_field.new.rest c.key.new.self (subst (λ f. TakesName (field_name f) c.args.rest.now c.take_field.new.rest) c.in-Key.is c.in_ok-take_field.ensures) key refl c.in_ok-key-in-Key.ensures.fits
    (string_taken key c.take_field.new.rest c.key.new.self c.in_ok-key-in-Key.ensures.text (c.if-not-ends_value.ensures refl))
