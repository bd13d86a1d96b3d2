use Rattle.std.proofs.Common.{◌∷◌, refl, ap, ◌∙◌}
use Rattle.json.specs.Token.{string}
use Rattle.si_text.specs.FoundMembers.{kind_word, status_word}
use Rattle.si_text.specs.declared.found_members.Member.TheVariants.{Kind, Id, Start, Status, Commit, Key, Value}
use Rattle.si_text.proofs.FoundMembers.{numeral_value, text_value}
use Rattle.si_text.proofs.token_lines.take_member.Goals as goal

pub returns-then-eq-clause-value : goal.returns-then-eq-clause-value
returns-then-eq-clause-value c =
    let kind = c.in_ok-of.field-0 in
    let new = c.take_text.new.reader in
    text_value (Kind kind) (kind_word kind) c.args.reader.now new refl tt (c.in_ok-take_text.ensures ∙ ap (λ t. string t ∷ new) c.in_ok-of.ensures)

pub returns-in_ok-of-in-Status-clause-value : goal.returns-in_ok-of-in-Status-clause-value
returns-in_ok-of-in-Status-clause-value c =
    let status = c.in_ok-of-in-Status.field-0 in
    let new = c.take_text-in-Status.new.reader in
    text_value (Status status) (status_word status) c.args.reader.now new refl tt (c.in_ok-take_text-in-Status.ensures ∙ ap (λ t. string t ∷ new) c.in_ok-of-in-Status.ensures)

pub returns-in_ok-take_key-in-Key-clause-value : goal.returns-in_ok-take_key-in-Key-clause-value
returns-in_ok-take_key-in-Key-clause-value c =
    let key = c.in_ok-take_key-in-Key.field-0 in
    text_value (Key key) key c.args.reader.now c.take_key.new.reader refl c.in_ok-take_key-in-Key.ensures.fits c.in_ok-take_key-in-Key.ensures.text

pub returns-in_ok-take_number-in-Id-clause-value : goal.returns-in_ok-take_number-in-Id-clause-value
returns-in_ok-take_number-in-Id-clause-value c =
    let n = c.in_ok-take_number-in-Id.field-0 in
    numeral_value (Id n) n c.args.reader.now c.take_number.new.reader refl tt c.in_ok-take_number-in-Id.ensures

pub returns-in_ok-take_number-in-Start-clause-value : goal.returns-in_ok-take_number-in-Start-clause-value
returns-in_ok-take_number-in-Start-clause-value c =
    let n = c.in_ok-take_number-in-Start.field-0 in
    numeral_value (Start n) n c.args.reader.now c.take_number-in-Start.new.reader refl tt c.in_ok-take_number-in-Start.ensures

pub returns-in_ok-take_number-in-Commit-clause-value : goal.returns-in_ok-take_number-in-Commit-clause-value
returns-in_ok-take_number-in-Commit-clause-value c =
    let n = c.in_ok-take_number-in-Commit.field-0 in
    numeral_value (Commit n) n c.args.reader.now c.take_number-in-Commit.new.reader refl tt c.in_ok-take_number-in-Commit.ensures

pub returns-in_ok-take_number-in-Value-clause-value : goal.returns-in_ok-take_number-in-Value-clause-value
returns-in_ok-take_number-in-Value-clause-value c =
    let n = c.in_ok-take_number-in-Value.field-0 in
    numeral_value (Value n) n c.args.reader.now c.take_number-in-Value.new.reader refl tt c.in_ok-take_number-in-Value.ensures
