use Rattle.std.proofs.Common.{codes, refl, sym, subst}
use Rattle.std.proofs.lemmas.Str.{IsUtf8-from_ascii}
use Rattle.json.specs.Lex.{tokens, after_value}
use Rattle.si_text.specs.FoundMembers.{TakesObject}
use Rattle.si_text.specs.UsualBytes.{left}
use Rattle.si_text.proofs.FoundMembers.{edit_read}
use Rattle.si_text.proofs.UsualLines.{taken_after, object_begun, nothing_left}
use Rattle.si_text.proofs.usual_lines.usual_edit.Goals as goal

pub returns : goal.returns
returns c =
    let line = c.args.line.now in
    let found = c.in_ok-found.found in
    let first = object_begun line c.take.new.self (taken_after (codes "{") line c.new-rest.result c.take.new.self c.new-rest.ensures c.if-not-take.ensures) in
    let whole = subst (λ ts. TakesObject found ts (left after_value c.take_members.new.rest)) (sym first) c.in_ok-found.ensures in
    edit_read line found c.edit.result c.requires (IsUtf8-from_ascii line (c.if-not-is_ascii.ensures refl)) (subst (TakesObject found (tokens line)) (nothing_left c.take_members.new.rest c.if-not-is_empty.ensures) whole) c.edit.ensures
