use Rattle.std.proofs.Common.{◌∷◌, Some, option_map, sym, ap, ◌∙◌, subst}
use Rattle.json.specs.Reads.{token_of}
use Rattle.si_text.specs.FoundMembers.{TakesObject}
use Rattle.si_text.proofs.FoundMembers.{none_read, one_named, all_read}
use Rattle.si_text.proofs.token_lines.take_members.Goals as goal

pub members-init : goal.members-init
members-init c = none_read c.next.new.self c.none-found.result c.none-found.ensures

pub members-preserved : goal.members-preserved
members-preserved c =
    let mid = c.next_key.new.self in
    let member = c.in_ok-member.member in
    let named = c.in-Ok.ensures.value ∙ ap (λ o. Some (option_map (λ s. s.now) o, mid)) c.in-Some.is ∙ ap (λ t. Some (Some t, mid)) c.in_ok-member.ensures.name in
    one_named c.next.new.self c.members.reader c.take_member.new.reader c.members.found c.put.new.self member c.members.invariant c.put.ensures mid named c.in_ok-member.ensures.value

pub returns-in_default-name : goal.returns-in_default-name
returns-in_default-name c =
    let new = c.next_key.new.self in
    let begins = c.in-Some-BeginObject.ensures.value ∙ ap (λ t. token_of t ∷ c.next.new.self) c.in-Some-BeginObject.field-0-is in
    let end = c.in-Ok.ensures.value ∙ ap (λ o. Some (option_map (λ s. s.now) o, new)) c.in_default-name.is in
    subst (λ ts. TakesObject c.members.found ts new) (sym begins) (all_read c.next.new.self c.members.reader new c.members.found c.members.invariant end)
