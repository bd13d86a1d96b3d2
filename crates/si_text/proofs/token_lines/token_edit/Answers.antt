use Rattle.std.proofs.Common.{ap, ◌∙◌, subst}
use Rattle.json.specs.Lex.{tokens}
use Rattle.si_text.specs.FoundMembers.{TakesObject}
use Rattle.si_text.proofs.FoundMembers.{edit_read}
use Rattle.si_text.proofs.token_lines.token_edit.Goals as goal

pub returns : goal.returns
returns c =
    let line = c.args.line.now in
    let found = c.in_ok-found.found in
    let begins = subst (λ ts. TakesObject found ts c.take_members.new.reader) (c.in-Ok-new.ensures.ok ∙ ap tokens c.in-Ok.ensures.cases.0) c.in_ok-found.ensures in
    edit_read line found c.edit.result c.requires c.in-Ok.ensures.cases.1 (subst (TakesObject found (tokens line)) c.in-None.ensures.value.0 begins) c.edit.ensures
