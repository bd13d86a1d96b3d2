use Rattle.std.proofs.Common.{◌∷◌, sym, ap, ◌∙◌, subst}
use Rattle.json.specs.Reads.{token_of}
use Rattle.si_text.specs.FoundMembers.{TakesValue}
use Rattle.si_text.specs.declared.found_members.Member.TheVariants.{Ops}
use Rattle.si_text.proofs.TokenOperations.{ops_taken}
use Rattle.si_text.proofs.token_lines.take_ops.Goals as goal

pub returns : goal.returns
returns c =
    let begins = c.in-Some-BeginArray.ensures.value ∙ ap (λ t. token_of t ∷ c.next.new.self) c.in-Some-BeginArray.field-0-is in
    subst (λ ops. TakesValue (Ops ops) c.args.reader.now c.gather.new.reader) (sym (c.in-Ok.ensures ∙ c.in_ok-ops.ensures))
    (ops_taken c.gather.new.ops.items c.args.reader.now c.next.new.self c.gather.new.reader begins c.in_ok-gather.ensures.items c.in_ok-gather.ensures.few)
