use Rattle.std.proofs.Common.{sym, ◌∙◌, subst}
use Rattle.json.specs.Lex.{fresh, after_value}
use Rattle.si_text.specs.FoundMembers.{TakesValue}
use Rattle.si_text.specs.UsualBytes.{left}
use Rattle.si_text.specs.declared.found_members.Member.TheVariants.{Ops}
use Rattle.si_text.proofs.TokenOperations.{ops_taken}
use Rattle.si_text.proofs.UsualLines.{array_begun}
use Rattle.si_text.proofs.usual_lines.take_ops.Goals as goal

pub returns : goal.returns
returns c =
    let items = c.gather.new.ops.items in
    subst (λ ops. TakesValue (Ops ops) (left fresh c.args.rest.now) (left after_value c.gather.new.rest)) (sym (c.in-Ok.ensures ∙ c.in_ok-ops.ensures))
    (ops_taken items (left fresh c.args.rest.now) (left fresh c.take.new.self) (left after_value c.gather.new.rest) (array_begun c.args.rest.now c.take.new.self c.if-not-take.ensures) c.in_ok-gather.ensures.items c.in_ok-gather.ensures.few)
