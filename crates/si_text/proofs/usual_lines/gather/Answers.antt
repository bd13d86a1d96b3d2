use Rattle.std.proofs.Common.{◌∷◌, [], subst, sym, arith, refl}
use Rattle.json.specs.Lex.{fresh, after_value}
use Rattle.si_text.specs.TokenOperations.{TakesItems}
use Rattle.si_text.specs.UsualBytes.{left}
use Rattle.si_text.proofs.UsualLines.{taken_after, bracket_taken, AreGathered, one_gathered, all_gathered}
use Rattle.si_text.proofs.usual_lines.gather.Goals as goal

pub returns-then-take-clause-items : goal.returns-then-take-clause-items
returns-then-take-clause-items c =
    subst (λ ops. TakesItems ops (left fresh c.args.rest.now) (left after_value c.take.new.self)) (sym c.clear.ensures.items) (bracket_taken c.args.rest.now c.take.new.self c.if-take.ensures).1

pub returns-then-take-2-clause-items : goal.returns-then-take-2-clause-items
returns-then-take-2-clause-items c =
    subst (λ ops. TakesItems ops (left fresh c.args.rest.now) (left after_value c.take-in-ops.new.self)) (sym (c.if-not-put.ensures refl))
    (all_gathered c.args.rest.now c.ops.rest c.take_op.new.rest c.take-in-ops.new.self c.ops.ops.items c.in_ok-op.op c.ops.invariant c.in_ok-op.ensures c.if-take-2.ensures)

pub ops-preserved : goal.ops-preserved
ops-preserved c =
    subst (AreGathered c.args.rest.now c.take-in-ops-2.new.self) (sym (c.if-not-put.ensures refl))
    (one_gathered c.args.rest.now c.ops.rest c.take_op.new.rest c.take-in-ops-2.new.self c.ops.ops.items c.in_ok-op.op c.ops.invariant c.in_ok-op.ensures (omega arith)
    (taken_after (44 ∷ []) c.take_op.new.rest c.take-in-ops.new.self c.take-in-ops-2.new.self c.if-take-2.ensures c.if-not-take.ensures))
