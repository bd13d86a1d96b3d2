use Rattle.std.proofs.Common.{rules, ◌≡◌, ◌+◌, ◌∷◌, [], ◌++◌, length, sym, ap, subst, refl, arith}
use Rattle.std.specs.Vec.{vec_len}
use Rattle.si_core.specs.Machine.{IsRun}
use Rattle.si_core.proofs.Applications.{one_more_step}
use Rattle.si_core.proofs.worlds.World.run.Goals as goal

pub loop-step-init : goal.loop-step-init
loop-step-init c =
    let none = c.in_ok-replies.ensures.len in
    let room = c.in_ok-replies.ensures.capacity in
    let count = c.len.ensures in
    let long = ap (λ l. length l) c.into_iter-step-iterator.ensures.into_iter_gives.0 in
    (subst (λ rs. IsRun c.args.self.now [] rs c.args.self.now) (sym c.in_ok-replies.ensures.items) refl, search rules)

pub unwrap-requires : goal.unwrap-requires
unwrap-requires c =
    let left = ap (λ l. length l) c.in-Some.ensures.steps.0 in
    let room = c.loop-step.invariant.1 in
    c.push.ensures.succeeds (omega arith)

pub loop-step-preserved : goal.loop-step-preserved
loop-step-preserved c =
    let items : c.push.new.self.items ≡ c.loop-step.replies.items ++ c.step.result ∷ [] = search rules in
    let one : vec_len c.push.new.self ≡ vec_len c.loop-step.replies + 1 = search rules in
    let left = ap (λ l. length l) c.in-Some.ensures.steps.0 in
    let room = c.loop-step.invariant.1 in
    let grows = c.push.ensures.capacity in (
      subst (λ rs. IsRun c.args.self.now (c.loop-step.yielded ++ c.in-Some.step ∷ []) rs c.step.new.self) (sym items)
          (one_more_step c.args.self.now c.loop-step.self c.step.new.self c.loop-step.yielded c.loop-step.replies.items c.in-Some.step c.step.result c.loop-step.invariant.0 c.step.ensures),
      omega arith,
    )
