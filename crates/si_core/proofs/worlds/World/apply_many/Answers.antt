use Rattle.std.proofs.Common.{◌∙◌, true≢false, inl, inr, sym, subst, arith, refl}
use Rattle.si_core.specs.declared.steps.Reply.TheVariants as reply
use Rattle.si_core.specs.Machine.{IsApply, TellsPosition}
use Rattle.si_core.proofs.Applications.{one_more_applied, told_position}
use Rattle.si_core.proofs.worlds.World.apply_many.Goals as goal

pub returns-then-not-is_applied : goal.returns-then-not-is_applied
returns-then-not-is_applied c =
    let some = c.requires in (
      0,
      c.args.self.now,
      refl,
      inr (omega arith, c.apply-last.result, (λ p e. true≢false (sym (c.is_applied.ensures.1 (p, e)) ∙ c.if-not-is_applied.true)), c.apply-last.ensures, inl (refl, refl)),
    )

pub loop-applied-init : goal.loop-applied-init
loop-applied-init c =
    let M = c.args.self.now in
    let N = c.apply-last.new.self in
    let k = c.args.shard in
    let told = c.is_applied.ensures.0 c.if-not-is_applied.false in
    let step : IsApply M k (reply.Applied told.0) N = subst (λ r. IsApply M k r N) told.1 c.apply-last.ensures in
    (one_more_applied 0 M M N k told.0 refl step, subst (TellsPosition N k) (sym told.1) (told_position M N k told.0 step))

pub loop-applied-preserved : goal.loop-applied-preserved
loop-applied-preserved c =
    let M = c.loop-applied.self in
    let N = c.apply-reply.new.self in
    let k = c.args.shard in
    let told = c.is_applied-in-loop-applied.ensures.0 c.if-not-is_applied-2.false in
    let step : IsApply M k (reply.Applied told.0) N = subst (λ r. IsApply M k r N) told.1 c.apply-reply.ensures in
    (one_more_applied c.loop-applied._applied c.args.self.now M N k told.0 c.loop-applied.invariant.0 step, subst (TellsPosition N k) (sym told.1) (told_position M N k told.0 step))

pub returns-then-not-is_applied-2 : goal.returns-then-not-is_applied-2
returns-then-not-is_applied-2 c = (
  c.loop-applied._applied,
  c.loop-applied.self,
  c.loop-applied.invariant.0,
  inr (
    c.loop-applied-test.true,
    c.apply-reply.result,
    (λ p e. true≢false (sym (c.is_applied-in-loop-applied.ensures.1 (p, e)) ∙ c.if-not-is_applied-2.true)),
    c.apply-reply.ensures,
    inr (c.loop-applied.auto._applied, c.loop-applied.invariant.1),
  ),
)

pub returns : goal.returns
returns c =
    let some = c.requires in
    let most = c.loop-applied.auto._applied-end some in
    let far = c.loop-applied-test.false in
    (c.loop-applied._applied, c.loop-applied.self, c.loop-applied.invariant.0, inl (omega arith, refl, c.loop-applied.invariant.1))
