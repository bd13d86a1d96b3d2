use Rattle.std.proofs.Common.{◌∙◌, inl, inr, sym, subst, arith}
use Rattle.si_core.proofs.Least.{IsLeastBefore, first_least, least_of_all, next_least}
use Rattle.si_core.proofs.worlds.least_position.Goals as goal
use Rattle.si_core.proofs.worlds.least_position.Goals.{then-position-least, else-position-least}

pub loop-number-init : goal.loop-number-init
loop-number-init c =
    subst (IsLeastBefore c.args.shards.now 1) (sym c.position-least.ensures) (first_least c.args.shards.now c.index-shards-0.result (let r = c.requires in omega arith) c.index-shards-0.is)

pub loop-number-preserved : goal.loop-number-preserved
loop-number-preserved c =
    let shards = c.args.shards.now in
    let i = c.loop-number.number in
    let n = c.loop-number.least in
    let s = c.index-shards-number.result in
    let at = c.position-position.ensures in
    elim c.if-position-least.branch [
      | then-position-least w ↦ next_least shards i n c.if-position-least.least s c.loop-number-test.true c.index-shards-number.is c.loop-number.invariant
          (inl (w.least-is ∙ at, let t = w.if-position-least.true in let e = w.least-is in omega arith))
      | else-position-least w ↦ next_least shards i n c.if-position-least.least s c.loop-number-test.true c.index-shards-number.is c.loop-number.invariant
          (inr (w.least-is, let t = w.if-position-least.false in omega arith))
    ]

pub returns : goal.returns
returns c = least_of_all c.args.shards.now c.loop-number.number c.loop-number.least c.loop-number-test.false c.loop-number.invariant
