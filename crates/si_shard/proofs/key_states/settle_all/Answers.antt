use Rattle.std.proofs.Common.{◌≡◌, ◌∙◌, ◌≤◌, Some, ap, length, slice_get, subst, sym}
use Rattle.std.proofs.lemmas.List.{take_all}
use Rattle.std.proofs.lemmas.Option.{slice_get-get_or}
use Rattle.si_shard.specs.KeyStates.{AreKeysSettled}
use Rattle.si_shard.proofs.Following.{taken_next}
use Rattle.si_shard.proofs.OnKeys.{settled_more, settled_none_yet}
use Rattle.si_shard.proofs.key_states.settle_all.Goals as goal

pub loop-key-init : goal.loop-key-init
loop-key-init c = (settled_none_yet c.args.states.now c.args.found.now, λ found was. was)

pub loop-key-preserved : goal.loop-key-preserved
loop-key-preserved c =
    let keys = c.args.marked.now in
    let i = c.loop-key.key-index in
    let k = c.key-item.result in
    let at : slice_get keys i ≡ Some k = slice_get-get_or keys i k c.loop-key-test.true ∙ ap Some (sym c.key-item.is) in (
      subst (λ l. AreKeysSettled l c.args.states.now c.settle_key.new.states c.args.found.now c.settle_key.new.found) (taken_next keys i k at)
          (settled_more _ k c.args.states.now c.loop-key.states c.settle_key.new.states c.loop-key.found c.settle_key.new.found c.in_ok-settle_key.ensures.settled c.args.found.now c.loop-key.invariant.0),
      λ found was. c.in_ok-settle_key.ensures.noted found (c.loop-key.invariant.1 found was),
    )

pub returns-clause-settled : goal.returns-clause-settled
returns-clause-settled c =
    let keys = c.args.marked.now in
    let all : length keys ≤ c.loop-key.key-index = c.loop-key-test.false in
    subst (λ l. AreKeysSettled l c.args.states.now c.loop-key.states c.args.found.now c.loop-key.found) (take_all c.loop-key.key-index keys all) c.loop-key.invariant.0
