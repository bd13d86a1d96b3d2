use Rattle.std.proofs.Common.{OnOk, subst, sym}
use Rattle.si_shard.specs.KeyChanges.{CanChange, IsChanged}
use Rattle.si_shard.proofs.Changing.{by_arrival, by_resolution, by_set_up, by_withdrawal}
use Rattle.si_shard.proofs.key_changes.make_change.Goals as goal

pub arrive_later-requires : goal.arrive_later-requires
arrive_later-requires c = let can = subst (λ k. CanChange k c.requires.0) c.in-Arrive.is c.requires.2 in (c.requires.0, c.requires.1, can.history)

pub resolve_later-requires : goal.resolve_later-requires
resolve_later-requires c = let can = subst (λ k. CanChange k c.requires.0) c.in-Resolve.is c.requires.2 in (c.requires.0, c.requires.1, can.asks, can.history)

pub withdraw_later-requires : goal.withdraw_later-requires
withdraw_later-requires c = let can = subst (λ k. CanChange k c.requires.0) c.in-Withdraw.is c.requires.2 in (c.requires.0, c.requires.1, can.asks)

pub returns-in-Arrive-clause-changed : goal.returns-in-Arrive-clause-changed
returns-in-Arrive-clause-changed c = subst (λ k. OnOk c.arrive_later.result (IsChanged k c.args.kept.now c.arrive_later.new.self)) (sym c.in-Arrive.is) (by_arrival c.args.kept.now c.arrive_later.new.self c.arrive_later.ensures.key c.arrive_later.result c.in-Arrive.part c.arrive_later.ensures.ok)

pub returns-in-Resolve-clause-changed : goal.returns-in-Resolve-clause-changed
returns-in-Resolve-clause-changed c = subst (λ k. OnOk c.resolve_later.result (IsChanged k c.args.kept.now c.resolve_later.new.self)) (sym c.in-Resolve.is) (by_resolution c.args.kept.now c.resolve_later.new.self c.resolve_later.ensures.key c.resolve_later.result c.in-Resolve.part c.in-Resolve.outcome c.resolve_later.ensures.ok)

pub returns-in-Withdraw-clause-changed : goal.returns-in-Withdraw-clause-changed
returns-in-Withdraw-clause-changed c = subst (λ k. OnOk c.withdraw_later.result (IsChanged k c.args.kept.now c.withdraw_later.new.self)) (sym c.in-Withdraw.is) (by_withdrawal c.args.kept.now c.withdraw_later.new.self c.withdraw_later.ensures.key c.withdraw_later.result c.in-Withdraw.part c.withdraw_later.ensures.ok)

pub returns-in-SetUp-clause-changed : goal.returns-in-SetUp-clause-changed
returns-in-SetUp-clause-changed c = subst (λ k. OnOk c.set_up_later.result (IsChanged k c.args.kept.now c.set_up_later.new.self)) (sym c.in-SetUp.is) (by_set_up c.args.kept.now c.set_up_later.new.self c.set_up_later.ensures.key c.set_up_later.result c.in-SetUp.value c.set_up_later.ensures.ok)
