use Rattle.std.proofs.Common.{refl, sym, subst}
use Rattle.std.specs.Option.{option_copied}
use Rattle.si_shard.specs.SingleEdits.{CanBeMadeBy, IsMadeBy}
use Rattle.si_shard.proofs.AppliedEach.{applied_next, can_be_made, ok_both}
use Rattle.si_shard.proofs.applied_edits.Applied.apply.Goals as goal

pub make_each-requires-clause-can : goal.make_each-requires-clause-can
make_each-requires-clause-can c =
    let n = c.requires.next in
    subst (λ t. CanBeMadeBy c.args.id t c.args.edit.now c.args.self.now.keys) (sym c.txn_of-txn.ensures) (can_be_made c.args.id n.0 c.args.edit.now (option_copied c.args.before) n.2 c.args.self.now n.1)

pub returns : goal.returns
returns c =
    let old = c.args.self.now in
    let keys = c.make_each.new.keys in
    ok_both c.make_each.result c.make_each.ensures.made c.make_each.ensures.noted (λ made keeps J sound next.
    applied_next c.args.id J c.args.edit.now (option_copied c.args.before) next old sound (record { alloc = old.alloc; keys = keys; ahead = c.make_each.new.ahead; noted = old.noted }) refl
    (subst (λ t. IsMadeBy c.args.id t c.args.edit.now old.keys keys) c.txn_of-txn.ensures made) keeps)
