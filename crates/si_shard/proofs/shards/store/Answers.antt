use Rattle.std.proofs.Common.{◌≡◌, ◌∙◌, ◌++◌, [], ◌∷◌, arith, length, length-append, nat_eq, rules, sym, ap, subst}
use Rattle.std.specs.HashMap.{get}
use Rattle.si_model.specs.Journals.{IsAccepted}
use Rattle.si_shard.specs.JournalShards.{Follows}
use Rattle.si_shard.specs.PresentTxns.{AreById}
use Rattle.si_shard.specs.ToldEdits.{AreTold}
use Rattle.si_shard.proofs.ById.{asked_is, entered}
use Rattle.si_shard.proofs.Following.{follows_longer, told_next}
use Rattle.si_shard.proofs.shards.store.Goals as goal

-- the edit that is stored next is told
told : (c : goal.After-from_ref) → AreTold (c.args.stored.now.items ++ c.args.edit ∷ []) c.args.shard.now.position c.from_ref.result.now
told c =
    let stored = c.args.stored.now.items in
    let at = get nat_eq c.args.present.now.by_id in
    let is = c.in-Ok.ensures in
    subst (AreTold (stored ++ c.args.edit ∷ []) c.args.shard.now.position) (sym c.from_ref.ensures.value)
    (told_next stored c.args.edit c.args.shard.now.position c.in-Ok.told c.requires.shard.position is.edit (is.before ∙ asked_is stored at (c.requires.shard.present c.requires.whole) c.args.edit))

pub apply_first-requires-clause-follows : goal.apply_first-requires-clause-follows
apply_first-requires-clause-follows c =
    let stored = c.args.stored.now.items in
    (stored ++ c.args.edit ∷ [], c.requires.accepted, follows_longer stored (c.args.edit ∷ []) c.args.shard.now c.requires.shard.follows, told c)

pub returns-clause-shard : goal.returns-clause-shard
returns-clause-shard c =
    let stored = c.args.stored.now.items in
    let e = c.args.edit in
    let J = stored ++ e ∷ [] in
    let shard = c.apply_first.new.self in
    let old = get nat_eq c.args.present.now.by_id in
    let new = get nat_eq c.tell.new.present.by_id in
    let items : c.push.new.self.items ≡ J = search rules in
    let is = c.in-Ok.ensures in
    let are = c.requires.shard.present c.requires.whole in
    let told_so = subst (AreTold J c.args.shard.now.position) (sym c.from_ref.ensures.value)
    (told_next stored e c.args.shard.now.position c.in-Ok.told c.requires.shard.position is.edit (is.before ∙ asked_is stored old are e)) in
    let far = (c.apply_first.ensures.first.whole (sym c.if-is_spoiled.ensures)).0 in
    let one = c.from_ref.ensures.len in
    let was = c.requires.shard.position in
    let long : shard.position ≡ length J = omega (arith, length-append stored (e ∷ []), far, one, was) in
    record {
      accepted = subst IsAccepted (sym items) c.requires.accepted;
      follows = subst (λ l. Follows l shard) (sym items) (c.apply_first.ensures.follows J c.requires.accepted (follows_longer stored (e ∷ []) c.args.shard.now c.requires.shard.follows) told_so);
      position = long ∙ ap (λ l. length l) (sym items);
      present = λ w. subst (λ l. AreById l new) (sym items) (entered stored old new are e c.requires.accepted is.entered);
    }
