use Rattle.std.proofs.Common.{◌∙◌, ◌≤◌, arith, length, nat_eq, ap, subst, take}
use Rattle.std.specs.HashMap.{get}
use Rattle.std.proofs.lemmas.List.{take_all}
use Rattle.si_shard.specs.JournalShards.{Follows, JournalState}
use Rattle.si_shard.specs.PresentTxns.{AreById}
use Rattle.si_shard.proofs.shards.Shard.rebuild.Goals as goal

pub invariant_of-self-2 : goal.invariant_of-self-2
invariant_of-self-2 c =
    let stored = c.self.inside.stored.items in
    let old = c.self.inside.shard in
    let told = c.in_ok-self-inside.ensures in
    let all : length stored ≤ old.position = (let p = c.self.invariant.position in omega arith) in
    record {
      accepted = c.self.invariant.accepted;
      follows = subst (λ l. Follows l c.rebuild_with.new.self) c.deref.ensures.value told.follows;
      position = ap (λ (s : JournalState). s.position) told.ok ∙ c.self.invariant.position;
      present = λ e. subst (λ l. AreById l (get nat_eq c.in_ok-self-inside.field-0.by_id)) (ap (take old.position) c.deref.ensures.value ∙ take_all old.position stored all) told.present;
    }
