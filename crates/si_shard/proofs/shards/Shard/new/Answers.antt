use Rattle.std.proofs.Common.{◌∙◌, length, nat_eq, sym, ap, subst}
use Rattle.std.specs.HashMap.{get}
use Rattle.si_model.specs.Journals.{IsAccepted}
use Rattle.si_shard.specs.JournalShards.{JournalState}
use Rattle.si_shard.specs.PresentTxns.{AreById}
use Rattle.si_shard.proofs.Beginnings.{none_accepted}
use Rattle.si_shard.proofs.shards.Shard.new.Goals as goal

pub invariant_of-result : goal.invariant_of-result
invariant_of-result c =
    let none = c.new-2.ensures.items in
    record {
      accepted = subst IsAccepted (sym none) none_accepted;
      follows = c.new.ensures.follows c.new-2.result.items;
      position = ap (λ (s : JournalState). s.position) c.new.ensures.state ∙ sym (ap (λ l. length l) none);
      present = λ e. subst (λ l. AreById l (get nat_eq c.new-3.result.by_id)) (sym none) c.new-3.ensures;
    }
