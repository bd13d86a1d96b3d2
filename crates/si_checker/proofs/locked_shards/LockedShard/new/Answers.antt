use Rattle.std.proofs.Common.{rules, sym, subst}
use Rattle.si_model.specs.Journals.{IsAccepted}
use Rattle.si_shard.proofs.Beginnings.{none_accepted}
use Rattle.si_words.specs.declared.views.ShardView.{ShardView}
use Rattle.si_words.specs.Seats.{Seated}
use Rattle.si_words.specs.Entries.{edits_of}
use Rattle.si_checker.proofs.locked_shards.LockedShard.new.Goals as goal

pub invariant_of-result : goal.invariant_of-result
invariant_of-result g c = record {
  table = search rules;
  number = search rules;
  id = search rules;
  accepted = subst (λ (s : Seated ShardView). IsAccepted (edits_of s.view.due)) (sym c.requires.seat) none_accepted;
  room = search rules;
  within = search rules;
  position = search rules;
  follows = c.new-shard.ensures.follows (edits_of c.args.seat.view.due);
  left = search rules;
}
