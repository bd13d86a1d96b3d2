use Rattle.si_model.specs.Parts.{on_key}
use Rattle.si_model.specs.Journals.{present}
use Rattle.si_judge.specs.Following.{empty_key}
use Rattle.si_shard.specs.AppliedEdits.{found_first}
use Rattle.si_shard.proofs.AppliedEach.{ok_both}
use Rattle.si_shard.proofs.applied_edits.Applied.settle.Goals as goal

pub returns : goal.returns
returns c = ok_both c.settle.result c.settle.ensures.settled c.settle.ensures.noted (λ done keeps id J sound. record {
  applied = record {
    ours = λ x ours. done.stays x (on_key x (present J)) (sound.ours x ours);
    others = λ x other. done.stays x empty_key (sound.others x other);
    noted = λ n is. (let are = sound.noted n is in record { within = are.within; found = keeps (found_first id J n) are.found });
  };
  settled = done.none;
})
