-- What each kind of change makes of whatever may be on the key.
use Rattle.std.proofs.Common.{◌≡◌, None, OnOk, Ok, Err}
use Rattle.std.specs.List.{Contains}
use Rattle.std.specs.declared.result.Result.{Result}
use Rattle.si_model.specs.declared.numbers.Value.{Value}
use Rattle.si_model.specs.declared.transactions.Outcome.{Outcome}
use Rattle.si_model.specs.declared.parts.Part.{Part}
use Rattle.si_model.specs.declared.parts.OnKey.{OnKey}
use Rattle.si_model.specs.Findings.{cases}
use Rattle.si_model.specs.History.{IsOfHistory}
use Rattle.si_model.specs.KeyEdits.{arrived_on, resolved_on, set_up_on, withdrawn_on}
use Rattle.si_judge.specs.Kept.{IsInDoubt, Kept, WouldShow}
use Rattle.si_judge.specs.States.{AreSameOnKey}
use Rattle.si_judge.proofs.Following.{same_itself}
use Rattle.si_shard.specs.declared.key_changes.Change.TheVariants as change
use Rattle.si_shard.specs.KeyChanges.{IsChanged}

module _ {A E : Type 0} (old new : Kept) (key : new.key ≡ old.key) where
  pub by_arrival : (r : Result A E) (T : Part)
      → OnOk r ((Q R : OnKey) → WouldShow cases Q old → IsOfHistory (arrived_on T Q) → AreSameOnKey (arrived_on T Q) R → IsOfHistory R → WouldShow cases R new)
      → OnOk r (IsChanged (change.Arrive T) old new)
  by_arrival (Ok a) T ok = record { key = key; shows = λ Q shows can. ok Q (arrived_on T Q) shows can.history (same_itself (arrived_on T Q)) can.history }
  by_arrival (Err e) T ok = tt

  pub by_resolution : (r : Result A E) (T : Part) (o : Outcome)
      → OnOk r ((Q R : OnKey) → WouldShow cases Q old → IsInDoubt T Q → AreSameOnKey (resolved_on T.id o Q) R → IsOfHistory R → WouldShow cases R new)
      → OnOk r (IsChanged (change.Resolve T o) old new)
  by_resolution (Ok a) T o ok = record { key = key; shows = λ Q shows can. ok Q (resolved_on T.id o Q) shows can.asks (same_itself (resolved_on T.id o Q)) can.history }
  by_resolution (Err e) T o ok = tt

  pub by_withdrawal : (r : Result A E) (T : Part)
      → OnOk r ((Q R : OnKey) → WouldShow cases Q old → Contains Q.parts T → AreSameOnKey (withdrawn_on T.id Q) R → IsOfHistory R → WouldShow cases R new)
      → OnOk r (IsChanged (change.Withdraw T) old new)
  by_withdrawal (Ok a) T ok = record { key = key; shows = λ Q shows can. ok Q (withdrawn_on T.id Q) shows can.asks (same_itself (withdrawn_on T.id Q)) can.history }
  by_withdrawal (Err e) T ok = tt

  pub by_set_up : (r : Result A E) (v : Value)
      → OnOk r ((Q : OnKey) → WouldShow cases Q old → Q.initial ≡ None → IsOfHistory (set_up_on v Q) → WouldShow cases (set_up_on v Q) new)
      → OnOk r (IsChanged (change.SetUp v) old new)
  by_set_up (Ok a) v ok = record { key = key; shows = λ Q shows can. ok Q shows can.asks can.history }
  by_set_up (Err e) v ok = tt
