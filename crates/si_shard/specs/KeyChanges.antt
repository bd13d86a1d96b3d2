-- What an edit is on one key. All of it is this project's choice.
use Rattle.std.specs.Prelude.{◌≡◌, None, ⊤}
use Rattle.std.specs.List.{Contains}
use Rattle.si_model.specs.declared.parts.OnKey.{OnKey}
use Rattle.si_model.specs.Findings.{cases}
use Rattle.si_model.specs.KeyEdits.{arrived_on, resolved_on, set_up_on, withdrawn_on}
use Rattle.si_model.specs.History.{IsOfHistory}
use Rattle.si_judge.specs.Kept.{IsInDoubt, Kept, WouldShow}
use Rattle.si_shard.specs.declared.key_changes.Change.{Change}
use Rattle.si_shard.specs.declared.key_changes.Change.TheVariants as change

-- what is on the key after the change
abbrev pub changed_on : Change → OnKey → OnKey
changed_on (change.Arrive T) Q = arrived_on T Q
changed_on (change.Resolve T o) Q = resolved_on T.id o Q
changed_on (change.Withdraw T) Q = withdrawn_on T.id Q
changed_on (change.SetUp v) Q = set_up_on v Q

-- what the change asks for
abbrev pub AsksRightly : Change → OnKey → Type 0
AsksRightly (change.Arrive T) Q = ⊤
AsksRightly (change.Resolve T o) Q = IsInDoubt T Q
AsksRightly (change.Withdraw T) Q = Contains Q.parts T
AsksRightly (change.SetUp v) Q = Q.initial ≡ None

-- the change can be made
pub record CanChange (c : Change) (Q : OnKey) : Type 0 where
  pub asks : AsksRightly c Q
  pub history : IsOfHistory (changed_on c Q)

-- what is kept of a key after its change: whatever it would show once its marked reads are judged, it would show what the change makes of
-- that
pub record IsChanged (c : Change) (old new : Kept) : Type 0 where
  pub key : new.key ≡ old.key
  pub shows : (Q : OnKey) → WouldShow cases Q old → CanChange c Q → WouldShow cases (changed_on c Q) new
