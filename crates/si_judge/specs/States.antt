-- What is known of the state of a key, and what an edit makes of it. All of it is this project's choice.
use Rattle.std.specs.Prelude.{◌≡◌, ℕ, Bool, true, false, List, None, Option, Some}
use Rattle.std.specs.List.{Contains}
use Rattle.si_model.specs.declared.numbers.TxnId.{TxnId}
use Rattle.si_model.specs.declared.transactions.Status.TheVariants as status
use Rattle.si_model.specs.declared.parts.Part.{Part}
use Rattle.si_model.specs.declared.parts.OnKey.{OnKey}
use Rattle.si_model.specs.History.{IsOfHistory}
use Rattle.si_model.specs.Laws.{HaveSame}
use Rattle.si_judge.specs.declared.states.KeyFault.{KeyFault}
use Rattle.si_judge.specs.declared.states.KeyFault.TheVariants as fault
use Rattle.si_judge.specs.Kept.{Kept}
use Rattle.si_judge.specs.Touched.{IsBoundedBy}
use Rattle.si_judge.specs.Mending.{risen}

-- the state of a key
pub record State : Type 0 where
  pub key : List ℕ
  -- what is on the key, its transactions in whatever order
  pub present : OnKey
  -- how many answers its judge has given
  pub judged : ℕ
  -- whether memory was refused to an edit of it
  pub spoiled : Bool

-- what is on the key, whose transactions these are
abbrev pub present_of : Kept → List Part → OnKey
present_of s parts = record { initial = s.indexes.initial; parts = parts }

-- the same is on a key, in whatever order
pub record AreSameOnKey (Q R : OnKey) : Type 0 where
  pub initial : Q.initial ≡ R.initial
  pub parts : HaveSame Q.parts R.parts

-- a transaction of that id is on the key
abbrev pub HasPart : OnKey → TxnId → Type 0
HasPart Q u = (T : Part) × Contains Q.parts T × (T.id ≡ u)

-- one in doubt is
abbrev pub HasDoubt : OnKey → TxnId → Type 0
HasDoubt Q u = (T : Part) × Contains Q.parts T × (T.id ≡ u) × (T.status ≡ status.InDoubt)

-- after the edit of the state the same is on its key as was asked for, and the judgements are within the bound
pub record IsMended (IsTouchedRead : TxnId × ℕ → Type 0) (asked : OnKey) (old new : State) : Type 0 where
  pub key : new.key ≡ old.key
  pub present : AreSameOnKey asked new.present
  pub history : IsOfHistory new.present
  pub judged : (n : ℕ) × IsBoundedBy IsTouchedRead n × (new.judged ≡ risen old.judged n)
  pub whole : new.spoiled ≡ false

-- a state to which memory was refused is spoiled for good
abbrev pub IsSpoiledBy : State → State → Type 0
IsSpoiledBy old new = (new.key ≡ old.key) × (new.spoiled ≡ true)

-- the number of a key's fault, if it has one
abbrev pub key_fault_code : KeyFault → Option ℕ
key_fault_code fault.Spoiled = Some 41
key_fault_code fault.OutOfMemory = None
