-- The state of one key follows what is present, in whatever order its transactions are: what an edit of what is present makes of
-- the key, and what it asks of the key. All of it is this project's choice.
use Rattle.std.specs.Prelude.{◌≡◌, ℕ, false, List, [], Some, None}
use Rattle.std.specs.List.{Contains}
use Rattle.si_model.specs.declared.numbers.TxnId.{TxnId}
use Rattle.si_model.specs.declared.numbers.Value.{Value}
use Rattle.si_model.specs.declared.transactions.Outcome.{Outcome}
use Rattle.si_model.specs.declared.transactions.Txn.{Txn}
use Rattle.si_model.specs.declared.parts.Part.{Part}
use Rattle.si_model.specs.declared.parts.OnKey.{OnKey}
use Rattle.si_model.specs.declared.edits.Edit.{Edit}
use Rattle.si_model.specs.declared.edits.Edit.TheVariants as edit
use Rattle.si_model.specs.Parts.{Present, part, on_key}
use Rattle.si_model.specs.History.{IsHistory, IsOfHistory}
use Rattle.si_model.specs.Edits.{IsAcceptable, after}
use Rattle.si_model.specs.Journals.{nothing}
use Rattle.si_model.specs.KeyEdits.{edited_on, resolved_on, withdrawn_on}
use Rattle.si_judge.specs.States.{AreSameOnKey, HasDoubt, HasPart, State}

-- ---- the same on a key

-- to have the same on a key is an equivalence
pub record SameIsSame : Type 0 where
  pub reflexive : (Q : OnKey) → AreSameOnKey Q Q
  pub symmetric : (Q R : OnKey) → AreSameOnKey Q R → AreSameOnKey R Q
  pub transitive : (Q R S : OnKey) → AreSameOnKey Q R → AreSameOnKey R S → AreSameOnKey Q S

-- nothing is on a key
abbrev pub empty_key : OnKey
empty_key = record { initial = None; parts = [] }

-- before any edit there is nothing on any key, and this is of a history
pub record NothingIsOfHistory : Type 0 where
  pub present : IsHistory nothing
  pub on_key : (x : List ℕ) → on_key x nothing ≡ empty_key
  pub of_history : IsOfHistory empty_key

-- the state is that of the key x of what is present
pub record IsStateOf (P : Present) (x : List ℕ) (s : State) : Type 0 where
  pub key : s.key ≡ x
  pub same : AreSameOnKey (on_key x P) s.present
  pub history : IsOfHistory s.present
  pub whole : s.spoiled ≡ false

-- ---- what an edit makes of a key

-- an acceptable edit makes the same of the key as of what is present
abbrev pub EditsFollow : Type 0
EditsFollow = (P : Present) (e : Edit) (x : List ℕ) (Q : OnKey) → IsHistory P → IsAcceptable P e → AreSameOnKey (on_key x P) Q → IsOfHistory Q
    → IsOfHistory (edited_on x e Q) × AreSameOnKey (on_key x (after e P)) (edited_on x e Q)

-- an edit of a transaction that isn't on the key leaves the key as it is
pub record OthersPass : Type 0 where
  pub resolution : (u : TxnId) (o : Outcome) (Q : OnKey) → (HasPart Q u → ⊥) → resolved_on u o Q ≡ Q
  pub withdrawal : (u : TxnId) (Q : OnKey) → (HasPart Q u → ⊥) → withdrawn_on u Q ≡ Q

-- ---- what an edit asks of a key

-- a present transaction that does something on the key is on it
abbrev pub PartsAreHad : Type 0
PartsAreHad = (P : Present) (x : List ℕ) (T : Txn) (R : Part) (Q : OnKey) → AreSameOnKey (on_key x P) Q → Contains P.txns T → part x T ≡ Some R
    → HasPart Q T.id

-- and one that does nothing there isn't
abbrev pub OthersAreNotHad : Type 0
OthersAreNotHad = (P : Present) (x : List ℕ) (T : Txn) (Q : OnKey) → IsHistory P → AreSameOnKey (on_key x P) Q → Contains P.txns T → part x T ≡ None
    → HasPart Q T.id → ⊥

-- one that may be resolved, where it is on the key, is in doubt there
abbrev pub ResolutionsFollow : Type 0
ResolutionsFollow = (P : Present) (u : TxnId) (o : Outcome) (x : List ℕ) (Q : OnKey) → IsHistory P → IsAcceptable P (edit.Resolve u o)
    → AreSameOnKey (on_key x P) Q → HasPart Q u → HasDoubt Q u

-- a key that may be set up isn't yet
abbrev pub SetUpsFollow : Type 0
SetUpsFollow = (P : Present) (x : List ℕ) (v : Value) (Q : OnKey) → IsAcceptable P (edit.SetUp x v) → AreSameOnKey (on_key x P) Q → Q.initial ≡ None
