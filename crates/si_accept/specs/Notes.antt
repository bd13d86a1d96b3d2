-- The transactions that resolutions and withdrawals of the journal are about, as they were before. All of it is this project's choice.
use Rattle.std.specs.Prelude.{◌≡◌, ℕ, ◌≤◌, nat_eq, nat_lt, if◌then◌else◌, List, length, Some, None, Option, take, slice_get, ⊤}
use Rattle.std.specs.HashMap.{get}
use Rattle.si_model.specs.declared.edits.Edit.{Edit}
use Rattle.si_model.specs.declared.edits.Edit.TheVariants as edit
use Rattle.si_model.specs.declared.transactions.Txn.{Txn}
use Rattle.si_model.specs.Edits.{with_id}
use Rattle.si_model.specs.Parts.{Present}
use Rattle.si_model.specs.Journals.{present}
use Rattle.si_accept.specs.declared.notes.Notes.{Notes}

-- the transaction that the edit resolves or withdraws, as it is before
abbrev pub txn_before : Present → Edit → Option Txn
txn_before P (edit.Arrive T) = None
txn_before P (edit.Resolve u o) = with_id P.txns u
txn_before P (edit.Withdraw u) = with_id P.txns u
txn_before P (edit.SetUp x v) = None

-- this is noted for that edit; of one that resolves and withdraws nothing nothing is asked
abbrev pub IsNoted : Present → Edit → Option Txn → Type 0
IsNoted P (edit.Arrive T) noted = ⊤
IsNoted P (edit.Resolve u o) noted = noted ≡ with_id P.txns u
IsNoted P (edit.Withdraw u) noted = noted ≡ with_id P.txns u
IsNoted P (edit.SetUp x v) noted = ⊤

-- what is noted for a place of the journal
abbrev pub noted_at : Notes → ℕ → Option Txn
noted_at n p = if nat_lt p n.middle then get nat_eq n.older p else get nat_eq n.newer p

-- from a place on the journal's resolutions and withdrawals are noted
pub record AreNotes (journal : List Edit) (n : Notes) : Type 0 where
  pub order : n.from ≤ n.middle
  pub within : n.middle ≤ length journal
  pub exact : (p : ℕ) (e : Edit) → n.from ≤ p → slice_get journal p ≡ Some e → IsNoted (present (take p journal)) e (noted_at n p)
