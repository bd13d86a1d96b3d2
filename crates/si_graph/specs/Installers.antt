-- Who installs a value, found by who writes it. This law is this project's.
use Rattle.std.specs.Prelude.{◌≡◌, ℕ, if◌then◌else◌, List, Option, Some, None}
use Rattle.si_model.specs.declared.numbers.TxnId.{TxnId}
use Rattle.si_model.specs.declared.numbers.Value.{Value}
use Rattle.si_model.specs.declared.operations.Op.TheVariants as op
use Rattle.si_model.specs.declared.transactions.Txn.{Txn}
use Rattle.si_model.specs.Parts.{Present}
use Rattle.si_model.specs.Edits.{with_id, writer_of_pair}
use Rattle.si_model.specs.History.{IsHistory}
use Rattle.si_graph.specs.EvidenceTests.{installs_value, installer_of}

-- the transaction, if there is one that installs the value
abbrev pub if_installer : List ℕ → Value → Option Txn → Option Txn
if_installer x v None = None
if_installer x v (Some T) = if installs_value x v T then Some T else None

-- the transaction of that id, if it installs the value
abbrev pub installer_with : List Txn → List ℕ → Value → Option TxnId → Option Txn
installer_with txns x v None = None
installer_with txns x v (Some u) = if_installer x v (with_id txns u)

-- of a history, who installs a value is its writer, if that one installs it
abbrev pub InstallerIsWriter : Type 0
InstallerIsWriter = (P : Present) (x : List ℕ) (v : Value) → IsHistory P → installer_of P.txns x v ≡ installer_with P.txns x v (writer_of_pair (op.Write x v) P.txns)
