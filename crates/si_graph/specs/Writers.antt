-- Of which transactions it depends whether a version is the next one. This law is this project's.
use Rattle.std.specs.Prelude.{◌≡◌, ℕ, List}
use Rattle.std.specs.List.{Contains, list_all}
use Rattle.si_model.specs.declared.numbers.Stamp.{Stamp}
use Rattle.si_model.specs.declared.numbers.Value.{Value}
use Rattle.si_model.specs.declared.sights.VersionId.{VersionId}
use Rattle.si_model.specs.declared.transactions.Txn.{Txn}
use Rattle.si_model.specs.History.{WritesPairAt}
use Rattle.si_graph.specs.EvidenceTests.{stays_out}

-- some of the transactions, among them all that write the key
pub record HaveWriters (x : List ℕ) (txns some : List Txn) : Type 0 where
  pub within : (T : Txn) → Contains some T → Contains txns T
  pub writers : (T : Txn) (i : ℕ) (w : Value) → Contains txns T → WritesPairAt T i x w → Contains some T

-- whether none installs a version of the key between two can be asked of them alone
abbrev pub WritersAreEnough : Type 0
WritersAreEnough = (x : List ℕ) (a : VersionId) (c : Stamp) (txns some : List Txn) → HaveWriters x txns some → list_all (stays_out x a c) some ≡ list_all (stays_out x a c) txns
