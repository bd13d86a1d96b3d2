-- Histories whose committed transactions read snapshots and don't overlap: each read of one returned its own write or what was committed
-- last before its start, and of two that write one key, one commits before the other one starts. Nothing here speaks of versions,
-- edges, phenomena or findings. That stamps tell what is before a start is this project's choice.
use Rattle.std.specs.Prelude.{◌≢◌, ◌⊎◌, ℕ, ◌<◌, List, Option}
use Rattle.si_model.specs.declared.numbers.Stamp.{Stamp}
use Rattle.si_model.specs.declared.numbers.Value.{Value}
use Rattle.si_model.specs.declared.transactions.Txn.{Txn}
use Rattle.si_model.specs.Parts.{Present}
use Rattle.si_graph.specs.Serial.{ReadsAt, Commits, CommitsWrite, Gives}

-- each read of a committed transaction returned what the transaction wrote last to the key before, if it did, and else what the last of
-- those that wrote the key and committed before the transaction's start has left there, or what the key was set up with
abbrev pub ReadSnapshots : Present → Type 0
ReadSnapshots P = (T : Txn) (c : Stamp) (i : ℕ) (x : List ℕ) (v : Option Value) → Commits P T c → ReadsAt T i x v → Gives P T T.start i x v

-- of two committed transactions that write one key, one commits before the other one starts
abbrev pub WriteApart : Present → Type 0
WriteApart P = (T U : Txn) (c d : Stamp) (x : List ℕ) → CommitsWrite P T c x → CommitsWrite P U d x → T.id ≢ U.id → (c.0 < U.start.0) ⊎ (d.0 < T.start.0)

-- both: this is what a database means by snapshot isolation
pub record IsSnapshot (P : Present) : Type 0 where
  pub reads : ReadSnapshots P
  pub apart : WriteApart P
