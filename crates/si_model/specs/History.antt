-- What a history is. Adya's thesis has histories of transactions in chapter 3, and in chapter 4 the time-precedes order: a start
-- precedes its own commit, and each commit precedes each other transaction's start or follows it. Stamps are that order: a
-- commit precedes another's start where its stamp is less. A transaction that writes nothing may have one stamp for its start
-- and its commit, which no definition compares then. Ids, stamps, unique pairs and set-up values are this project's choice.
use Rattle.std.specs.Prelude.{◌≡◌, ◌≢◌, ℕ, ◌<◌, ◌≤◌, List, Some, slice_get}
use Rattle.std.specs.List.{Contains, AllPairs}
use Rattle.si_model.specs.declared.numbers.Stamp.{Stamp}
use Rattle.si_model.specs.declared.numbers.Value.{Value}
use Rattle.si_model.specs.declared.operations.Op.TheVariants as op
use Rattle.si_model.specs.declared.transactions.Txn.{Txn}
use Rattle.si_model.specs.declared.parts.Part.{Part}
use Rattle.si_model.specs.declared.parts.OnKey.{OnKey}
use Rattle.si_model.specs.Parts.{Present}
use Rattle.si_model.specs.Versions.{commit_of, WritesAt, Writes}

-- T's operation at the place i writes v to x
abbrev pub WritesPairAt : Txn → ℕ → List ℕ → Value → Type 0
WritesPairAt T i x v = slice_get T.ops i ≡ Some (op.Write x v)

-- T writes at all
abbrev pub WritesSome : Txn → Type 0
WritesSome T = (i : ℕ) × (x : List ℕ) × (v : Value) × WritesPairAt T i x v

-- what is present can be what a database had
pub record IsHistory (P : Present) : Type 0 where
  -- a commit isn't less than its start
  pub forward : (T : Txn) (c : Stamp) → Contains P.txns T → commit_of T.status ≡ Some c → T.start.0 ≤ c.0
  -- and greater where the transaction writes
  pub apart : (T : Txn) (c : Stamp) → Contains P.txns T → commit_of T.status ≡ Some c → WritesSome T → T.start.0 < c.0
  -- ids are distinct
  pub names : AllPairs (λ A B. A.id ≢ B.id) P.txns
  -- the commit stamp of a transaction that writes equals no stamp of another
  pub stamps : (A B : Txn) (c : Stamp) → Contains P.txns A → Contains P.txns B → A.id ≢ B.id → commit_of A.status ≡ Some c → WritesSome A
      → (c ≢ B.start) × (commit_of B.status ≢ Some c)
  -- a pair of key and value is written by one write at most
  pub writes : (A B : Txn) (i j : ℕ) (x : List ℕ) (v : Value) → Contains P.txns A → Contains P.txns B → WritesPairAt A i x v → WritesPairAt B j x v
      → (A.id ≡ B.id) × (i ≡ j)
  -- a key is set up once at most
  pub keys : AllPairs (λ p q. p.0 ≢ q.0) P.initial
  -- and with no value that a transaction writes to it
  pub initial : (x : List ℕ) (v : Value) (T : Txn) (i : ℕ) → Contains P.initial (x, v) → Contains P.txns T → WritesPairAt T i x v → ⊥

-- what is on one key can be of a history: the same, said of the key, and operations at places that rise
pub record IsOfHistory (Q : OnKey) : Type 0 where
  pub forward : (T : Part) (c : Stamp) → Contains Q.parts T → commit_of T.status ≡ Some c → T.start.0 ≤ c.0
  pub apart : (T : Part) (c : Stamp) (v : Value) → Contains Q.parts T → commit_of T.status ≡ Some c → Writes T v → T.start.0 < c.0
  pub names : AllPairs (λ A B. A.id ≢ B.id) Q.parts
  pub stamps : (A B : Part) (c : Stamp) (v : Value) → Contains Q.parts A → Contains Q.parts B → A.id ≢ B.id → commit_of A.status ≡ Some c → Writes A v
      → (c ≢ B.start) × (commit_of B.status ≢ Some c)
  pub writes : (A B : Part) (i j : ℕ) (v : Value) → Contains Q.parts A → Contains Q.parts B → WritesAt A i v → WritesAt B j v → (A.id ≡ B.id) × (i ≡ j)
  pub initial : (v : Value) (T : Part) → Q.initial ≡ Some v → Contains Q.parts T → Writes T v → ⊥
  pub places : (T : Part) → Contains Q.parts T → AllPairs (λ a b. a.place < b.place) T.accesses
