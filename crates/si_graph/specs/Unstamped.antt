-- What a history says without its stamps: forks and knots. Nothing here looks at a stamp, so it is so of all histories that differ in
-- stamps alone. These words are this project's.
use Rattle.std.specs.Prelude.{◌≡◌, ◌≢◌, ℕ, ◌<◌, true, List, [], ◌∷◌, Some, Option, ⊤, map}
use Rattle.std.specs.List.{Contains}
use Rattle.si_model.specs.declared.numbers.TxnId.{TxnId}
use Rattle.si_model.specs.declared.numbers.Stamp.{Stamp}
use Rattle.si_model.specs.declared.numbers.Value.{Value}
use Rattle.si_model.specs.declared.transactions.Status.{Status}
use Rattle.si_model.specs.declared.transactions.Status.TheVariants as status
use Rattle.si_model.specs.declared.transactions.Txn.{Txn}
use Rattle.si_model.specs.declared.evidence.Label.{Label}
use Rattle.si_model.specs.declared.evidence.Label.TheVariants as label
use Rattle.si_model.specs.declared.evidence.Edge.{Edge}
use Rattle.si_model.specs.declared.evidence.KeyedEdge.{KeyedEdge}
use Rattle.si_model.specs.Parts.{Present}
use Rattle.si_model.specs.History.{WritesPairAt}
use Rattle.si_graph.specs.Serial.{ReadsAt, IsLastWrite}
use Rattle.si_graph.specs.Walks.{IsClosed, is_rw_edge}

-- ---- other stamps

-- both are committed, whatever their stamps, or both are aborted, or both in doubt
abbrev pub IsSameOutcome : Status → Status → Type 0
IsSameOutcome (status.Committed c) (status.Committed d) = ⊤
IsSameOutcome status.Aborted status.Aborted = ⊤
IsSameOutcome status.InDoubt status.InDoubt = ⊤
IsSameOutcome s t = ⊥

-- U is T with other stamps, or the same
pub record IsRestamped (T U : Txn) : Type 0 where
  pub id : U.id ≡ T.id
  pub ops : U.ops ≡ T.ops
  pub outcome : IsSameOutcome T.status U.status

-- Q is P with other stamps, or the same
pub record HasOtherStamps (P Q : Present) : Type 0 where
  pub initial : Q.initial ≡ P.initial
  pub kept : (T : Txn) → Contains P.txns T → (U : Txn) × Contains Q.txns U × IsRestamped T U
  pub alone : (U : Txn) → Contains Q.txns U → (T : Txn) × Contains P.txns T × IsRestamped T U

-- ---- what is read and written

-- T is a committed transaction of that id, whatever its stamp
pub record IsCommitted (P : Present) (u : TxnId) (T : Txn) : Type 0 where
  pub txn : Contains P.txns T
  pub id : T.id ≡ u
  pub committed : (c : Stamp) × (T.status ≡ status.Committed c)

-- T's operation at the place i read x before T wrote it, and returned v
pub record ReadsFirst (T : Txn) (i : ℕ) (x : List ℕ) (v : Option Value) : Type 0 where
  pub reads : ReadsAt T i x v
  pub unwritten : (j : ℕ) (w : Value) → WritesPairAt T j x w → j < i → ⊥

-- T read x before it wrote it, the read returned v, and it wrote x
pub record ReadsAndWrites (T : Txn) (x : List ℕ) (v : Option Value) : Type 0 where
  pub place : ℕ
  pub read : ReadsFirst T place x v
  pub later : ℕ
  pub value : Value
  pub writes : WritesPairAt T later x value

-- ---- a fork

-- two committed transactions each read one and the same version of a key before they wrote it
pub record IsFork (P : Present) (x : List ℕ) (a b : TxnId) : Type 0 where
  pub first : Txn
  pub second : Txn
  pub from : IsCommitted P a first
  pub to : IsCommitted P b second
  pub differ : a ≢ b
  pub version : Option Value
  pub one : ReadsAndWrites first x version
  pub other : ReadsAndWrites second x version

-- ---- a knot

-- B read what A wrote last to the key
pub record HandsOver (A B : Txn) (x : List ℕ) : Type 0 where
  pub value : Value
  pub wrote : IsLastWrite A x value
  pub place : ℕ
  pub read : ReadsFirst B place x (Some value)

-- A read a version of the key, and B, which wrote the key, had read the same one
pub record IsOverwrittenBy (A B : Txn) (x : List ℕ) : Type 0 where
  pub version : Option Value
  pub place : ℕ
  pub read : ReadsFirst A place x version
  pub overwrites : ReadsAndWrites B x version

-- what was read and written says so of an edge: wr edges, and rw edges where the writer read what it replaced
abbrev pub IsByValue : Label → Txn → Txn → List ℕ → Type 0
IsByValue label.Wr A B x = HandsOver A B x
IsByValue label.Rw A B x = IsOverwrittenBy A B x
IsByValue label.Ww A B x = ⊥
IsByValue label.St A B x = ⊥

-- an edge between two different committed transactions that is there by what was read and written to the key
pub record IsValueEdge (P : Present) (e : KeyedEdge) : Type 0 where
  pub first : Txn
  pub second : Txn
  pub from : IsCommitted P e.edge.from first
  pub to : IsCommitted P e.edge.to second
  pub differ : e.edge.from ≢ e.edge.to
  pub by : IsByValue e.edge.label first second e.key

-- the edges without their keys
abbrev pub edges_of : List KeyedEdge → List Edge
edges_of es = map (λ e. e.edge) es

-- not both are rw edges
abbrev pub IsNoRwPair : Edge → Edge → Type 0
IsNoRwPair e f = is_rw_edge e ≡ true → is_rw_edge f ≡ true → ⊥

-- from the edge e on no two neighbours are rw edges, and the last one and `first`, before which it stands in a closed walk, aren't either
abbrev pub AreSpaced : Edge → Edge → List Edge → Type 0
AreSpaced first e [] = IsNoRwPair e first
AreSpaced first e (f ∷ fs) = IsNoRwPair e f × AreSpaced first f fs

-- no two neighbours of the closed walk are rw edges
abbrev pub HasNoRwPair : List Edge → Type 0
HasNoRwPair [] = ⊤
HasNoRwPair (e ∷ es) = AreSpaced e e es

-- a closed walk of such edges in which no two neighbours are rw edges
pub record IsKnot (P : Present) (es : List KeyedEdge) : Type 0 where
  pub edges : (e : KeyedEdge) → Contains es e → IsValueEdge P e
  pub closed : IsClosed (edges_of es)
  pub spaced : HasNoRwPair (edges_of es)
