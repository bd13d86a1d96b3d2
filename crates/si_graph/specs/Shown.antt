-- What an evidence shows. All of it is this project's choice.
use Rattle.std.specs.Prelude.{◌≡◌, ℕ, ◌≤◌, List}
use Rattle.si_model.specs.declared.numbers.TxnId.{TxnId}
use Rattle.si_model.specs.declared.parts.Part.{Part}
use Rattle.si_model.specs.declared.parts.OnKey.{OnKey}
use Rattle.si_model.specs.Parts.{Present, on_key}
use Rattle.si_model.specs.declared.evidence.Evidence.{Evidence}
use Rattle.si_model.specs.declared.evidence.Evidence.TheVariants as evidence
use Rattle.si_graph.specs.Edges.{AreTimed, IsEdge, IsDependency}
use Rattle.si_graph.specs.Walks.{IsClosedWalk, HasOneRw}
use Rattle.si_graph.specs.Phenomena.{IsAbortedRead, IsIntermediateRead}
use Rattle.si_graph.specs.Unstamped.{IsFork, IsKnot}

-- the read at the place i of the transaction of id t, and the writer of id w, are so related on some key
pub record IsReadFrom (P : Present) (R : OnKey → Part → ℕ → Part → Type 0) (t : TxnId) (i : ℕ) (w : TxnId) : Type 0 where
  pub key : List ℕ
  pub reader : Part
  pub writer : Part
  pub related : R (on_key key P) reader i writer
  pub reads : reader.id ≡ t
  pub writes : writer.id ≡ w

-- the commit stamp of a isn't less than the start stamp of b
abbrev pub IsNotBefore : Present → TxnId → TxnId → Type 0
IsNotBefore P a b = AreTimed P (λ c s. s ≤ c) a b

-- the evidence holds of these transactions
abbrev pub Shows : Present → Evidence → Type 0
Shows P (evidence.AbortedRead t i w) = IsReadFrom P IsAbortedRead t i w
Shows P (evidence.IntermediateRead t i w) = IsReadFrom P IsIntermediateRead t i w
Shows P (evidence.Interference e) = IsEdge P e × IsDependency e.label × IsNotBefore P e.from e.to
Shows P (evidence.Missed es) = IsClosedWalk P es × HasOneRw es
Shows P (evidence.Fork x a b) = IsFork P x a b
Shows P (evidence.Knot es) = IsKnot P es
