-- Walks and directed cycles in the graph. The phenomena of Adya's thesis are of cycles. A closed walk, which may come to a node
-- twice, is this project's form of an evidence, since it is checked edge by edge; `Laws` ties the two.
use Rattle.std.specs.Prelude.{◌≡◌, ◌≢◌, Bool, true, false, List, [], ◌∷◌}
use Rattle.std.specs.List.{Contains, AllPairs, count_by}
use Rattle.si_model.specs.declared.numbers.TxnId.{TxnId}
use Rattle.si_model.specs.Parts.{Present}
use Rattle.si_model.specs.declared.evidence.Label.{Label}
use Rattle.si_model.specs.declared.evidence.Label.TheVariants as label
use Rattle.si_model.specs.declared.evidence.Edge.{Edge}
use Rattle.si_graph.specs.Edges.{IsEdge, IsDependency}

-- a walk from a to b: it begins at a, each edge ends where the next begins, and the last ends at b
abbrev pub IsWalk : TxnId → List Edge → TxnId → Type 0
IsWalk a [] b = a ≡ b
IsWalk a (e ∷ es) b = (e.from ≡ a) × IsWalk e.to es b

-- a closed walk has an edge, and the last one ends where the first begins
abbrev pub IsClosed : List Edge → Type 0
IsClosed [] = ⊥
IsClosed (e ∷ es) = IsWalk e.to es e.from

-- a closed walk of edges of the graph
pub record IsClosedWalk (P : Present) (es : List Edge) : Type 0 where
  pub edges : (e : Edge) → Contains es e → IsEdge P e
  pub closed : IsClosed es

-- a directed cycle: a closed walk that comes to no node twice, so no two of its edges begin at one node
pub record IsCycle (P : Present) (es : List Edge) : Type 0 where
  pub walk : IsClosedWalk P es
  pub once : AllPairs (λ e f. e.from ≢ f.from) es

-- all edges are ww and wr edges
abbrev pub AreDependencies : List Edge → Type 0
AreDependencies es = (e : Edge) → Contains es e → IsDependency e.label

-- whether the label is that of an rw edge
abbrev pub is_rw : Label → Bool
is_rw label.Ww = false
is_rw label.Wr = false
is_rw label.Rw = true
is_rw label.St = false

-- whether the edge is an rw edge
abbrev pub is_rw_edge : Edge → Bool
is_rw_edge e = is_rw e.label

-- exactly one edge is an rw edge
abbrev pub HasOneRw : List Edge → Type 0
HasOneRw es = count_by is_rw_edge es ≡ 1
