-- PL-3, which is serializability: chapter 3 of Adya's thesis, G2 as the thesis has it. Start edges belong to chapter 4, so none is
-- in a cycle here. The version order is by commit stamps, as in `Edges`.
use Rattle.std.specs.Prelude.{◌≡◌, true, List, ⊤}
use Rattle.std.specs.List.{Contains}
use Rattle.si_model.specs.Parts.{Present}
use Rattle.si_model.specs.declared.evidence.Label.{Label}
use Rattle.si_model.specs.declared.evidence.Label.TheVariants as label
use Rattle.si_model.specs.declared.evidence.Edge.{Edge}
use Rattle.si_graph.specs.Walks.{IsCycle, is_rw_edge}
use Rattle.si_graph.specs.Phenomena.{HasAbortedRead, HasIntermediateRead, HasCircularFlow}

-- the label is that of a ww, wr or rw edge: of an edge of the direct serialization graph
abbrev pub IsConflict : Label → Type 0
IsConflict label.Ww = ⊤
IsConflict label.Wr = ⊤
IsConflict label.Rw = ⊤
IsConflict label.St = ⊥

-- all edges are ww, wr and rw edges
abbrev pub AreConflicts : List Edge → Type 0
AreConflicts es = (e : Edge) → Contains es e → IsConflict e.label

-- G2, anti-dependency cycles: a directed cycle of ww, wr and rw edges with one or more rw edges
abbrev pub HasAntiDependencyCycle : Present → Type 0
HasAntiDependencyCycle P = (es : List Edge) × IsCycle P es × AreConflicts es × ((e : Edge) × Contains es e × (is_rw_edge e ≡ true))

-- PL-3, serializability: neither G1 nor G2
pub record IsPl3 (P : Present) : Type 0 where
  pub aborted_reads : HasAbortedRead P → ⊥
  pub intermediate_reads : HasIntermediateRead P → ⊥
  pub circular_flow : HasCircularFlow P → ⊥
  pub anti_dependency_cycles : HasAntiDependencyCycle P → ⊥
