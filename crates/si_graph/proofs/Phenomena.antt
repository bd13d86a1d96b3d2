-- An evidence that holds and is neither a fork nor a knot is of a phenomenon that is there.
use Rattle.std.proofs.Common.{◌≡◌, Some, ap, subst, arith}
use Rattle.std.specs.Bool.{⊤}
use Rattle.si_model.specs.declared.numbers.Stamp.{Stamp}
use Rattle.si_model.specs.declared.transactions.Txn.{Txn}
use Rattle.si_model.specs.declared.evidence.Label.TheVariants as label
use Rattle.si_model.specs.declared.evidence.Edge.{Edge}
use Rattle.si_model.specs.declared.evidence.Evidence.{Evidence}
use Rattle.si_model.specs.declared.evidence.Evidence.TheVariants as evidence
use Rattle.si_model.specs.declared.kinds.Kind.{Kind}
use Rattle.si_model.specs.declared.kinds.Kind.TheVariants as kind
use Rattle.si_model.specs.Parts.{Present}
use Rattle.si_model.specs.Evidence.{evidence_of}
use Rattle.si_model.specs.History.{IsHistory}
use Rattle.si_graph.specs.Edges.{IsEdge, IsStartDependency}
use Rattle.si_graph.specs.Shown.{IsNotBefore, Shows}
use Rattle.si_graph.specs.Laws.{HasPhenomenonOf}
use Rattle.si_lists.proofs.Members.{same_some}
use Rattle.si_graph.proofs.StartEdges.{same_node}
use Rattle.si_graph.proofs.Cycles.{missed_walks_have_cycles}

-- a commit that isn't before a start has no start edge to it
no_start : (P : Present) → IsHistory P → (e : Edge) → IsNotBefore P e.from e.to → IsEdge P (record e { label = label.St }) → ⊥
no_start P h e n is =
    let d : IsStartDependency P e.from e.to = is.connects in
    let commit : d.commit.0 ≡ n.commit.0 = ap (λ (k : Stamp). k.0) (same_node P h e.from d.first n.first d.commit n.commit d.from n.from).1 in
    let start : d.second.start.0 ≡ n.second.start.0 = ap (λ (T : Txn). T.start.0) (same_node P h e.to d.second n.second d.later n.later d.to n.to).0 in
    omega (arith, d.timed, n.timed, commit, start)

-- the evidence is neither a fork nor a knot
abbrev pub IsOfPhenomenon : Evidence → Type 0
IsOfPhenomenon (evidence.AbortedRead t i w) = ⊤
IsOfPhenomenon (evidence.IntermediateRead t i w) = ⊤
IsOfPhenomenon (evidence.Interference e) = ⊤
IsOfPhenomenon (evidence.Missed es) = ⊤
IsOfPhenomenon (evidence.Fork x a b) = ⊥
IsOfPhenomenon (evidence.Knot es) = ⊥

pub explained_is_of : (k : Kind) (e : Evidence) → evidence_of k ≡ Some e → IsOfPhenomenon e
explained_is_of (kind.Unknown t i v) e is = cc
explained_is_of (kind.Doubt t i v u) e is = cc
explained_is_of (kind.Own t i v w) e is = cc
explained_is_of (kind.Aborted t i v u) e is = subst IsOfPhenomenon (same_some is) tt
explained_is_of (kind.Intermediate t i v u) e is = subst IsOfPhenomenon (same_some is) tt
explained_is_of (kind.Future t i v u) e is = subst IsOfPhenomenon (same_some is) tt
explained_is_of (kind.Stale t i v n) e is = subst IsOfPhenomenon (same_some is) tt
explained_is_of (kind.Overlap a b) e is = subst IsOfPhenomenon (same_some is) tt

pub phenomenon_is_there : (P : Present) (e : Evidence) → IsHistory P → IsOfPhenomenon e → Shows P e → HasPhenomenonOf P e
phenomenon_is_there P (evidence.AbortedRead t i w) h of s = (s.key, s.reader, i, s.writer, s.related)
phenomenon_is_there P (evidence.IntermediateRead t i w) h of s = (s.key, s.reader, i, s.writer, s.related)
phenomenon_is_there P (evidence.Interference e) h of s = (e, s.0, s.1, no_start P h e s.2)
phenomenon_is_there P (evidence.Missed es) h of s = (missed_walks_have_cycles P).0 (es, s.0, s.1)
phenomenon_is_there P (evidence.Fork x a b) h of s = absurd of
phenomenon_is_there P (evidence.Knot es) h of s = absurd of
