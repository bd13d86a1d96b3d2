-- Which evidence stands for a finding. What an evidence shows is said where the graph is.
use Rattle.std.specs.Prelude.{Some, None, Option, List, [], ◌∷◌}
use Rattle.si_model.specs.declared.numbers.TxnId.{TxnId}
use Rattle.si_model.specs.declared.kinds.Kind.{Kind}
use Rattle.si_model.specs.declared.kinds.Kind.TheVariants as kind
use Rattle.si_model.specs.declared.evidence.Label.{Label}
use Rattle.si_model.specs.declared.evidence.Label.TheVariants as label
use Rattle.si_model.specs.declared.evidence.Edge.{Edge}
use Rattle.si_model.specs.declared.evidence.Evidence.{Evidence}
use Rattle.si_model.specs.declared.evidence.Evidence.TheVariants as evidence

-- the edge of that label from a to b
abbrev pub edge : Label → TxnId → TxnId → Edge
edge l a b = record { from = a; to = b; label = l }

-- the walk from a reader to the installer of the version that it missed, and back
abbrev pub missed_walk : TxnId → TxnId → List Edge
missed_walk t n = edge label.Rw t n ∷ edge label.St n t ∷ []

-- the evidence for a finding of that kind; none stands for one that concerns form
abbrev pub evidence_of : Kind → Option Evidence
evidence_of (kind.Unknown t i v) = None
evidence_of (kind.Doubt t i v u) = None
evidence_of (kind.Own t i v w) = None
evidence_of (kind.Aborted t i v u) = Some (evidence.AbortedRead t i u)
evidence_of (kind.Intermediate t i v u) = Some (evidence.IntermediateRead t i u)
evidence_of (kind.Future t i v u) = Some (evidence.Interference (edge label.Wr u t))
evidence_of (kind.Stale t i v n) = Some (evidence.Missed (missed_walk t n))
evidence_of (kind.Overlap a b) = Some (evidence.Interference (edge label.Ww a b))
