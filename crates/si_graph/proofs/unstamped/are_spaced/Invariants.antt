use Rattle.std.proofs.Common.{◌≡◌, drop}
use Rattle.si_graph.specs.Unstamped.{edges_of}
use Rattle.si_graph.specs.EvidenceTests.{are_spaced}
use Rattle.si_graph.proofs.unstamped.are_spaced.Given as goal

abbrev pub invariant-loop-keyed : goal.invariant-loop-keyed
invariant-loop-keyed l = are_spaced l.first l.first (edges_of l.edges) ≡ are_spaced l.first l.before (edges_of (drop l.keyed-index l.edges))
