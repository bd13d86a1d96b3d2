use Rattle.std.proofs.Common.{◌≡◌, drop}
use Rattle.si_graph.specs.EvidenceTests.{is_walk}
use Rattle.si_graph.proofs.checks.is_walk.Given as goal

abbrev pub invariant-loop-edge : goal.invariant-loop-edge
invariant-loop-edge l = is_walk l.fn.from l.edges l.to ≡ is_walk l.at (drop l.edge-index l.edges) l.to
