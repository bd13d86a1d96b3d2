use Rattle.std.proofs.Common.{◌≡◌, drop}
use Rattle.si_graph.specs.Unstamped.{edges_of}
use Rattle.si_graph.specs.EvidenceTests.{is_walk}
use Rattle.si_graph.proofs.unstamped.is_path.Given as goal

abbrev pub invariant-loop-keyed : goal.invariant-loop-keyed
invariant-loop-keyed l = is_walk l.fn.from (edges_of l.edges) l.to ≡ is_walk l.at (edges_of (drop l.keyed-index l.edges)) l.to
