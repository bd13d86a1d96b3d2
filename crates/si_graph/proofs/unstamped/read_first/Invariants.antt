use Rattle.std.proofs.Common.{◌≡◌, drop}
use Rattle.si_graph.specs.EvidenceTests.{read_first}
use Rattle.si_graph.proofs.unstamped.read_first.Given as goal

abbrev pub invariant-loop-op : goal.invariant-loop-op
invariant-loop-op l = read_first l.fn.key l.fn.value l.ops ≡ read_first l.fn.key l.fn.value (drop l.op-index l.ops)
