use Rattle.std.proofs.Common.{◌≡◌, drop}
use Rattle.si_graph.specs.EvidenceTests.{read_alike}
use Rattle.si_graph.proofs.unstamped.read_alike.Given as goal

abbrev pub invariant-loop-op : goal.invariant-loop-op
invariant-loop-op l = read_alike l.fn.key l.ops l.fn.others ≡ read_alike l.fn.key (drop l.op-index l.ops) l.fn.others
