use Rattle.std.proofs.Common.{◌≡◌, ◌++◌, take}
use Rattle.std.specs.List.{flat_map}
use Rattle.si_text.specs.Texts.{next_edge_text}
use Rattle.si_text.proofs.explaining.put_next_edges.Given as goal

abbrev pub invariant-loop-edge : goal.invariant-loop-edge
invariant-loop-edge l = l.out.items ≡ l.fn.out.items ++ flat_map next_edge_text (take l.edge-index l.edges)
