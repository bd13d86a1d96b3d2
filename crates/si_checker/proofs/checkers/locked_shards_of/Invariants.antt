use Rattle.std.proofs.Common.{◌≡◌, ◌+◌, length}
use Rattle.si_checker.specs.Openings.{AreNewSeats}
use Rattle.si_checker.proofs.checkers.locked_shards_of.Given as goal

abbrev pub invariant-loop-seat : goal.invariant-loop-seat
invariant-loop-seat g l =
    AreNewSeats g.N.Name.board l.seat-iterator.rest.items
    × (length l.locked_shards.items + length l.seat-iterator.rest.items ≡ g.N.Name.board.shards)
    × (l.shards ≡ g.N.Name.board.shards)
