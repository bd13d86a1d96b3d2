use Rattle.std.proofs.Common.{◌≡◌, List, [], ◌∷◌, length, arith, sym, ap, subst, length-append}
use Rattle.std.specs.List.{Contains}
use Rattle.si_lists.proofs.Members.{here, there}
use Rattle.si_words.specs.declared.views.ShardView.{ShardView}
use Rattle.si_words.specs.Seats.{Seated, new_shards}
use Rattle.si_checker.specs.Openings.{AreNewSeats}
use Rattle.si_checker.proofs.Fresh.{new_seats, so_many_seats}
use Rattle.si_checker.proofs.checkers.locked_shards_of.Goals as goal

pub loop-seat-init : goal.loop-seat-init
loop-seat-init g c =
    let board = g.N.Name.board in
    let rest = c.into_iter-seat-iterator.result.rest.items in
    let all : rest ≡ new_shards board.table board.shards = cc (c.into_iter-seat-iterator.ensures.into_iter_gives.0, c.requires.seats) in
    let many = so_many_seats board.table board.shards in
    let long : length rest ≡ length (new_shards board.table board.shards) = ap (λ (l : List (Seated ShardView)). length l) all in
    let none : length c.new-locked_shards.result.items ≡ 0 = ap (λ l. length l) c.new-locked_shards.ensures.items in
    let seats : length c.args.seats.items ≡ length (new_shards board.table board.shards) = ap (λ (l : List (Seated ShardView)). length l) c.requires.seats in
    let count = c.len-shards.ensures in
    (subst (AreNewSeats board) (sym all) (new_seats board), omega arith, omega arith)

pub new-requires-clause-seat : goal.new-requires-clause-seat
new-requires-clause-seat g c =
    let seat = c.in-Some.seat in
    let rest : c.loop-seat.seat-iterator.rest.items ≡ seat ∷ c.next.new.self.rest.items = cc (c.in-Some.ensures.steps.0) in
    (c.loop-seat.invariant.0 seat (subst (λ (l : List (Seated ShardView)). Contains l seat) (sym rest) (here seat c.next.new.self.rest.items))).1

pub new-requires-clause-number : goal.new-requires-clause-number
new-requires-clause-number g c =
    let seat = c.in-Some.seat in
    let rest : c.loop-seat.seat-iterator.rest.items ≡ seat ∷ c.next.new.self.rest.items = cc (c.in-Some.ensures.steps.0) in
    let below = (c.loop-seat.invariant.0 seat (subst (λ (l : List (Seated ShardView)). Contains l seat) (sym rest) (here seat c.next.new.self.rest.items))).0 in
    let same = c.loop-seat.invariant.2 in
    omega arith

pub loop-seat-preserved : goal.loop-seat-preserved
loop-seat-preserved g c =
    let seat = c.in-Some.seat in
    let left = c.next.new.self.rest.items in
    let rest : c.loop-seat.seat-iterator.rest.items ≡ seat ∷ left = cc (c.in-Some.ensures.steps.0) in
    let one : length c.loop-seat.seat-iterator.rest.items ≡ length (seat ∷ left) = ap (λ (l : List (Seated ShardView)). length l) rest in
    let more = ap (λ l. length l) c.in_ok-push.ensures.items in
    let grows = length-append c.loop-seat.locked_shards.items (c.new-in-loop-seat.result ∷ []) in
    let count = c.loop-seat.invariant.1 in
    let all : AreNewSeats g.N.Name.board left = λ s d. c.loop-seat.invariant.0 s (subst (λ (l : List (Seated ShardView)). Contains l s) (sym rest) (there seat left s d)) in
    (all, omega arith, c.loop-seat.invariant.2)
