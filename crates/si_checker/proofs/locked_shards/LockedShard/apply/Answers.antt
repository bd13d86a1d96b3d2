use Rattle.std.proofs.Common.{◌+◌, ◌≤◌, arith, length, sym, subst}
use Rattle.si_words.specs.declared.views.ShardView.{ShardView}
use Rattle.si_words.specs.Entries.{edits_of}
use Rattle.si_words.specs.Seats.{Seated}
use Rattle.si_shard.specs.ToldEdits.{AreTold}
use Rattle.si_checker.specs.LockedShards.{LockedShardState, IsLockedShard}
use Rattle.si_checker.proofs.Storing.{edits_length, locked_shard_applied}
use Rattle.si_checker.proofs.locked_shards.LockedShard.apply.Given as given
use Rattle.si_checker.proofs.locked_shards.LockedShard.apply.Goals as goal

-- the edits are the next of those that the shard is due
told : (g : given.Over) (c : goal.After-as_slice g) → AreTold (edits_of c.self.inside.seat.view.due) c.self.inside.shard.position c.as_slice.result.now
told g c =
    let E = edits_of c.self.inside.seat.view.due in
    let next = subst (λ (b : LockedShardState). AreTold (edits_of b.seat.due) b.seat.done c.args.edits) (sym c.self.view_is) c.requires.next in
    subst (AreTold E c.self.inside.shard.position) (sym c.as_slice.ensures) (subst (λ n. AreTold E n c.args.edits) (sym c.self.invariant.position) next)

pub apply_first-requires-clause-follows : goal.apply_first-requires-clause-follows
apply_first-requires-clause-follows g c = (edits_of c.self.inside.seat.view.due, c.self.invariant.accepted, c.self.invariant.follows, told g c)

pub apply_first-requires-clause-fits : goal.apply_first-requires-clause-fits
apply_first-requires-clause-fits g c =
    let within = (told g c).within in
    let long = edits_length c.self.inside.seat.view.due in
    let room = c.self.invariant.room in
    omega arith

pub invariant_of-self : goal.invariant_of-self
invariant_of-self g c =
    let seat = c.self.inside.seat in
    let E = edits_of seat.view.due in
    let is = c.self.invariant in
    let n = length c.as_slice.result.now in
    let next = subst (λ (b : LockedShardState). AreTold (edits_of b.seat.due) b.seat.done c.args.edits) (sym c.self.view_is) c.requires.next in
    let told_so = subst (AreTold E c.self.inside.shard.position) (sym c.as_slice.ensures) (subst (λ m. AreTold E m c.args.edits) (sym is.position) next) in
    let room : seat.view.done + n ≤ length E = (let w = told_so.within in let was = is.position in omega arith) in
    subst (λ (s : Seated ShardView). IsLockedShard g.N.Name.board c.apply_first.new.self s) (sym c.publish.ensures)
    (locked_shard_applied g.N.Name.board c.self.inside.shard c.apply_first.new.self seat n c.position.result is room c.apply_first.ensures.first
    (c.apply_first.ensures.follows E is.accepted is.follows told_so) c.position.ensures)
