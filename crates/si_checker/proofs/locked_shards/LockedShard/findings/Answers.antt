use Rattle.std.proofs.Common.{◌∙◌, ap, take}
use Rattle.si_model.specs.Journals.{present}
use Rattle.si_shard.specs.Laws.{shard_id}
use Rattle.si_shard.specs.Shards.{findings_in}
use Rattle.si_words.specs.Entries.{edits_of}
use Rattle.si_checker.specs.LockedShards.{LockedShardState, applied_by}
use Rattle.si_checker.proofs.locked_shards.LockedShard.findings.Goals as goal

pub findings-requires : goal.findings-requires
findings-requires g c = (edits_of c.self.inside.seat.view.due, c.self.invariant.accepted, c.self.invariant.follows)

pub returns-in-Ok-clause-ok : goal.returns-in-Ok-clause-ok
returns-in-Ok-clause-ok g c =
    let shards = g.N.Name.board.shards in
    let shard = c.self.inside.shard in
    let seat = c.self.inside.seat.view in
    let E = edits_of seat.due in
    c.in-Ok.ensures.ok E c.self.invariant.accepted c.self.invariant.follows
    ∙ ap (λ id. findings_in id (present (take shard.position E))) c.self.invariant.id
    ∙ ap (λ n. findings_in (shard_id seat.number shards) (present (take n E))) c.self.invariant.position
    ∙ ap (λ (b : LockedShardState). findings_in (shard_id b.seat.number shards) (present (applied_by b.seat))) c.self.view_is
