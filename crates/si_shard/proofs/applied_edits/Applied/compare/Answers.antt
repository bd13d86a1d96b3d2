use Rattle.std.proofs.Common.{take}
use Rattle.si_shard.proofs.Beginnings.{beginning_accepted}
use Rattle.si_shard.proofs.applied_edits.Applied.compare.Goals as goal

pub applied_anew-requires-clause-accepted : goal.applied_anew-requires-clause-accepted
applied_anew-requires-clause-accepted c = beginning_accepted c.args.edits.now c.args.since c.requires.accepted

pub findings-requires : goal.findings-requires
findings-requires c = (c.args.id, take c.args.since c.args.edits.now, beginning_accepted c.args.edits.now c.args.since c.requires.accepted, c.in_ok-before.ensures.applied)

pub findings-requires-2 : goal.findings-requires-2
findings-requires-2 c = (c.args.id, c.args.edits.now, c.requires.accepted, c.requires.settled)

pub returns-clause-came : goal.returns-clause-came
returns-clause-came c = c.in_ok-came.ensures c.args.id c.args.edits.now c.requires.accepted c.requires.settled

pub returns-clause-went : goal.returns-clause-went
returns-clause-went c =
    c.in_ok-went.ensures c.args.id (take c.args.since c.args.edits.now) (beginning_accepted c.args.edits.now c.args.since c.requires.accepted) c.in_ok-before.ensures.applied
