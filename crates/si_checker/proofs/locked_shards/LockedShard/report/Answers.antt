use Rattle.si_model.specs.Journals.{IsAccepted}
use Rattle.std.proofs.Common.{subst}
use Rattle.si_words.specs.Entries.{edits_of}
use Rattle.si_checker.specs.LockedShards.{LockedShardState, applied_by}
use Rattle.si_checker.proofs.Storing.{taken_accepted}
use Rattle.si_checker.proofs.locked_shards.LockedShard.report.Goals as goal

pub returns-in_err-findings-clause-accepted : goal.returns-in_err-findings-clause-accepted
returns-in_err-findings-clause-accepted g c =
    let seat = c.self.inside.seat.view in
    subst (λ (b : LockedShardState). IsAccepted (applied_by b.seat)) c.self.view_is (taken_accepted c.accepted_begins.ensures (edits_of seat.due) seat.done c.self.invariant.accepted)

pub returns-clause-accepted : goal.returns-clause-accepted
returns-clause-accepted g c =
    let seat = c.self.inside.seat.view in
    subst (λ (b : LockedShardState). IsAccepted (applied_by b.seat)) c.self.view_is (taken_accepted c.accepted_begins.ensures (edits_of seat.due) seat.done c.self.invariant.accepted)
