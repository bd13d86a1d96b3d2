use Rattle.std.proofs.Common.{sym, subst}
use Rattle.si_model.specs.Journals.{IsAccepted}
use Rattle.si_shard.proofs.Beginnings.{beginning_accepted}
use Rattle.si_shard.proofs.journal_shards.JournalShard.advance.Goals as goal

pub applied_anew-requires-clause-accepted : goal.applied_anew-requires-clause-accepted
applied_anew-requires-clause-accepted c = beginning_accepted c.journal.result.now c.args.end (subst IsAccepted (sym c.journal.ensures.journal) c.journal.ensures.accepted)
