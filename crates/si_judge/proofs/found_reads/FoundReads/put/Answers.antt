use Rattle.std.proofs.Common.{IfSome, subst}
use Rattle.si_judge.specs.Judges.{NamesRead}
use Rattle.si_judge.proofs.found_reads.FoundReads.put.Goals as goal

pub fill-requires : goal.fill-requires
fill-requires c = (c.finding_of.ensures c.args.id (subst (λ o. IfSome o (NamesRead c.args.id.txn c.args.id.place)) c.in-Some.is c.requires)).1
