use Rattle.std.proofs.Common.{◌≡◌, ◌∙◌, ap}
use Rattle.si_checker.specs.LockedShards.{LockedShardState}
use Rattle.si_checker.proofs.Told.{accepted_seen, fault_names, found_seen}
use Rattle.si_checker.proofs.checkers.Checker.shard_report.Given as given
use Rattle.si_checker.proofs.checkers.Checker.shard_report.Goals as goal

-- the shard that was asked is the one of that number
number_is : (g : given.Over) (c : goal.After-drop-guard g) → c.deref_mut-locked_shard.result.now.seat.number ≡ c.args.k
number_is g c = ap (λ (b : LockedShardState). b.seat.number) c.deref_mut-locked_shard.ensures.value ∙ c.in-Some.ensures

pub returns-clause-fault : goal.returns-clause-fault
returns-clause-fault g c j = fault_names c.report.result j c.args.k c.deref_mut-locked_shard.result.now (number_is g c) (c.report.ensures.spoiled j)

pub returns-clause-accepted : goal.returns-clause-accepted
returns-clause-accepted g c =
    let told = c.report.ensures in
    accepted_seen c.deref_mut-locked_shard.result.now c.report.new.pass.view.seen c.report.result told.position told.due told.applied told.accepted

pub returns-clause-found : goal.returns-clause-found
returns-clause-found g c =
    let told = c.report.ensures in
    found_seen c.deref_mut-locked_shard.result.now c.report.new.pass.view.seen c.report.result c.args.k g.N.Name.board.shards (number_is g c) told.position told.due told.applied told.findings
