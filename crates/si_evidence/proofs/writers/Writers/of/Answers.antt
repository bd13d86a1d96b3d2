use Rattle.si_evidence.proofs.Buckets.{buckets_item, empty_buckets}
use Rattle.si_evidence.proofs.writers.Writers.of.Goals as goal

pub loop-txn-init : goal.loop-txn-init
loop-txn-init c = empty_buckets c.in_ok-writers.writers c.in_ok-writers.ensures

pub loop-txn-preserved : goal.loop-txn-preserved
loop-txn-preserved c =
    buckets_item c.args.txns.now c.loop-txn.txn-index c.txn-item.result c.loop-txn.writers c.add_txn.new.self c.loop-txn-test.true c.txn-item.is c.loop-txn.invariant c.in_ok-add_txn.ensures
