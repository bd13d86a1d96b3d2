use Rattle.si_evidence.proofs.Buckets.{puts_item}
use Rattle.si_evidence.proofs.writers.Writers.add_txn.Goals as goal

pub loop-op-preserved : goal.loop-op-preserved
loop-op-preserved c =
    puts_item c.args.txn.now c.args.txn.now.ops c.as_slice-op-items.result.now c.loop-op.op-index c.op-item.result c.args.self.now c.loop-op.self c.add_op.new.self
    c.as_slice-op-items.ensures.items c.loop-op-test.true c.op-item.is c.loop-op.invariant c.in_ok-add_op.ensures
