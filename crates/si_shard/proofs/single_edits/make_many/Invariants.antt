use Rattle.si_shard.specs.KeyStates.{KeepsNotesOf}
use Rattle.si_shard.specs.SingleEdits.{AreByKey}
use Rattle.si_shard.proofs.EachKey.{AreMade}
use Rattle.si_shard.proofs.single_edits.make_many.Given as goal

abbrev pub invariant-loop-index : goal.invariant-loop-index
invariant-loop-index l = (by : AreByKey l.fn.id l.ops l.list.items) × AreMade l.fn.id l.ops l.head l.edit l.list.items by l.index l.accesses l.initial.keys l.keys × KeepsNotesOf l.initial.keys l.keys
