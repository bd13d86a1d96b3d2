use Rattle.si_shard.specs.KeyStates.{KeepsNotesOf}
use Rattle.si_shard.proofs.EachFirst.{AreMadeBefore}
use Rattle.si_shard.proofs.single_edits.make_few.Given as goal

abbrev pub invariant-loop-place : goal.invariant-loop-place
invariant-loop-place l = AreMadeBefore l.fn.id l.ops l.head l.edit l.place l.initial.keys l.keys × KeepsNotesOf l.initial.keys l.keys
