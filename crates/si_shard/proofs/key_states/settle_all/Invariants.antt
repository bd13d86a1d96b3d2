use Rattle.std.proofs.Common.{take}
use Rattle.std.specs.HashMap.{get}
use Rattle.si_model.specs.Operations.{same_key}
use Rattle.si_shard.specs.KeyNotes.{KeepsNotes}
use Rattle.si_shard.specs.KeyStates.{AreKeysSettled}
use Rattle.si_shard.proofs.key_states.settle_all.Given as goal

abbrev pub invariant-loop-key : goal.invariant-loop-key
invariant-loop-key l = AreKeysSettled (take l.key-index l.marked) l.fn.states l.states l.fn.found l.found
    × KeepsNotes l.fn.notes l.notes (get same_key l.fn.states) (get same_key l.states)
