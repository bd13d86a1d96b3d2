-- What a worker answers. What it did under the locks is said by the methods that are lent what these guard.
use Rattle.std.specs.Prelude.{◌≤◌, ⊤}
use Rattle.si_model.specs.declared.edits.TheConstants.{MOST_EDITS}
use Rattle.si_checker.specs.declared.workers.Worked.{Worked}
use Rattle.si_checker.specs.declared.workers.Worked.TheVariants.{Applied, Idle, Closed, NoMemory, Spoiled}

-- where edits were applied, the shard has applied at least one and no more than a journal may have
abbrev pub TellsPosition : Worked → Type 0
TellsPosition (Applied position) = (1 ≤ position) × (position ≤ MOST_EDITS)
TellsPosition Idle = ⊤
TellsPosition Closed = ⊤
TellsPosition NoMemory = ⊤
TellsPosition Spoiled = ⊤

-- a worker ends with that: nothing is left and the checker is closed, or memory was refused
abbrev pub EndsWork : Worked → Type 0
EndsWork (Applied position) = ⊥
EndsWork Idle = ⊥
EndsWork Closed = ⊤
EndsWork NoMemory = ⊤
EndsWork Spoiled = ⊤
