-- Parts of the journal that were copied once. All of it is this project's choice.
use Rattle.std.specs.Prelude.{ℕ, ◌≤◌, List, length}
use Rattle.si_model.specs.declared.edits.Edit.{Edit}
use Rattle.si_shard.specs.declared.told_edits.ToldEdit.{ToldEdit}
use Rattle.si_shard.specs.ToldEdits.{AreTold}

-- where a block begins in the journal, and its edits
pub record BlockState : Type 0 where
  pub first : ℕ
  pub edits : List ToldEdit

-- the block's edits are those of the journal from where it begins, and no more than are copied at once
pub record IsBlockOf (journal : List Edit) (block : BlockState) : Type 0 where
  pub told : AreTold journal block.first block.edits
  pub most : length block.edits ≤ 1024
