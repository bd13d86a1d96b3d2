-- The journal and what is present after it.
use Rattle.std.specs.Prelude.{List, [], ◌∷◌, ◌++◌}
use Rattle.si_model.specs.declared.edits.Edit.{Edit}
use Rattle.si_model.specs.Edits.{after}
use Rattle.si_model.specs.Parts.{Present}

-- the edits, and what is present
pub record Recorded : Type 0 where
  pub journal : List Edit
  pub present : Present

-- the edits with this one behind them, and what is present after it
abbrev pub recorded_after : Edit → Recorded → Recorded
recorded_after e R = record { journal = R.journal ++ e ∷ []; present = after e R.present }
