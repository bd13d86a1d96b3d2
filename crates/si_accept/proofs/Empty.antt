-- The journal without edits.
use Rattle.std.proofs.Common.{◌≡◌, [], ◌∷◌, refl}
use Rattle.si_model.specs.Journals.{nothing, present, IsAccepted}

pub present_empty : present [] ≡ nothing
unfolding present
present_empty = refl

pub accepted_empty : IsAccepted []
accepted_empty [] e rest s = cc
accepted_empty (d ∷ before) e rest s = cc
