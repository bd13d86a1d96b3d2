-- What is carried over a horizon of a history in commit order. The law is this project's.
use Rattle.si_model.specs.declared.numbers.Stamp.{Stamp}
use Rattle.si_model.specs.Parts.{Present}
use Rattle.si_model.specs.History.{IsHistory}
use Rattle.si_model.specs.Horizons.{carried}
use Rattle.si_graph.specs.Serial.{IsInCommitOrder}

-- what is carried over a horizon of a history in commit order is in commit order
abbrev pub CarryingKeepsOrder : Type 0
CarryingKeepsOrder = (P : Present) (H : Stamp) → IsHistory P → IsInCommitOrder P → IsInCommitOrder (carried H P)
