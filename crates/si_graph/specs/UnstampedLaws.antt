-- What forks and knots say of stamps. These laws are this project's.
use Rattle.std.specs.Prelude.{◌≡◌, List, [], ℕ}
use Rattle.si_model.specs.declared.numbers.TxnId.{TxnId}
use Rattle.si_model.specs.declared.evidence.KeyedEdge.{KeyedEdge}
use Rattle.si_model.specs.Parts.{Present}
use Rattle.si_model.specs.Findings.{findings}
use Rattle.si_model.specs.History.{IsHistory}
use Rattle.si_graph.specs.Unstamped.{HasOtherStamps, IsFork, IsKnot}

-- a history with a fork has a finding, whatever its stamps are
abbrev pub NoStampsMendForks : Type 0
NoStampsMendForks = (P Q : Present) (x : List ℕ) (a b : TxnId) → IsFork P x a b → HasOtherStamps P Q → IsHistory Q → findings Q ≡ [] → ⊥

-- and so has one with a knot
abbrev pub NoStampsMendKnots : Type 0
NoStampsMendKnots = (P Q : Present) (es : List KeyedEdge) → IsKnot P es → HasOtherStamps P Q → IsHistory Q → findings Q ≡ [] → ⊥
