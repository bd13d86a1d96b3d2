-- When a history is well formed: two conditions on histories of Adya's thesis, chapter 3, which are no phenomena. That the writer
-- of a value is present and not in doubt is this project's choice.
use Rattle.std.specs.Prelude.{◌≡◌, ◌≢◌, ◌⊎◌, ℕ, Bool, nat_le, List, Some, None, Option}
use Rattle.std.specs.List.{Contains}
use Rattle.si_model.specs.declared.numbers.Value.{Value}
use Rattle.si_model.specs.declared.transactions.Status.TheVariants as status
use Rattle.si_model.specs.declared.parts.Part.{Part}
use Rattle.si_model.specs.declared.parts.OnKey.{OnKey}
use Rattle.si_model.specs.declared.kinds.Kind.{Kind}
use Rattle.si_model.specs.Parts.{Present, on_key}
use Rattle.si_model.specs.Versions.{Writes}
use Rattle.si_model.specs.Reads.{IsRead, own_value}
use Rattle.si_model.specs.Order.{number}

-- a present transaction that isn't in doubt writes the value
pub record IsWritten (Q : OnKey) (v : Value) : Type 0 where
  pub writer : Part
  pub part : Contains Q.parts writer
  pub writes : Writes writer v
  pub known : writer.status ≢ status.InDoubt

-- the reads on the key are well formed
pub record IsWellFormedOn (Q : OnKey) : Type 0 where
  -- a read after own writes of the key returns the last of them
  pub own : (T : Part) (i : ℕ) (v : Option Value) (w : Value) → IsRead Q T i v → own_value T i ≡ Some w → v ≡ Some w
  -- a read before own writes of the key returns none of them
  pub later : (T : Part) (i : ℕ) (v : Value) → IsRead Q T i (Some v) → own_value T i ≡ None → Writes T v → ⊥
  -- a read with no own write before it returns what the initial version returns, or a value that is written
  pub written : (T : Part) (i : ℕ) (v : Option Value) → IsRead Q T i v → own_value T i ≡ None → (v ≡ Q.initial) ⊎ ((w : Value) × (v ≡ Some w) × IsWritten Q w)

-- the reads of each key are well formed
abbrev pub IsWellFormed : Present → Type 0
IsWellFormed P = (x : List ℕ) → IsWellFormedOn (on_key x P)

-- whether a kind concerns form and is no phenomenon
abbrev pub concerns_form : Kind → Bool
concerns_form k = nat_le (number k) 3
