-- Operations, and when two of them write the same pair of key and value. Keys are compared here alone. All of it is this
-- project's choice.
use Rattle.std.specs.Prelude.{ℕ, Bool, true, false, ◌&&◌, nat_eq, List}
use Rattle.std.specs.Cmp.Lexicographic.{pointwise}
use Rattle.si_model.specs.declared.numbers.Value.{Value}
use Rattle.si_model.specs.declared.operations.Op.{Op}
use Rattle.si_model.specs.declared.operations.Op.TheVariants as op
use Rattle.si_model.specs.declared.parts.Access.{Access}
use Rattle.si_model.specs.declared.parts.Access.TheVariants as access

-- the key of an operation
abbrev pub key_of : Op → List ℕ
key_of (op.Read x v) = x
key_of (op.Write x v) = x

-- what an operation does to its key
abbrev pub access_of : Op → Access
access_of (op.Read x v) = access.Read v
access_of (op.Write x v) = access.Write v

-- whether an operation is a write
abbrev pub is_write : Op → Bool
is_write (op.Read x v) = false
is_write (op.Write x v) = true

-- whether two values are equal
abbrev pub same_value : Value → Value → Bool
same_value v w = nat_eq v.0 w.0

-- whether two keys are one
abbrev pub same_key : List ℕ → List ℕ → Bool
same_key = pointwise nat_eq

-- whether two operations write the same pair of key and value
abbrev pub same_write : Op → Op → Bool
same_write (op.Read x v) q = false
same_write (op.Write x v) (op.Read y w) = false
same_write (op.Write x v) (op.Write y w) = same_value v w && same_key x y
