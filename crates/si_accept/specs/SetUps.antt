-- The values that keys were set up with.
use Rattle.std.specs.Prelude.{ℕ, List}
use Rattle.si_model.specs.declared.numbers.Value.{Value}

-- pairs of a key and a value, in the order of arrival
abbrev pub KeyValues : Type 0
KeyValues = List (List ℕ × Value)
