-- Values as keys of maps. All of it is this project's choice.
use Rattle.std.specs.Prelude.{List, Option}
use Rattle.std.specs.Ordering.{nat_cmp}
use Rattle.std.specs.declared.cmp.Ordering.{Ordering}
use Rattle.si_model.specs.declared.numbers.Value.{Value}
use Rattle.si_sorted.specs.Entries.{value_at}

-- values in the order of their numbers
abbrev pub value_cmp : Value → Value → Ordering
value_cmp v w = nat_cmp v.0 w.0

-- what stands under a value
abbrev pub at_value : {X : Type 0} → List (Value × X) → Value → Option X
at_value = value_at value_cmp
