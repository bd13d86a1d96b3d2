-- The values that free reads returned.
use Rattle.std.specs.Prelude.{Bool, ◌&&◌, not, Some}
use Rattle.std.specs.List.{list_any}
use Rattle.std.specs.Option.{option_eq}
use Rattle.si_model.specs.declared.numbers.Value.{Value}
use Rattle.si_model.specs.declared.parts.Placed.{Placed}
use Rattle.si_model.specs.declared.parts.Part.{Part}
use Rattle.si_model.specs.Operations.{same_value}
use Rattle.si_model.specs.Versions.{last_write}
use Rattle.si_model.specs.Chances.{is_free_read, returns}

-- whether an access of T is a free read that returned the value
abbrev pub returns_freely : Part → Value → Placed → Bool
returns_freely T v a = is_free_read T a && returns v a.access

-- whether a free read of T returned the value, and that isn't what T itself writes last
abbrev pub returns_other : Value → Part → Bool
returns_other v T = list_any (returns_freely T v) T.accesses && not (option_eq same_value (last_write T.accesses) (Some v))
