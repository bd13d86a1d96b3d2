-- The versions of a key, found by their values. All of it is this project's choice.
use Rattle.std.specs.Prelude.{◌≡◌, ◌<◌, ◌↔◌, List, Some}
use Rattle.std.specs.List.{Contains}
use Rattle.si_model.specs.declared.numbers.Stamp.{Stamp}
use Rattle.si_model.specs.declared.numbers.Value.{Value}
use Rattle.si_timeline.specs.Timelines.{Dated, ValuesRise}
use Rattle.si_timeline.specs.declared.versions.Version.{Version}
use Rattle.si_judge.specs.Values.{at_value}

-- no two of the versions have one value
abbrev pub HaveValuesOnce : List Dated → Type 0
HaveValuesOnce ds = (d e : Dated) → Contains ds d → Contains ds e → d.1.value ≡ e.1.value → d ≡ e

-- the value is greater than that of each version before the commit
abbrev pub IsAboveEarlier : List Dated → Stamp → Value → Type 0
IsAboveEarlier ds c v = (d : Dated) → Contains ds d → d.0.0 < c.0 → d.1.value.0 < v.0

-- it is less than that of each version behind it
abbrev pub IsBelowLater : List Dated → Stamp → Value → Type 0
IsBelowLater ds c v = (d : Dated) → Contains ds d → c.0 < d.0.0 → v.0 < d.1.value.0

-- both, where the values rise with the commits: then they still do so with that one at that commit
abbrev pub FitsRising : List Dated → Stamp → Value → Type 0
FitsRising ds c v = ValuesRise ds × IsAboveEarlier ds c v × IsBelowLater ds c v

-- under each value stands the commit of its version, if there is one, and nothing else
abbrev pub AreCommitsOf : List Dated → List (Value × Stamp) → Type 0
AreCommitsOf ds commits = (v : Value) (c : Stamp) → (at_value commits v ≡ Some c) ↔ ((w : Version) × Contains ds (c, w) × (w.value ≡ v))
