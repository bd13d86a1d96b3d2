-- The versions of one key, in the order of their installers' commit stamps.
use Rattle.std.specs.Prelude.{◌≡◌, ◌≢◌, ◌<◌, ◌≤◌, List, [], ◌∷◌, ◌++◌, Option, Some, None, ⊤}
use Rattle.std.specs.List.{AllByRecursion, Contains}
use Rattle.si_model.specs.declared.numbers.Stamp.{Stamp}
use Rattle.si_model.specs.declared.numbers.Value.{Value}
use Rattle.si_timeline.specs.declared.versions.Version.{Version}

-- a version with the commit stamp of its installer
abbrev pub Dated : Type 0
Dated = Stamp × Version

-- each commit stamp is less than those behind it
abbrev pub IsRising : List Dated → Type 0
IsRising [] = ⊤
IsRising (d ∷ ds) = AllByRecursion (λ e. d.0.0 < e.0.0) ds × IsRising ds

-- a version was installed at that commit
abbrev pub Has : List Dated → Stamp → Type 0
Has ds commit = (version : Version) × Contains ds (commit, version)

-- that version was, and no other
abbrev pub IsAt : List Dated → Stamp → Version → Type 0
IsAt ds commit version = Contains ds (commit, version) × ((other : Version) → Contains ds (commit, other) → other ≡ version)

-- no version was
abbrev pub Lacks : List Dated → Stamp → Type 0
Lacks ds commit = (version : Version) → Contains ds (commit, version) → ⊥

-- the version of the value, or there is none
abbrev pub IsOfValue : List Dated → Value → Option Dated → Type 0
IsOfValue ds v None = (d : Dated) → Contains ds d → d.1.value ≢ v
IsOfValue ds v (Some d) = Contains ds d × (d.1.value ≡ v)

-- the values rise with the commit stamps
abbrev pub ValuesRise : List Dated → Type 0
ValuesRise ds = (d e : Dated) → Contains ds d → Contains ds e → d.0.0 < e.0.0 → d.1.value.0 < e.1.value.0

-- the second list is the first one with that version in it
abbrev pub Adds : Stamp → Version → List Dated → List Dated → Type 0
Adds commit version old new = (earlier later : List Dated) × (old ≡ earlier ++ later) × (new ≡ earlier ++ (commit, version) ∷ later)

-- the version that was installed last before the stamp, if one was
abbrev pub IsNearestBefore : List Dated → Stamp → Option Dated → Type 0
IsNearestBefore ds stamp None = (d : Dated) → Contains ds d → stamp.0 ≤ d.0.0
IsNearestBefore ds stamp (Some d) = Contains ds d × (d.0.0 < stamp.0) × ((e : Dated) → Contains ds e → e.0.0 < stamp.0 → e.0.0 ≤ d.0.0)

-- the version that was installed first after the stamp, if one was
abbrev pub IsNearestAfter : List Dated → Stamp → Option Dated → Type 0
IsNearestAfter ds stamp None = (d : Dated) → Contains ds d → d.0.0 ≤ stamp.0
IsNearestAfter ds stamp (Some d) = Contains ds d × (stamp.0 < d.0.0) × ((e : Dated) → Contains ds e → stamp.0 < e.0.0 → d.0.0 ≤ e.0.0)
