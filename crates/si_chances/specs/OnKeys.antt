-- The places of each kind on one key.
use Rattle.std.specs.Prelude.{ℕ, Bool, false, ◌&&◌, nat_lt, nat_eq, cond, List, Some, None, Option}
use Rattle.std.specs.List.{list_any}
use Rattle.si_model.specs.declared.numbers.Value.{Value}
use Rattle.si_model.specs.declared.parts.Part.{Part}
use Rattle.si_model.specs.declared.parts.OnKey.{OnKey}
use Rattle.si_model.specs.Versions.{last_write}
use Rattle.si_model.specs.Chances.{is_committed, is_aborted, writes_key, runs_beside, own_on, aborted_on, intermediate_on, future_on, stale_on, overlap_on}
use Rattle.si_chances.specs.Summaries.{free_reads, write_count}
use Rattle.si_chances.specs.declared.on_keys.Places.{Places}

-- what these do on a key. No place depends on what the key was set up with
abbrev pub on : List Part → OnKey
on parts = record { initial = None; parts = parts }

-- the places of each kind
abbrev pub places_on : OnKey → Places
places_on Q = record {
  own = own_on Q;
  aborted = aborted_on Q;
  intermediate = intermediate_on Q;
  future = future_on Q;
  stale = stale_on Q;
  overlap = overlap_on Q;
}

-- whether U aborted, writes the key and started before the stamp
abbrev pub aborted_before : ℕ → Part → Bool
aborted_before n U = (is_aborted U.status && writes_key U) && nat_lt U.start.0 n

-- whether another one is concurrent with T that writes the key at more than so many places
abbrev pub has_beside : ℕ → List Part → Part → Bool
has_beside places parts T = list_any (λ U. runs_beside T U && nat_lt places (write_count U)) parts

-- the free reads of T, where there is such another one
abbrev pub reads_beside : ℕ → List Part → Part → ℕ
reads_beside places parts T = cond (has_beside places parts T) (free_reads T) 0

-- whether a value is among some numbers, if it is there
abbrev pub is_in : List ℕ → Option Value → Bool
is_in ms None = false
is_in ms (Some v) = list_any (λ m. nat_eq m v.0) ms

-- whether U committed and what it writes last is among some numbers
abbrev pub installed_in : List ℕ → Part → Bool
installed_in ms U = is_committed U.status && is_in ms (last_write U.accesses)
