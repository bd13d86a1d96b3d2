-- The places of each kind on some keys.
use Rattle.std.specs.Prelude.{ℕ, ◌+◌, cond, List, nat_lt, sum_by, count_by}
use Rattle.si_model.specs.declared.chances.Count.{Count}
use Rattle.si_model.specs.declared.chances.Chances.{Chances}
use Rattle.si_model.specs.declared.parts.OnKey.{OnKey}
use Rattle.si_chances.specs.declared.on_keys.Places.{Places}
use Rattle.si_model.specs.Chances.{own_on, aborted_on, intermediate_on, future_on, stale_on, overlap_on}

-- the places of one kind
abbrev pub count_in : (OnKey → ℕ) → List OnKey → Count
count_in f qs = record { places = sum_by f qs; keys = count_by (λ Q. nat_lt 0 (f Q)) qs }

-- so many places more, all on one key
abbrev pub count_with : ℕ → Count → Count
count_with n c = record { places = c.places + n; keys = c.keys + cond (nat_lt 0 n) 1 0 }

-- the places on one key more
abbrev pub chances_with : Places → Chances → Chances
chances_with p c = record {
  own = count_with p.own c.own;
  aborted = count_with p.aborted c.aborted;
  intermediate = count_with p.intermediate c.intermediate;
  future = count_with p.future c.future;
  stale = count_with p.stale c.stale;
  overlap = count_with p.overlap c.overlap;
}

-- the places of each kind
abbrev pub chances_in : List OnKey → Chances
chances_in qs = record {
  own = count_in own_on qs;
  aborted = count_in aborted_on qs;
  intermediate = count_in intermediate_on qs;
  future = count_in future_on qs;
  stale = count_in stale_on qs;
  overlap = count_in overlap_on qs;
}
