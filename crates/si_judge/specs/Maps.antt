-- What maps hold after many edits, each read as a function from keys.
use Rattle.std.specs.Prelude.{◌≡◌, Bool, List, Option, None}
use Rattle.std.specs.List.{fold}
use Rattle.std.specs.Map.{update, update_all}

module _ {K V : Type 0} (same : K → K → Bool) (old : K → Option V) (entries : List (K × V)) (new : K → Option V) where
  -- new is old with these entries put in, in turn
  abbrev pub AreInserted : Type 0
  AreInserted = (k : K) → new k ≡ update_all same old entries k

  -- new is old without what stands under the keys of these entries
  abbrev pub AreTakenOut : Type 0
  AreTakenOut = (k : K) → new k ≡ fold (λ f e. update same f e.0 None) old entries k
