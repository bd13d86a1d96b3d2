-- Lemmas on the items of an array of JSON, and on keys.
use Rattle.std.proofs.Common.{◌≡◌, ℕ, List, [], ◌∷◌, length, map, refl, ap, ◌∙◌, ◌++◌, Result, Ok, drop}
use Rattle.std.proofs.lemmas.List.{length-map}
use Rattle.serde_json.specs.Data.{Data}
use Rattle.serde_json.specs.View.{view, items_of, items_view}
use Rattle.serde_json.specs.declared.value.Value.{Value}
use Rattle.si_model.specs.declared.operations.Op.{Op}
use Rattle.si_text.specs.Lines.{list_of, ◌>>=◌, ops_from}
use Rattle.si_text.specs.declared.faults.LineFault.{LineFault}

pub list_of-items_of : (ds : List Data) → list_of (items_of ds) ≡ ds
list_of-items_of [] = refl
list_of-items_of (d ∷ ds) = ap (λ l. d ∷ l) (list_of-items_of ds)

pub length_list_of_items : (vs : List Value) → length (list_of (items_view vs)) ≡ length vs
length_list_of_items vs = ap length (list_of-items_of (map view vs)) ∙ length-map vs view

pub list_of_items_view : (vs : List Value) → list_of (items_view vs) ≡ map view vs
list_of_items_view vs = list_of-items_of (map view vs)

pub length_map_view : (vs : List Value) → length (map view vs) ≡ length vs
length_map_view vs = length-map vs view

-- ---- reading the items of an array one after another

-- what was read before, and then what the rest gives
abbrev pub with_front : List Op → Result (List Op) LineFault → Result (List Op) LineFault
with_front front rest = rest >>= (λ ops. Ok (front ++ ops))

-- the items below index are these operations
pub record AreRead (items : List Value) (index : ℕ) (ops : List Op) : Type 0 where
  pub rest : with_front ops (ops_from index (map view (drop index items))) ≡ ops_from 0 (map view items)
  pub count : length ops ≡ index
