-- The list of the keys has the key of each operation and no other, and on other keys nothing is counted.
use Rattle.std.proofs.Common.{◌≡◌, ℕ, List, [], ◌∷◌, Option, refl, ap, subst}
use Rattle.std.specs.List.{Contains, flat_map}
use Rattle.std.specs.Ordering.{nat_cmp}
use Rattle.std.specs.Cmp.Lexicographic.{slice_cmp, nat_list_cmp_total}
use Rattle.si_model.specs.declared.numbers.Value.{Value}
use Rattle.si_model.specs.declared.transactions.Txn.{Txn}
use Rattle.si_model.specs.declared.parts.Part.{Part}
use Rattle.si_model.specs.declared.parts.OnKey.{OnKey}
use Rattle.si_model.specs.Operations.{key_of}
use Rattle.si_model.specs.Parts.{Present, parts, set_up_value, on_key}
use Rattle.si_model.specs.Order.{IsListOf}
use Rattle.si_model.specs.Findings.{keys_in, keys}
use Rattle.si_model.specs.Chances.{own_on, aborted_on, intermediate_on, future_on, stale_on, overlap_on}
use Rattle.si_model.specs.ChanceLaws.{IsKeyOf, HasNoPlace}
use Rattle.si_lists.proofs.Members.{here, Contains-flat_map, Contains-from_flat_map, Contains-map, Contains-from_map, get_contains}
use Rattle.si_model.proofs.KeyParts.{accesses_are, parts_are}
use Rattle.si_model.proofs.InOrder.{sorted-in_order, Contains-in_order, Contains-from_in_order}
use Rattle.si_model.proofs.FindingOrder.{exact_bytes}

key_sound : (txns : List Txn) (x : List ℕ) → Contains (flat_map keys_in txns) x → IsKeyOf txns x
key_sound txns x c =
    let f = Contains-from_flat_map keys_in txns x c in
    (f.0, f.1, Contains-from_map key_of f.0.ops x f.2)

key_complete : (txns : List Txn) (x : List ℕ) → IsKeyOf txns x → Contains (flat_map keys_in txns) x
key_complete txns x (T, at, (p, found, key)) = Contains-flat_map keys_in txns T x at (subst (λ y. Contains (keys_in T) y) key (Contains-map key_of T.ops p found))

pub keys_exact : (txns : List Txn) → IsListOf (slice_cmp nat_cmp) (IsKeyOf txns) (keys txns)
unfolding keys
keys_exact txns = record {
  ascends = sorted-in_order nat_list_cmp_total (flat_map keys_in txns);
  sound = λ x c. key_sound txns x (Contains-from_in_order nat_list_cmp_total (flat_map keys_in txns) x c);
  complete = λ x is. Contains-in_order nat_list_cmp_total exact_bytes (flat_map keys_in txns) x (key_complete txns x is);
}

-- a key that has a part is the key of an operation
pub key_of_part : (txns : List Txn) (x : List ℕ) (T : Part) → Contains (parts x txns) T → IsKeyOf txns x
key_of_part txns x T c =
    let f = (parts_are x txns T).0 c in
    let a = f.2.some in
    let p = (accesses_are x f.0.ops a.0).0 (subst (λ ys. Contains ys a.0) f.2.accesses a.1) in
    (f.0, f.1, (p.0, get_contains f.0.ops a.0.place p.0 p.1, p.2))

nothing_in : {X : Type 0} (xs : List X) → ((x : X) → Contains xs x → ⊥) → xs ≡ []
nothing_in [] none = refl
nothing_in (x ∷ xs) none = absurd (none x (here x xs))

-- what was set up alone has no place
none_without_parts : (o : Option Value) (ts : List Part) → ts ≡ [] → HasNoPlace (record { initial = o; parts = ts })
none_without_parts o ts e =
    let on : List Part → OnKey = λ us. record { initial = o; parts = us } in
    record {
      parts = e;
      own = ap (λ us. own_on (on us)) e;
      aborted = ap (λ us. aborted_on (on us)) e;
      intermediate = ap (λ us. intermediate_on (on us)) e;
      future = ap (λ us. future_on (on us)) e;
      stale = ap (λ us. stale_on (on us)) e;
      overlap = ap (λ us. overlap_on (on us)) e;
    }

pub no_place : (P : Present) (x : List ℕ) → (IsKeyOf P.txns x → ⊥) → HasNoPlace (on_key x P)
no_place P x none = none_without_parts (set_up_value x P.initial) (parts x P.txns) (nothing_in (parts x P.txns) (λ T c. none (key_of_part P.txns x T c)))
