-- Sums over the keys of a map are those over the keys of the operations in order.
use Rattle.std.proofs.Common.{◌≡◌, ℕ, ◌+◌, Bool, true, false, cond, List, [], ◌∷◌, ◌++◌, map, ap, refl, sym, subst, ◌∙◌, arith, nat_lt, zero, suc, Some, take, slice_get}
use Rattle.std.specs.List.{Contains, IsDistinct, count_by, sum_by, flat_map}
use Rattle.std.specs.HashMap.{HashMap, keys, IsUnique}
use Rattle.std.specs.declared.vec.Vec.{Vec}
use Rattle.std.specs.declared.cmp.Ordering.{Ordering}
use Rattle.std.specs.declared.cmp.Ordering.TheVariants.{Less, Equal, Greater}
use Rattle.std.specs.Ordering.{nat_cmp}
use Rattle.std.specs.Cmp.{IsTotalOrder}
use Rattle.std.specs.Cmp.Lexicographic.{slice_cmp}
use Rattle.std.proofs.lemmas.Cmp.{nat_list_cmp_total}
use Rattle.std.specs.Option.{option_map}
use Rattle.std.proofs.lemmas.Option.{slice_get-map}
use Rattle.std.proofs.lemmas.List.{map-append}
use Rattle.std.proofs.lemmas.List.Folds.{fold-map}
use Rattle.std.proofs.lemmas.List.Sums.{sum_by-cons, sum_by_push}
use Rattle.si_model.specs.declared.numbers.Value.{Value}
use Rattle.si_model.specs.declared.chances.Count.{Count}
use Rattle.si_model.specs.declared.transactions.Txn.{Txn}
use Rattle.si_model.specs.declared.parts.OnKey.{OnKey}
use Rattle.si_model.specs.Operations.{same_key}
use Rattle.si_model.specs.Order.{by_order, with_one, in_order}
use Rattle.si_model.specs.Parts.{parts}
use Rattle.si_model.specs.History.{IsHistory, IsOfHistory}
use Rattle.si_model.proofs.Histories.{key_of_history}
use Rattle.si_model.specs.Findings.{keys_in}
use Rattle.si_model.specs.Findings as found
use Rattle.si_model.specs.Chances.{chances, own_on, aborted_on, intermediate_on, future_on, stale_on, overlap_on}
use Rattle.si_model.proofs.Equalities.{same_key_from}
use Rattle.si_model.proofs.FindingOrder.{exact_bytes}
use Rattle.si_model.proofs.InOrder.{sorted-in_order, same_sorted, Contains-in_order, Contains-from_in_order}
use Rattle.si_lists.proofs.Members.{same_some, here, there, at_each}
use Rattle.si_chances.specs.declared.grouping.Slot.{Slot}
use Rattle.si_chances.specs.Groups.{AreGroups}
use Rattle.si_chances.specs.OnKeys.{on, places_on}
use Rattle.si_chances.specs.Counts.{chances_in, chances_with, count_in, count_with}
use Rattle.si_chances.proofs.ByKey.{groups_have, groups_only}

module _ {K : Type 0} (R : K → K → Ordering) (exact : (a b : K) → R a b ≡ Equal → a ≡ b) (f : K → ℕ) where
  sum-with_one : (k : K) (xs : List K) → (Contains xs k → ⊥) → sum_by f (with_one R k xs) ≡ f k + sum_by f xs
  sum-with_one k [] new = sum_by-cons f k []
  sum-with_one k (x ∷ xs) new = by (R k x) refl (sum-with_one k xs (λ c. new (there x xs k c)))
    where
      by : (r : Ordering) → R k x ≡ r → sum_by f (with_one R k xs) ≡ f k + sum_by f xs → sum_by f (by_order r (k ∷ x ∷ xs) (x ∷ xs) (x ∷ with_one R k xs)) ≡ f k + sum_by f (x ∷ xs)
      by Less e rest = sum_by-cons f k (x ∷ xs)
      by Equal e rest = absurd (new (subst (λ y. Contains (x ∷ xs) y) (sym (exact k x e)) (here x xs)))
      by Greater e rest = omega (arith, sum_by-cons f x (with_one R k xs), sum_by-cons f x xs, rest)

-- a sum over keys that differ is that over the same keys in order
sum-in_order : {K : Type 0} (R : K → K → Ordering) → IsTotalOrder R → (exact : (a b : K) → R a b ≡ Equal → a ≡ b) (E : K → K → Bool) → ((a b : K) → a ≡ b → E a b ≡ true) → (f : K → ℕ) (xs : List K) → IsDistinct E xs
    → sum_by f (in_order R xs) ≡ sum_by f xs
unfolding in_order IsDistinct
sum-in_order R o exact E same f [] d = refl
sum-in_order R o exact E same f (x ∷ xs) d =
    let first = sum-with_one R exact f x (in_order R xs) (λ c. (let apart = at_each (λ y. E x y ≡ false) xs x d.0 (Contains-from_in_order o xs x c) in let itself = same x x refl in cc)) in
    let rest = sum-in_order R o exact E same f xs d.1 in
    omega (arith, first, rest, sum_by-cons f x xs)

-- the keys of the map in order are those of the operations
keys_in_order : {A S : Type 0} (txns : List Txn) (m : HashMap (List ℕ) (Vec Slot A) S) → AreGroups txns m → IsUnique same_key m → in_order (slice_cmp nat_cmp) (keys m) ≡ found.keys txns
unfolding found.keys
keys_in_order txns m g u =
    same_sorted nat_list_cmp_total (in_order (slice_cmp nat_cmp) (keys m)) (in_order (slice_cmp nat_cmp) (flat_map keys_in txns)) (sorted-in_order nat_list_cmp_total (keys m)) (sorted-in_order nat_list_cmp_total (flat_map keys_in txns))
    (λ x c. Contains-in_order nat_list_cmp_total exact_bytes (flat_map keys_in txns) x (groups_only txns m x g u (Contains-from_in_order nat_list_cmp_total (keys m) x c)))
    (λ x c. Contains-in_order nat_list_cmp_total exact_bytes (keys m) x (groups_have txns m x g (Contains-from_in_order nat_list_cmp_total (flat_map keys_in txns) x c)))

sum_of_keys : {A S : Type 0} (txns : List Txn) (m : HashMap (List ℕ) (Vec Slot A) S) (f : List ℕ → ℕ) → AreGroups txns m → IsUnique same_key m → sum_by f (keys m) ≡ sum_by f (found.keys txns)
sum_of_keys txns m f g u =
    sym (sum-in_order (slice_cmp nat_cmp) nat_list_cmp_total exact_bytes same_key same_key_from f (keys m) u) ∙ ap (sum_by f) (keys_in_order txns m g u)

-- ---- one key more

count_more : (f : OnKey → ℕ) (qs : List OnKey) (q : OnKey) → count_with (f q) (count_in f qs) ≡ count_in f (qs ++ q ∷ [])
count_more f qs q = λ i. record { places = sym (sum_by_push f qs q) i; keys = sym (sum_by_push (λ Q. cond (nat_lt 0 (f Q)) 1 0) qs q) i }

pub chances_more : (qs : List OnKey) (q : OnKey) → chances_with (places_on q) (chances_in qs) ≡ chances_in (qs ++ q ∷ [])
chances_more qs q = λ i. record {
  own = count_more own_on qs q i;
  aborted = count_more aborted_on qs q i;
  intermediate = count_more intermediate_on qs q i;
  future = count_more future_on qs q i;
  stale = count_more stale_on qs q i;
  overlap = count_more overlap_on qs q i;
}

-- ---- all keys

-- what is on each of some keys
abbrev pub all_on : List Txn → List (List ℕ) → List OnKey
all_on txns ks = map (λ x. on (parts x txns)) ks

count_all : {A S : Type 0} (txns : List Txn) (m : HashMap (List ℕ) (Vec Slot A) S) (f : OnKey → ℕ) → AreGroups txns m → IsUnique same_key m
    → count_in f (all_on txns (keys m)) ≡ (let it : Count = record { places = sum_by (λ x. f (on (parts x txns))) (found.keys txns); keys = count_by (λ x. nat_lt 0 (f (on (parts x txns)))) (found.keys txns) } in it)
count_all txns m f g u = λ i. record {
  places = (fold-map (λ n Q. n + f Q) (λ (x : List ℕ). on (parts x txns)) 0 (keys m) ∙ sum_of_keys txns m (λ x. f (on (parts x txns))) g u) i;
  keys = (fold-map (λ n Q. n + cond (nat_lt 0 (f Q)) 1 0) (λ (x : List ℕ). on (parts x txns)) 0 (keys m) ∙ sum_of_keys txns m (λ x. cond (nat_lt 0 (f (on (parts x txns)))) 1 0) g u) i;
}

pub chances_all : {A S : Type 0} (txns : List Txn) (m : HashMap (List ℕ) (Vec Slot A) S) (initial : List (List ℕ × Value)) → AreGroups txns m → IsUnique same_key m
    → chances_in (all_on txns (keys m)) ≡ chances (record { txns = txns; initial = initial })
unfolding chances
chances_all txns m initial g u = λ i. record {
  own = count_all txns m own_on g u i;
  aborted = count_all txns m aborted_on g u i;
  intermediate = count_all txns m intermediate_on g u i;
  future = count_all txns m future_on g u i;
  stale = count_all txns m stale_on g u i;
  overlap = count_all txns m overlap_on g u i;
}

take_next : {X : Type 0} (xs : List X) (i : ℕ) (x : X) → slice_get xs i ≡ Some x → take (i + 1) xs ≡ take i xs ++ x ∷ []
take_next [] i x e = cc
take_next (y ∷ ys) zero x e = ap (λ z. z ∷ []) (same_some e)
take_next (y ∷ ys) (suc i) x e = ap (λ n. take n (y ∷ ys)) (let next : suc i + 1 ≡ suc (i + 1) = omega arith in next) ∙ ap (λ zs. y ∷ zs) (take_next ys i x e)

-- the next key
pub all_on_more : {A S : Type 0} (txns : List Txn) (m : HashMap (List ℕ) (Vec Slot A) S) (i : ℕ) (x : List ℕ) (v : Vec Slot A) → slice_get m.entries i ≡ Some (x, v)
    → all_on txns (take (i + 1) (keys m)) ≡ all_on txns (take i (keys m)) ++ on (parts x txns) ∷ []
all_on_more {A} txns m i x v e =
    let at : slice_get (keys m) i ≡ Some x = slice_get-map (λ (p : List ℕ × Vec Slot A). p.0) m.entries i ∙ ap (option_map (λ (p : List ℕ × Vec Slot A). p.0)) e in
    ap (all_on txns) (take_next (keys m) i x at) ∙ map-append (λ (y : List ℕ). on (parts y txns)) (take i (keys m)) (x ∷ [])

-- what is on a key of a history is of one
pub on_history : (txns : List Txn) (initial : List (List ℕ × Value)) (x : List ℕ) → IsHistory (record { txns = txns; initial = initial }) → IsOfHistory (on (parts x txns))
on_history txns initial x h =
    let k = key_of_history (record { txns = txns; initial = initial }) x h in
    record { forward = k.forward; apart = k.apart; names = k.names; stamps = k.stamps; writes = k.writes; initial = λ v T e c w. cc; places = k.places }
