-- The operations on the keys of a shard as they are listed, and then put in order.
use Rattle.std.proofs.Common.{◌≡◌, ◌↔◌, ◌∙◌, ◌<◌, ◌≤◌, ◌&&◌, inl, inr, ℕ, ◌+◌, Bool, true, false, nat_eq, eqb-true, List, [], ◌∷◌, ◌++◌, length, slice_get, Some, sym, ap, subst, arith, rules, IsPermutation}
use Rattle.std.specs.List.{Contains, dedup}
use Rattle.std.specs.List.Sorted.{IsSorted, IsStrictlySortedBy}
use Rattle.std.specs.Ordering.{eq_by_cmp}
use Rattle.std.specs.Cmp.{IsEquivalence, IsTotalOrder}
use Rattle.std.specs.Cmp.Rules.{comparing}
use Rattle.std.specs.Cmp.Lexicographic.{pointwise}
use Rattle.std.proofs.lemmas.Bool.{and_parts}
use Rattle.std.proofs.lemmas.Cmp.{nat_cmp_total, nat_list_cmp_total, on_total, then_total}
use Rattle.std.proofs.lemmas.List.Kept.{Any-dedup, Contains-from_dedup, IsStrictlySortedBy-dedup}
use Rattle.std.proofs.lemmas.List.Sorted.{Contains-permutation, IsPermutation-sym}
use Rattle.std.proofs.lemmas.Option.{slice_get_within}
use Rattle.si_lists.proofs.Members.{Contains-nil, same_some}
use Rattle.si_lists.proofs.Pushes.{push_cases, push_keeps, push_last}
use Rattle.si_model.specs.declared.operations.Op.{Op}
use Rattle.si_model.specs.KeyTexts.{shard_hash}
use Rattle.si_model.specs.Operations.{key_of}
use Rattle.si_model.proofs.Equalities.{same_key_is}
use Rattle.si_shard.specs.declared.shard_ids.ShardId.{ShardId}
use Rattle.si_shard.specs.ShardIds.{is_ours}
use Rattle.si_shard.specs.SingleEdits.{AreByKey, AreHashed, IsPlaced, KeyPlace, key_place_cmp}
use Rattle.si_shard.proofs.ByKey.{before_or_at}

-- the operation at the place n, which is on the key x, is listed
abbrev pub IsListed : List KeyPlace → List ℕ → ℕ → Type 0
IsListed list x n = (e : KeyPlace) × Contains list e × (e.1.now ≡ x) × (e.2 ≡ n)

-- of the first i operations those on the shard's keys are listed
pub record AreListed (id : ShardId) (ops : List Op) (i : ℕ) (list : List KeyPlace) : Type 0 where
  pub exact : (x : List ℕ) (n : ℕ) → IsListed list x n ↔ (IsPlaced id ops x n × (n < i))
  pub hashed : AreHashed list

pub none_listed : (id : ShardId) (ops : List Op) → AreListed id ops 0 []
none_listed id ops = record {
  exact = λ x n. ((λ k. absurd (Contains-nil k.0 k.1)), (λ k. absurd (let l = k.1 in omega arith)));
  hashed = λ e c. absurd (Contains-nil e c);
}

module _ (id : ShardId) (ops : List Op) (i : ℕ) (p : Op) (at : slice_get ops i ≡ Some p) (list : List KeyPlace) (listed : AreListed id ops i list) where
  -- one more is listed where its key is the shard's
  pub listed_more : is_ours id (key_of p) ≡ true → (e : KeyPlace) → e.0 ≡ shard_hash (key_of p) → e.1.now ≡ key_of p → e.2 ≡ i → AreListed id ops (i + 1) (list ++ e ∷ [])
  listed_more ours e hash key place = record { exact = λ x n. (to x n, from x n); hashed = with_hash }
    where
      with_hash : AreHashed (list ++ e ∷ [])
      with_hash d c = elim (push_cases list e d c) [
        | inl before ↦ listed.hashed d before
        | inr same ↦ subst (λ q. q.0 ≡ shard_hash q.1.now) same (hash ∙ ap shard_hash (sym key))
      ]

      to : (x : List ℕ) (n : ℕ) → IsListed (list ++ e ∷ []) x n → IsPlaced id ops x n × (n < i + 1)
      to x n (d, c, k, m) = elim (push_cases list e d c) [
        | inl before ↦ (let w = (listed.exact x n).0 (d, before, k, m) in (w.0, (let l = w.1 in omega arith)))
        | inr same ↦
            let is : i ≡ n = sym place ∙ ap (λ q. q.2) same ∙ m in
            let on : key_of p ≡ x = sym key ∙ ap (λ q. q.1.now) same ∙ k in
            (record { op = p; at = subst (λ j. slice_get ops j ≡ Some p) is at; key = on; ours = subst (λ y. is_ours id y ≡ true) on ours }, omega arith)
      ]

      from : (x : List ℕ) (n : ℕ) → IsPlaced id ops x n × (n < i + 1) → IsListed (list ++ e ∷ []) x n
      from x n (w, l) = elim (before_or_at n i l) [
        | inl less ↦ (let r = (listed.exact x n).1 (w, less) in (r.0, push_keeps list e r.0 r.1, r.2, r.3))
        | inr is ↦
            let same : p ≡ w.op = same_some (sym at ∙ ap (slice_get ops) (sym is) ∙ w.at) in
            (e, push_last list e, key ∙ ap key_of same ∙ w.key, place ∙ sym is)
      ]

  -- and else not
  pub listed_past : is_ours id (key_of p) ≡ false → AreListed id ops (i + 1) list
  listed_past other = record { exact = λ x n. (to x n, from x n); hashed = listed.hashed }
    where
      to : (x : List ℕ) (n : ℕ) → IsListed list x n → IsPlaced id ops x n × (n < i + 1)
      to x n k = (let w = (listed.exact x n).0 k in (w.0, (let l = w.1 in omega arith)))

      from : (x : List ℕ) (n : ℕ) → IsPlaced id ops x n × (n < i + 1) → IsListed list x n
      from x n (w, l) = elim (before_or_at n i l) [
        | inl less ↦ (listed.exact x n).1 (w, less)
        | inr is ↦
            let same : p ≡ w.op = same_some (sym at ∙ ap (slice_get ops) (sym is) ∙ w.at) in
            let no : true ≡ false = sym w.ours ∙ ap (is_ours id) (sym (ap key_of same ∙ w.key)) ∙ other in
            cc
      ]

-- ---- in order

abbrev pub key_place_eq : KeyPlace → KeyPlace → Bool
key_place_eq a b = (nat_eq a.0 b.0 && pointwise nat_eq a.1.now b.1.now) && nat_eq a.2 b.2

total : IsTotalOrder key_place_cmp
total = then_total (then_total (on_total (λ t. t.0) nat_cmp_total) (on_total (λ t. t.1.now) nat_list_cmp_total)) (on_total (λ t. t.2) nat_cmp_total)

equivalence : IsEquivalence key_place_eq
equivalence = search (comparing, rules)

ties : (a b : KeyPlace) → key_place_eq a b ≡ eq_by_cmp key_place_cmp a b
ties a b = search (comparing, rules)

-- all of them, in order
pub in_order_by_key : (id : ShardId) (ops : List Op) (i : ℕ) (listed sorted list : List KeyPlace) → length ops ≤ i → AreListed id ops i listed → IsPermutation listed sorted → IsSorted key_place_cmp sorted → list ≡ dedup key_place_eq sorted → AreByKey id ops list
in_order_by_key id ops i listed sorted list end are moved up is = record {
  sorted = subst (IsStrictlySortedBy key_place_cmp) (sym is) (IsStrictlySortedBy-dedup total ties sorted up);
  exact = λ x n. (to x n, from x n);
  hashed = λ e c. are.hashed e (Contains-permutation sorted listed e (IsPermutation-sym listed sorted moved) (Contains-from_dedup key_place_eq sorted e (subst (λ l. Contains l e) is c)));
}
  where
    to : (x : List ℕ) (n : ℕ) → IsListed list x n → IsPlaced id ops x n
    to x n (e, c, key, place) =
        let among = Contains-from_dedup key_place_eq sorted e (subst (λ l. Contains l e) is c) in
        ((are.exact x n).0 (e, Contains-permutation sorted listed e (IsPermutation-sym listed sorted moved) among, key, place)).0

    from : (x : List ℕ) (n : ℕ) → IsPlaced id ops x n → IsListed list x n
    from x n w =
        let l : n < i = (let m = slice_get_within ops n w.op w.at in omega arith) in
        let k = (are.exact x n).1 (w, l) in
        let a = Any-dedup equivalence sorted k.0 (Contains-permutation listed sorted k.0 moved k.1) in
        let same = and_parts (nat_eq k.0.0 a.1.0 && pointwise nat_eq k.0.1.now a.1.1.now) (nat_eq k.0.2 a.1.2) a.4 in
        let key : k.0.1.now ≡ a.1.1.now = same_key_is k.0.1.now a.1.1.now (and_parts (nat_eq k.0.0 a.1.0) (pointwise nat_eq k.0.1.now a.1.1.now) same.0).1 in
        let place : k.0.2 ≡ a.1.2 = eqb-true k.0.2 a.1.2 same.1 in
        (a.1, subst (λ l. Contains l a.1) (sym is) (a.0, a.2, a.3), sym key ∙ k.2, sym place ∙ k.3)
