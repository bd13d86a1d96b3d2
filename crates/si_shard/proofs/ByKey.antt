-- The operations on the keys of a shard in the order of the keys: those on one key stand together, and are its accesses in their order.
use Rattle.std.proofs.Common.{◌≡◌, ◌↔◌, ◌⊎◌, ◌∙◌, ◌<◌, inl, inr, ℕ, ◌+◌, true, List, [], ◌∷◌, ◌++◌, slice_get, slice_index_or, Some, refl, sym, ap, subst, arith}
use Rattle.std.specs.List.{Contains}
use Rattle.std.specs.List.Sorted.{IsStrictlySortedBy}
use Rattle.std.specs.declared.cmp.Ordering.{Ordering}
use Rattle.std.specs.declared.cmp.Ordering.TheVariants.{Less, Equal, Greater}
use Rattle.std.specs.Ordering.{nat_cmp, ordering_then}
use Rattle.std.specs.Cmp.{IsTotalOrder, nat_cmp_is, ranked}
use Rattle.std.specs.Cmp.Lexicographic.{nat_list_cmp_total, slice_cmp}
use Rattle.std.proofs.lemmas.Bool.{cases_lt}
use Rattle.std.proofs.lemmas.Cmp.{nat_cmp_total, on_total, then_total, tied_itself}
use Rattle.std.proofs.lemmas.Map.Keys.{Less-from_sorted}
use Rattle.std.proofs.lemmas.Option.{get_or_from_slice_get, slice_get-get_or, slice_get_within}
use Rattle.si_lists.proofs.Members.{Contains-nil, contains_get, from_each, get_contains, same_some}
use Rattle.si_lists.proofs.Names.{pairs_head, pairs_nil, pairs_push, pairs_tail}
use Rattle.si_lists.proofs.Pushes.{push_cases, push_keeps, push_last}
use Rattle.si_model.specs.declared.operations.Op.{Op}
use Rattle.si_model.specs.declared.parts.Placed.{Placed}
use Rattle.si_model.specs.KeyTexts.{shard_hash}
use Rattle.si_model.specs.Operations.{access_of, key_of}
use Rattle.si_model.specs.Parts.{accesses}
use Rattle.si_model.proofs.FindingOrder.{exact_bytes}
use Rattle.si_model.proofs.InOrder.{same_sorted, sorted-cons, sorted-nil}
use Rattle.si_model.proofs.KeyParts.{Rise, accesses_are, accesses_rise}
use Rattle.si_shard.specs.declared.shard_ids.ShardId.{ShardId}
use Rattle.si_shard.specs.ShardIds.{is_ours}
use Rattle.si_shard.specs.SingleEdits.{AreByKey, IsKeyAt, KeyPlace, key_place_cmp}

-- ---- places that rise

abbrev by_place : Placed → Placed → Ordering
by_place a b = nat_cmp a.place b.place

by_place_total : IsTotalOrder by_place
by_place_total = on_total (λ a. a.place) nat_cmp_total

rising_sorted : (ys : List Placed) → Rise ys → IsStrictlySortedBy by_place ys
rising_sorted [] r = sorted-nil by_place
rising_sorted (a ∷ ys) r = sorted-cons by_place a ys
    (from_each (λ b. by_place a b ≡ Less) ys (λ b c. sym (nat_cmp_is a.place b.place Less (pairs_head (λ d e. d.place < e.place) a ys r b c))))
    (rising_sorted ys (pairs_tail (λ d e. d.place < e.place) a ys r))

-- two lists with the same elements whose places rise are one
same_rising : (xs ys : List Placed) → Rise xs → Rise ys → ((a : Placed) → Contains xs a ↔ Contains ys a) → xs ≡ ys
same_rising xs ys r s both = same_sorted by_place_total xs ys (rising_sorted xs r) (rising_sorted ys s) (λ a. (both a).0) (λ a. (both a).1)

-- ---- what comes first in the order

less_or_equal : (r s : Ordering) → ordering_then r s ≡ Less → (r ≡ Less) ⊎ ((r ≡ Equal) × (s ≡ Less))
less_or_equal Less s e = inl refl
less_or_equal Equal s e = inr (refl, e)
less_or_equal Greater s e = cc

-- by the hash, and then by the text
abbrev key_cmp : ℕ × List ℕ → ℕ × List ℕ → Ordering
key_cmp x y = ordering_then (nat_cmp x.0 y.0) (slice_cmp nat_cmp x.1 y.1)

key_total : IsTotalOrder key_cmp
key_total = then_total (on_total (λ x. x.0) nat_cmp_total) (on_total (λ x. x.1) nat_list_cmp_total)

both_tied : (r s : Ordering) → ordering_then r s ≡ Equal → s ≡ Equal
both_tied Less s e = cc
both_tied Equal s e = e
both_tied Greater s e = cc

tied : (x y : ℕ × List ℕ) → key_cmp x y ≡ Equal → x.1 ≡ y.1
tied x y e = exact_bytes x.1 y.1 (both_tied (nat_cmp x.0 y.0) (slice_cmp nat_cmp x.1 y.1) e)

below : (m n : ℕ) → nat_cmp m n ≡ Less → m < n
below m n e = ranked m n Less (sym e)

pub before_or_at : (j i : ℕ) → j < i + 1 → (j < i) ⊎ (j ≡ i)
before_or_at j i l = elim (cases_lt j i) [ inl k ↦ inl k | inr k ↦ inr (omega arith) ]

module _ (id : ShardId) (ops : List Op) (list : List KeyPlace) (by : AreByKey id ops list) where
  ordered : (j k : ℕ) (d e : KeyPlace) → slice_get list j ≡ Some d → slice_get list k ≡ Some e → j < k → key_place_cmp d e ≡ Less
  ordered j k d e at_j at_k l =
      let first = get_or_from_slice_get list j d d at_j in
      let second = get_or_from_slice_get list k e d at_k in
      subst (λ a. key_place_cmp a e ≡ Less) first (subst (λ b. key_place_cmp (slice_index_or list j d) b ≡ Less) second (Less-from_sorted key_place_cmp list j k d by.sorted l (slice_get_within list k e at_k)))

  -- the operation's key with its hash
  abbrev key : KeyPlace → ℕ × List ℕ
  key e = (e.0, e.1.now)

  same_keys : (j k : ℕ) (d e : KeyPlace) → slice_get list j ≡ Some d → slice_get list k ≡ Some e → d.1.now ≡ e.1.now → key d ≡ key e
  same_keys j k d e at_j at_k same =
      let hash : d.0 ≡ e.0 = by.hashed d (get_contains list j d at_j) ∙ ap shard_hash same ∙ sym (by.hashed e (get_contains list k e at_k)) in
      λ i. (hash i, same i)

  not_itself : (x y : ℕ × List ℕ) → x ≡ y → key_cmp x y ≡ Less → ⊥
  not_itself x y same e = cc (tied_itself key_total x, subst (λ z. key_cmp x z ≡ Less) (sym same) e)

  -- of two operations on one key the second has the greater place
  later : (j k : ℕ) (d e : KeyPlace) → slice_get list j ≡ Some d → slice_get list k ≡ Some e → j < k → d.1.now ≡ e.1.now → d.2 < e.2
  later j k d e at_j at_k l same = elim (less_or_equal (key_cmp (key d) (key e)) (nat_cmp d.2 e.2) (ordered j k d e at_j at_k l)) [
    | inl less ↦ absurd (not_itself (key d) (key e) (same_keys j k d e at_j at_k same) less)
    | inr both ↦ below d.2 e.2 both.1
  ]

  -- what stands between two operations on one key is on it too
  between : (j k l : ℕ) (c d e : KeyPlace) → slice_get list j ≡ Some c → slice_get list k ≡ Some d → slice_get list l ≡ Some e → j < k → k < l → c.1.now ≡ e.1.now → d.1.now ≡ c.1.now
  between j k l c d e at_j at_k at_l m n same = elim (less_or_equal (key_cmp (key c) (key d)) (nat_cmp c.2 d.2) (ordered j k c d at_j at_k m)) [
    | inl less ↦ elim (less_or_equal (key_cmp (key d) (key e)) (nat_cmp d.2 e.2) (ordered k l d e at_k at_l n)) [
      | inl more ↦ absurd (not_itself (key c) (key e) (same_keys j l c e at_j at_l same) (key_total.trans (key c) (key d) (key e) less more))
      | inr both ↦ tied (key d) (key e) both.0 ∙ sym same
    ]
    | inr both ↦ sym (tied (key c) (key d) both.0)
  ]

  pub still : (j k l : ℕ) (x y : List ℕ) → IsKeyAt list j x → IsKeyAt list k y → IsKeyAt list l x → j < k → k < l → y ≡ x
  still j k l x y (c, at_j, key_j) (d, at_k, key_k) (e, at_l, key_l) m n = sym key_k ∙ between j k l c d e at_j at_k at_l m n (key_j ∙ sym key_l) ∙ key_j

  pub one_key : (j : ℕ) (x y : List ℕ) → IsKeyAt list j x → IsKeyAt list j y → x ≡ y
  one_key j x y (d, at, key) (e, again, other) = sym key ∙ ap (λ a. a.1.now) (same_some (sym at ∙ again)) ∙ other

  -- ---- what was held of a key

  -- the access is by an operation on the key x among the first i
  pub record IsHeld (x : List ℕ) (i : ℕ) (a : Placed) : Type 0 where
    pub at : ℕ
    pub first : at < i
    pub entry : KeyPlace
    pub stands : slice_get list at ≡ Some entry
    pub key : entry.1.now ≡ x
    pub place : entry.2 ≡ a.place
    pub op : Op
    pub there : slice_get ops a.place ≡ Some op
    pub access : access_of op ≡ a.access

  -- these are the accesses of the key x by the first i, in their order
  pub record AreHeld (x : List ℕ) (i : ℕ) (ys : List Placed) : Type 0 where
    pub rise : Rise ys
    pub exact : (a : Placed) → Contains ys a ↔ IsHeld x i a

  pub none_held : (x : List ℕ) (i : ℕ) → ((j : ℕ) → j < i → IsKeyAt list j x → ⊥) → AreHeld x i []
  none_held x i none = record {
    rise = pairs_nil (λ a b. a.place < b.place);
    exact = λ a. (λ c. absurd (Contains-nil a c), (λ w. absurd (none w.at w.first (w.entry, w.stands, w.key))));
  }

  -- one more
  pub held_more : (x : List ℕ) (i : ℕ) (e : KeyPlace) (p : Op) (ys : List Placed) → slice_get list i ≡ Some e → e.1.now ≡ x → slice_get ops e.2 ≡ Some p → AreHeld x i ys → AreHeld x (i + 1) (ys ++ record { place = e.2; access = access_of p } ∷ [])
  held_more x i e p ys stands key there held = record {
    rise = pairs_push (λ a b. a.place < b.place) ys new held.rise (λ a c. let w = (held.exact a).0 c in subst (λ n. n < e.2) w.place (later w.at i w.entry e w.stands stands w.first (w.key ∙ sym key)));
    exact = λ a. (to a, from a);
  }
    where
      new : Placed
      new = record { place = e.2; access = access_of p }

      here_now : IsHeld x (i + 1) new
      here_now = record { at = i; first = omega arith; entry = e; stands = stands; key = key; place = refl; op = p; there = there; access = refl }

      to : (a : Placed) → Contains (ys ++ new ∷ []) a → IsHeld x (i + 1) a
      to a c = elim (push_cases ys new a c) [
        | inl before ↦ (let w = (held.exact a).0 before in record { at = w.at; first = (let l = w.first in omega arith); entry = w.entry; stands = w.stands; key = w.key; place = w.place; op = w.op; there = w.there; access = w.access })
        | inr same ↦ subst (IsHeld x (i + 1)) same here_now
      ]

      from : (a : Placed) → IsHeld x (i + 1) a → Contains (ys ++ new ∷ []) a
      from a w = elim (before_or_at w.at i w.first) [
        | inl l ↦ push_keeps ys new a ((held.exact a).1 (record { at = w.at; first = l; entry = w.entry; stands = w.stands; key = w.key; place = w.place; op = w.op; there = w.there; access = w.access }))
        | inr is ↦ subst (Contains (ys ++ new ∷ [])) (same a w is) (push_last ys new)
      ]
        where
          same : (a : Placed) (w : IsHeld x (i + 1) a) → w.at ≡ i → new ≡ a
          same a w is =
              let entry : e ≡ w.entry = same_some (sym stands ∙ ap (slice_get list) (sym is) ∙ w.stands) in
              let place : e.2 ≡ a.place = ap (λ q. q.2) entry ∙ w.place in
              let op : p ≡ w.op = same_some (sym there ∙ ap (slice_get ops) place ∙ w.there) in
              let access : access_of p ≡ a.access = ap access_of op ∙ w.access in
              λ k. record { place = place k; access = access k }

  -- where no more of the key come, these are its accesses
  pub all_held : (x : List ℕ) (i : ℕ) (ys : List Placed) → is_ours id x ≡ true → IsKeyAt list i x → (IsKeyAt list (i + 1) x → ⊥) → AreHeld x (i + 1) ys → ys ≡ accesses x ops
  all_held x i ys ours at_i none held = same_rising ys (accesses x ops) held.rise (accesses_rise x ops) (λ a. (to a, from a))
    where
      to : (a : Placed) → Contains ys a → Contains (accesses x ops) a
      to a c =
          let w = (held.exact a).0 c in
          let placed = (by.exact x a.place).0 (w.entry, get_contains list w.at w.entry w.stands, w.key, w.place) in
          let same : w.op ≡ placed.op = same_some (sym w.there ∙ placed.at) in
          (accesses_are x ops a).1 (w.op, w.there, ap key_of same ∙ placed.key, w.access)

      from : (a : Placed) → Contains (accesses x ops) a → Contains ys a
      from a c =
          let k = (accesses_are x ops a).0 c in
          let m = (by.exact x a.place).1 (record { op = k.0; at = k.1; key = k.2; ours = ours }) in
          let at = contains_get list m.0 m.1 in
          (held.exact a).1 (record { at = at.0; first = among at.0 (m.0, at.1, m.2); entry = m.0; stands = at.1; key = m.2; place = m.3; op = k.0; there = k.1; access = k.3 })
        where
          among : (j : ℕ) → IsKeyAt list j x → j < i + 1
          among j key = elim (cases_lt j (i + 1)) [
            | inl l ↦ l
            | inr past ↦ elim (cases_lt (i + 1) j) [
              | inl l ↦ absurd (none (next j key l))
              | inr k ↦ absurd (none (subst (λ n. IsKeyAt list n x) (let is : j ≡ i + 1 = omega arith in is) key))
            ]
          ]
            where
              next : (j : ℕ) → IsKeyAt list j x → i + 1 < j → IsKeyAt list (i + 1) x
              next j key l =
                  let (d, stands) = there_below j key l in
                  (d, stands, still i (i + 1) j x d.1.now at_i (d, stands, refl) key (omega arith) l)
                where
                  there_below : (j : ℕ) → IsKeyAt list j x → i + 1 < j → (d : KeyPlace) × (slice_get list (i + 1) ≡ Some d)
                  there_below j (e, stands, key) l = (slice_index_or list (i + 1) e, slice_get-get_or list (i + 1) e (let n = slice_get_within list j e stands in omega arith))
