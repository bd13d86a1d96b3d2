-- What an edit is on the keys of a shard, made at the first operation on each.
use Rattle.std.proofs.Common.{◌≡◌, ◌⊎◌, ◌∙◌, ◌≤◌, ◌&&◌, ◌||◌, inl, inr, ℕ, zero, suc, ◌+◌, Bool, true, false, not, if◌then◌else◌, List, [], ◌∷◌, ◌++◌, length, take, drop, slice_get, Some, None, refl, sym, ap, ap₂, subst, append_assoc, arith}
use Rattle.std.specs.List.{Contains, cons_option, enumerate_from, filter_map}
use Rattle.std.proofs.lemmas.Bool.{and_parts}
use Rattle.std.proofs.lemmas.List.{take_all}
use Rattle.std.proofs.lemmas.List.Folds.{list_any_at, list_any_more}
use Rattle.std.proofs.lemmas.Option.{get_or_from_slice_get, slice_get_within}
use Rattle.si_lists.proofs.Members.{same_some}
use Rattle.si_model.specs.declared.numbers.Value.{Value}
use Rattle.si_model.specs.declared.operations.Op.{Op}
use Rattle.si_model.specs.declared.parts.OnKey.{OnKey}
use Rattle.si_model.specs.declared.parts.Placed.{Placed}
use Rattle.si_model.specs.declared.edits.Edit.{Edit}
use Rattle.si_model.specs.declared.edits.Edit.TheVariants as edit
use Rattle.si_model.specs.Operations.{access_of, key_of, same_key}
use Rattle.si_model.specs.Parts.{accesses, placed_at}
use Rattle.si_model.proofs.Equalities.{same_key_from, same_key_is}
use Rattle.si_model.proofs.KeyParts.{accesses_are}
use Rattle.si_shard.specs.declared.key_changes.Change.{Change}
use Rattle.si_shard.specs.declared.key_changes.TxnHead.{TxnHead}
use Rattle.si_shard.specs.declared.key_states.KeyStates.{KeyStates}
use Rattle.si_shard.specs.declared.shard_ids.ShardId.{ShardId}
use Rattle.si_shard.specs.AppliedEdits.{IsAccessChange, change_by}
use Rattle.si_shard.specs.KeyChanges.{CanChange}
use Rattle.si_shard.specs.KeyStates.{IsChangedAt, IsMadeAt, IsOn, StaysAt}
use Rattle.si_shard.specs.ShardIds.{is_ours}
use Rattle.si_shard.specs.SingleEdits.{IsMadeBy, is_accessed, is_first}
use Rattle.si_shard.proofs.EachKey.{CanBeAccessed}

-- ---- the accesses of a key from the first one on

neither : (a b : Bool) → (a || b) ≡ false → (a ≡ false) × (b ≡ false)
neither true b e = absurd (let no : true ≡ false = e in cc)
neither false b e = (refl, e)

abbrev pub accesses_on : List ℕ → ℕ → List Op → List Placed
accesses_on x n ops = filter_map (placed_at x) (enumerate_from n ops)

-- operations on other keys have none
skipped : (x : List ℕ) (n k : ℕ) (ops : List Op) → is_accessed (take n ops) x ≡ false → accesses_on x k ops ≡ accesses_on x (k + n) (drop n ops)
skipped x zero k ops none = ap (λ m. accesses_on x m ops) (let e : k ≡ k + 0 = omega arith in e)
skipped x (suc n) k [] none = refl
skipped x (suc n) k (p ∷ ops) none =
    let both = neither (same_key (key_of p) x) (is_accessed (take n ops) x) none in
    ap (λ b. cons_option (if b then Some (record { place = k; access = access_of p }) else None) (accesses_on x (k + 1) ops)) both.0
    ∙ skipped x n (k + 1) ops both.1 ∙ ap (λ m. accesses_on x m (drop n ops)) (let e : k + 1 + n ≡ k + suc n = omega arith in e)

dropped : (n : ℕ) (ops : List Op) (p : Op) → slice_get ops n ≡ Some p → drop n ops ≡ p ∷ drop (n + 1) ops
dropped zero [] p at = absurd (let none : None ≡ Some p = at in cc)
dropped zero (q ∷ ops) p at = ap (λ o. o ∷ ops) (same_some at)
dropped (suc n) [] p at = absurd (let none : None ≡ Some p = at in cc)
dropped (suc n) (q ∷ ops) p at = dropped n ops p at ∙ ap (λ m. p ∷ drop m (q ∷ ops)) (let e : suc (n + 1) ≡ suc n + 1 = omega arith in e)

-- the accesses from that place on, by whether its operation is on the key
pub next_access : (x : List ℕ) (n : ℕ) (ops : List Op) (p : Op) → slice_get ops n ≡ Some p
    → accesses_on x n (drop n ops) ≡ cons_option (if same_key (key_of p) x then Some (record { place = n; access = access_of p }) else None) (accesses_on x (n + 1) (drop (n + 1) ops))
next_access x n ops p at = ap (accesses_on x n) (dropped n ops p at)

pub here_accessed : (x : List ℕ) (n : ℕ) (ops : List Op) (p : Op) → slice_get ops n ≡ Some p → same_key (key_of p) x ≡ true
    → accesses_on x n (drop n ops) ≡ record { place = n; access = access_of p } ∷ accesses_on x (n + 1) (drop (n + 1) ops)
here_accessed x n ops p at here = next_access x n ops p at
    ∙ ap (λ b. cons_option (if b then Some (record { place = n; access = access_of p }) else None) (accesses_on x (n + 1) (drop (n + 1) ops))) here

pub other_accessed : (x : List ℕ) (n : ℕ) (ops : List Op) (p : Op) → slice_get ops n ≡ Some p → same_key (key_of p) x ≡ false
    → accesses_on x n (drop n ops) ≡ accesses_on x (n + 1) (drop (n + 1) ops)
other_accessed x n ops p at other = next_access x n ops p at
    ∙ ap (λ b. cons_option (if b then Some (record { place = n; access = access_of p }) else None) (accesses_on x (n + 1) (drop (n + 1) ops))) other

-- one more was found
pub found_more : (x : List ℕ) (n : ℕ) (ops : List Op) (p : Op) (all found new : List Placed) (a : Placed) → slice_get ops n ≡ Some p → same_key (key_of p) x ≡ true
    → found ++ accesses_on x n (drop n ops) ≡ all → a ≡ record { place = n; access = access_of p } → new ≡ found ++ a ∷ []
    → new ++ accesses_on x (n + 1) (drop (n + 1) ops) ≡ all
found_more x n ops p all found new a at here sofar is grown =
    let rest = accesses_on x (n + 1) (drop (n + 1) ops) in
    ap (λ l. l ++ rest) (grown ∙ ap (λ b. found ++ b ∷ []) is) ∙ append_assoc found (record { place = n; access = access_of p } ∷ []) rest
    ∙ ap (λ l. found ++ l) (sym (here_accessed x n ops p at here)) ∙ sofar

pub found_past : (x : List ℕ) (n : ℕ) (ops : List Op) (p : Op) (all found : List Placed) → slice_get ops n ≡ Some p → same_key (key_of p) x ≡ false
    → found ++ accesses_on x n (drop n ops) ≡ all → found ++ accesses_on x (n + 1) (drop (n + 1) ops) ≡ all
found_past x n ops p all found at other sofar = ap (λ l. found ++ l) (sym (other_accessed x n ops p at other)) ∙ sofar

-- those from the first one on are all
pub found_first : (x : List ℕ) (n : ℕ) (ops : List Op) (new : List Placed) (a : Placed) → ((p : Op) × (slice_get ops n ≡ Some p) × (key_of p ≡ x)) → is_accessed (take n ops) x ≡ false
    → ((p : Op) × (slice_get ops n ≡ Some p) × (a ≡ record { place = n; access = access_of p })) → new ≡ [] ++ a ∷ []
    → new ++ accesses_on x (n + 1) (drop (n + 1) ops) ≡ accesses x ops
found_first x n ops new a (q, there, key) none (p, at, is) grown =
    found_more x n ops p (accesses x ops) [] new a at (same_key_from (key_of p) x (ap key_of (same_some (sym at ∙ there)) ∙ key)) (ap (λ m. accesses_on x m (drop n ops)) (let e : n ≡ 0 + n = omega arith in e) ∙ sym (skipped x n 0 ops none)) is grown

-- ---- what was made so far

module _ (id : ShardId) (ops : List Op) (h : TxnHead) (e : Edit) where
  -- what was made at the first i: the change of each key of the shard that one of them is on, and of no other
  abbrev pub AreMadeBefore : ℕ → KeyStates → KeyStates → Type 0
  AreMadeBefore i old new = (x : List ℕ) → (StaysAt x old new × (is_ours id x ≡ true → is_accessed (take i ops) x ≡ false))
      ⊎ (IsMadeAt x (change_by h e (accesses x ops)) old new × (is_ours id x ≡ true) × (is_accessed (take i ops) x ≡ true) × ((a : Placed) × Contains (accesses x ops) a))

  pub none_made : (ks : KeyStates) → AreMadeBefore 0 ks ks
  none_made ks = λ x. inl ((λ Q on. on), (λ ours. refl))

  module _ (i : ℕ) (p : Op) (at : slice_get ops i ≡ Some p) (old mid : KeyStates) (w : AreMadeBefore i old mid) where
    abbrev x : List ℕ
    x = key_of p

    more : (y : List ℕ) → is_accessed (take (i + 1) ops) y ≡ (is_accessed (take i ops) y || same_key x y)
    more y = list_any_more (λ q. same_key (key_of q) y) ops i p (slice_get_within ops i p at) ∙ ap (λ q. is_accessed (take i ops) y || same_key (key_of q) y) (get_or_from_slice_get ops i p p at)

    more_stays : (y : List ℕ) → is_accessed (take i ops) y ≡ true → is_accessed (take (i + 1) ops) y ≡ true
    more_stays y came = more y ∙ ap (λ b. b || same_key x y) came

    none_more : (y : List ℕ) → is_accessed (take i ops) y ≡ false → same_key x y ≡ false → is_accessed (take (i + 1) ops) y ≡ false
    none_more y none other = more y ∙ ap₂ (λ b c. b || c) none other

    -- where nothing is to be made at the next one
    pub made_past : is_first id (take i ops) x ≡ false → AreMadeBefore (i + 1) old mid
    made_past test = λ y. elim (w y) [
      | inl k ↦ inl (k.0, (λ ours. by y ours (k.1 ours) (same_key x y) refl))
      | inr k ↦ inr (k.0, k.1, more_stays y k.2, k.3)
    ]
      where
        by : (y : List ℕ) → is_ours id y ≡ true → is_accessed (take i ops) y ≡ false → (b : Bool) → same_key x y ≡ b → is_accessed (take (i + 1) ops) y ≡ false
        by y ours none true s =
            let here = same_key_is x y s in
            let yes : is_first id (take i ops) x ≡ true = ap₂ (λ a b. a && not b) (ap (is_ours id) here ∙ ours) (ap (is_accessed (take i ops)) here ∙ none) in
            absurd (let no : true ≡ false = sym yes ∙ test in cc)
        by y ours none false s = none_more y none s

    module _ (test : is_first id (take i ops) x ≡ true) where
      ours : is_ours id x ≡ true
      ours = (and_parts (is_ours id x) (not (is_accessed (take i ops) x)) test).0

      pub first : is_accessed (take i ops) x ≡ false
      first = by (is_accessed (take i ops) x) (and_parts (is_ours id x) (not (is_accessed (take i ops) x)) test).1
        where
          by : (b : Bool) → not b ≡ true → b ≡ false
          by true e = sym e
          by false e = refl

      fresh : StaysAt x old mid
      fresh = elim (w x) [ inl k ↦ k.0 | inr k ↦ absurd (let no : true ≡ false = sym k.2 ∙ first in cc) ]

      abbrev access : Placed
      access = record { place = i; access = access_of p }

      accessed : Contains (accesses x ops) access
      accessed = (accesses_are x ops access).1 (p, at, refl, refl)

      -- its change can be made
      pub can_make_first : CanBeAccessed id ops h e old → (Q : OnKey) × IsOn mid x Q × CanChange (change_by h e (accesses x ops)) Q
      can_make_first can = let k = can x (change_by h e (accesses x ops)) ours (access, accessed, refl) in (k.0, fresh k.0 k.1, k.2)

      abbrev Now : KeyStates → List ℕ → Type 0
      Now new y = (StaysAt y old new × (is_ours id y ≡ true → is_accessed (take (i + 1) ops) y ≡ false))
          ⊎ (IsMadeAt y (change_by h e (accesses y ops)) old new × (is_ours id y ≡ true) × (is_accessed (take (i + 1) ops) y ≡ true) × ((a : Placed) × Contains (accesses y ops) a))

      pub made_first : (new : KeyStates) → IsChangedAt x (change_by h e (accesses x ops)) mid new → AreMadeBefore (i + 1) old new
      made_first new changed = λ y. by y (same_key x y) refl
        where
          here : Now new x
          here = inr ((λ Q on. changed.made Q (fresh Q on)), ours, more x ∙ ap₂ (λ b c. b || c) first (same_key_from x x refl), (access, accessed))

          by : (y : List ℕ) (b : Bool) → same_key x y ≡ b → Now new y
          by y true s = subst (Now new) (same_key_is x y s) here
          by y false s =
              let differs : y ≡ x → ⊥ = λ f. (let no : true ≡ false = sym (same_key_from x y (sym f)) ∙ s in cc) in
              elim (w y) [
                | inl k ↦ inl ((λ Q on. changed.others y differs Q (k.0 Q on)), (λ mine. none_more y (k.1 mine) s))
                | inr k ↦ inr ((λ Q on can. changed.others y differs _ (k.0 Q on can)), k.1, more_stays y k.2, k.3)
              ]

  -- ---- at the end

  module _ (i : ℕ) (end : length ops ≤ i) (old new : KeyStates) (w : AreMadeBefore i old new) where
    came : (x : List ℕ) (a : Placed) → Contains (accesses x ops) a → is_accessed (take i ops) x ≡ true
    came x a c =
        let k = (accesses_are x ops a).0 c in
        ap (λ l. is_accessed l x) (take_all i ops end)
        ∙ list_any_at (λ q. same_key (key_of q) x) ops a.place k.0 (slice_get_within ops a.place k.0 k.1) (same_key_from _ x (ap key_of (get_or_from_slice_get ops a.place k.0 k.0 k.1) ∙ k.2))

    pub changed_all : (x : List ℕ) (c : Change) → is_ours id x ≡ true → IsAccessChange (Some (h, ops)) e x c → IsMadeAt x c old new
    changed_all x c ours (a, there, is) = elim (w x) [
      | inl k ↦ absurd (let no : true ≡ false = sym (came x a there) ∙ k.1 ours in cc)
      | inr k ↦ subst (λ d. IsMadeAt x d old new) (sym is) k.0
    ]

    pub others_stay : (x : List ℕ) → (is_ours id x ≡ true → (c : Change) → IsAccessChange (Some (h, ops)) e x c → ⊥) → StaysAt x old new
    others_stay x none = elim (w x) [
      | inl k ↦ k.0
      | inr k ↦ absurd (none k.1 (change_by h e (accesses x ops)) (k.3.0, k.3.1, refl))
    ]

-- all was made of an edit that sets no key up
module _ (id : ShardId) (ops : List Op) (h : TxnHead) where
  pub all_made : (e : Edit) → ((x : List ℕ) (v : Value) → e ≡ edit.SetUp x v → ⊥) → (i : ℕ) → length ops ≤ i → (old new : KeyStates) → AreMadeBefore id ops h e i old new → IsMadeBy id (Some (h, ops)) e old new
  all_made (edit.Arrive T) other i end old new w = record { changed = changed_all id ops h (edit.Arrive T) i end old new w; others = others_stay id ops h (edit.Arrive T) i end old new w }
  all_made (edit.Resolve u o) other i end old new w = record { changed = changed_all id ops h (edit.Resolve u o) i end old new w; others = others_stay id ops h (edit.Resolve u o) i end old new w }
  all_made (edit.Withdraw u) other i end old new w = record { changed = changed_all id ops h (edit.Withdraw u) i end old new w; others = others_stay id ops h (edit.Withdraw u) i end old new w }
  all_made (edit.SetUp x v) other i end old new w = absurd (other x v refl)
