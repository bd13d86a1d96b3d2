-- The transactions on a key, under their ids.
use Rattle.std.proofs.Common.{◌≡◌, ◌≢◌, ◌∙◌, ◌⊎◌, inl, inr, Bool, true, false, cond, List, [], ◌∷◌, ◌++◌, None, Some, refl, sym, ap, subst, true≢false}
use Rattle.std.proofs.Common.{Ordering}
use Rattle.std.specs.BTreeMap.{BTreeMap, get, IsOrdered, is_at, values}
use Rattle.std.specs.Cmp.{IsTotalOrder}
use Rattle.std.specs.Cmp.Rules.{comparing}
use Rattle.std.specs.List.{Contains}
use Rattle.std.specs.List.Sorted.{IsStrictlySortedBy}
use Rattle.std.specs.Map.{keys_of, values_of}
use Rattle.std.specs.Ordering.{is_eq}
use Rattle.std.specs.declared.cmp.Ordering.TheVariants.{Less}
use Rattle.std.proofs.Common.{rules}
use Rattle.std.proofs.lemmas.Map.Entries.{btree_map_get_place, place_from_lookup}
use Rattle.std.proofs.lemmas.Map.Keys.{sorted_head, sorted_tail}
use Rattle.std.proofs.lemmas.Map.Made.{Contains-values_of}
use Rattle.si_lists.proofs.Members.{Contains-from_map, Contains-map, here, there, same_some, at_each, contains_get, get_contains}
use Rattle.si_lists.proofs.Names.{pairs_nil, pairs_cons}
use Rattle.si_lists.proofs.Pushes.{push_cases, push_keeps, push_last}
use Rattle.si_model.specs.declared.numbers.TxnId.{TxnId}
use Rattle.si_model.specs.declared.parts.Part.{Part}
use Rattle.si_model.specs.Laws.{HaveSame}
use Rattle.si_model.proofs.Equalities.{same_id_or_not}
use Rattle.si_judge.specs.KeyParts.{AreNamedApart, AreUnderIds, IsLeftBy, id_cmp}
use Rattle.si_judge.proofs.IndexEdits.{no_value}
use Rattle.si_judge.proofs.Orders.{id_decides}

id_total : IsTotalOrder id_cmp
id_total = search (comparing, rules)

-- a map has what stands under its keys
pub value_of : {K X : Type 0} (cmp : K → K → Ordering) (m : BTreeMap K X) (k : K) (x : X) → get cmp m k ≡ Some x → Contains (values_of m.entries) x
value_of cmp m k x e = let p = place_from_lookup (is_at (cmp k)) m.entries x e in Contains-values_of m.entries p.1 x (get_contains m.entries p.0 (p.1, x) p.2)

-- each that is there stands under its id
pub stands : (m : BTreeMap TxnId Part) → IsOrdered id_cmp m → AreUnderIds m.entries → (T : Part) → Contains (values m) T → get id_cmp m T.id ≡ Some T
stands m o under T c =
    let e = Contains-from_map (λ (d : TxnId × Part). d.1) m.entries T c in
    let i = contains_get m.entries e.0 e.1 in
    let id : e.0.0 ≡ T.id = under e.0 e.1 ∙ ap (λ (X : Part). X.id) e.2 in
    subst (λ u. get id_cmp m u ≡ Some T) id (btree_map_get_place id_total m i.0 e.0.0 e.0.1 o i.1 ∙ ap Some e.2)

-- what stands under a key has it as its id
pub named_so : (m : BTreeMap TxnId Part) → AreUnderIds m.entries → (u : TxnId) (T : Part) → get id_cmp m u ≡ Some T → T.id ≡ u
named_so m under u T e =
    let p = place_from_lookup (is_at (id_cmp u)) m.entries T e in
    sym (under (p.1, T) (get_contains m.entries p.0 (p.1, T) p.2)) ∙ sym ((id_decides u p.1).0 p.3)

-- so their ids are apart
pub names_apart : (es : List (TxnId × Part)) → IsStrictlySortedBy id_cmp (keys_of es) → AreUnderIds es → AreNamedApart (values_of es)
names_apart [] s under = pairs_nil (λ A B. A.id ≢ B.id)
names_apart (e ∷ es) s under = pairs_cons (λ A B. A.id ≢ B.id) e.1 (values_of es) head (names_apart es (sorted_tail id_cmp e.0 (keys_of es) s) (λ d c. under d (there e es d c)))
  where
    head : (B : Part) → Contains (values_of es) B → e.1.id ≢ B.id
    head B c same =
        let d = Contains-from_map (λ (p : TxnId × Part). p.1) es B c in
        let is : e.0 ≡ d.0.0 = under e (here e es) ∙ same ∙ sym (ap (λ (X : Part). X.id) d.2) ∙ sym (under d.0 (there e es d.0 d.1)) in
        let less : id_cmp e.0 d.0.0 ≡ Less = at_each (λ k. id_cmp e.0 k ≡ Less) (keys_of es) d.0.0 (sorted_head id_cmp e.0 (keys_of es) s) (Contains-map (λ (p : TxnId × Part). p.0) es d.0 d.1) in
        true≢false (sym ((id_decides e.0 d.0.0).1 is) ∙ ap is_eq less)

-- ---- one comes

module _ (m n : BTreeMap TxnId Part) (was : IsOrdered id_cmp m) (ordered : IsOrdered id_cmp n) (under : AreUnderIds m.entries) (T : Part)
    (put : (u : TxnId) → get id_cmp n u ≡ cond (is_at (id_cmp T.id) u) (Some T) (get id_cmp m u)) where
  came : get id_cmp n T.id ≡ Some T
  came = put T.id ∙ ap (λ b. cond b (Some T) (get id_cmp m T.id)) ((id_decides T.id T.id).1 refl)

  stays : (u : TxnId) → u ≢ T.id → get id_cmp n u ≡ get id_cmp m u
  stays u d = by (is_at (id_cmp T.id) u) refl
    where
      by : (b : Bool) → is_at (id_cmp T.id) u ≡ b → get id_cmp n u ≡ get id_cmp m u
      by true at = absurd (d (sym ((id_decides T.id u).0 at)))
      by false at = put u ∙ ap (λ b. cond b (Some T) (get id_cmp m u)) at

  -- under a key stands it, or what stood there
  new_or_old : (u : TxnId) (X : Part) → get id_cmp n u ≡ Some X → ((u ≡ T.id) × (X ≡ T)) ⊎ (get id_cmp m u ≡ Some X)
  new_or_old u X e = elim (same_id_or_not u T.id) [
    | inl same ↦ inl (same, same_some (sym e ∙ ap (get id_cmp n) same ∙ came))
    | inr other ↦ inr (sym (stays u other) ∙ e)
  ]

  pub under_put : AreUnderIds n.entries
  under_put e c =
      let i = contains_get n.entries e c in
      elim (new_or_old e.0 e.1 (btree_map_get_place id_total n i.0 e.0 e.1 ordered i.1)) [
        | inl new ↦ new.0 ∙ ap (λ (X : Part). X.id) (sym new.1)
        | inr old ↦ sym (named_so m under e.0 e.1 old)
      ]

  pub same_put : ((X : Part) → Contains (values m) X → X.id ≢ T.id) → HaveSame (values m ++ T ∷ []) (values n)
  same_put absent X = (
    (λ c. elim (push_cases (values m) T X c) [
      | inl old ↦ value_of id_cmp n X.id X (stays X.id (absent X old) ∙ stands m was under X old)
      | inr is ↦ subst (Contains (values n)) is (value_of id_cmp n T.id T came)
    ]),
    (λ c. elim (new_or_old X.id X (stands n ordered under_put X c)) [
      | inl new ↦ subst (Contains (values m ++ T ∷ [])) (sym new.1) (push_last (values m) T)
      | inr old ↦ push_keeps (values m) T X (value_of id_cmp m X.id X old)
    ]),
  )

-- ---- one is taken out

module _ (m r : BTreeMap TxnId Part) (ordered : IsOrdered id_cmp m) (left : IsOrdered id_cmp r) (under : AreUnderIds m.entries) (id : TxnId) (T : Part) (held : get id_cmp m id ≡ Some T)
    (gone : (u : TxnId) → get id_cmp r u ≡ cond (is_at (id_cmp id) u) None (get id_cmp m u)) where
  gone_there : get id_cmp r id ≡ None
  gone_there = gone id ∙ ap (λ b. cond b None (get id_cmp m id)) ((id_decides id id).1 refl)

  stays_other : (u : TxnId) → u ≢ id → get id_cmp r u ≡ get id_cmp m u
  stays_other u d = by (is_at (id_cmp id) u) refl
    where
      by : (b : Bool) → is_at (id_cmp id) u ≡ b → get id_cmp r u ≡ get id_cmp m u
      by true at = absurd (d (sym ((id_decides id u).0 at)))
      by false at = gone u ∙ ap (λ b. cond b None (get id_cmp m u)) at

  -- what is left under a key stood there, and the key is another
  was_at : (u : TxnId) (X : Part) → get id_cmp r u ≡ Some X → (u ≢ id) × (get id_cmp m u ≡ Some X)
  was_at u X e =
      let differ : u ≢ id = λ s. no_value X (sym gone_there ∙ ap (get id_cmp r) (sym s) ∙ e) in
      (differ, sym (stays_other u differ) ∙ e)

  pub under_left : AreUnderIds r.entries
  under_left e c =
      let i = contains_get r.entries e c in
      sym (named_so m under e.0 e.1 (was_at e.0 e.1 (btree_map_get_place id_total r i.0 e.0 e.1 left i.1)).1)

  pub taken_is : T.id ≡ id
  taken_is = named_so m under id T held

  was_there : (X : Part) → Contains (values r) X → Contains (values m) X × (X.id ≢ T.id)
  was_there X c =
      let w = was_at X.id X (stands r left under_left X c) in
      (value_of id_cmp m X.id X w.1, λ s. w.0 (s ∙ taken_is))

  pub left_by : IsLeftBy T (values m) (values r)
  left_by = record {
    absent = λ X c. (was_there X c).1;
    parts = λ X. (
      (λ c. elim (same_id_or_not X.id T.id) [
        | inl s ↦ inr (same_some (sym (stands m ordered under X c) ∙ ap (get id_cmp m) (s ∙ taken_is) ∙ held))
        | inr d ↦ inl (value_of id_cmp r X.id X (stays_other X.id (λ s. d (s ∙ sym taken_is)) ∙ stands m ordered under X c))
      ]),
      (λ c. elim c [ inl l ↦ (was_there X l).0 | inr e ↦ subst (Contains (values m)) (sym e) (value_of id_cmp m id T held) ]),
    );
  }
