-- What an edit is on the keys of a shard, made on each of them by itself, key by key.
use Rattle.std.proofs.Common.{◌≡◌, ◌⊎◌, ◌∙◌, ◌<◌, ◌≤◌, inl, inr, ℕ, ◌+◌, Bool, true, false, List, [], ◌∷◌, ◌++◌, length, slice_get, Option, Some, None, refl, sym, ap, subst, arith}
use Rattle.std.specs.List.{Contains}
use Rattle.std.proofs.lemmas.Option.{slice_get_within}
use Rattle.si_lists.proofs.Members.{contains_get, get_contains}
use Rattle.si_lists.proofs.Pushes.{push_last}
use Rattle.si_model.specs.declared.numbers.Value.{Value}
use Rattle.si_model.specs.declared.operations.Op.{Op}
use Rattle.si_model.specs.declared.parts.OnKey.{OnKey}
use Rattle.si_model.specs.declared.parts.Placed.{Placed}
use Rattle.si_model.specs.declared.edits.Edit.{Edit}
use Rattle.si_model.specs.declared.edits.Edit.TheVariants as edit
use Rattle.si_model.specs.Operations.{access_of, same_key}
use Rattle.si_model.proofs.Equalities.{same_key_from, same_key_is}
use Rattle.si_model.specs.Parts.{accesses}
use Rattle.si_model.proofs.KeyParts.{accesses_are}
use Rattle.si_shard.specs.declared.key_changes.Change.{Change}
use Rattle.si_shard.specs.declared.key_changes.Change.TheVariants as change
use Rattle.si_shard.specs.declared.shard_ids.ShardId.{ShardId}
use Rattle.si_shard.specs.declared.key_states.KeyStates.{KeyStates}
use Rattle.si_shard.specs.declared.key_changes.TxnHead.{TxnHead}
use Rattle.si_shard.specs.AppliedEdits.{IsAccessChange, TxnBefore, change_by}
use Rattle.si_shard.specs.KeyChanges.{CanChange}
use Rattle.si_shard.specs.KeyStates.{IsChangedAt, IsMadeAt, IsOn, StaysAt}
use Rattle.si_shard.specs.ShardIds.{is_ours}
use Rattle.si_shard.specs.SingleEdits.{AreByKey, CanBeMadeBy, IsKeyAt, IsMadeBy, IsPlaced, KeyPlace}
use Rattle.si_shard.proofs.ByKey.{AreHeld, all_held, before_or_at, held_more, none_held, one_key, still}

-- what the edit is where a key of the shard is accessed can be made there
abbrev pub CanBeAccessed : ShardId → List Op → TxnHead → Edit → KeyStates → Type 0
CanBeAccessed id ops h e ks = (x : List ℕ) (c : Change) → is_ours id x ≡ true → IsAccessChange (Some (h, ops)) e x c → (Q : OnKey) × IsOn ks x Q × CanChange c Q

module _ (id : ShardId) (ops : List Op) (h : TxnHead) (e : Edit) (list : List KeyPlace) (by : AreByKey id ops list) where
  -- an operation on the key is among the first i of the list
  abbrev pub HasCome : ℕ → List ℕ → Type 0
  HasCome i x = (j : ℕ) × (j < i) × IsKeyAt list j x

  -- what was made of the first i: each key's change, but of the key of the next one, whose accesses so far are these
  pub record AreMade (i : ℕ) (hand : List Placed) (old new : KeyStates) : Type 0 where
    pub keys : (x : List ℕ) → (StaysAt x old new × (HasCome i x → IsKeyAt list i x))
        ⊎ (IsMadeAt x (change_by h e (accesses x ops)) old new × HasCome i x × (IsKeyAt list i x → ⊥))
    pub held : (x : List ℕ) → IsKeyAt list i x → AreHeld id ops list by x i hand

  pub none_made : (ks : KeyStates) → AreMade 0 [] ks ks
  none_made ks = record {
    keys = λ x. inl ((λ Q on. on), (λ c. absurd (let l = c.1 in omega arith)));
    held = λ x key. none_held id ops list by x 0 (λ j l. absurd (omega arith));
  }

  -- the operation of an entry
  pub placed : (i : ℕ) (d : KeyPlace) → slice_get list i ≡ Some d → IsPlaced id ops d.1.now d.2
  placed i d at = (by.exact d.1.now d.2).0 (d, get_contains list i d at, refl, refl)

  module _ (i : ℕ) (d : KeyPlace) (at : slice_get list i ≡ Some d) (p : Op) (there : slice_get ops d.2 ≡ Some p) (hand : List Placed) (old mid : KeyStates) (w : AreMade i hand old mid) where
    abbrev x : List ℕ
    x = d.1.now

    abbrev more : List Placed
    more = hand ++ record { place = d.2; access = access_of p } ∷ []

    here : IsKeyAt list i x
    here = (d, at, refl)

    ours : is_ours id x ≡ true
    ours = (placed i d at).ours

    holds : AreHeld id ops list by x (i + 1) more
    holds = held_more id ops list by x i d p hand at refl there (w.held x here)

    fresh : StaysAt x old mid
    fresh = elim (w.keys x) [ inl k ↦ k.0 | inr k ↦ absurd (k.2 here) ]

    -- another key that came has no operation from here on
    gone : (y : List ℕ) → (y ≡ x → ⊥) → HasCome (i + 1) y → IsKeyAt list (i + 1) y → ⊥
    gone y differs (j, l, key) next = elim (before_or_at j i l) [
      | inl k ↦ differs (sym (still id ops list by j i (i + 1) y x key here next k (omega arith)))
      | inr k ↦ differs (one_key id ops list by i y x (subst (λ n. IsKeyAt list n y) k key) here)
    ]

    earlier : (y : List ℕ) → (y ≡ x → ⊥) → HasCome (i + 1) y → HasCome i y
    earlier y differs (j, l, key) = elim (before_or_at j i l) [
      | inl k ↦ (j, k, key)
      | inr k ↦ absurd (differs (one_key id ops list by i y x (subst (λ n. IsKeyAt list n y) k key) here))
    ]

    longer : (y : List ℕ) → HasCome i y → HasCome (i + 1) y
    longer y (j, l, key) = (j, (omega (arith, l)), key)

    abbrev Now : List ℕ → KeyStates → Type 0
    Now y new = (StaysAt y old new × (HasCome (i + 1) y → IsKeyAt list (i + 1) y))
        ⊎ (IsMadeAt y (change_by h e (accesses y ops)) old new × HasCome (i + 1) y × (IsKeyAt list (i + 1) y → ⊥))

    -- what is so of another key stays so
    other : (y : List ℕ) → (y ≡ x → ⊥) → (new : KeyStates) → StaysAt y mid new → Now y new
    other y differs new stays = elim (w.keys y) [
      | inl k ↦ inl ((λ Q on. stays Q (k.0 Q on)), (λ c. absurd (differs (one_key id ops list by i y x (k.1 (earlier y differs c)) here))))
      | inr k ↦ inr ((λ Q on can. stays _ (k.0 Q on can)), longer y k.1, gone y differs (longer y k.1))
    ]

    -- ---- where the next one is on the key too

    pub made_past : IsKeyAt list (i + 1) x → AreMade (i + 1) more old mid
    made_past next = record {
      keys = λ y. by_key y (same_key y x) refl;
      held = λ y key. subst (λ z. AreHeld id ops list by z (i + 1) more) (one_key id ops list by (i + 1) x y next key) holds;
    }
      where
        by_key : (y : List ℕ) (b : Bool) → same_key y x ≡ b → Now y mid
        by_key y true s = inl (subst (λ z. StaysAt z old mid) (sym (same_key_is y x s)) fresh, (λ c. subst (IsKeyAt list (i + 1)) (sym (same_key_is y x s)) next))
        by_key y false s = other y (λ f. (let no : true ≡ false = sym (same_key_from y x f) ∙ s in cc)) mid (λ Q on. on)

    -- ---- where it is the last on its key

    module _ (last : IsKeyAt list (i + 1) x → ⊥) where
      pub all_here : more ≡ accesses x ops
      all_here = all_held id ops list by x i more ours here last holds

      accessed : Contains (accesses x ops) (record { place = d.2; access = access_of p })
      accessed = subst (λ l. Contains l (record { place = d.2; access = access_of p })) all_here (push_last hand (record { place = d.2; access = access_of p }))

      -- its change can be made
      pub can_make_here : CanBeAccessed id ops h e old → (Q : OnKey) × IsOn mid x Q × CanChange (change_by h e more) Q
      can_make_here can =
          let k = can x (change_by h e more) ours (record { place = d.2; access = access_of p }, accessed, ap (change_by h e) all_here) in
          (k.0, fresh k.0 k.1, k.2)

      pub made_on : (new : KeyStates) → IsChangedAt x (change_by h e more) mid new → AreMade (i + 1) [] old new
      made_on new changed = record {
        keys = λ y. by_key y (same_key y x) refl;
        held = λ y key. none_held id ops list by y (i + 1) (λ j l has. by_next y key (j, l, has) (same_key y x) refl);
      }
        where
          at_key : Now x new
          at_key = inr (subst (λ ys. IsMadeAt x (change_by h e ys) old new) all_here (λ Q on. changed.made Q (fresh Q on)), (i, omega arith, here), last)

          by_key : (y : List ℕ) (b : Bool) → same_key y x ≡ b → Now y new
          by_key y true s = subst (λ z. Now z new) (sym (same_key_is y x s)) at_key
          by_key y false s = (let differs : y ≡ x → ⊥ = λ f. (let no : true ≡ false = sym (same_key_from y x f) ∙ s in cc) in other y differs new (changed.others y differs))

          by_next : (y : List ℕ) → IsKeyAt list (i + 1) y → HasCome (i + 1) y → (b : Bool) → same_key y x ≡ b → ⊥
          by_next y key come true s = last (subst (IsKeyAt list (i + 1)) (same_key_is y x s) key)
          by_next y key come false s = gone y (λ f. (let no : true ≡ false = sym (same_key_from y x f) ∙ s in cc)) come key

  -- ---- at the end

  module _ (i : ℕ) (end : length list ≤ i) (hand : List Placed) (old new : KeyStates) (w : AreMade i hand old new) where
    none_next : (x : List ℕ) → IsKeyAt list i x → ⊥
    none_next x (d, at, key) = absurd (omega (arith, end, slice_get_within list i d at))

    -- a key of the shard that is accessed came
    came : (x : List ℕ) (a : Placed) → is_ours id x ≡ true → Contains (accesses x ops) a → HasCome i x
    came x a ours c =
        let k = (accesses_are x ops a).0 c in
        let m = (by.exact x a.place).1 (record { op = k.0; at = k.1; key = k.2; ours = ours }) in
        let at = contains_get list m.0 m.1 in
        (at.0, omega (arith, end, slice_get_within list at.0 m.0 at.1), (m.0, at.1, m.2))

    is_accessed : (x : List ℕ) → HasCome i x → (is_ours id x ≡ true) × ((a : Placed) × Contains (accesses x ops) a)
    is_accessed x (j, l, (d, at, key)) =
        let k = placed j d at in
        (subst (λ y. is_ours id y ≡ true) key k.ours, (record { place = d.2; access = access_of k.op }, (accesses_are x ops (record { place = d.2; access = access_of k.op })).1 (k.op, k.at, k.key ∙ key, refl)))

    changed : (x : List ℕ) (c : Change) → is_ours id x ≡ true → IsAccessChange (Some (h, ops)) e x c → IsMadeAt x c old new
    changed x c ours (a, there, is) = elim (w.keys x) [
      | inl k ↦ absurd (none_next x (k.1 (came x a ours there)))
      | inr k ↦ subst (λ d. IsMadeAt x d old new) (sym is) k.0
    ]

    others : (x : List ℕ) → (is_ours id x ≡ true → (c : Change) → IsAccessChange (Some (h, ops)) e x c → ⊥) → StaysAt x old new
    others x none = elim (w.keys x) [
      | inl k ↦ k.0
      | inr k ↦ (let r = is_accessed x k.1 in absurd (none r.0 (change_by h e (accesses x ops)) (r.1.0, r.1.1, refl)))
    ]

-- all was made of an edit that sets no key up
module _ (id : ShardId) (ops : List Op) (h : TxnHead) (list : List KeyPlace) (by : AreByKey id ops list) where
  pub made_all : (e : Edit) → ((x : List ℕ) (v : Value) → e ≡ edit.SetUp x v → ⊥) → (i : ℕ) → length list ≤ i → (hand : List Placed) (old new : KeyStates) → AreMade id ops h e list by i hand old new → IsMadeBy id (Some (h, ops)) e old new
  made_all (edit.Arrive T) other i end hand old new w = record { changed = changed id ops h (edit.Arrive T) list by i end hand old new w; others = others id ops h (edit.Arrive T) list by i end hand old new w }
  made_all (edit.Resolve u o) other i end hand old new w = record { changed = changed id ops h (edit.Resolve u o) list by i end hand old new w; others = others id ops h (edit.Resolve u o) list by i end hand old new w }
  made_all (edit.Withdraw u) other i end hand old new w = record { changed = changed id ops h (edit.Withdraw u) list by i end hand old new w; others = others id ops h (edit.Withdraw u) list by i end hand old new w }
  made_all (edit.SetUp x v) other i end hand old new w = absurd (other x v refl)

-- what such an edit is where a key is accessed can be made there
pub can_access : (id : ShardId) (ops : List Op) (h : TxnHead) (e : Edit) (keys : KeyStates) → ((x : List ℕ) (v : Value) → e ≡ edit.SetUp x v → ⊥) → CanBeMadeBy id (Some (h, ops)) e keys → CanBeAccessed id ops h e keys
can_access id ops h (edit.Arrive T) keys other can = can
can_access id ops h (edit.Resolve u o) keys other can = can
can_access id ops h (edit.Withdraw u) keys other can = can
can_access id ops h (edit.SetUp x v) keys other can = absurd (other x v refl)

-- an edit of no transaction that is known is nothing, unless it sets a key up
pub none_known : (id : ShardId) (e : Edit) (keys : KeyStates) → ((x : List ℕ) (v : Value) → e ≡ edit.SetUp x v → ⊥) → IsMadeBy id None e keys keys
none_known id (edit.Arrive T) keys other = record { changed = λ x c o k. absurd k; others = λ x none Q on. on }
none_known id (edit.Resolve u o) keys other = record { changed = λ x c o k. absurd k; others = λ x none Q on. on }
none_known id (edit.Withdraw u) keys other = record { changed = λ x c o k. absurd k; others = λ x none Q on. on }
none_known id (edit.SetUp x v) keys other = absurd (other x v refl)

-- ---- a set-up

pub set_up_made : (id : ShardId) (t : Option TxnBefore) (y : List ℕ) (v : Value) (old new : KeyStates) → is_ours id y ≡ true → IsChangedAt y (change.SetUp v) old new → IsMadeBy id t (edit.SetUp y v) old new
set_up_made id t y v old new ours changed = record {
  changed = λ x c o k. subst (λ d. IsMadeAt x d old new) (sym k.1) (subst (λ z. IsMadeAt z (change.SetUp v) old new) (sym k.0) changed.made);
  others = λ x none. changed.others x (λ f. none (ap (is_ours id) f ∙ ours) (change.SetUp v) (f, refl));
}
