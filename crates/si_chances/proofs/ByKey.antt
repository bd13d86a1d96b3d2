-- The slots of each key, from one transaction to the next.
use Rattle.std.proofs.Common.{◌≡◌, ◌≢◌, ℕ, ◌+◌, ◌<◌, ◌≤◌, Bool, true, false, cond, List, [], ◌∷◌, ◌++◌, Option, None, Some, ap, refl, sym, subst, ◌∙◌, arith, append_assoc, length, get_or, take, slice_get}
use Rattle.std.specs.List.{Contains, flat_map, enumerate_from}
use Rattle.std.specs.HashMap.{HashMap, get, keys, IsEmpty, IsUnique}
use Rattle.std.specs.Map.{lookup}
use Rattle.std.specs.declared.vec.Vec.{Vec}
use Rattle.std.specs.Cmp.Lexicographic.{nat_list_eq_equiv}
use Rattle.std.proofs.lemmas.List.{append-nil, length-take-le, take_more}
use Rattle.std.proofs.lemmas.List.Concat.{flat_map-append}
use Rattle.std.proofs.lemmas.Map.Entries.{place_from_lookup, hash_map_get_place}
use Rattle.si_model.specs.declared.operations.Op.{Op}
use Rattle.si_model.specs.declared.transactions.Txn.{Txn}
use Rattle.si_model.specs.Operations.{key_of, same_key}
use Rattle.si_model.specs.Findings.{keys_in}
use Rattle.si_model.proofs.Equalities.{same_key_is, same_key_from}
use Rattle.si_lists.proofs.Members.{Contains-nil, here, Contains-flat_map, Contains-from_flat_map, Contains-map, Contains-from_map, Contains-enumerate, Contains-from_enumerate, get_contains, contains_get}
use Rattle.si_chances.specs.declared.grouping.Slot.{Slot}
use Rattle.si_chances.specs.Groups.{AddsSlots, AreGroups, Keeps, slots, slots_by, slots_in}

-- ---- one more

enumerate_push : {E : Type 0} (n : ℕ) (es : List E) (e : E) → enumerate_from n (es ++ e ∷ []) ≡ enumerate_from n es ++ (n + length es, e) ∷ []
enumerate_push n [] e = ap (λ m. (m, e) ∷ []) (omega arith)
enumerate_push n (f ∷ es) e = ap (λ ps. (n, f) ∷ ps) (enumerate_push (n + 1) es e ∙ ap (λ m. enumerate_from (n + 1) es ++ (m, e) ∷ []) (omega arith))

-- what comes of the first elements, and the next one
pub pieces_more : {E A : Type 0} (f : ℕ × E → List A) (es : List E) (i : ℕ) (e : E) → i < length es → e ≡ get_or es i e
    → flat_map f (enumerate_from 0 (take (i + 1) es)) ≡ flat_map f (enumerate_from 0 (take i es)) ++ f (i, e)
pieces_more f es i e l is =
    let within : i ≤ length es = omega arith in
    let short : 0 + length (take i es) ≡ i = omega (arith, length-take-le i es within) in
    ap (λ zs. flat_map f (enumerate_from 0 zs)) (take_more es i e l ∙ ap (λ x. take i es ++ x ∷ []) (sym is))
    ∙ ap (flat_map f) (enumerate_push 0 (take i es) e ∙ ap (λ m. enumerate_from 0 (take i es) ++ (m, e) ∷ []) short)
    ∙ flat_map-append f (enumerate_from 0 (take i es)) ((i, e) ∷ []) ∙ ap (λ zs. flat_map f (enumerate_from 0 (take i es)) ++ zs) (append-nil (f (i, e)))

pub adds_none : {A S : Type 0} (m : HashMap (List ℕ) (Vec Slot A) S) → AddsSlots (λ x. []) m m
adds_none m x ss k = subst (Keeps (get same_key m x)) (sym (append-nil ss)) k

pub adds_more : {E A S : Type 0} (f : List ℕ → ℕ × E → List Slot) (es : List E) (i : ℕ) (e : E) (old mid new : HashMap (List ℕ) (Vec Slot A) S) → i < length es → e ≡ get_or es i e
    → AddsSlots (λ x. flat_map (f x) (enumerate_from 0 (take i es))) old mid → AddsSlots (λ x. f x (i, e)) mid new → AddsSlots (λ x. flat_map (f x) (enumerate_from 0 (take (i + 1) es))) old new
adds_more f es i e old mid new l is a b x ss k =
    let first = flat_map (f x) (enumerate_from 0 (take i es)) in
    subst (Keeps (get same_key new x)) (append_assoc ss first (f x (i, e)) ∙ ap (λ zs. ss ++ zs) (sym (pieces_more (f x) es i e l is))) (b x (ss ++ first) (a x ss k))

-- ---- the keys that have slots are those of operations

someone : {X : Type 0} (xs : List X) → xs ≢ [] → (x : X) × Contains xs x
someone [] n = absurd (n refl)
someone (x ∷ xs) n = (x, here x xs)

-- the key of a slot is an operation's
pub key_from_slot : (x : List ℕ) (txns : List Txn) → slots x txns ≢ [] → Contains (flat_map keys_in txns) x
key_from_slot x txns n =
    let s = someone (slots x txns) n in
    let t = Contains-from_flat_map (slots_in x) (enumerate_from 0 txns) s.0 s.1 in
    let T = Contains-from_enumerate 0 txns t.0 t.1 in
    let o = Contains-from_flat_map (slots_by x t.0.0) (enumerate_from 0 t.0.1.ops) s.0 t.2 in
    let p = Contains-from_enumerate 0 t.0.1.ops o.0 o.1 in
    let is = by o.0.1 (same_key (key_of o.0.1) x) refl (record { txn = t.0.0; op = o.0.0 }) s.0 o.2 in
    Contains-flat_map keys_in txns t.0.1 x (get_contains txns T.0 t.0.1 T.2) (subst (Contains (keys_in t.0.1)) is (Contains-map key_of t.0.1.ops o.0.1 (get_contains t.0.1.ops p.0 o.0.1 p.2)))
  where
    by : (op : Op) (b : Bool) → same_key (key_of op) x ≡ b → (made s : Slot) → Contains (cond b (made ∷ []) []) s → key_of op ≡ x
    by op true e made s c = same_key_is (key_of op) x e
    by op false e made s c = absurd (Contains-nil s c)

-- and an operation's key has one
pub slot_from_key : (x : List ℕ) (txns : List Txn) → Contains (flat_map keys_in txns) x → slots x txns ≢ []
slot_from_key x txns c none =
    let t = Contains-from_flat_map keys_in txns x c in
    let n = contains_get txns t.0 t.1 in
    let o = Contains-from_map key_of t.0.ops x t.2 in
    let i = contains_get t.0.ops o.0 o.1 in
    let made : Slot = record { txn = 0 + n.0; op = 0 + i.0 } in
    let one : Contains (slots_by x (0 + n.0) (0 + i.0, o.0)) made = subst (λ b. Contains (cond b (made ∷ []) []) made) (sym (same_key_from (key_of o.0) x o.2)) (here made []) in
    let inner = Contains-flat_map (slots_by x (0 + n.0)) (enumerate_from 0 t.0.ops) (0 + i.0, o.0) made (Contains-enumerate 0 t.0.ops i.0 o.0 i.1) one in
    let outer = Contains-flat_map (slots_in x) (enumerate_from 0 txns) (0 + n.0, t.0) made (Contains-enumerate 0 txns n.0 t.0 n.1) inner in
    Contains-nil made (subst (λ ss. Contains ss made) none outer)

-- the keys of the map are those of the operations
pub groups_have : {A S : Type 0} (txns : List Txn) (m : HashMap (List ℕ) (Vec Slot A) S) (x : List ℕ) → AreGroups txns m → Contains (flat_map keys_in txns) x → Contains (keys m) x
groups_have {A} txns m x g c = by (get same_key m x) refl (g x)
  where
    by : (o : Option (Vec Slot A)) → get same_key m x ≡ o → Keeps o (slots x txns) → Contains (keys m) x
    by None e k = absurd (slot_from_key x txns c k)
    by (Some v) e k =
        let p = place_from_lookup (same_key x) m.entries v e in
        subst (Contains (keys m)) (sym (same_key_is x p.1 p.3)) (Contains-map (λ (w : List ℕ × Vec Slot A). w.0) m.entries (p.1, v) (get_contains m.entries p.0 (p.1, v) p.2))

pub groups_only : {A S : Type 0} (txns : List Txn) (m : HashMap (List ℕ) (Vec Slot A) S) (x : List ℕ) → AreGroups txns m → IsUnique same_key m → Contains (keys m) x → Contains (flat_map keys_in txns) x
groups_only {A} txns m x g u c =
    let e = Contains-from_map (λ (w : List ℕ × Vec Slot A). w.0) m.entries x c in
    let i = contains_get m.entries e.0 e.1 in
    let there : get same_key m x ≡ Some e.0.1 = ap (get same_key m) (sym e.2) ∙ hash_map_get_place nat_list_eq_equiv m i.0 e.0.0 e.0.1 u i.1 in
    key_from_slot x txns (subst (λ o. Keeps o (slots x txns)) there (g x)).1

-- of an empty map that became this one
pub groups_from_none : {A S : Type 0} (txns : List Txn) (old new : HashMap (List ℕ) (Vec Slot A) S) → IsEmpty old → AddsSlots (λ x. slots x txns) old new → AreGroups txns new
groups_from_none txns old new e a x = a x [] (subst (λ o. Keeps o []) (sym (nothing_at x)) refl)
  where
    nothing_at : (y : List ℕ) → get same_key old y ≡ None
    nothing_at y = ap (lookup (same_key y)) e

-- at a place of the map are the slots of the key there
pub slots_there : {A S : Type 0} (txns : List Txn) (m : HashMap (List ℕ) (Vec Slot A) S) (i : ℕ) (x : List ℕ) (v : Vec Slot A) → AreGroups txns m → IsUnique same_key m → slice_get m.entries i ≡ Some (x, v) → v.items ≡ slots x txns
slots_there txns m i x v g u e = (subst (λ o. Keeps o (slots x txns)) (hash_map_get_place nat_list_eq_equiv m i x v u e) (g x)).0
