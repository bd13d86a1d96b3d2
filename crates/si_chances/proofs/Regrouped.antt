-- What the transactions do at the slots of a key is what they do on the key.
use Rattle.std.proofs.Common.{◌≡◌, ◌≢◌, ℕ, ◌+◌, Bool, true, false, cond, List, [], ◌∷◌, ◌++◌, Option, None, Some, ap, refl, sym, subst, ◌∙◌, inl, inr, arith, append_assoc, suc, length, get_or, set, ◌-◌, slice_get, slice_range, take, take-add, ◌≤◌}
use Rattle.std.specs.List.{Contains, AllPairs, fold, flat_map, filter_map, enumerate_from, cons_option}
use Rattle.std.specs.Option.{option_to_list}
use Rattle.std.proofs.lemmas.List.{append-nil}
use Rattle.std.proofs.lemmas.List.Sums.{fold-append}
use Rattle.std.proofs.lemmas.List.Elements.{Contains-append_cases}
use Rattle.si_model.specs.declared.numbers.TxnId.{TxnId}
use Rattle.si_model.specs.declared.operations.Op.{Op}
use Rattle.si_model.specs.declared.transactions.Txn.{Txn}
use Rattle.si_model.specs.declared.parts.Placed.{Placed}
use Rattle.si_model.specs.declared.parts.Part.{Part}
use Rattle.si_model.specs.Operations.{key_of, access_of, same_key}
use Rattle.si_model.specs.Edits.{same_id}
use Rattle.si_model.specs.Parts.{placed_at, accesses, part_with, part, parts}
use Rattle.si_model.proofs.Equalities.{same_id_is, same_id_from}
use Rattle.si_model.proofs.KeyParts.{part_is}
use Rattle.si_lists.proofs.Members.{same_some, Contains-nil, Contains-one, here, there}
use Rattle.si_lists.proofs.Names.{pairs_head, pairs_tail}
use Rattle.si_chances.specs.declared.grouping.Slot.{Slot}
use Rattle.si_chances.specs.Groups.{ends_with, to_last, with_access, with_op, with_txn, with_slot, parts_at, slots, slots_by, slots_in}

-- ---- the last part

pub ends_push : (u : TxnId) (ps : List Part) (p : Part) → ends_with u (ps ++ p ∷ []) ≡ same_id p.id u
ends_push u [] p = refl
ends_push u (q ∷ []) p = refl
ends_push u (q ∷ r ∷ ps) p = ends_push u (r ∷ ps) p

pub to_last_push : (a : Placed) (ps : List Part) (p : Part) → to_last a (ps ++ p ∷ []) ≡ ps ++ record p { accesses = p.accesses ++ a ∷ [] } ∷ []
to_last_push a [] p = refl
to_last_push a (q ∷ []) p = refl
to_last_push a (q ∷ r ∷ ps) p = ap (λ zs. q ∷ zs) (to_last_push a (r ∷ ps) p)

ends_apart : (u : TxnId) (ps : List Part) → ((p : Part) → Contains ps p → p.id ≢ u) → ends_with u ps ≡ false
ends_apart u [] apart = refl
ends_apart u (p ∷ []) apart = elim (same_id p.id u) as (λ b. same_id p.id u ≡ b → b ≡ false) [
  | true ↦ λ e. absurd (apart p (here p []) (same_id_is p.id u e))
  | false ↦ λ e. refl
] refl
ends_apart u (p ∷ q ∷ ps) apart = ends_apart u (q ∷ ps) (λ r c. apart r (there p (q ∷ ps) r c))

-- the part of T with these accesses
abbrev pub made : Txn → List Placed → Part
made T ys = record { id = T.id; start = T.start; status = T.status; accesses = ys }

-- ---- the operations of one transaction

-- the list stands at i in the whole one
abbrev pub StandsAt : {E : Type 0} → List E → ℕ → List E → Type 0
StandsAt {E} es i fs = (k : ℕ) (e : E) → slice_get fs k ≡ Some e → slice_get es (i + k) ≡ Some e

stands_head : {E : Type 0} (es : List E) (i : ℕ) (f : E) (fs : List E) → StandsAt es i (f ∷ fs) → slice_get es i ≡ Some f
stands_head es i f fs s = subst (λ n. slice_get es n ≡ Some f) (omega arith) (s 0 f refl)

stands_tail : {E : Type 0} (es : List E) (i : ℕ) (f : E) (fs : List E) → StandsAt es i (f ∷ fs) → StandsAt es (i + 1) fs
stands_tail es i f fs s k e at = subst (λ n. slice_get es n ≡ Some e) (omega arith) (s (suc k) e at)

module _ (txns : List Txn) (x : List ℕ) (n : ℕ) (T : Txn) (there_is : slice_get txns n ≡ Some T) where
  -- one slot of T's
  slot_is : (ps : List Part) (i : ℕ) (op : Op) → slice_get T.ops i ≡ Some op → with_slot txns ps (record { txn = n; op = i }) ≡ with_access T (record { place = i; access = access_of op }) ps
  slot_is ps i op e = ap (λ o. with_txn i o ps) there_is ∙ ap (λ o. with_op T i o ps) e

  -- behind a part of T
  run_more : (ps : List Part) (ys : List Placed) (i : ℕ) (ops : List Op) → StandsAt T.ops i ops
      → fold (with_slot txns) (ps ++ made T ys ∷ []) (flat_map (slots_by x n) (enumerate_from i ops)) ≡ ps ++ made T (ys ++ filter_map (placed_at x) (enumerate_from i ops)) ∷ []
  run_more ps ys i [] s = ap (λ zs. ps ++ made T zs ∷ []) (sym (append-nil ys))
  run_more ps ys i (op ∷ ops) s =
      by (same_key (key_of op) x)
      (run_more ps (ys ++ record { place = i; access = access_of op } ∷ []) (i + 1) ops (stands_tail T.ops i op ops s))
      (run_more ps ys (i + 1) ops (stands_tail T.ops i op ops s))
    where
      a : Placed
      a = record { place = i; access = access_of op }

      rest : List Placed
      rest = filter_map (placed_at x) (enumerate_from (i + 1) ops)

      after : List Part → List Part
      after qs = fold (with_slot txns) qs (flat_map (slots_by x n) (enumerate_from (i + 1) ops))

      step : with_slot txns (ps ++ made T ys ∷ []) (record { txn = n; op = i }) ≡ ps ++ made T (ys ++ a ∷ []) ∷ []
      step =
          slot_is (ps ++ made T ys ∷ []) i op (stands_head T.ops i op ops s)
          ∙ ap (λ b. cond b (to_last a (ps ++ made T ys ∷ [])) ((ps ++ made T ys ∷ []) ++ made T (a ∷ []) ∷ [])) (ends_push T.id ps (made T ys) ∙ same_id_from T.id T.id refl)
          ∙ to_last_push a ps (made T ys)

      by : (b : Bool) → after (ps ++ made T (ys ++ a ∷ []) ∷ []) ≡ ps ++ made T ((ys ++ a ∷ []) ++ rest) ∷ [] → after (ps ++ made T ys ∷ []) ≡ ps ++ made T (ys ++ rest) ∷ []
          → fold (with_slot txns) (ps ++ made T ys ∷ []) (cond b (record { txn = n; op = i } ∷ []) [] ++ flat_map (slots_by x n) (enumerate_from (i + 1) ops))
          ≡ ps ++ made T (ys ++ cons_option (cond b (Some a) None) rest) ∷ []
      by true with_it without = ap after step ∙ with_it ∙ ap (λ zs. ps ++ made T zs ∷ []) (append_assoc ys (a ∷ []) rest)
      by false with_it without = without

  -- behind parts of others
  run_first : (ps : List Part) → ends_with T.id ps ≡ false → (i : ℕ) (ops : List Op) → StandsAt T.ops i ops
      → fold (with_slot txns) ps (flat_map (slots_by x n) (enumerate_from i ops)) ≡ ps ++ option_to_list (part_with T (filter_map (placed_at x) (enumerate_from i ops)))
  run_first ps other i [] s = sym (append-nil ps)
  run_first ps other i (op ∷ ops) s =
      by (same_key (key_of op) x)
      (run_more ps (record { place = i; access = access_of op } ∷ []) (i + 1) ops (stands_tail T.ops i op ops s))
      (run_first ps other (i + 1) ops (stands_tail T.ops i op ops s))
    where
      a : Placed
      a = record { place = i; access = access_of op }

      rest : List Placed
      rest = filter_map (placed_at x) (enumerate_from (i + 1) ops)

      after : List Part → List Part
      after qs = fold (with_slot txns) qs (flat_map (slots_by x n) (enumerate_from (i + 1) ops))

      by : (b : Bool) → after (ps ++ made T (a ∷ []) ∷ []) ≡ ps ++ made T ((a ∷ []) ++ rest) ∷ [] → after ps ≡ ps ++ option_to_list (part_with T rest)
          → fold (with_slot txns) ps (cond b (record { txn = n; op = i } ∷ []) [] ++ flat_map (slots_by x n) (enumerate_from (i + 1) ops))
          ≡ ps ++ option_to_list (part_with T (cons_option (cond b (Some a) None) rest))
      by true with_it without = ap after (slot_is ps i op (stands_head T.ops i op ops s) ∙ ap (λ b. cond b (to_last a ps) (ps ++ made T (a ∷ []) ∷ [])) other) ∙ with_it
      by false with_it without = without

-- ---- all transactions

-- a transaction's part, of which the id is its own
part_from : (x : List ℕ) (T : Txn) (o : Option Part) (p : Part) → part x T ≡ o → Contains (option_to_list o) p → p.id ≡ T.id
part_from x T None p e c = absurd (Contains-nil p c)
part_from x T (Some q) p e c = ap (λ (r : Part). r.id) (sym (Contains-one q p c)) ∙ (part_is x T q e).id

part_joined : (ps : List Part) (o : Option Part) (rest : List Part) → (ps ++ option_to_list o) ++ rest ≡ ps ++ cons_option o rest
part_joined ps None rest = ap (λ qs. qs ++ rest) (append-nil ps)
part_joined ps (Some q) rest = append_assoc ps (q ∷ []) rest

of_part : (x : List ℕ) (T : Txn) → part_with T (accesses x T.ops) ≡ part x T
unfolding part
of_part x T = refl

-- the parts of others than those to come
abbrev pub AreOthers : List Part → List Txn → Type 0
AreOthers ps ts = (p : Part) (U : Txn) → Contains ps p → Contains ts U → p.id ≢ U.id

others_more : (x : List ℕ) (ps : List Part) (T : Txn) (ts : List Txn) → AllPairs (λ A B. A.id ≢ B.id) (T ∷ ts) → AreOthers ps (T ∷ ts) → AreOthers (ps ++ option_to_list (part x T)) ts
others_more x ps T ts names apart p U c d = elim (Contains-append_cases ps (option_to_list (part x T)) p c) [
  | inl f ↦ apart p U f (there T ts U d)
  | inr f ↦ λ e. pairs_head (λ A B. A.id ≢ B.id) T ts names U d (sym (part_from x T (part x T) p refl f) ∙ e)
]

runs_all : (txns : List Txn) (x : List ℕ) (ps : List Part) (n : ℕ) (ts : List Txn) → StandsAt txns n ts → AllPairs (λ A B. A.id ≢ B.id) ts → AreOthers ps ts
    → fold (with_slot txns) ps (flat_map (slots_in x) (enumerate_from n ts)) ≡ ps ++ parts x ts
runs_all txns x ps n [] s names apart = sym (append-nil ps)
runs_all txns x ps n (T ∷ ts) s names apart =
    let first : fold (with_slot txns) ps (slots_in x (n, T)) ≡ ps ++ option_to_list (part x T) =
    run_first txns x n T (stands_head txns n T ts s) ps (ends_apart T.id ps (λ p c. apart p T c (here T ts))) 0 T.ops (λ k e at. subst (λ m. slice_get T.ops m ≡ Some e) (omega arith) at)
    ∙ ap (λ o. ps ++ option_to_list o) (of_part x T) in
    fold-append (with_slot txns) ps (slots_in x (n, T)) (flat_map (slots_in x) (enumerate_from (n + 1) ts))
    ∙ ap (λ qs. fold (with_slot txns) qs (flat_map (slots_in x) (enumerate_from (n + 1) ts))) first
    ∙ runs_all txns x (ps ++ option_to_list (part x T)) (n + 1) ts (stands_tail txns n T ts s) (pairs_tail (λ A B. A.id ≢ B.id) T ts names) (others_more x ps T ts names apart)
    ∙ part_joined ps (part x T) (parts x ts)

-- at all slots of a key they do what they do on it
pub parts_at_slots : (txns : List Txn) (x : List ℕ) → AllPairs (λ A B. A.id ≢ B.id) txns → parts_at txns (slots x txns) ≡ parts x txns
parts_at_slots txns x names =
    runs_all txns x [] 0 txns (λ k e at. subst (λ m. slice_get txns m ≡ Some e) (omega arith) at) names (λ p U c d. absurd (Contains-nil p c))

-- ---- as it is read and written at the last place

pub ends_at : (u : TxnId) (ps : List Part) (p : Part) → Some p ≡ slice_get ps (length ps - 1) → same_id p.id u ≡ ends_with u ps
ends_at u [] p e = cc
ends_at u (q ∷ []) p e = ap (λ (r : Part). same_id r.id u) (same_some e)
ends_at u (q ∷ r ∷ ps) p e =
    let next : length (q ∷ r ∷ ps) - 1 ≡ suc (length (r ∷ ps) - 1) = omega arith in
    ends_at u (r ∷ ps) p (e ∙ ap (slice_get (q ∷ r ∷ ps)) next)

-- the part at a place with one access more
abbrev pub more_at : List Part → ℕ → Part → Placed → Part
more_at ps i d a = record { id = (get_or ps i d).id; start = (get_or ps i d).start; status = (get_or ps i d).status; accesses = (get_or ps i d).accesses ++ a ∷ [] }

pub set_last : (a : Placed) (ps : List Part) (d : Part) → set ps (length ps - 1) (more_at ps (length ps - 1) d a) ≡ to_last a ps
set_last a [] d = refl
set_last a (q ∷ []) d = refl
set_last a (q ∷ r ∷ ps) d =
    let next : length (q ∷ r ∷ ps) - 1 ≡ suc (length (r ∷ ps) - 1) = omega arith in
    ap (λ i. set (q ∷ r ∷ ps) i (more_at (q ∷ r ∷ ps) i d a)) next ∙ ap (λ zs. q ∷ zs) (set_last a (r ∷ ps) d)

-- ---- some slots more

pub parts_at_more : (txns : List Txn) (ss : List Slot) (at end : ℕ) → at ≤ end → fold (with_slot txns) (parts_at txns (take at ss)) (slice_range ss at end) ≡ parts_at txns (take end ss)
parts_at_more txns ss at end l =
    let next : at + (end - at) ≡ end = omega arith in
    sym (fold-append (with_slot txns) [] (take at ss) (slice_range ss at end)) ∙ ap (parts_at txns) (sym (take-add at (end - at) ss) ∙ ap (λ n. take n ss) next)
