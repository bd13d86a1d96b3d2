-- Which transactions are present in a journal, by the places of their arrivals and the copies of those that were resolved.
use Rattle.std.proofs.Common.{◌≡◌, ◌⊎◌, inl, inr, ℕ, ◌+◌, true, false, not, eqb, nat_eq, List, [], ◌∷◌, ◌++◌, length, map, Option, Some, None, zero, suc, refl, sym, ap, subst, ◌∙◌, arith, cond, eq-eqb, eqb-true, slice_get, append-nil, length-append}
use Rattle.std.specs.List.{Contains, filter, filter_map, cons_option, enumerate_from}
use Rattle.std.specs.Option.{option_or, option_eq, option_and_then, option_to_list}
use Rattle.std.proofs.lemmas.Bool.{eqb-false}
use Rattle.std.proofs.lemmas.Option.{slice_get_within}
use Rattle.std.proofs.lemmas.List.{length-map}
use Rattle.std.proofs.lemmas.List.Elements.{filter_map-append}
use Rattle.si_model.specs.declared.edits.Edit.{Edit}
use Rattle.si_model.specs.declared.edits.Edit.TheVariants as edit
use Rattle.si_model.specs.declared.numbers.TxnId.{TxnId}
use Rattle.si_model.specs.declared.transactions.Outcome.{Outcome}
use Rattle.si_model.specs.declared.transactions.Txn.{Txn}
use Rattle.si_model.specs.Edits.{same_id, with_id, status_after, resolved, is_another}
use Rattle.si_lists.proofs.Members.{same_some, Contains-filter_map, Contains-from_filter_map, Contains-enumerate, Contains-from_enumerate, here, there}
use Rattle.si_lists.proofs.Tests.{find_only, find_none}
use Rattle.si_accept.specs.Arrivals.{present_at, present_in, AreInJournal}

-- ---- what is chosen of a list

-- each choice is made of the one before
chosen_again : {X Y : Type 0} (f f' : X → Option Y) (g : Y → Option Y) (xs : List X) → ((x : X) → Contains xs x → f' x ≡ option_and_then g (f x)) → filter_map f' xs ≡ filter_map g (filter_map f xs)
chosen_again f f' g [] h = refl
chosen_again {Y = Y} f f' g (x ∷ xs) h =
    ap (λ o. cons_option o (filter_map f' xs)) (h x (here x xs))
    ∙ ap (λ ys. cons_option (option_and_then g (f x)) ys) (chosen_again f f' g xs (λ y c. h y (there x xs y c)))
    ∙ step (f x)
  where
    step : (o : Option Y) → cons_option (option_and_then g o) (filter_map g (filter_map f xs)) ≡ filter_map g (cons_option o (filter_map f xs))
    step None = refl
    step (Some y) = refl

chosen_all : {Y : Type 0} (ys : List Y) → filter_map (λ y. Some y) ys ≡ ys
chosen_all [] = refl
chosen_all (y ∷ ys) = ap (λ zs. y ∷ zs) (chosen_all ys)

-- one is chosen no more
one_less : {X Y : Type 0} (f f' : X → Option Y) (xs : List X) (k : ℕ) (x : X) (y : Y) → slice_get xs k ≡ Some x → f x ≡ Some y → f' x ≡ None → ((j : ℕ) (z : X) → slice_get xs j ≡ Some z → (j ≡ k → ⊥) → f' z ≡ f z) → length (filter_map f' xs) + 1 ≡ length (filter_map f xs)
one_less f f' [] k x y at was is h = cc
one_less {X = X} f f' (z ∷ xs) zero x y at was is h =
    let s : z ≡ x = cc in
    ap (λ o. length (cons_option o (filter_map f' xs)) + 1) (ap f' s ∙ is)
    ∙ ap (λ ys. length ys + 1) (same xs (λ j w e. h (suc j) w e (λ i. absurd (omega arith))))
    ∙ (let l : length (filter_map f xs) + 1 ≡ length (y ∷ filter_map f xs) = omega arith in l)
    ∙ ap (λ o. length (cons_option o (filter_map f xs))) (sym (ap f s ∙ was))
  where
    same : (zs : List X) → ((j : ℕ) (w : X) → slice_get zs j ≡ Some w → f' w ≡ f w) → filter_map f' zs ≡ filter_map f zs
    same [] g = refl
    same (w ∷ zs) g = ap (λ o. cons_option o (filter_map f' zs)) (g 0 w refl) ∙ ap (λ ys. cons_option (f w) ys) (same zs (λ j v e. g (suc j) v e))
one_less {Y = Y} f f' (z ∷ xs) (suc k) x y at was is h =
    let less = one_less f f' xs k x y at was is (λ j w e d. h (suc j) w e (λ i. d (omega (arith, i)))) in
    ap (λ o. length (cons_option o (filter_map f' xs)) + 1) (h 0 z refl (λ i. absurd (omega arith))) ∙ step (f z) less
  where
    step : (o : Option Y) → length (filter_map f' xs) + 1 ≡ length (filter_map f xs) → length (cons_option o (filter_map f' xs)) + 1 ≡ length (cons_option o (filter_map f xs))
    step None less = less
    step (Some w) less = omega arith

-- ---- edits with their places

numbered_push : {X : Type 0} (n : ℕ) (xs : List X) (x : X) → enumerate_from n (xs ++ x ∷ []) ≡ enumerate_from n xs ++ (n + length xs, x) ∷ []
numbered_push n [] x = ap (λ k. (k, x) ∷ []) (let e : n ≡ n + 0 = omega arith in e)
numbered_push n (y ∷ xs) x = ap (λ ps. (n, y) ∷ ps) (numbered_push (n + 1) xs x ∙ ap (λ k. enumerate_from (n + 1) xs ++ (k, x) ∷ []) (let e : n + 1 + length xs ≡ n + length (y ∷ xs) = omega arith in e))

numbered_at : {X : Type 0} (n : ℕ) (xs : List X) (k : ℕ) (x : X) → slice_get xs k ≡ Some x → slice_get (enumerate_from n xs) k ≡ Some (n + k, x)
numbered_at n [] k x e = cc
numbered_at n (y ∷ xs) zero x e = ap (λ z. Some (n, z)) (same_some e) ∙ ap (λ k. Some (k, x)) (let e : n ≡ n + 0 = omega arith in e)
numbered_at n (y ∷ xs) (suc k) x e = numbered_at (n + 1) xs k x e ∙ ap (λ k. Some (k, x)) (let e : n + 1 + k ≡ n + suc k = omega arith in e)

at_numbered : {X : Type 0} (n : ℕ) (xs : List X) (k : ℕ) (p : ℕ × X) → slice_get (enumerate_from n xs) k ≡ Some p → (p.0 ≡ n + k) × (slice_get xs k ≡ Some p.1)
at_numbered n [] k p e = cc
at_numbered n (y ∷ xs) zero p e = (let s = same_some e in (ap (λ q. q.0) (sym s) ∙ omega arith, ap (λ q. Some q.1) s))
at_numbered n (y ∷ xs) (suc k) p e = (let r = at_numbered (n + 1) xs k p e in (r.0 ∙ omega arith, r.1))

-- ---- what an edit leaves of a list of transactions

-- what f makes of the transaction u
abbrev at_id : TxnId → (Txn → Option Txn) → Txn → Option Txn
at_id u f T = cond (same_id T.id u) (f T) (Some T)

other : (u : TxnId) (f : Txn → Option Txn) (T : Txn) → (T.id.0 ≡ u.0 → ⊥) → at_id u f T ≡ Some T
other u f T d = elim (eqb T.id.0 u.0) as (λ b. eqb T.id.0 u.0 ≡ b → cond b (f T) (Some T) ≡ Some T) [
  | true ↦ λ e. absurd (d (eqb-true T.id.0 u.0 e))
  | false ↦ λ e. refl
] refl

this : (u : TxnId) (f : Txn → Option Txn) (T : Txn) → T.id.0 ≡ u.0 → at_id u f T ≡ f T
this u f T e = rw (eq-eqb T.id.0 u.0 e) refl

as_filter : (u : TxnId) (P : List Txn) → filter_map (at_id u (λ T. None)) P ≡ filter (is_another u) P
as_filter u [] = refl
as_filter u (T ∷ P) = elim (same_id T.id u) as (λ b. cons_option (cond b None (Some T)) (filter_map (at_id u (λ T. None)) P) ≡ cond (not b) (T ∷ filter (is_another u) P) (filter (is_another u) P)) [
  | true ↦ as_filter u P
  | false ↦ ap (λ Q. T ∷ Q) (as_filter u P)
]

as_map : (u : TxnId) (o : Outcome) (P : List Txn) → filter_map (at_id u (λ T. Some (record T { status = status_after o }))) P ≡ map (resolved u o) P
as_map u o [] = refl
as_map u o (T ∷ P) = elim (same_id T.id u) as (λ b. cons_option (cond b (Some (record T { status = status_after o })) (Some T)) (filter_map (at_id u (λ T. Some (record T { status = status_after o }))) P) ≡ cond b (record T { status = status_after o }) T ∷ map (resolved u o) P) [
  | true ↦ ap (λ Q. record T { status = status_after o } ∷ Q) (as_map u o P)
  | false ↦ ap (λ Q. T ∷ Q) (as_map u o P)
]

-- ---- one edit of a journal

module _ (I : ℕ → Option ℕ) (R : ℕ → Option Txn) where
  at_place : (k : ℕ) (T : Txn) → I T.id.0 ≡ Some k → present_at I R (k, edit.Arrive T) ≡ option_or (R T.id.0) (Some T)
  at_place k T e = ap (λ o. cond (option_eq nat_eq o (Some k)) (option_or (R T.id.0) (Some T)) None) e ∙ ap (λ b. cond b (option_or (R T.id.0) (Some T)) None) (eq-eqb k k refl)

  elsewhere : (k : ℕ) (T : Txn) → (I T.id.0 ≡ Some k → ⊥) → present_at I R (k, edit.Arrive T) ≡ None
  elsewhere k T d = elim (I T.id.0) as (λ o. (o ≡ Some k → ⊥) → cond (option_eq nat_eq o (Some k)) (option_or (R T.id.0) (Some T)) None ≡ None) [
    | None ↦ λ n. refl
    | Some j ↦ λ n. elim (nat_eq j k) as (λ b. nat_eq j k ≡ b → cond b (option_or (R T.id.0) (Some T)) None ≡ None) [
      | true ↦ λ t. absurd (n (ap Some (eqb-true j k t)))
      | false ↦ λ t. refl
    ] refl
  ] d

  -- an arrival is at its place or isn't
  placed_or_not : (k : ℕ) (T : Txn) → (I T.id.0 ≡ Some k) ⊎ (I T.id.0 ≡ Some k → ⊥)
  placed_or_not k T = elim (I T.id.0) as (λ o. (o ≡ Some k) ⊎ (o ≡ Some k → ⊥)) [
    | None ↦ inr (λ e. cc)
    | Some j ↦ elim (nat_eq j k) as (λ b. nat_eq j k ≡ b → (Some j ≡ Some k) ⊎ (Some j ≡ Some k → ⊥)) [
      | true ↦ λ t. inl (ap Some (eqb-true j k t))
      | false ↦ λ t. inr (λ e. eqb-false j k t (same_some e))
    ] refl
  ]

  -- what is present arrived at its place
  pub record IsThere (k : ℕ) (e : Edit) (U : Txn) : Type 0 where
    pub arrived : Txn
    pub is : e ≡ edit.Arrive arrived
    pub place : I arrived.id.0 ≡ Some k
    pub now : option_or (R arrived.id.0) (Some arrived) ≡ Some U

  is_there : (k : ℕ) (e : Edit) (U : Txn) → present_at I R (k, e) ≡ Some U → IsThere k e U
  is_there k (edit.Arrive T) U s = elim (placed_or_not k T) [
    | inl p ↦ record { arrived = T; is = refl; place = p; now = sym (at_place k T p) ∙ s }
    | inr d ↦ absurd (let f = sym (elsewhere k T d) ∙ s in cc)
  ]
  is_there k (edit.Resolve u o) U s = cc
  is_there k (edit.Withdraw u) U s = cc
  is_there k (edit.SetUp x v) U s = cc

same_at : (I I' : ℕ → Option ℕ) (R R' : ℕ → Option Txn) (k : ℕ) (T : Txn) → I' T.id.0 ≡ I T.id.0 → R' T.id.0 ≡ R T.id.0 → present_at I' R' (k, edit.Arrive T) ≡ present_at I R (k, edit.Arrive T)
same_at I I' R R' k T e f =
    ap (λ o. cond (option_eq nat_eq o (Some k)) (option_or (R' T.id.0) (Some T)) None) e
    ∙ ap (λ o. cond (option_eq nat_eq (I T.id.0) (Some k)) (option_or o (Some T)) None) f

and_kept : (g : Txn → Option Txn) (o : Option Txn) → ((U : Txn) → o ≡ Some U → g U ≡ Some U) → o ≡ option_and_then g o
and_kept g None h = refl
and_kept g (Some U) h = sym (h U refl)

and_gone : (g : Txn → Option Txn) (o : Option Txn) → ((U : Txn) → o ≡ Some U → g U ≡ None) → None ≡ option_and_then g o
and_gone g None h = refl
and_gone g (Some U) h = sym (h U refl)

one_more : (o : Option Txn) → cons_option o [] ≡ option_to_list o
one_more None = refl
one_more (Some T) = refl

zero_and : (k : ℕ) → 0 + k ≡ k
zero_and k = omega arith

pushed_old : {X : Type 0} (xs : List X) (x : X) (k : ℕ) (y : X) → slice_get xs k ≡ Some y → slice_get (xs ++ x ∷ []) k ≡ Some y
pushed_old [] x k y e = cc
pushed_old (z ∷ xs) x zero y e = e
pushed_old (z ∷ xs) x (suc k) y e = pushed_old xs x k y e

pushed_new : {X : Type 0} (xs : List X) (x : X) → slice_get (xs ++ x ∷ []) (length xs) ≡ Some x
pushed_new [] x = refl
pushed_new (y ∷ xs) x = pushed_new xs x

module _ (J : List Edit) (I : ℕ → Option ℕ) (R : ℕ → Option Txn) (m : ℕ) (h : AreInJournal J I R m) where
  now : (T : Txn) → (V : Txn) × (option_or (R T.id.0) (Some T) ≡ Some V)
  now T = elim (R T.id.0) as (λ o. (V : Txn) × (option_or o (Some T) ≡ Some V)) [ None ↦ (T, refl) | Some V ↦ (V, refl) ]

  now_id : (T U : Txn) → option_or (R T.id.0) (Some T) ≡ Some U → U.id.0 ≡ T.id.0
  now_id T U e = elim (R T.id.0) as (λ o. R T.id.0 ≡ o → option_or o (Some T) ≡ Some U → U.id.0 ≡ T.id.0) [
    | None ↦ λ r s. ap (λ A. A.id.0) (sym (same_some s))
    | Some V ↦ λ r s. ap (λ A. A.id.0) (sym (same_some s)) ∙ (h.copied T.id.0 V r).0
  ] refl e

  at_id_of : (k : ℕ) (T U : Txn) → present_at I R (k, edit.Arrive T) ≡ Some U → U.id.0 ≡ T.id.0
  at_id_of k T U s = elim (placed_or_not I R k T) [
    | inl p ↦ now_id T U (sym (at_place I R k T p) ∙ s)
    | inr d ↦ absurd (let f = sym (elsewhere I R k T d) ∙ s in cc)
  ]

  one_arrival : (k : ℕ) (T U : Txn) → slice_get J k ≡ Some (edit.Arrive T) → slice_get J k ≡ Some (edit.Arrive U) → T ≡ U
  one_arrival k T U e f = (let s = sym e ∙ f in cc)

  -- ---- who is there

  member : (U : Txn) → Contains (present_in I R J) U → (k : ℕ) × (T : Txn) × (slice_get J k ≡ Some (edit.Arrive T)) × (I T.id.0 ≡ Some k) × (option_or (R T.id.0) (Some T) ≡ Some U)
  member U c =
      let r = Contains-from_filter_map (present_at I R) (enumerate_from 0 J) U c in
      let s = Contains-from_enumerate 0 J r.0 r.1 in
      let t = is_there I R r.0.0 r.0.1 U r.2 in
      (r.0.0, t.arrived, ap (slice_get J) (s.1 ∙ zero_and s.0) ∙ s.2 ∙ ap Some t.is, t.place, t.now)

  pub got : (u : TxnId) (k : ℕ) (T : Txn) → I u.0 ≡ Some k → slice_get J k ≡ Some (edit.Arrive T) → with_id (present_in I R J) u ≡ present_at I R (k, edit.Arrive T)
  got u k T at is = find_only (λ A. same_id A.id u) (present_in I R J) v.0 there (eq-eqb v.0.id.0 u.0 (now_id T v.0 v.1 ∙ id)) only ∙ sym (here_is ∙ v.1)
    where
      v : (V : Txn) × (option_or (R T.id.0) (Some T) ≡ Some V)
      v = now T

      id : T.id.0 ≡ u.0
      id = (let a = h.arrived u.0 k at in ap (λ A. A.id.0) (one_arrival k T a.0 is a.1) ∙ a.2)

      here_is : present_at I R (k, edit.Arrive T) ≡ option_or (R T.id.0) (Some T)
      here_is = at_place I R k T (ap I id ∙ at)

      there : Contains (present_in I R J) v.0
      there = Contains-filter_map (present_at I R) (enumerate_from 0 J) (k, edit.Arrive T) v.0 (subst (λ j. Contains (enumerate_from 0 J) (j, edit.Arrive T)) (zero_and k) (Contains-enumerate 0 J k (edit.Arrive T) is)) (here_is ∙ v.1)

      only : (U : Txn) → Contains (present_in I R J) U → same_id U.id u ≡ true → U ≡ v.0
      only U c t =
          let r = member U c in
          let place : r.0 ≡ k = same_some (sym r.3 ∙ ap I (sym (now_id r.1 U r.4) ∙ eqb-true U.id.0 u.0 t) ∙ at) in
          let same = one_arrival k r.1 T (ap (slice_get J) (sym place) ∙ r.2) is in
          same_some (sym r.4 ∙ ap (λ A. option_or (R A.id.0) (Some A)) same ∙ v.1)

  pub lacks : (u : TxnId) → I u.0 ≡ None → with_id (present_in I R J) u ≡ None
  lacks u e = find_none (λ A. same_id A.id u) (present_in I R J) (λ U c t.
      let r = member U c in
      let f = sym r.3 ∙ ap I (sym (now_id r.1 U r.4) ∙ eqb-true U.id.0 u.0 t) ∙ e in
      cc)

  pub placed : (u : TxnId) (T : Txn) → with_id (present_in I R J) u ≡ Some T → (k : ℕ) × (I u.0 ≡ Some k)
  placed u T e = elim (I u.0) as (λ o. I u.0 ≡ o → (k : ℕ) × (o ≡ Some k)) [
    | None ↦ λ i. absurd (let f = sym (lacks u i) ∙ e in cc)
    | Some k ↦ λ i. (k, refl)
  ] refl

  absent : (u : TxnId) → with_id (present_in I R J) u ≡ None → I u.0 ≡ None
  absent u e = elim (I u.0) as (λ o. I u.0 ≡ o → o ≡ None) [
    | None ↦ λ i. refl
    | Some k ↦ λ i.
        let a = h.arrived u.0 k i in
        let v = now a.0 in
        absurd (let f = sym e ∙ got u k a.0 i a.1 ∙ at_place I R k a.0 (ap I a.2 ∙ i) ∙ v.1 in cc)
  ] refl

  no_copy : (u : ℕ) → I u ≡ None → R u ≡ None
  no_copy u e = elim (R u) as (λ o. R u ≡ o → o ≡ None) [
    | None ↦ λ r. refl
    | Some V ↦ λ r. absurd (let f = sym e ∙ (h.copied u V r).2 in cc)
  ] refl

  -- ---- one more edit, with other places and copies

  module _ (I' : ℕ → Option ℕ) (R' : ℕ → Option Txn) (e : Edit) where
    pushed : present_in I' R' (J ++ e ∷ []) ≡ filter_map (present_at I' R') (enumerate_from 0 J) ++ option_to_list (present_at I' R' (length J, e))
    pushed =
        ap (filter_map (present_at I' R')) (numbered_push 0 J e)
        ∙ filter_map-append (present_at I' R') (enumerate_from 0 J) ((0 + length J, e) ∷ [])
        ∙ ap (λ ys. filter_map (present_at I' R') (enumerate_from 0 J) ++ ys) (one_more (present_at I' R' (0 + length J, e)) ∙ ap (λ k. option_to_list (present_at I' R' (k, e))) (zero_and (length J)))

    module _ (g : Txn → Option Txn) (each : (k : ℕ) (d : Edit) → slice_get J k ≡ Some d → present_at I' R' (k, d) ≡ option_and_then g (present_at I R (k, d))) where
      changed : filter_map (present_at I' R') (enumerate_from 0 J) ≡ filter_map g (present_in I R J)
      changed = chosen_again (present_at I R) (present_at I' R') g (enumerate_from 0 J) (λ p c.
          let s = Contains-from_enumerate 0 J p c in
          each p.0 p.1 (ap (slice_get J) (s.1 ∙ zero_and s.0) ∙ s.2))

    -- what changes for the transaction u alone
    at_one : (u : TxnId) (g : Txn → Option Txn) → ((U : Txn) → (U.id.0 ≡ u.0 → ⊥) → g U ≡ Some U)
        → ((q : ℕ) → (q ≡ u.0 → ⊥) → (I' q ≡ I q) × (R' q ≡ R q))
        → ((k : ℕ) (T : Txn) → slice_get J k ≡ Some (edit.Arrive T) → T.id.0 ≡ u.0 → present_at I' R' (k, edit.Arrive T) ≡ option_and_then g (present_at I R (k, edit.Arrive T)))
        → (k : ℕ) (d : Edit) → slice_get J k ≡ Some d → present_at I' R' (k, d) ≡ option_and_then g (present_at I R (k, d))
    at_one u g keeps same there k (edit.Arrive T) is = elim (eqb T.id.0 u.0) as (λ b. eqb T.id.0 u.0 ≡ b → present_at I' R' (k, edit.Arrive T) ≡ option_and_then g (present_at I R (k, edit.Arrive T))) [
      | true ↦ λ t. there k T is (eqb-true T.id.0 u.0 t)
      | false ↦ λ t.
          let d = eqb-false T.id.0 u.0 t in
          let s = same T.id.0 d in
          same_at I I' R R' k T s.0 s.1 ∙ and_kept g (present_at I R (k, edit.Arrive T)) (λ U f. keeps U (λ i. d (sym (at_id_of k T U f) ∙ i)))
    ] refl
    at_one u g keeps same there k (edit.Resolve v o) is = refl
    at_one u g keeps same there k (edit.Withdraw v) is = refl
    at_one u g keeps same there k (edit.SetUp x v) is = refl

    -- places and copies that were there
    kept_places : ((q k : ℕ) → I' q ≡ Some k → I q ≡ Some k) → (u k : ℕ) → I' u ≡ Some k → (T : Txn) × (slice_get (J ++ e ∷ []) k ≡ Some (edit.Arrive T)) × (T.id.0 ≡ u)
    kept_places was u k i = (let a = h.arrived u k (was u k i) in (a.0, pushed_old J e k (edit.Arrive a.0) a.1, a.2))

  -- ---- an edit that is nothing to the transactions

  pub rest_txns : (e : Edit) → present_at I R (length J, e) ≡ None → present_in I R (J ++ e ∷ []) ≡ present_in I R J
  rest_txns e none = pushed I R e ∙ ap (λ o. present_in I R J ++ option_to_list o) none ∙ append-nil (present_in I R J)

  pub rest_kept : (e : Edit) → present_at I R (length J, e) ≡ None → AreInJournal (J ++ e ∷ []) I R m
  rest_kept e none = record {
    arrived = kept_places I R e (λ q k i. i);
    copied = h.copied;
    count = h.count ∙ ap length (sym (rest_txns e none));
  }

  -- ---- an arrival

  module _ (T : Txn) (I' : ℕ → Option ℕ) (new : with_id (present_in I R J) T.id ≡ None) (s : (q : ℕ) → I' q ≡ cond (nat_eq T.id.0 q) (Some (length J)) (I q)) where
    pub unplaced : I T.id.0 ≡ None
    unplaced = absent T.id new

    place_now : I' T.id.0 ≡ Some (length J)
    place_now = s T.id.0 ∙ ap (λ b. cond b (Some (length J)) (I T.id.0)) (eq-eqb T.id.0 T.id.0 refl)

    others : (q : ℕ) → (q ≡ T.id.0 → ⊥) → I' q ≡ I q
    others q d = s q ∙ elim (nat_eq T.id.0 q) as (λ b. nat_eq T.id.0 q ≡ b → cond b (Some (length J)) (I q) ≡ I q) [
      | true ↦ λ t. absurd (d (sym (eqb-true T.id.0 q t)))
      | false ↦ λ t. refl
    ] refl

    before : (k : ℕ) (U : Txn) → slice_get J k ≡ Some (edit.Arrive U) → U.id.0 ≡ T.id.0 → present_at I' R (k, edit.Arrive U) ≡ option_and_then (λ A. Some A) (present_at I R (k, edit.Arrive U))
    before k U is i =
        elsewhere I' R k U (λ p.
        let l = slice_get_within J k (edit.Arrive U) is in
        let f : length J ≡ k = same_some (sym place_now ∙ ap I' (sym i) ∙ p) in
        absurd (omega arith))
        ∙ ap (option_and_then (λ A. Some A)) (sym (elsewhere I R k U (λ p. (let f = sym p ∙ ap I i ∙ unplaced in cc))))

    pub arrival_txns : present_in I' R (J ++ edit.Arrive T ∷ []) ≡ present_in I R J ++ T ∷ []
    arrival_txns =
        pushed I' R (edit.Arrive T)
        ∙ ap (λ o. filter_map (present_at I' R) (enumerate_from 0 J) ++ option_to_list o) (at_place I' R (length J) T place_now ∙ ap (λ o. option_or o (Some T)) (no_copy T.id.0 unplaced))
        ∙ ap (λ ys. ys ++ T ∷ []) (changed I' R (edit.Arrive T) (λ A. Some A) (at_one I' R (edit.Arrive T) T.id (λ A. Some A) (λ A d. refl) (λ q d. (others q d, refl)) before) ∙ chosen_all (present_in I R J))

    pub arrival_kept : AreInJournal (J ++ edit.Arrive T ∷ []) I' R (m + 1)
    arrival_kept = record { arrived = arrived; copied = copied; count = count }
      where
        arrived : (u k : ℕ) → I' u ≡ Some k → (U : Txn) × (slice_get (J ++ edit.Arrive T ∷ []) k ≡ Some (edit.Arrive U)) × (U.id.0 ≡ u)
        arrived u k i = elim (eqb u T.id.0) as (λ b. eqb u T.id.0 ≡ b → (U : Txn) × (slice_get (J ++ edit.Arrive T ∷ []) k ≡ Some (edit.Arrive U)) × (U.id.0 ≡ u)) [
          | true ↦ λ t.
              let is = eqb-true u T.id.0 t in
              let f : k ≡ length J = same_some (sym i ∙ ap I' is ∙ place_now) in
              (T, ap (slice_get (J ++ edit.Arrive T ∷ [])) f ∙ pushed_new J (edit.Arrive T), sym is)
          | false ↦ λ t. (let a = h.arrived u k (sym (others u (eqb-false u T.id.0 t)) ∙ i) in (a.0, pushed_old J (edit.Arrive T) k (edit.Arrive a.0) a.1, a.2))
        ] refl

        copied : (u : ℕ) (U : Txn) → R u ≡ Some U → (U.id.0 ≡ u) × (k : ℕ) × (I' u ≡ Some k)
        copied u U r =
            let c = h.copied u U r in
            (c.0, c.1, others u (λ is. (let f = sym (ap I is ∙ unplaced) ∙ c.2 in cc)) ∙ c.2)

        count : m + 1 ≡ length (present_in I' R (J ++ edit.Arrive T ∷ []))
        count = ap (λ n. n + 1) h.count ∙ sym (ap length arrival_txns ∙ length-append (present_in I R J) (T ∷ []))

  -- ---- a resolution

  module _ (W : Txn) (o : Outcome) (R' : ℕ → Option Txn) (there : with_id (present_in I R J) W.id ≡ Some W) (s : (q : ℕ) → R' q ≡ cond (nat_eq W.id.0 q) (Some (record W { status = status_after o })) (R q)) where
    abbrev resolves : Txn → Option Txn
    resolves = at_id W.id (λ T. Some (record T { status = status_after o }))

    copy_now : R' W.id.0 ≡ Some (record W { status = status_after o })
    copy_now = s W.id.0 ∙ ap (λ b. cond b (Some (record W { status = status_after o })) (R W.id.0)) (eq-eqb W.id.0 W.id.0 refl)

    other_copies : (q : ℕ) → (q ≡ W.id.0 → ⊥) → R' q ≡ R q
    other_copies q d = s q ∙ elim (nat_eq W.id.0 q) as (λ b. nat_eq W.id.0 q ≡ b → cond b (Some (record W { status = status_after o })) (R q) ≡ R q) [
      | true ↦ λ t. absurd (d (sym (eqb-true W.id.0 q t)))
      | false ↦ λ t. refl
    ] refl

    at_arrival : (k : ℕ) (U : Txn) → slice_get J k ≡ Some (edit.Arrive U) → U.id.0 ≡ W.id.0 → present_at I R' (k, edit.Arrive U) ≡ option_and_then resolves (present_at I R (k, edit.Arrive U))
    at_arrival k U is i = elim (placed_or_not I R k U) [
      | inl p ↦
          let was : present_at I R (k, edit.Arrive U) ≡ Some W = sym (got W.id k U (ap I (sym i) ∙ p) is) ∙ there in
          at_place I R' k U p
          ∙ ap (λ c. option_or c (Some U)) (ap R' i ∙ copy_now)
          ∙ sym (ap (option_and_then resolves) was ∙ this W.id (λ T. Some (record T { status = status_after o })) W refl)
      | inr d ↦ elsewhere I R' k U d ∙ ap (option_and_then resolves) (sym (elsewhere I R k U d))
    ]

    pub resolution_txns : present_in I R' (J ++ edit.Resolve W.id o ∷ []) ≡ map (resolved W.id o) (present_in I R J)
    resolution_txns =
        pushed I R' (edit.Resolve W.id o)
        ∙ append-nil (filter_map (present_at I R') (enumerate_from 0 J))
        ∙ changed I R' (edit.Resolve W.id o) resolves (at_one I R' (edit.Resolve W.id o) W.id resolves (other W.id (λ T. Some (record T { status = status_after o }))) (λ q d. (refl, other_copies q d)) at_arrival)
        ∙ as_map W.id o (present_in I R J)

    pub resolution_kept : AreInJournal (J ++ edit.Resolve W.id o ∷ []) I R' m
    resolution_kept = record {
      arrived = kept_places I R' (edit.Resolve W.id o) (λ q k i. i);
      copied = copied;
      count = h.count ∙ sym (ap length resolution_txns ∙ length-map (present_in I R J) (resolved W.id o));
    }
      where
        copied : (u : ℕ) (U : Txn) → R' u ≡ Some U → (U.id.0 ≡ u) × (k : ℕ) × (I u ≡ Some k)
        copied u U r = elim (eqb u W.id.0) as (λ b. eqb u W.id.0 ≡ b → (U.id.0 ≡ u) × (k : ℕ) × (I u ≡ Some k)) [
          | true ↦ λ t.
              let is = eqb-true u W.id.0 t in
              let p = placed W.id W there in
              (ap (λ A. A.id.0) (sym (same_some (sym copy_now ∙ ap R' (sym is) ∙ r))) ∙ sym is, p.0, ap I is ∙ p.1)
          | false ↦ λ t. h.copied u U (sym (other_copies u (eqb-false u W.id.0 t)) ∙ r)
        ] refl

  -- ---- a withdrawal

  module _ (u : TxnId) (I' : ℕ → Option ℕ) (R' : ℕ → Option Txn) (s : (q : ℕ) → I' q ≡ cond (nat_eq u.0 q) None (I q)) (t : (q : ℕ) → R' q ≡ cond (nat_eq u.0 q) None (R q)) where
    abbrev leaves : Txn → Option Txn
    leaves = at_id u (λ T. None)

    not_now : {X : Type 0} (F F' : ℕ → Option X) → ((q : ℕ) → F' q ≡ cond (nat_eq u.0 q) None (F q)) → F' u.0 ≡ None
    not_now F F' f = f u.0 ∙ ap (λ b. cond b None (F u.0)) (eq-eqb u.0 u.0 refl)

    as_before : {X : Type 0} (F F' : ℕ → Option X) → ((q : ℕ) → F' q ≡ cond (nat_eq u.0 q) None (F q)) → (q : ℕ) → (q ≡ u.0 → ⊥) → F' q ≡ F q
    as_before F F' f q d = f q ∙ elim (nat_eq u.0 q) as (λ b. nat_eq u.0 q ≡ b → cond b None (F q) ≡ F q) [
      | true ↦ λ e. absurd (d (sym (eqb-true u.0 q e)))
      | false ↦ λ e. refl
    ] refl

    gone_at : (k : ℕ) (U : Txn) → U.id.0 ≡ u.0 → present_at I' R' (k, edit.Arrive U) ≡ None
    gone_at k U i = elsewhere I' R' k U (λ p. (let f = sym (not_now I I' s) ∙ ap I' (sym i) ∙ p in cc))

    at_withdrawn : (k : ℕ) (U : Txn) → slice_get J k ≡ Some (edit.Arrive U) → U.id.0 ≡ u.0 → present_at I' R' (k, edit.Arrive U) ≡ option_and_then leaves (present_at I R (k, edit.Arrive U))
    at_withdrawn k U is i = gone_at k U i ∙ and_gone leaves (present_at I R (k, edit.Arrive U)) (λ V e. this u (λ T. None) V (at_id_of k U V e ∙ i))

    pub withdrawal_txns : present_in I' R' (J ++ edit.Withdraw u ∷ []) ≡ filter (is_another u) (present_in I R J)
    withdrawal_txns =
        pushed I' R' (edit.Withdraw u)
        ∙ append-nil (filter_map (present_at I' R') (enumerate_from 0 J))
        ∙ changed I' R' (edit.Withdraw u) leaves (at_one I' R' (edit.Withdraw u) u leaves (other u (λ T. None)) (λ q d. (as_before I I' s q d, as_before R R' t q d)) at_withdrawn)
        ∙ as_filter u (present_in I R J)

    was_there : {X : Type 0} (F F' : ℕ → Option X) → ((q : ℕ) → F' q ≡ cond (nat_eq u.0 q) None (F q)) → (q : ℕ) (x : X) → F' q ≡ Some x → (q ≡ u.0 → ⊥) × (F q ≡ Some x)
    was_there F F' f q x e =
        let d : q ≡ u.0 → ⊥ = λ i. (let g = sym (not_now F F' f) ∙ ap F' (sym i) ∙ e in cc) in
        (d, sym (as_before F F' f q d) ∙ e)

    pub withdrawal_kept : (T : Txn) (n : ℕ) → with_id (present_in I R J) u ≡ Some T → n + 1 ≡ m → AreInJournal (J ++ edit.Withdraw u ∷ []) I' R' n
    withdrawal_kept T n is less = record {
      arrived = kept_places I' R' (edit.Withdraw u) (λ q k e. (was_there I I' s q k e).1);
      copied = copied;
      count = count;
    }
      where
        copied : (q : ℕ) (U : Txn) → R' q ≡ Some U → (U.id.0 ≡ q) × (k : ℕ) × (I' q ≡ Some k)
        copied q U r =
            let w = was_there R R' t q U r in
            let c = h.copied q U w.1 in
            (c.0, c.1, as_before I I' s q w.0 ∙ c.2)

        k : ℕ
        k = (placed u T is).0

        at : I u.0 ≡ Some k
        at = (placed u T is).1

        arrival : (A : Txn) × (slice_get J k ≡ Some (edit.Arrive A)) × (A.id.0 ≡ u.0)
        arrival = h.arrived u.0 k at

        elsewhere_same : (j : ℕ) (p : ℕ × Edit) → slice_get (enumerate_from 0 J) j ≡ Some p → (j ≡ k → ⊥) → present_at I' R' p ≡ present_at I R p
        elsewhere_same j p e d =
            let r = at_numbered 0 J j p e in
            go p.0 p.1 (ap (slice_get J) (r.0 ∙ zero_and j) ∙ r.1) (λ i. d (sym (r.0 ∙ zero_and j) ∙ i))
          where
            go : (i : ℕ) (q : Edit) → slice_get J i ≡ Some q → (i ≡ k → ⊥) → present_at I' R' (i, q) ≡ present_at I R (i, q)
            go i (edit.Arrive U) d n = elim (eqb U.id.0 u.0) as (λ b. eqb U.id.0 u.0 ≡ b → present_at I' R' (i, edit.Arrive U) ≡ present_at I R (i, edit.Arrive U)) [
              | true ↦ λ y.
                  let same = eqb-true U.id.0 u.0 y in
                  gone_at i U same ∙ sym (elsewhere I R i U (λ p. n (same_some (sym p ∙ ap I same ∙ at))))
              | false ↦ λ y. (let x = eqb-false U.id.0 u.0 y in same_at I I' R R' i U (as_before I I' s U.id.0 x) (as_before R R' t U.id.0 x))
            ] refl
            go i (edit.Resolve v o) is n = refl
            go i (edit.Withdraw v) is n = refl
            go i (edit.SetUp x v) is n = refl

        count : n ≡ length (present_in I' R' (J ++ edit.Withdraw u ∷ []))
        count =
            let A = arrival.0 in
            let v = now A in
            let one = one_less (present_at I R) (present_at I' R') (enumerate_from 0 J) k (k, edit.Arrive A) v.0 (numbered_at 0 J k (edit.Arrive A) arrival.1 ∙ ap (λ j. Some (j, edit.Arrive A)) (zero_and k)) (at_place I R k A (ap I arrival.2 ∙ at) ∙ v.1) (gone_at k A arrival.2) elsewhere_same in
            let whole = ap length (pushed I' R' (edit.Withdraw u) ∙ append-nil (filter_map (present_at I' R') (enumerate_from 0 J))) in
            let was = h.count in
            let few : length (filter_map (present_at I' R') (enumerate_from 0 J)) ≡ n = omega arith in
            sym (whole ∙ few)
