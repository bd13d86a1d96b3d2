-- The parts of a key are what transactions do there, at places that rise.
use Rattle.std.proofs.Common.{◌≡◌, ◌↔◌, ℕ, ◌+◌, ◌<◌, ◌≤◌, Bool, true, false, List, [], ◌∷◌, Option, Some, None, refl, sym, ap, subst, ◌∙◌, arith, cond, slice_get}
use Rattle.std.specs.List.{Contains, AllPairs, filter_map, enumerate_from, cons_option}
use Rattle.si_model.specs.declared.operations.Op.{Op}
use Rattle.si_model.specs.declared.operations.Op.TheVariants as op
use Rattle.si_model.specs.declared.transactions.Txn.{Txn}
use Rattle.si_model.specs.declared.numbers.Value.{Value}
use Rattle.si_model.specs.declared.parts.Access.TheVariants as access
use Rattle.si_model.specs.declared.parts.Placed.{Placed}
use Rattle.si_model.specs.declared.parts.Part.{Part}
use Rattle.si_model.specs.Operations.{key_of, access_of, same_key}
use Rattle.si_model.specs.Parts.{placed_at, accesses, part_with, part, parts}
use Rattle.si_model.specs.Versions.{WritesAt}
use Rattle.si_model.specs.History.{WritesPairAt}
use Rattle.si_model.specs.Laws.{IsPartOf}
use Rattle.si_lists.proofs.Members.{same_some, Contains-nil, here, Contains-filter_map, Contains-from_filter_map, Contains-enumerate, Contains-from_enumerate}
use Rattle.si_lists.proofs.Names.{pairs_nil, pairs_cons}
use Rattle.si_model.proofs.Equalities.{same_key_is, same_key_from}

-- ---- the accesses of a key

placed_is : (x : List ℕ) (i : ℕ) (p : Op) (a : Placed) → placed_at x (i, p) ≡ Some a → (key_of p ≡ x) × (a ≡ record { place = i; access = access_of p })
placed_is x i p a e = by (same_key (key_of p) x) refl e
  where
    by : (b : Bool) → same_key (key_of p) x ≡ b → cond b (Some (record { place = i; access = access_of p })) None ≡ Some a → (key_of p ≡ x) × (a ≡ record { place = i; access = access_of p })
    by true s e = (same_key_is (key_of p) x s, sym (same_some e))
    by false s e = cc

access_in : (x : List ℕ) (ops : List Op) (a : Placed) → (p : Op) × (slice_get ops a.place ≡ Some p) × (key_of p ≡ x) × (access_of p ≡ a.access) → Contains (accesses x ops) a
access_in x ops a (p, at, key, is) =
    let found : Contains (enumerate_from 0 ops) (0 + a.place, p) = Contains-enumerate 0 ops a.place p at in
    let from : Contains (enumerate_from 0 ops) (a.place, p) = let s : 0 + a.place ≡ a.place = omega arith in subst (λ w. Contains (enumerate_from 0 ops) (w, p)) s found in
    let test : placed_at x (a.place, p) ≡ Some (record { place = a.place; access = access_of p }) = rw (same_key_from (key_of p) x key) refl in
    let all = Contains-filter_map (placed_at x) (enumerate_from 0 ops) (a.place, p) (record { place = a.place; access = access_of p }) from test in
    subst (λ b. Contains (accesses x ops) (record { place = a.place; access = b })) is all

access_from : (x : List ℕ) (ops : List Op) (a : Placed) → Contains (accesses x ops) a → (p : Op) × (slice_get ops a.place ≡ Some p) × (key_of p ≡ x) × (access_of p ≡ a.access)
access_from x ops a c =
    let f = Contains-from_filter_map (placed_at x) (enumerate_from 0 ops) a c in
    let g = Contains-from_enumerate 0 ops f.0 f.1 in
    let h = placed_is x f.0.0 f.0.1 a f.2 in
    let place : g.0 ≡ a.place = (let s : g.0 ≡ f.0.0 = (let t = g.1 in omega arith) in s ∙ ap (λ b. b.place) (sym h.1)) in
    (f.0.1, subst (λ w. slice_get ops w ≡ Some f.0.1) place g.2, h.0, ap (λ b. b.access) (sym h.1))

pub accesses_are : (x : List ℕ) (ops : List Op) (a : Placed) → Contains (accesses x ops) a ↔ ((p : Op) × (slice_get ops a.place ≡ Some p) × (key_of p ≡ x) × (access_of p ≡ a.access))
accesses_are x ops a = (access_from x ops a, access_in x ops a)

-- ---- places that rise

placed_past : (x : List ℕ) (n : ℕ) (ops : List Op) (a : Placed) → Contains (filter_map (placed_at x) (enumerate_from n ops)) a → n ≤ a.place
placed_past x n ops a c =
    let f = Contains-from_filter_map (placed_at x) (enumerate_from n ops) a c in
    let g = Contains-from_enumerate n ops f.0 f.1 in
    let h = ap (λ b. b.place) (placed_is x f.0.0 f.0.1 a f.2).1 in
    let s = g.1 in
    omega arith

abbrev pub Rise : List Placed → Type 0
Rise ys = AllPairs (λ a b. a.place < b.place) ys

rise_from : (x : List ℕ) (n : ℕ) (ops : List Op) → Rise (filter_map (placed_at x) (enumerate_from n ops))
rise_from x n [] = pairs_nil (λ a b. a.place < b.place)
rise_from x n (p ∷ ops) = one_more (placed_at x (n, p)) (λ a e. ap (λ b. b.place) (placed_is x n p a e).1) (rise_from x (n + 1) ops)
  where
    rest : List Placed
    rest = filter_map (placed_at x) (enumerate_from (n + 1) ops)

    one_more : (o : Option Placed) → ((a : Placed) → o ≡ Some a → a.place ≡ n) → Rise (filter_map (placed_at x) (enumerate_from (n + 1) ops)) → Rise (cons_option o (filter_map (placed_at x) (enumerate_from (n + 1) ops)))
    one_more None at r = r
    one_more (Some a) at r = pairs_cons (λ b c. b.place < c.place) a (filter_map (placed_at x) (enumerate_from (n + 1) ops))
        (λ b c. let past = placed_past x (n + 1) ops b c in let is = at a refl in omega arith) r

pub accesses_rise : (x : List ℕ) (ops : List Op) → Rise (accesses x ops)
accesses_rise x ops = rise_from x 0 ops

-- ---- the parts of a key

part_fields : (x : List ℕ) (T : Txn) (ys : List Placed) (Q : Part) → accesses x T.ops ≡ ys → part_with T ys ≡ Some Q → IsPartOf x T Q
part_fields x T [] Q e f = cc
part_fields x T (a ∷ ys) Q e f =
    let s = sym (same_some f) in
    record {
      id = ap (λ q. q.id) s;
      start = ap (λ q. q.start) s;
      status = ap (λ q. q.status) s;
      accesses = ap (λ q. q.accesses) s ∙ sym e;
      some = (a, subst (λ zs. Contains zs a) (sym (ap (λ q. q.accesses) s)) (here a ys));
    }

pub part_is : (x : List ℕ) (T : Txn) (Q : Part) → part x T ≡ Some Q → IsPartOf x T Q
unfolding part
part_is x T Q e = part_fields x T (accesses x T.ops) Q refl e

pub part_some : (x : List ℕ) (T : Txn) (Q : Part) → IsPartOf x T Q → part x T ≡ Some Q
unfolding part
part_some x T Q is = by (accesses x T.ops) refl
  where
    same : (ys : List Placed) → accesses x T.ops ≡ ys → record { id = T.id; start = T.start; status = T.status; accesses = ys } ≡ Q
    same ys e = λ i. record { id = sym is.id i; start = sym is.start i; status = sym is.status i; accesses = (sym e ∙ sym is.accesses) i }

    by : (ys : List Placed) → accesses x T.ops ≡ ys → part_with T ys ≡ Some Q
    by [] e = absurd (Contains-nil is.some.0 (subst (λ zs. Contains zs is.some.0) (is.accesses ∙ e) is.some.1))
    by (a ∷ ys) e = ap Some (same (a ∷ ys) e)

pub parts_are : (x : List ℕ) (txns : List Txn) (Q : Part) → Contains (parts x txns) Q ↔ ((T : Txn) × Contains txns T × IsPartOf x T Q)
parts_are x txns Q = (
  λ c. (let f = Contains-from_filter_map (part x) txns Q c in (f.0, f.1, part_is x f.0 Q f.2)),
  λ f. Contains-filter_map (part x) txns f.0 Q f.1 (part_some x f.0 Q f.2),
)

-- ---- writes to a key are writes of pairs

write_of : (x : List ℕ) (v : Value) (p : Op) → key_of p ≡ x → access_of p ≡ access.Write v → p ≡ op.Write x v
write_of x v (op.Read y w) k a = cc
write_of x v (op.Write y w) k a = cc

pub pair_from : (x : List ℕ) (T : Txn) (Q : Part) (i : ℕ) (v : Value) → IsPartOf x T Q → WritesAt Q i v → WritesPairAt T i x v
pair_from x T Q i v is c =
    let f = access_from x T.ops (record { place = i; access = access.Write v }) (subst (λ ys. Contains ys (record { place = i; access = access.Write v })) is.accesses c) in
    f.1 ∙ ap Some (write_of x v f.0 f.2 f.3)
