-- A walk through the accesses of one transaction on a key.
use Rattle.std.proofs.Common.{◌≡◌, ℕ, ◌<◌, ◌+◌, Bool, true, false, not, ◌&&◌, ◌||◌, cond, List, [], ◌∷◌, Option, ap, refl, sym, ◌∙◌, inl, inr, arith, length, get_or, take, suc, zero, None, Some, ◌≢◌, add-zero, nat_lt}
use Rattle.std.specs.List.{Contains, count_by, list_any}
use Rattle.std.specs.Option.{option_or}
use Rattle.std.proofs.lemmas.List.{get_or_default}
use Rattle.std.proofs.lemmas.Bool.{and_parts, ltb-true, lt-ltb}
use Rattle.std.proofs.lemmas.List.Sums.{sum_by-cons, sum_by_more, fold_more}
use Rattle.std.proofs.lemmas.List.Elements.{Contains-get_or}
use Rattle.si_model.specs.declared.numbers.Value.{Value}
use Rattle.si_model.specs.declared.parts.Access.{Access}
use Rattle.si_model.specs.declared.parts.Access.TheVariants as access
use Rattle.si_model.specs.declared.parts.Placed.{Placed}
use Rattle.si_model.specs.declared.parts.Part.{Part}
use Rattle.si_model.specs.Versions.{last_write, written}
use Rattle.si_model.specs.Chances.{is_read_access, is_write_access}
use Rattle.si_lists.proofs.Members.{Contains-cons_cases}
use Rattle.si_lists.proofs.Tests.{any_is}
use Rattle.si_lists.proofs.Names.{pairs_head, pairs_tail}
use Rattle.si_chances.specs.Summaries.{Rise, RiseAll, wrote_among}

pub any_none : {X : Type 0} (p : X → Bool) (xs : List X) → ((x : X) → Contains xs x → p x ≡ true → ⊥) → list_any p xs ≡ false
any_none p xs never = elim (list_any p xs) as (λ b. list_any p xs ≡ b → b ≡ false) [
  | true ↦ λ e. (let f = any_is p xs e in absurd (never f.0 f.1 f.2))
  | false ↦ λ e. refl
] refl

pub any_counted : {X : Type 0} (p : X → Bool) (xs : List X) → list_any p xs ≡ nat_lt 0 (count_by p xs)
any_counted p [] = refl
any_counted p (x ∷ xs) = any_counted_in (p x) (list_any p xs) (count_by p xs) (count_by p (x ∷ xs)) (sum_by-cons (λ y. cond (p y) 1 0) x xs) (any_counted p xs)
  where
    any_counted_in : (b any : Bool) (n m : ℕ) → m ≡ cond b 1 0 + n → any ≡ nat_lt 0 n → (b || any) ≡ nat_lt 0 m
    any_counted_in true any n m e f = sym (lt-ltb 0 m (omega arith))
    any_counted_in false any n m e f = f ∙ ap (nat_lt 0) (omega arith)

pub count_none : {X : Type 0} (p : X → Bool) (xs : List X) → ((x : X) → p x ≡ false) → count_by p xs ≡ 0
count_none p [] none = refl
count_none p (x ∷ xs) none = sum_by-cons (λ y. cond (p y) 1 0) x xs ∙ ap (λ b. cond b 1 0 + count_by p xs) (none x) ∙ ap (λ n. 0 + n) (count_none p xs none)

-- before the place of an access the transaction wrote where an access before it is a write
pub wrote_so_far : (ys : List Placed) (i : ℕ) (d : Placed) → Rise ys → i < length ys → wrote_among ys (get_or ys i d).place ≡ list_any (λ a. is_write_access a.access) (take i ys)
wrote_so_far [] i d r l = absurd (omega arith)
wrote_so_far (y ∷ ys) zero d r l = any_none (λ a. nat_lt a.place y.place && is_write_access a.access) (y ∷ ys) (λ a c e. not_before a c (ltb-true a.place y.place (and_parts (nat_lt a.place y.place) (is_write_access a.access) e).0))
  where
    not_before : (a : Placed) → Contains (y ∷ ys) a → a.place < y.place → ⊥
    not_before a c l = elim (Contains-cons_cases y ys a c) [
      | inl s ↦ (let same = ap (λ b. b.place) s in omega arith)
      | inr d ↦ (let after = pairs_head (λ b c. b.place < c.place) y ys r a d in omega arith)
    ]
wrote_so_far (y ∷ ys) (suc i) d r l =
    let l' : i < length ys = omega arith in
    let before = pairs_head (λ b c. b.place < c.place) y ys r (get_or ys i d) (Contains-get_or ys i d l') in
    ap (λ b. (b && is_write_access y.access) || wrote_among ys (get_or ys i d).place) (lt-ltb y.place (get_or ys i d).place before)
    ∙ ap (λ b. is_write_access y.access || b) (wrote_so_far ys i d (pairs_tail (λ b c. b.place < c.place) y ys r) l')

-- what was counted among the first accesses
pub record IsWalked (ys : List Placed) (i o f w : ℕ) (v : Option Value) : Type 0 where
  pub own : o ≡ count_by (λ a. is_read_access a.access && wrote_among ys a.place) (take i ys)
  pub free : f ≡ count_by (λ a. is_read_access a.access && not (wrote_among ys a.place)) (take i ys)
  pub writes : w ≡ count_by (λ a. is_write_access a.access) (take i ys)
  pub last : v ≡ last_write (take i ys)
  pub all : o + f + w ≡ i

-- the same with one access more
pub walked_more : (ys : List Placed) (i own free writes : ℕ) (last : Option Value) (a : Placed) → Rise ys → i < length ys → a ≡ get_or ys i a → IsWalked ys i own free writes last
    → IsWalked ys (i + 1) (own + cond (is_read_access a.access && nat_lt 0 writes) 1 0) (free + cond (is_read_access a.access && not (nat_lt 0 writes)) 1 0)
    (writes + cond (is_write_access a.access) 1 0) (option_or (written a.access) last)
walked_more ys i own free writes last a r l is w =
    let wrote : wrote_among ys a.place ≡ nat_lt 0 writes =
    ap (λ b. wrote_among ys b.place) is ∙ wrote_so_far ys i a r l ∙ any_counted (λ b. is_write_access b.access) (take i ys) ∙ ap (nat_lt 0) (sym w.writes) in
    record {
      own = sym (sum_by_more (λ b. cond (is_read_access b.access && wrote_among ys b.place) 1 0) ys i a l ∙ ap (λ n. n + cond (is_read_access (get_or ys i a).access && wrote_among ys (get_or ys i a).place) 1 0) (sym w.own)
          ∙ ap (λ b. own + cond (is_read_access b.access && wrote_among ys b.place) 1 0) (sym is) ∙ ap (λ b. own + cond (is_read_access a.access && b) 1 0) wrote);
      free = sym (sum_by_more (λ b. cond (is_read_access b.access && not (wrote_among ys b.place)) 1 0) ys i a l ∙ ap (λ n. n + cond (is_read_access (get_or ys i a).access && not (wrote_among ys (get_or ys i a).place)) 1 0) (sym w.free)
          ∙ ap (λ b. free + cond (is_read_access b.access && not (wrote_among ys b.place)) 1 0) (sym is) ∙ ap (λ b. free + cond (is_read_access a.access && not b) 1 0) wrote);
      writes = sym (sum_by_more (λ b. cond (is_write_access b.access) 1 0) ys i a l ∙ ap (λ n. n + cond (is_write_access (get_or ys i a).access) 1 0) (sym w.writes)
          ∙ ap (λ b. writes + cond (is_write_access b.access) 1 0) (sym is));
      last = sym (fold_more (λ o b. option_or (written b.access) o) None ys i a l ∙ ap (λ o. option_or (written (get_or ys i a).access) o) (sym w.last) ∙ ap (λ b. option_or (written b.access) last) (sym is));
      all = one_more (is_of a.access) w.all;
    }
  where
    one_of : Access → Type 0
    one_of x = (b : Bool) → cond (is_read_access x && b) 1 0 + cond (is_read_access x && not b) 1 0 + cond (is_write_access x) 1 0 ≡ 1

    is_of : (x : Access) → one_of x
    is_of (access.Read v) true = refl
    is_of (access.Read v) false = refl
    is_of (access.Write v) b = refl

    one_more : one_of a.access → own + free + writes ≡ i
        → (own + cond (is_read_access a.access && nat_lt 0 writes) 1 0) + (free + cond (is_read_access a.access && not (nat_lt 0 writes)) 1 0) + (writes + cond (is_write_access a.access) 1 0) ≡ i + 1
    one_more one e = let o = one (nat_lt 0 writes) in omega arith

walked_as : (ys : List Placed) (i : ℕ) (b c : Access) (o f w : ℕ) (v : Option Value) → b ≡ c
    → IsWalked ys (i + 1) (o + cond (is_read_access b && nat_lt 0 w) 1 0) (f + cond (is_read_access b && not (nat_lt 0 w)) 1 0) (w + cond (is_write_access b) 1 0) (option_or (written b) v)
    → {o' f' w' : ℕ} {v' : Option Value} → o + cond (is_read_access c && nat_lt 0 w) 1 0 ≡ o' → f + cond (is_read_access c && not (nat_lt 0 w)) 1 0 ≡ f' → w + cond (is_write_access c) 1 0 ≡ w' → option_or (written c) v ≡ v'
    → IsWalked ys (i + 1) o' f' w' v'
walked_as ys i b c o f w v e m p q r t = record {
  own = sym p ∙ ap (λ a. o + cond (is_read_access a && nat_lt 0 w) 1 0) (sym e) ∙ m.own;
  free = sym q ∙ ap (λ a. f + cond (is_read_access a && not (nat_lt 0 w)) 1 0) (sym e) ∙ m.free;
  writes = sym r ∙ ap (λ a. w + cond (is_write_access a) 1 0) (sym e) ∙ m.writes;
  last = sym t ∙ ap (λ a. option_or (written a) v) (sym e) ∙ m.last;
  all =
      let p' = sym p ∙ ap (λ a. o + cond (is_read_access a && nat_lt 0 w) 1 0) (sym e) in
      let q' = sym q ∙ ap (λ a. f + cond (is_read_access a && not (nat_lt 0 w)) 1 0) (sym e) in
      let r' = sym r ∙ ap (λ a. w + cond (is_write_access a) 1 0) (sym e) in
      omega (arith, p', q', r', m.all);
}

-- the same by what the access is
pub walked_write : (ys : List Placed) (i o f w : ℕ) (v : Option Value) (d : Placed) (x : Value) → Rise ys → i < length ys → (get_or ys i d).access ≡ access.Write x → IsWalked ys i o f w v
    → IsWalked ys (i + 1) o f (w + 1) (Some x)
walked_write ys i o f w v d x r l e k =
    let m = walked_more ys i o f w v (get_or ys i d) r l (get_or_default ys i d (get_or ys i d) l) k in
    walked_as ys i (get_or ys i d).access (access.Write x) o f w v e m (add-zero o) (add-zero f) refl refl

pub walked_free : (ys : List Placed) (i o f w : ℕ) (v : Option Value) (d : Placed) (x : Option Value) → Rise ys → i < length ys → (get_or ys i d).access ≡ access.Read x → w ≡ 0 → IsWalked ys i o f w v
    → IsWalked ys (i + 1) o (f + 1) w v
walked_free ys i o f w v d x r l e z k =
    let m = walked_more ys i o f w v (get_or ys i d) r l (get_or_default ys i d (get_or ys i d) l) k in
    let test : nat_lt 0 w ≡ false = ap (nat_lt 0) z in
    walked_as ys i (get_or ys i d).access (access.Read x) o f w v e m (ap (λ b. o + cond b 1 0) test ∙ add-zero o) (ap (λ b. f + cond (not b) 1 0) test) (add-zero w) refl

pub walked_own : (ys : List Placed) (i o f w : ℕ) (v : Option Value) (d : Placed) (x : Option Value) → Rise ys → i < length ys → (get_or ys i d).access ≡ access.Read x → w ≢ 0 → IsWalked ys i o f w v
    → IsWalked ys (i + 1) (o + 1) f w v
walked_own ys i o f w v d x r l e z k =
    let m = walked_more ys i o f w v (get_or ys i d) r l (get_or_default ys i d (get_or ys i d) l) k in
    let test : nat_lt 0 w ≡ true = lt-ltb 0 w (omega arith) in
    walked_as ys i (get_or ys i d).access (access.Read x) o f w v e m (ap (λ b. o + cond b 1 0) test) (ap (λ b. f + cond (not b) 1 0) test ∙ add-zero f) (add-zero w) refl

-- the places of each transaction's accesses rise
pub rise_item : (parts : List Part) (i : ℕ) (T : Part) → RiseAll parts → i < length parts → T ≡ get_or parts i T → Rise T.accesses
rise_item parts i T r l e = r T (i, l, sym e)
