-- The values that free reads returned.
use Rattle.std.proofs.Common.{◌≡◌, ℕ, ◌<◌, ◌+◌, Bool, true, false, not, ◌&&◌, ◌||◌, List, Option, Some, ap, refl, sym, subst, ◌∙◌, length, get_or, take, nat_eq}
use Rattle.std.specs.List.{list_any}
use Rattle.std.specs.Option.{option_eq}
use Rattle.std.proofs.lemmas.List.Folds.{list_any_more}
use Rattle.si_model.specs.declared.numbers.Value.{Value}
use Rattle.si_model.specs.declared.parts.Access.TheVariants as access
use Rattle.si_model.specs.declared.parts.Placed.{Placed}
use Rattle.si_model.specs.declared.parts.Part.{Part}
use Rattle.si_model.specs.Operations.{same_value}
use Rattle.si_model.specs.Versions.{last_write}
use Rattle.si_model.specs.Chances.{is_committed, is_read_access, is_write_access, is_free_read, returns, wrote_before}
use Rattle.si_chances.specs.Summaries.{Rise}
use Rattle.si_chances.specs.Values.{returns_freely, returns_other}
use Rattle.si_chances.proofs.Walking.{any_none, wrote_so_far}

-- whether a read returned the value, and that isn't the last one
abbrev pub other : Option Value → Option Value → Value → Bool
other read last v = option_eq same_value read (Some v) && not (option_eq same_value last (Some v))

-- whether the value is among some numbers
abbrev pub has : List ℕ → Value → Bool
has ms v = list_any (λ m. nat_eq m v.0) ms

or_false : (b : Bool) → b ≡ (b || false)
or_false true = refl
or_false false = refl

-- ---- one transaction

-- an access of a committed transaction is a free read that returned the value where it is such a read and no access before it is a write
pub freely_at : (T : Part) (v : Value) (i : ℕ) (d : Placed) → Rise T.accesses → i < length T.accesses → is_committed T.status ≡ true
    → returns_freely T v (get_or T.accesses i d) ≡ ((is_read_access (get_or T.accesses i d).access && not (list_any (λ a. is_write_access a.access) (take i T.accesses))) && returns v (get_or T.accesses i d).access)
freely_at T v i d r l e =
    let a = get_or T.accesses i d in
    ap (λ b. (b && (is_read_access a.access && not (wrote_before T a.place))) && returns v a.access) e
    ∙ ap (λ b. (is_read_access a.access && not b) && returns v a.access) (wrote_so_far T.accesses i d r l)

-- what was found among the first accesses
pub record IsFound (T : Part) (last : Option Value) (old : List ℕ) (i : ℕ) (w : Bool) (new : List ℕ) : Type 0 where
  pub wrote : w ≡ list_any (λ a. is_write_access a.access) (take i T.accesses)
  pub found : (v : Value) → has new v ≡ (has old v || (list_any (returns_freely T v) (take i T.accesses) && not (option_eq same_value last (Some v))))

-- nothing more was
same_found : (T : Part) (last : Option Value) (old : List ℕ) (i : ℕ) (w : Bool) (new : List ℕ) (d : Placed) → i < length T.accesses → IsFound T last old i w new
    → ((v : Value) → returns_freely T v (get_or T.accesses i d) ≡ false) → IsFound T last old (i + 1) (w || is_write_access (get_or T.accesses i d).access) new
same_found T last old i w new d l k never = record {
  wrote = ap (λ b. b || is_write_access (get_or T.accesses i d).access) k.wrote ∙ sym (list_any_more (λ a. is_write_access a.access) T.accesses i d l);
  found = λ v. k.found v ∙ ap (λ b. has old v || (b && not (option_eq same_value last (Some v))))
      (or_false (list_any (returns_freely T v) (take i T.accesses)) ∙ ap (λ b. list_any (returns_freely T v) (take i T.accesses) || b) (sym (never v)) ∙ sym (list_any_more (returns_freely T v) T.accesses i d l));
}

and_false : (b : Bool) → (b && false) ≡ false
and_false true = refl
and_false false = refl

or_true : (b : Bool) → (b || true) ≡ true
or_true true = refl
or_true false = refl

pub found_write : (T : Part) (last : Option Value) (old : List ℕ) (i : ℕ) (w : Bool) (new : List ℕ) (d : Placed) (x : Value) → i < length T.accesses → (get_or T.accesses i d).access ≡ access.Write x
    → IsFound T last old i w new → IsFound T last old (i + 1) true new
found_write T last old i w new d x l e k =
    let m = same_found T last old i w new d l k (λ v. ap (λ a. is_free_read T (get_or T.accesses i d) && returns v a) e ∙ and_false (is_free_read T (get_or T.accesses i d))) in
    subst (λ b. IsFound T last old (i + 1) b new) (ap (λ a. w || is_write_access a) e ∙ or_true w) m

pub found_late : (T : Part) (last : Option Value) (old : List ℕ) (i : ℕ) (w : Bool) (new : List ℕ) (d : Placed) (x : Option Value) → Rise T.accesses → i < length T.accesses → is_committed T.status ≡ true
    → (get_or T.accesses i d).access ≡ access.Read x → w ≡ true → IsFound T last old i w new → IsFound T last old (i + 1) w new
found_late T last old i w new d x r l c e t k =
    let a = get_or T.accesses i d in
    let m = same_found T last old i w new d l k (λ v. freely_at T v i d r l c ∙ ap (λ b. (is_read_access a.access && not b) && returns v a.access) (sym k.wrote ∙ t) ∙ ap (λ b. b && returns v a.access) (and_false (is_read_access a.access))) in
    subst (λ b. IsFound T last old (i + 1) b new) (ap (λ b. w || is_write_access b) e ∙ sym (or_false w)) m

pub found_free : (T : Part) (last : Option Value) (old : List ℕ) (i : ℕ) (w : Bool) (new more : List ℕ) (d : Placed) (x : Option Value) → Rise T.accesses → i < length T.accesses → is_committed T.status ≡ true
    → (get_or T.accesses i d).access ≡ access.Read x → w ≡ false → IsFound T last old i w new → ((v : Value) → has more v ≡ (has new v || other x last v)) → IsFound T last old (i + 1) w more
found_free T last old i w new more d x r l c e t k h = record {
  wrote = or_false w ∙ ap (λ b. b || false) k.wrote ∙ ap (λ a. list_any (λ b. is_write_access b.access) (take i T.accesses) || is_write_access a) (sym e) ∙ sym (list_any_more (λ a. is_write_access a.access) T.accesses i d l);
  found = λ v.
      (let any = list_any (returns_freely T v) (take i T.accesses) in
      let n = not (option_eq same_value last (Some v)) in
      let here : returns_freely T v (get_or T.accesses i d) ≡ option_eq same_value x (Some v) =
      freely_at T v i d r l c ∙ ap (λ a. (is_read_access a && not (list_any (λ b. is_write_access b.access) (take i T.accesses))) && returns v a) e ∙ ap (λ b. not b && option_eq same_value x (Some v)) (sym k.wrote ∙ t) in
      h v ∙ ap (λ b. b || other x last v) (k.found v) ∙ both_or (has old v) any (option_eq same_value x (Some v)) n
      ∙ ap (λ b. has old v || ((any || b) && n)) (sym here) ∙ ap (λ b. has old v || (b && n)) (sym (list_any_more (returns_freely T v) T.accesses i d l)));
}
  where
    both_or : (a b c n : Bool) → ((a || (b && n)) || (c && n)) ≡ (a || ((b || c) && n))
    both_or true b c n = refl
    both_or false true c true = refl
    both_or false true c false = and_false c
    both_or false false c n = refl

pub found_none : (T : Part) (last : Option Value) (old : List ℕ) → IsFound T last old 0 false old
found_none T last old = record { wrote = refl; found = λ v. or_false (has old v) }

-- ---- all transactions

-- of a transaction that didn't commit no read is free
pub returns_nothing : (T : Part) (v : Value) → is_committed T.status ≡ false → returns_other v T ≡ false
returns_nothing T v e = ap (λ b. b && not (option_eq same_value (last_write T.accesses) (Some v)))
    (any_none (returns_freely T v) T.accesses (λ a c f. absurd (falsely a (is_committed T.status) e f)))
  where
    falsely : (a : Placed) (b : Bool) → b ≡ false → ((b && (is_read_access a.access && not (wrote_before T a.place))) && returns v a.access) ≡ true → ⊥
    falsely a true e f = cc
    falsely a false e f = cc

-- the next transaction, which committed and of which that was added, or which didn't
pub values_more : (parts : List Part) (i : ℕ) (T : Part) (old new : List ℕ) → i < length parts → T ≡ get_or parts i T → ((v : Value) → has old v ≡ list_any (returns_other v) (take i parts))
    → ((v : Value) → has new v ≡ (has old v || returns_other v T)) → (v : Value) → has new v ≡ list_any (returns_other v) (take (i + 1) parts)
values_more parts i T old new l e k h v = h v ∙ ap (λ b. b || returns_other v T) (k v) ∙ ap (λ U. list_any (returns_other v) (take i parts) || returns_other v U) e ∙ sym (list_any_more (returns_other v) parts i T l)

pub values_same : (T : Part) (old : List ℕ) → is_committed T.status ≡ false → (v : Value) → has old v ≡ (has old v || returns_other v T)
values_same T old e v = or_false (has old v) ∙ ap (λ b. has old v || b) (sym (returns_nothing T v e))
