-- Who writes what, after one pair of key and value has another writer.
use Rattle.std.proofs.Common.{◌≡◌, ℕ, ◌+◌, ◌<◌, ◌≤◌, Bool, true, false, ◌&&◌, ◌||◌, nat_eq, List, [], ◌∷◌, ◌++◌, length, length-append, length-set, slice_set, Option, Some, None, refl, sym, ap, subst, ◌∙◌, arith, cond, eq-eqb, eqb-true, true≢false}
use Rattle.std.specs.List.{list_any}
use Rattle.std.specs.Prelude.{Result, Ok, Err, OnErr, slice_index_or}
use Rattle.std.specs.Ordering.{eq_by_cmp, nat_cmp}
use Rattle.std.specs.Option.{option_and_then, option_map}
use Rattle.std.proofs.lemmas.Bool.Decides.{nat_tests}
use Rattle.si_model.specs.declared.numbers.TxnId.{TxnId}
use Rattle.si_model.specs.declared.numbers.Value.{Value}
use Rattle.si_model.specs.declared.operations.Op.{Op}
use Rattle.si_model.specs.declared.operations.Op.TheVariants as op
use Rattle.std.proofs.lemmas.List.Folds.{list_any-append}
use Rattle.std.proofs.lemmas.List.{get_or-set_other}
use Rattle.std.proofs.lemmas.Grind.{get_or-set_at}
use Rattle.si_sorted.specs.Entries.{Sets, value_at}
use Rattle.si_model.specs.Operations.{same_key, same_value, same_write}
use Rattle.si_model.proofs.Equalities.{same_key_is}
use Rattle.si_accept.specs.KeyNumbers.{number_of, with_key}
use Rattle.si_accept.specs.Writers.{Written, the_id, id_at, writer_of, AreNumbered, HasRoom, SetsWriter, SetsWriters, SameWriters, AreFree}
use Rattle.si_accept.proofs.KeyPlaces.{IsGrown, number_is_below, numbers_tell, unchanged}

-- what is written after the pairs changed at one place alone
pub record IsSetAt (n : ℕ) (v : Value) (u : Option TxnId) (old new : Written) : Type 0 where
  pub grown : IsGrown old.keys new.keys
  pub numbered : AreNumbered old
  pub placed : length new.keys ≤ length new.ids
  pub ids : (m : ℕ) (w : Value) → id_at new w m ≡ cond (nat_eq n m && nat_eq v.0 w.0) u (id_at old w m)

-- at a number that the key has now, the old pairs say what they said of the key
old_writer : (old : Written) (K : List (List ℕ)) (y : List ℕ) (m : ℕ) (w : Value) → IsGrown old.keys K → AreNumbered old → number_of K y ≡ Some m → id_at old w m ≡ writer_of old (op.Write y w)
old_writer old K y m w g f e = elim (number_of old.keys y) as (λ o. number_of old.keys y ≡ o → id_at old w m ≡ option_and_then (id_at old w) o) [
  | None ↦ λ h. f.fresh m w (g.fresh y m h e)
  | Some k ↦ λ h. ap (id_at old w) (same_place m k (sym e ∙ g.stays y k h))
] refl
  where
    same_place : (a b : ℕ) → Some a ≡ Some b → a ≡ b
    same_place a b s = cc

no_number : (old : Written) (K : List (List ℕ)) (y : List ℕ) → IsGrown old.keys K → number_of K y ≡ None → number_of old.keys y ≡ None
no_number old K y g e = elim (number_of old.keys y) as (λ o. number_of old.keys y ≡ o → o ≡ None) [
  | None ↦ λ h. refl
  | Some k ↦ λ h. (let s = g.stays y k h in cc)
] refl

other_key : (K : List (List ℕ)) (x y : List ℕ) (n : ℕ) → number_of K x ≡ Some n → number_of K y ≡ None → same_key y x ≡ false
other_key K x y n e h = elim (same_key y x) as (λ b. same_key y x ≡ b → b ≡ false) [
  | true ↦ λ t. (let s = ap (number_of K) (same_key_is y x t) in cc)
  | false ↦ λ t. refl
] refl

same_test : (n m v w : ℕ) (b : Bool) → nat_eq n m ≡ b → (nat_eq n m && nat_eq v w) ≡ (nat_eq w v && b)
same_test n m v w b e = grind (arith, nat_tests)

no_test : (b c : Bool) (u : Option TxnId) → c ≡ false → None ≡ cond (b && c) u None
no_test true c u e = rw e refl
no_test false c u e = refl

pub writer_set : (x : List ℕ) (v : Value) (n : ℕ) (u : Option TxnId) (old new : Written) → IsSetAt n v u old new → number_of new.keys x ≡ Some n → SetsWriter (op.Write x v) u old new
writer_set x v n u old new s e (op.Read y r) = refl
writer_set x v n u old new s e (op.Write y w) = elim (number_of new.keys y) as (λ o. number_of new.keys y ≡ o → option_and_then (id_at new w) o ≡ cond (same_value w v && same_key y x) u (writer_of old (op.Write y w))) [
  | None ↦ λ h. rw (no_number old new.keys y s.grown h) (no_test (same_value w v) (same_key y x) u (other_key new.keys x y n e h))
  | Some m ↦ λ h. s.ids m w
      ∙ ap (λ b. cond b u (id_at old w m)) (same_test n m v.0 w.0 (same_key y x) (numbers_tell new.keys x y n m e h))
      ∙ ap (λ o. cond (same_value w v && same_key y x) u o) (old_writer old new.keys y m w s.grown s.numbered h)
] refl

past_all : (n m v w : ℕ) → n < m → (nat_eq n m && nat_eq v w) ≡ false
past_all n m v w l = grind (arith, nat_tests)

pub numbered_set : (x : List ℕ) (v : Value) (n : ℕ) (u : Option TxnId) (old new : Written) → IsSetAt n v u old new → number_of new.keys x ≡ Some n → AreNumbered new
numbered_set x v n u old new s e = record {
  placed = s.placed;
  fresh = λ m w l.
      let below = number_is_below new.keys x n e in
      let longer = s.grown.longer in
      s.ids m w
      ∙ ap (λ b. cond b u (id_at old w m)) (past_all n m v.0 w.0 (omega arith))
      ∙ s.numbered.fresh m w (omega arith);
}

-- ---- the lists of the keys

abbrev Lists : Type 0
Lists = List (List (ℕ × ℕ))

-- what stands at a number after the list of one was replaced
replaced : (ids : Lists) (n m : ℕ) (es : List (ℕ × ℕ)) → n < length ids → slice_index_or (slice_set ids n es) m [] ≡ cond (nat_eq n m) es (slice_index_or ids m [])
replaced ids n m es below = by (nat_eq n m) refl
  where
    by : (b : Bool) → nat_eq n m ≡ b → slice_index_or (slice_set ids n es) m [] ≡ cond b es (slice_index_or ids m [])
    by true same = get_or-set_at ids n m es [] (sym (eqb-true n m same)) below
    by false other = get_or-set_other ids n m es [] (λ same. absurd (true≢false (sym (eq-eqb n m (sym same)) ∙ other)))

-- the list of one was put back
pub ids_kept : (K L : List (List ℕ)) (ids : Lists) (n : ℕ) (es : List (ℕ × ℕ)) → n < length ids → es ≡ slice_index_or ids n [] → (m : ℕ) (w : Value) → id_at (record { keys = L; ids = slice_set ids n es }) w m ≡ id_at (record { keys = K; ids = ids }) w m
ids_kept K L ids n es below is m w = ap (λ l. option_map the_id (value_at nat_cmp l w.0)) (replaced ids n m es below ∙ by (nat_eq n m) refl)
  where
    by : (b : Bool) → nat_eq n m ≡ b → cond b es (slice_index_or ids m []) ≡ slice_index_or ids m []
    by true same = is ∙ ap (λ k. slice_index_or ids k []) (eqb-true n m same)
    by false other = refl

pub one_longer : (K : List (List ℕ)) (x : List ℕ) → length (with_key K x) ≤ length K + 1
one_longer K x = elim (list_any (same_key x) K) as (λ b. length (cond b K (K ++ x ∷ [])) ≤ length K + 1) [
  | true ↦ omega arith
  | false ↦ omega (arith, length-append K (x ∷ []))
]

-- a key that has got a number has a place, where there was room for one key more
pub has_place : (K L : List (List ℕ)) (ids : Lists) (x : List ℕ) (n : ℕ) → L ≡ with_key K x → number_of L x ≡ Some n → length K < length ids → n < length ids
has_place K L ids x n grown number room =
    let within = number_is_below L x n number in
    let longer = one_longer K x in
    let now : length L ≡ length (with_key K x) = ap length grown in
    omega arith

pub still_placed : (K L : List (List ℕ)) (ids : Lists) (x : List ℕ) (n : ℕ) (es : List (ℕ × ℕ)) → L ≡ with_key K x → length K < length ids → length L ≤ length (slice_set ids n es)
still_placed K L ids x n es grown room =
    let longer = one_longer K x in
    let now : length L ≡ length (with_key K x) = ap length grown in
    let same = length-set ids n es in
    omega arith

pub on_err : {A E : Type 0} (r : Result A E) (P : Type 0) → P → OnErr r P
on_err (Ok a) P p = tt
on_err (Err e) P p = p

tie_is : (a b : ℕ) → eq_by_cmp nat_cmp a b ≡ nat_eq a b
tie_is a b = grind (arith, nat_tests)

some_of : (b : Bool) (u w : Option ℕ) → option_map the_id (cond b u w) ≡ cond b (option_map the_id u) (option_map the_id w)
some_of true u w = refl
some_of false u w = refl

-- the writer at a number, after the value of one has another in the list of its key
pub ids_set : (K L : List (List ℕ)) (ids : Lists) (n : ℕ) (v : Value) (u : Option ℕ) (es : List (ℕ × ℕ)) → n < length ids → Sets nat_cmp v.0 u (slice_index_or ids n []) es
    → (m : ℕ) (w : Value) → id_at (record { keys = L; ids = slice_set ids n es }) w m ≡ cond (nat_eq n m && nat_eq v.0 w.0) (option_map the_id u) (id_at (record { keys = K; ids = ids }) w m)
ids_set K L ids n v u es below sets m w = ap (λ l. option_map the_id (value_at nat_cmp l w.0)) (replaced ids n m es below) ∙ by (nat_eq n m) refl
  where
    by : (b : Bool) → nat_eq n m ≡ b → option_map the_id (value_at nat_cmp (cond b es (slice_index_or ids m [])) w.0) ≡ cond (b && nat_eq v.0 w.0) (option_map the_id u) (option_map the_id (value_at nat_cmp (slice_index_or ids m []) w.0))
    by true same = ap (option_map the_id) (sets w.0 ∙ ap (λ t. cond t u (value_at nat_cmp (slice_index_or ids n []) w.0)) (tie_is v.0 w.0))
        ∙ some_of (nat_eq v.0 w.0) u (value_at nat_cmp (slice_index_or ids n []) w.0)
        ∙ ap (λ k. cond (nat_eq v.0 w.0) (option_map the_id u) (option_map the_id (value_at nat_cmp (slice_index_or ids k []) w.0))) (eqb-true n m same)
    by false other = refl

-- what is written after the writer of one value went
pub taken_out : (K : List (List ℕ)) (ids : Lists) (x : List ℕ) (n : ℕ) (v : Value) (es : List (ℕ × ℕ)) → AreNumbered (record { keys = K; ids = ids }) → number_of K x ≡ Some n
    → Sets nat_cmp v.0 None (slice_index_or ids n []) es → IsSetAt n v None (record { keys = K; ids = ids }) (record { keys = K; ids = slice_set ids n es })
taken_out K ids x n v es numbered number sets =
    let within = number_is_below K x n number in
    let placed = numbered.placed in
    let below : n < length ids = omega arith in
    record {
      grown = unchanged K;
      numbered = numbered;
      placed = subst (λ k. length K ≤ k) (sym (length-set ids n es)) placed;
      ids = ids_set K K ids n v None es below sets;
    }

-- a key more, of which nothing is said yet, changes nothing
pub grown_same : (old new : Written) → IsGrown old.keys new.keys → AreNumbered old → ((m : ℕ) (w : Value) → id_at new w m ≡ id_at old w m) → SameWriters old new
grown_same old new g f same (op.Read y r) = refl
grown_same old new g f same (op.Write y w) = elim (number_of new.keys y) as (λ o. number_of new.keys y ≡ o → option_and_then (id_at new w) o ≡ writer_of old (op.Write y w)) [
  | None ↦ λ h. rw (no_number old new.keys y g h) refl
  | Some m ↦ λ h. same m w ∙ old_writer old new.keys y m w g f h
] refl

-- nor does a place for one
pub room_same : (old new : Written) → HasRoom old new → SameWriters old new
room_same old new r (op.Read y v) = refl
room_same old new r (op.Write y w) = ap (λ K. option_and_then (id_at new w) (number_of K y)) r.keys ∙ by (number_of old.keys y)
  where
    by : (o : Option ℕ) → option_and_then (id_at new w) o ≡ option_and_then (id_at old w) o
    by None = refl
    by (Some m) = r.same m w

pub sets_after : (p : Op) (u : Option TxnId) (old mid new : Written) → SameWriters old mid → SetsWriter p u mid new → SetsWriter p u old new
sets_after p u old mid new same sets q = sets q ∙ ap (λ o. cond (same_write q p) u o) (same q)

pub same_after : (old mid new : Written) → SameWriters old mid → SameWriters mid new → SameWriters old new
same_after old mid new first second q = second q ∙ first q

-- ---- several operations

undo_test : (a : Bool) (u w : Option TxnId) → (a ≡ true → w ≡ None) → cond a None (cond a u w) ≡ w
undo_test true u w f = sym (f refl)
undo_test false u w f = refl

-- what is set and then taken out again was never there
pub undone : (ps : List Op) (u : Option TxnId) (A B C D : Written) → AreFree ps A → SetsWriters ps u A B → SameWriters B C → SetsWriters ps None C D → SameWriters A D
undone ps u A B C D f h s t q =
    t q ∙ ap (λ w. cond (list_any (same_write q) ps) None w) (s q ∙ h q)
    ∙ undo_test (list_any (same_write q) ps) u (writer_of A q) (f q)

pub free_of_some : (ps rest : List Op) (A : Written) → AreFree (ps ++ rest) A → AreFree ps A
free_of_some ps rest A f q e = f q (list_any-append (same_write q) ps rest ∙ ap (λ b. b || list_any (same_write q) rest) e)
