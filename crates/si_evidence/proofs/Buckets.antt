-- Transactions put into buckets, one after the other.
use Rattle.std.proofs.Common.{◌≡◌, ◌⊎◌, inl, inr, ℕ, zero, suc, ◌+◌, ◌<◌, Bool, true, false, List, [], ◌∷◌, ◌++◌, length, take, Option, Some, None, refl, sym, ap, subst, ◌∙◌, arith, slice_get, length-append}
use Rattle.std.specs.Prelude.{slice_index_or, slice_set}
use Rattle.std.specs.List.{Contains}
use Rattle.std.proofs.lemmas.Bool.{cases_order}
use Rattle.std.proofs.lemmas.List.{length-set, get_or-set_same, get_or-set_other}
use Rattle.std.proofs.lemmas.List.Elements.{Contains-append_left, Contains-append_right, Contains-append_cases}
use Rattle.si_model.specs.declared.numbers.Value.{Value}
use Rattle.si_model.specs.declared.operations.Op.{Op}
use Rattle.si_model.specs.declared.operations.Op.TheVariants as op
use Rattle.si_model.specs.declared.transactions.Txn.{Txn}
use Rattle.si_model.specs.KeyTexts.{shard_number}
use Rattle.si_lists.proofs.Members.{same_some, here, Contains-nil, Contains-one, get_contains}
use Rattle.si_graph.specs.Writers.{HaveWriters}
use Rattle.si_evidence.specs.Writers.{AreBuckets, AreEmpty, Puts, bucket_of}

-- ---- lists

pub take_next : {X : Type 0} (xs : List X) (i : ℕ) (x : X) → slice_get xs i ≡ Some x → take (suc i) xs ≡ take i xs ++ x ∷ []
take_next [] i x e = cc
take_next (y ∷ ys) zero x e = ap (λ z. z ∷ []) (same_some e)
take_next (y ∷ ys) (suc i) x e = ap (λ l. y ∷ l) (take_next ys i x e)

-- ---- one bucket grows

-- T is put into the bucket of the key at that place
pub puts_one : (T : Txn) (x : List ℕ) (w : Value) (old : List (List Txn)) (n : ℕ) (B : List Txn) → n ≡ shard_number x (length old) → n < length old → B ≡ slice_index_or old n [] ++ T ∷ []
    → Puts T (op.Write x w ∷ []) old (slice_set old n B)
puts_one T x w old n B number within grown = record {
  many = many;
  kept = λ y U at. kept y U at (cases_order (shard_number y (length old)) n);
  only = λ y U at. only y U at (cases_order (shard_number y (length old)) n);
  there = λ y v at. there y v (Contains-one (op.Write x w) (op.Write y v) at);
}
  where
    many : length (slice_set old n B) ≡ length old
    many = length-set old n B

    same_bucket : (y : List ℕ) → shard_number y (length old) ≡ n → bucket_of y (slice_set old n B) ≡ slice_index_or old n [] ++ T ∷ []
    same_bucket y e = ap (λ k. slice_index_or (slice_set old n B) (shard_number y k) []) many ∙ ap (λ k. slice_index_or (slice_set old n B) k []) e ∙ get_or-set_same old n B [] within ∙ grown

    other_bucket : (y : List ℕ) → (shard_number y (length old) ≡ n → ⊥) → bucket_of y (slice_set old n B) ≡ bucket_of y old
    other_bucket y apart = ap (λ k. slice_index_or (slice_set old n B) (shard_number y k) []) many ∙ get_or-set_other old n (shard_number y (length old)) B [] apart

    kept : (y : List ℕ) (U : Txn) → Contains (bucket_of y old) U → (shard_number y (length old) ≡ n) ⊎ ((shard_number y (length old) < n) ⊎ (n < shard_number y (length old))) → Contains (bucket_of y (slice_set old n B)) U
    kept y U at (inl e) =
        subst (λ l. Contains l U) (sym (same_bucket y e)) (Contains-append_left (slice_index_or old n []) (T ∷ []) U (subst (λ k. Contains (slice_index_or old k []) U) e at))
    kept y U at (inr apart) = subst (λ l. Contains l U) (sym (other_bucket y (λ e. elim apart [ inl lt ↦ omega (arith, e, lt) | inr gt ↦ omega (arith, e, gt) ]))) at

    only : (y : List ℕ) (U : Txn) → Contains (bucket_of y (slice_set old n B)) U → (shard_number y (length old) ≡ n) ⊎ ((shard_number y (length old) < n) ⊎ (n < shard_number y (length old))) → Contains (bucket_of y old) U ⊎ (T ≡ U)
    only y U at (inl e) = elim (Contains-append_cases (slice_index_or old n []) (T ∷ []) U (subst (λ l. Contains l U) (same_bucket y e) at)) [
      | inl was ↦ inl (subst (λ k. Contains (slice_index_or old k []) U) (sym e) was)
      | inr new ↦ inr (Contains-one T U new)
    ]
    only y U at (inr apart) = inl (subst (λ l. Contains l U) (other_bucket y (λ e. elim apart [ inl lt ↦ omega (arith, e, lt) | inr gt ↦ omega (arith, e, gt) ])) at)

    there : (y : List ℕ) (v : Value) → op.Write x w ≡ op.Write y v → Contains (bucket_of y (slice_set old n B)) T
    there y v e =
        let same : x ≡ y = cc in
        subst (λ l. Contains l T) (sym (same_bucket y (ap (λ z. shard_number z (length old)) (sym same) ∙ sym number))) (Contains-append_right (slice_index_or old n []) (T ∷ []) T (here T []))

-- a read puts nothing
pub puts_read : (T : Txn) (x : List ℕ) (v : Option Value) (old : List (List Txn)) → Puts T (op.Read x v ∷ []) old old
puts_read T x v old = record {
  many = refl;
  kept = λ y U at. at;
  only = λ y U at. inl at;
  there = λ y w at. (let e = Contains-one (op.Read x v) (op.Write y w) at in absurd cc);
}

-- ---- operation by operation

pub puts_none : (T : Txn) (old : List (List Txn)) → Puts T [] old old
puts_none T old = record { many = refl; kept = λ y U at. at; only = λ y U at. inl at; there = λ y w at. absurd (Contains-nil (op.Write y w) at) }

pub puts_next : (T : Txn) (ps : List Op) (i : ℕ) (p : Op) (old mid new : List (List Txn)) → slice_get ps i ≡ Some p → Puts T (take i ps) old mid → Puts T (p ∷ []) mid new → Puts T (take (suc i) ps) old new
puts_next T ps i p old mid new at one other = record {
  many = other.many ∙ one.many;
  kept = λ y U was. other.kept y U (one.kept y U was);
  only = λ y U is. elim (other.only y U is) [ inl was ↦ one.only y U was | inr e ↦ inr e ];
  there = λ y w c. elim (Contains-append_cases (take i ps) (p ∷ []) (op.Write y w) (subst (λ l. Contains l (op.Write y w)) (take_next ps i p at) c)) [
    | inl before ↦ other.kept y T (one.there y w before)
    | inr now ↦ other.there y w now
  ];
}

-- ---- transaction by transaction

pub empty_buckets : (buckets : List (List Txn)) → AreEmpty buckets → AreBuckets [] buckets
empty_buckets buckets empty x = record { within = λ T at. absurd (empty x T at); writers = λ T i w at. absurd (Contains-nil T at) }

pub buckets_next : (txns : List Txn) (i : ℕ) (T : Txn) (old new : List (List Txn)) → slice_get txns i ≡ Some T → AreBuckets (take i txns) old → Puts T T.ops old new → AreBuckets (take (suc i) txns) new
buckets_next txns i T old new at have puts x = subst (λ l. HaveWriters x l (bucket_of x new)) (sym (take_next txns i T at)) (record {
  within = λ U c. elim (puts.only x U c) [
    | inl was ↦ Contains-append_left (take i txns) (T ∷ []) U ((have x).within U was)
    | inr e ↦ Contains-append_right (take i txns) (T ∷ []) U (subst (Contains (T ∷ [])) e (here T []))
  ];
  writers = λ U j w c writes. elim (Contains-append_cases (take i txns) (T ∷ []) U c) [
    | inl before ↦ puts.kept x U ((have x).writers U j w before writes)
    | inr now ↦ (
        let same = Contains-one T U now in
        subst (Contains (bucket_of x new)) same (puts.there x w (get_contains T.ops j (op.Write x w) (subst (λ (V : Txn). slice_get V.ops j ≡ Some (op.Write x w)) (sym same) writes)))
        )
  ];
})

-- ---- the same of a write that was put

pub puts_write : (T : Txn) (x : List ℕ) (w : Value) (old new : List (List Txn)) → shard_number x (length old) < length old → new ≡ slice_set old (shard_number x (length old)) (bucket_of x old ++ T ∷ []) → Puts T (op.Write x w ∷ []) old new
puts_write T x w old new within is =
    subst (Puts T (op.Write x w ∷ []) old) (sym is) (puts_one T x w old (shard_number x (length old)) (bucket_of x old ++ T ∷ []) refl within refl)

-- ---- one more empty bucket

no_more : {X : Type 0} (xs : List X) (i : ℕ) (x d : X) → (slice_index_or (xs ++ x ∷ []) i d ≡ slice_index_or xs i d) ⊎ (slice_index_or (xs ++ x ∷ []) i d ≡ x)
no_more [] zero x d = inr refl
no_more [] (suc i) x d = inl refl
no_more (y ∷ ys) zero x d = inl refl
no_more (y ∷ ys) (suc i) x d = no_more ys i x d

-- each place is empty, also past the last one
pub all_empty : (buckets : List (List Txn)) → ((i : ℕ) (T : Txn) → Contains (slice_index_or buckets i []) T → ⊥) → (i : ℕ) (T : Txn) → Contains (slice_index_or (buckets ++ [] ∷ []) i []) T → ⊥
all_empty buckets none i T at = elim (no_more buckets i [] []) [
  | inl same ↦ none i T (subst (λ l. Contains l T) same at)
  | inr new ↦ Contains-nil T (subst (λ l. Contains l T) new at)
]

-- ---- what a loop reads

pub at_place : {X : Type 0} (xs : List X) (i : ℕ) (x : X) → i < length xs → x ≡ slice_index_or xs i x → slice_get xs i ≡ Some x
at_place [] i x within is = absurd (omega (arith, within))
at_place (y ∷ ys) zero x within is = ap Some (sym is)
at_place (y ∷ ys) (suc i) x within is = at_place ys i x (omega (arith, within)) is

pub puts_item : (T : Txn) (ps qs : List Op) (i : ℕ) (p : Op) (old mid new : List (List Txn)) → qs ≡ ps → i < length qs → p ≡ slice_index_or qs i p → Puts T (take i ps) old mid → Puts T (p ∷ []) mid new → Puts T (take (i + 1) ps) old new
puts_item T ps qs i p old mid new same within is one other =
    let at : slice_get ps i ≡ Some p = subst (λ l. slice_get l i ≡ Some p) same (at_place qs i p within is) in
    let next : suc i ≡ i + 1 = omega arith in
    subst (λ k. Puts T (take k ps) old new) next (puts_next T ps i p old mid new at one other)

pub buckets_item : (txns : List Txn) (i : ℕ) (T : Txn) (old new : List (List Txn)) → i < length txns → T ≡ slice_index_or txns i T → AreBuckets (take i txns) old → Puts T T.ops old new → AreBuckets (take (i + 1) txns) new
buckets_item txns i T old new within is have puts =
    let next : suc i ≡ i + 1 = omega arith in
    subst (λ k. AreBuckets (take k txns) new) next (buckets_next txns i T old new (at_place txns i T within is) have puts)

pub some_more : (old new : List (List Txn)) (B : List Txn) → B ≡ [] → new ≡ old ++ B ∷ [] → (0 < length old) × ((i : ℕ) (T : Txn) → Contains (slice_index_or old i []) T → ⊥)
    → (0 < length new) × ((i : ℕ) (T : Txn) → Contains (slice_index_or new i []) T → ⊥)
some_more old new B empty is none =
    let grown : new ≡ old ++ [] ∷ [] = is ∙ ap (λ b. old ++ b ∷ []) empty in
    let long : length new ≡ length old + 1 = ap (λ l. length l) grown ∙ length-append old ([] ∷ []) in
    let most = none.0 in (
      omega (arith, long, most),
      λ i T at. all_empty old none.1 i T (subst (λ l. Contains (slice_index_or l i []) T) grown at),
    )
