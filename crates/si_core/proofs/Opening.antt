-- The machine before any step.
use Rattle.std.proofs.Common.{◌≡◌, ◌∙◌, ◌⊎◌, inl, inr, ℕ, zero, suc, ◌+◌, ◌≤◌, false, List, [], ◌∷◌, ◌++◌, Some, length, map, replicate, slice_get, refl, sym, ap, subst, arith}
use Rattle.std.proofs.lemmas.List.{length-append}
use Rattle.si_lists.proofs.Members.{same_some}
use Rattle.si_model.specs.declared.edits.Edit.{Edit}
use Rattle.si_accept.specs.Books.{BookState}
use Rattle.si_shard.specs.JournalShards.{Follows, JournalState, state_of}
use Rattle.si_shard.specs.Laws.{shard_id}
use Rattle.si_shard.specs.declared.journal_shards.JournalShard.{JournalShard}
use Rattle.si_shard.specs.declared.shards.TheConstants.{MOST_SHARDS}
use Rattle.si_core.specs.Machine.{Machine, Progress, opened}
use Rattle.si_core.specs.Worlds.{IsWorld, machine_of, progress_in, progress_of}

-- the shard k of n, which has applied nothing
pub record IsFresh (n k : ℕ) (s : JournalShard) : Type 0 where
  pub state : state_of s ≡ record { id = shard_id k n; position = 0; spoiled = false }
  pub follows : (J : List Edit) → Follows J s

-- the first k of n
pub record AreFresh (n k : ℕ) (shards : List JournalShard) : Type 0 where
  pub many : length shards ≡ k
  pub each : (i : ℕ) (s : JournalShard) → slice_get shards i ≡ Some s → IsFresh n i s

pub none_fresh : (n : ℕ) (shards : List JournalShard) → shards ≡ [] → AreFresh n 0 shards
none_fresh n shards none = subst (AreFresh n 0) (sym none) (record { many = refl; each = λ i s e. cc })

last_or_before : {X : Type 0} (xs : List X) (x y : X) (i : ℕ) → slice_get (xs ++ x ∷ []) i ≡ Some y → (slice_get xs i ≡ Some y) ⊎ ((i ≡ length xs) × (x ≡ y))
last_or_before [] x y zero e = inr (refl, same_some e)
last_or_before [] x y (suc i) e = cc
last_or_before (z ∷ xs) x y zero e = inl e
last_or_before (z ∷ xs) x y (suc i) e = elim (last_or_before xs x y i e) [ inl b ↦ inl b | inr b ↦ inr (ap suc b.0, b.1) ]

pub one_more_fresh : (n k : ℕ) (shards : List JournalShard) (s : JournalShard) → AreFresh n k shards → IsFresh n k s → AreFresh n (k + 1) (shards ++ s ∷ [])
one_more_fresh n k shards s are is = record {
  many = omega (arith, length-append shards (s ∷ []), are.many);
  each = λ i t e. elim (last_or_before shards s t i e) [
    | inl b ↦ are.each i t b
    | inr b ↦ subst (IsFresh n i) b.1 (subst (λ j. IsFresh n j s) (sym (b.0 ∙ are.many)) is)
  ];
}

abbrev start : Progress
start = record { position = 0; spoiled = false }

all_start : (shards : List JournalShard) → ((i : ℕ) (s : JournalShard) → slice_get shards i ≡ Some s → progress_of s ≡ start) → map progress_of shards ≡ replicate (length shards) start
all_start [] each = refl
all_start (s ∷ shards) each = ap (λ p. p ∷ map progress_of shards) (each 0 s refl) ∙ ap (λ l. start ∷ l) (all_start shards (λ i t e. each (suc i) t e))

module _ (n limit : ℕ) (shards : List JournalShard) (are : AreFresh n n shards) (book : BookState) where
  pub opens : book ≡ record { limit = limit; journal = []; noted = 0 } → machine_of book shards ≡ opened n limit
  opens is =
      let all = all_start shards (λ i s e. ap progress_in (are.each i s e).state) ∙ ap (λ m. replicate m start) are.many in
      ap (λ (b : BookState). machine_of b shards) is ∙ ap (λ l. let m : Machine = record { limit = limit; journal = []; shards = l } in m) all

  pub opened_world : 1 ≤ n → n ≤ MOST_SHARDS → IsWorld book shards
  opened_world some most = record {
    some = subst (λ m. 1 ≤ m) (sym are.many) some;
    most = subst (λ m. m ≤ MOST_SHARDS) (sym are.many) most;
    each = λ k s at. (let is = are.each k s at in record {
      number = ap (λ (x : JournalState). x.id.shard) is.state;
      count = ap (λ (x : JournalState). x.id.shards) is.state ∙ sym are.many;
      follows = is.follows book.journal;
    });
  }
