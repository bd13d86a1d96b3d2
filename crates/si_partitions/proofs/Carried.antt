-- What is carried over a horizon of a partition is a partition of what is carried over.
use Rattle.std.proofs.Common.{◌≡◌, ℕ, ◌+◌, Bool, true, false, nat_lt, List, [], ◌∷◌, map, Option, Some, None, refl, sym, ap, ◌∙◌, cond, fold}
use Rattle.std.specs.List.{filter, filter_map, cons_option, enumerate_from}
use Rattle.std.specs.Option.{option_or, option_map}
use Rattle.si_lists.proofs.Tests.{none_both}
use Rattle.si_model.specs.declared.numbers.Stamp.{Stamp}
use Rattle.si_model.specs.declared.numbers.Value.{Value}
use Rattle.si_model.specs.declared.operations.Op.{Op}
use Rattle.si_model.specs.declared.parts.Placed.{Placed}
use Rattle.si_model.specs.declared.transactions.Status.{Status}
use Rattle.si_model.specs.declared.transactions.Status.TheVariants as status
use Rattle.si_model.specs.declared.transactions.Txn.{Txn}
use Rattle.si_model.specs.Horizons.{carried, commits_below, initial_after, installed, last_installed, later_one, rest, rest_by, value_after, writes_alone}
use Rattle.si_model.specs.Operations.{access_of, is_write, key_of, same_key}
use Rattle.si_model.specs.Parts.{Present, accesses, placed_at, set_up_value}
use Rattle.si_model.specs.Versions.{commit_of, last_write, written}
use Rattle.si_model.proofs.Carrying.{carried_keys, initial_exact}
use Rattle.si_model.proofs.Equalities.{same_key_is}
use Rattle.si_model.proofs.Histories.{set_up_from, set_up_is}
use Rattle.si_model.proofs.ReadChanges.{same_option}
use Rattle.si_partitions.specs.declared.partitions.Partition.{Partition}
use Rattle.si_partitions.specs.Laws.{HorizonsKeepPartitions}
use Rattle.si_partitions.specs.Partitions.{has_key, has_op, projected, IsPartition}
use Rattle.si_partitions.proofs.Projected.{all_filtered}

-- ---- transactions

-- two tests in one order or in the other
filters : {X : Type 0} (q r : X → Bool) (xs : List X) → filter q (filter r xs) ≡ filter r (filter q xs)
filters q r [] = refl
filters q r (x ∷ xs) = by (q x) refl (r x) refl (filters q r xs)
  where
    by : (b : Bool) → q x ≡ b → (c : Bool) → r x ≡ c → filter q (filter r xs) ≡ filter r (filter q xs)
        → filter q (cond c (x ∷ filter r xs) (filter r xs)) ≡ filter r (cond b (x ∷ filter q xs) (filter q xs))
    by true s true t e = ap (λ d. cond d (x ∷ filter q (filter r xs)) (filter q (filter r xs))) s ∙ ap (λ ys. x ∷ ys) e ∙ sym (ap (λ d. cond d (x ∷ filter r (filter q xs)) (filter r (filter q xs))) t)
    by true s false t e = e ∙ sym (ap (λ d. cond d (x ∷ filter r (filter q xs)) (filter r (filter q xs))) t)
    by false s true t e = ap (λ d. cond d (x ∷ filter q (filter r xs)) (filter q (filter r xs))) s ∙ e
    by false s false t e = e

module _ (p : Partition) (H : Stamp) where
  rest_kept : (T : Txn) → rest H (projected p T) ≡ option_map (projected p) (rest H T)
  rest_kept T = by T.status
    where
      alone : writes_alone (projected p T) ≡ projected p (writes_alone T)
      alone = ap (λ ops. record T { ops = ops }) (filters is_write (has_op p) T.ops)

      by : (s : Status) → rest_by H (projected p T) s ≡ option_map (projected p) (rest_by H T s)
      by (status.Committed c) = tested (nat_lt c.0 H.0) (nat_lt T.start.0 H.0)
        where
          tested : (b d : Bool) → cond b None (Some (cond d (writes_alone (projected p T)) (projected p T))) ≡ option_map (projected p) (cond b None (Some (cond d (writes_alone T) T)))
          tested true d = refl
          tested false true = ap Some alone
          tested false false = refl
      by status.Aborted = tested (nat_lt T.start.0 H.0)
        where
          tested : (b : Bool) → cond b None (Some (projected p T)) ≡ option_map (projected p) (cond b None (Some T))
          tested true = refl
          tested false = refl
      by status.InDoubt = refl

  all_rests : (txns : List Txn) → filter_map (rest H) (map (projected p) txns) ≡ map (projected p) (filter_map (rest H) txns)
  all_rests [] = refl
  all_rests (T ∷ txns) = by (rest H T) (rest_kept T) (all_rests txns)
    where
      by : (o : Option Txn) → rest H (projected p T) ≡ option_map (projected p) o → filter_map (rest H) (map (projected p) txns) ≡ map (projected p) (filter_map (rest H) txns)
          → cons_option (rest H (projected p T)) (filter_map (rest H) (map (projected p) txns)) ≡ map (projected p) (cons_option o (filter_map (rest H) txns))
      by None s e = ap (λ o. cons_option o (filter_map (rest H) (map (projected p) txns))) s ∙ e
      by (Some U) s e = ap (λ o. cons_option o (filter_map (rest H) (map (projected p) txns))) s ∙ ap (λ ys. projected p U ∷ ys) e

-- ---- the last write of a key

-- the last value that is written, behind one that was
abbrev last_from : Option Value → List Placed → Option Value
last_from = fold (λ last a. option_or (written a.access) last)

-- the accesses of a key, the first operation having that place
abbrev placed_from : List ℕ → ℕ → List Op → List Placed
placed_from x n ops = filter_map (placed_at x) (enumerate_from n ops)

-- an operation on the key, or on another one
last_with : (x : List ℕ) (n : ℕ) (o : Op) (last : Option Value) (more : List Placed) (b : Bool) → same_key (key_of o) x ≡ b
    → last_from last (cons_option (placed_at x (n, o)) more) ≡ last_from (cond b (option_or (written (access_of o)) last) last) more
last_with x n o last more true s = ap (λ b. last_from last (cons_option (cond b (Some (record { place = n; access = access_of o })) None) more)) s
last_with x n o last more false s = ap (λ b. last_from last (cons_option (cond b (Some (record { place = n; access = access_of o })) None) more)) s

module _ (p : Partition) (x : List ℕ) where
  -- an operation on a key that the partition has is one that it has
  passes : has_key p x ≡ true → (o : Op) → same_key (key_of o) x ≡ true → has_op p o ≡ true
  passes has o s = ap (has_key p) (same_key_is (key_of o) x s) ∙ has

  misses : has_key p x ≡ false → (o : Op) → has_op p o ≡ true → (b : Bool) → same_key (key_of o) x ≡ b → b ≡ false
  misses has o t true s = let wrong : true ≡ false = sym t ∙ ap (has_key p) (same_key_is (key_of o) x s) ∙ has in cc
  misses has o t false s = refl

  same_last : has_key p x ≡ true → (n m : ℕ) (last : Option Value) (ops : List Op) → last_from last (placed_from x n (filter (has_op p) ops)) ≡ last_from last (placed_from x m ops)
  same_last has n m last [] = refl
  same_last has n m last (o ∷ ops) = by (has_op p o) refl (same_key (key_of o) x) refl (λ k l before. same_last has k l before ops)
    where
      by : (b : Bool) → has_op p o ≡ b → (c : Bool) → same_key (key_of o) x ≡ c
          → ((k l : ℕ) (before : Option Value) → last_from before (placed_from x k (filter (has_op p) ops)) ≡ last_from before (placed_from x l ops))
          → last_from last (placed_from x n (cond b (o ∷ filter (has_op p) ops) (filter (has_op p) ops))) ≡ last_from last (placed_from x m (o ∷ ops))
      by true t c s more =
          last_with x n o last (placed_from x (n + 1) (filter (has_op p) ops)) c s
          ∙ more (n + 1) (m + 1) (cond c (option_or (written (access_of o)) last) last)
          ∙ sym (last_with x m o last (placed_from x (m + 1) ops) c s)
      by false t true s more = let wrong : true ≡ false = sym (passes has o s) ∙ t in cc
      by false t false s more = more n (m + 1) last ∙ sym (last_with x m o last (placed_from x (m + 1) ops) false s)

  no_last : has_key p x ≡ false → (n : ℕ) (last : Option Value) (ops : List Op) → last_from last (placed_from x n (filter (has_op p) ops)) ≡ last
  no_last has n last [] = refl
  no_last has n last (o ∷ ops) = by (has_op p o) refl (λ k before. no_last has k before ops)
    where
      by : (b : Bool) → has_op p o ≡ b
          → ((k : ℕ) (before : Option Value) → last_from before (placed_from x k (filter (has_op p) ops)) ≡ before)
          → last_from last (placed_from x n (cond b (o ∷ filter (has_op p) ops) (filter (has_op p) ops))) ≡ last
      by true t more =
          last_with x n o last (placed_from x (n + 1) (filter (has_op p) ops)) false (let c = misses has o t (same_key (key_of o) x) refl in c)
          ∙ more (n + 1) last
      by false t more = more n last

  same_installed : has_key p x ≡ true → (txns : List Txn) → last_installed x (map (projected p) txns) ≡ last_installed x txns
  same_installed has [] = refl
  same_installed has (T ∷ txns) =
      ap (λ v. later_one (installed (commit_of T.status) v) (last_installed x (map (projected p) txns))) (same_last has 0 0 None T.ops)
      ∙ ap (later_one (installed (commit_of T.status) (last_write (accesses x T.ops)))) (same_installed has txns)

  none_installed : has_key p x ≡ false → (txns : List Txn) → last_installed x (map (projected p) txns) ≡ None
  none_installed has [] = refl
  none_installed has (T ∷ txns) =
      ap (λ v. later_one (installed (commit_of T.status) v) (last_installed x (map (projected p) txns))) (no_last has 0 None T.ops)
      ∙ by (commit_of T.status) ∙ none_installed has txns
    where
      by : (c : Option Stamp) → later_one (installed c None) (last_installed x (map (projected p) txns)) ≡ last_installed x (map (projected p) txns)
      by None = refl
      by (Some c) = refl

-- ---- what keys are set up with

set_up_over : (P : Present) (H : Stamp) (x : List ℕ) → set_up_value x (carried H P).initial ≡ value_after (filter (commits_below H) P.txns) P.initial x
unfolding carried
set_up_over P H x = same_option (set_up_value x (initial_after (filter (commits_below H) P.txns) P.initial)) (value_after (filter (commits_below H) P.txns) P.initial x)
    (λ v e. (initial_exact (filter (commits_below H) P.txns) P.initial x v).0 (set_up_is x (initial_after (filter (commits_below H) P.txns) P.initial) v e))
    (λ v e. set_up_from x (initial_after (filter (commits_below H) P.txns) P.initial) v (carried_keys P H) ((initial_exact (filter (commits_below H) P.txns) P.initial x v).1 e))

module _ (p : Partition) (P Q : Present) (H : Stamp) (is : IsPartition p P Q) where
  abbrev old : List Txn
  old = filter (commits_below H) P.txns

  old_is : filter (commits_below H) Q.txns ≡ map (projected p) old
  old_is = ap (filter (commits_below H)) is.txns ∙ all_filtered p (commits_below H) (λ T. refl) P.txns

  txns_over : (carried H Q).txns ≡ map (projected p) (carried H P).txns
  unfolding carried
  txns_over = ap (filter_map (rest H)) is.txns ∙ all_rests p H P.txns

  own_value_after : (x : List ℕ) → has_key p x ≡ true → value_after (filter (commits_below H) Q.txns) Q.initial x ≡ value_after old P.initial x
  own_value_after x has =
      ap (λ txns. value_after txns Q.initial x) old_is
      ∙ ap (λ n. option_or (option_map (λ (m : Stamp × Value). m.1) n) (set_up_value x Q.initial)) (same_installed p x has old)
      ∙ ap (option_or (option_map (λ (m : Stamp × Value). m.1) (last_installed x old))) (is.own x has)

  no_value_after : (x : List ℕ) → value_after old P.initial x ≡ None → value_after (filter (commits_below H) Q.txns) Q.initial x ≡ None
  no_value_after x none = by (has_key p x) refl
    where
      by : (b : Bool) → has_key p x ≡ b → value_after (filter (commits_below H) Q.txns) Q.initial x ≡ None
      by true has = own_value_after x has ∙ none
      by false has =
          let both = none_both (option_map (λ (m : Stamp × Value). m.1) (last_installed x old)) (set_up_value x P.initial) none in
          ap (λ txns. value_after txns Q.initial x) old_is
          ∙ ap (λ n. option_or (option_map (λ (m : Stamp × Value). m.1) n) (set_up_value x Q.initial)) (none_installed p x has old)
          ∙ is.others x both.1

  over : IsPartition p (carried H P) (carried H Q)
  over = record {
    txns = txns_over;
    own = λ x has. set_up_over Q H x ∙ own_value_after x has ∙ sym (set_up_over P H x);
    others = λ x none. set_up_over Q H x ∙ no_value_after x (sym (set_up_over P H x) ∙ none);
  }

pub horizons_keep : HorizonsKeepPartitions
horizons_keep p P Q H h g is = over p P Q H is
