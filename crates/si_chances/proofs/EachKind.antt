-- The places of each kind on a key are what is counted.
use Rattle.std.proofs.Common.{◌≡◌, ℕ, ◌+◌, ◌<◌, Bool, true, false, not, ◌&&◌, ◌||◌, cond, List, map, Option, None, Some, ap, refl, sym, ◌∙◌, length, get_or, take, nat_lt, nat_eq}
use Rattle.std.specs.List.{Contains, filter, count_by, sum_by, list_any}
use Rattle.std.specs.Option.{option_eq}
use Rattle.std.proofs.lemmas.List.{length-map}
use Rattle.std.proofs.lemmas.List.Concat.{length-flat_map}
use Rattle.std.proofs.lemmas.List.Folds.{list_any_more}
use Rattle.std.proofs.lemmas.List.Sums.{length-filter}
use Rattle.si_model.specs.declared.numbers.Stamp.{Stamp}
use Rattle.si_model.specs.declared.numbers.Value.{Value}
use Rattle.si_model.specs.declared.parts.Placed.{Placed}
use Rattle.si_model.specs.declared.parts.Part.{Part}
use Rattle.si_model.specs.declared.parts.OnKey.{OnKey}
use Rattle.si_model.specs.Operations.{same_value}
use Rattle.si_model.specs.Versions.{last_write}
use Rattle.si_model.specs.History.{IsOfHistory}
use Rattle.si_model.specs.Edits.{same_id}
use Rattle.si_model.specs.Chances.{commits_after, is_aborted, is_committed, is_free_read, is_write_access, writes_key, writes_twice, reads_after, runs_beside, reads_where, writers_where, returns_free, is_returned, is_own_place, is_aborted_place, is_future_place, is_intermediate_place, is_stale_place, is_overlap_place, own_on, aborted_on, future_on, intermediate_on, stale_on, overlap_on}
use Rattle.si_model.proofs.Equalities.{same_id_is, same_id_from, value_is}
use Rattle.si_model.proofs.LastWrites.{last_written}
use Rattle.si_lists.proofs.Names.{same_named}
use Rattle.si_chances.specs.Summaries.{own_reads, free_reads, write_count}
use Rattle.si_chances.specs.Values.{returns_freely, returns_other}
use Rattle.si_chances.specs.OnKeys.{on, places_on, aborted_before, reads_beside, is_in, installed_in}
use Rattle.si_chances.specs.declared.on_keys.Places.{Places}
use Rattle.si_chances.proofs.Walking.{any_counted}
use Rattle.si_chances.proofs.Sums.{sums_agree, counts_agree, anys_agree, count_under}

-- ---- the last commit of those that pass a test

-- it is the last one of the first i parts
abbrev pub IsLast : (Part → Bool) → List Part → ℕ → ℕ → Type 0
IsLast q parts i last = (s : Stamp) → list_any (λ T. commits_after s T.status && q T) (take i parts) ≡ nat_lt s.0 last

pub last_taken : (q : Part → Bool) (parts : List Part) (i : ℕ) (T : Part) (old new : ℕ) → i < length parts → T ≡ get_or parts i T → IsLast q parts i old → q T ≡ true
    → ((s : Stamp) → nat_lt s.0 new ≡ (nat_lt s.0 old || commits_after s T.status)) → IsLast q parts (i + 1) new
last_taken q parts i T old new l e k t h s =
    list_any_more (λ U. commits_after s U.status && q U) parts i T l ∙ ap (λ b. b || (commits_after s (get_or parts i T).status && q (get_or parts i T))) (k s)
    ∙ ap (λ U. nat_lt s.0 old || (commits_after s U.status && q U)) (sym e) ∙ ap (λ b. nat_lt s.0 old || (commits_after s T.status && b)) t
    ∙ ap (λ b. nat_lt s.0 old || b) (and_true (commits_after s T.status)) ∙ sym (h s)
  where
    and_true : (b : Bool) → (b && true) ≡ b
    and_true true = refl
    and_true false = refl

pub last_left : (q : Part → Bool) (parts : List Part) (i : ℕ) (T : Part) (old : ℕ) → i < length parts → T ≡ get_or parts i T → IsLast q parts i old → q T ≡ false → IsLast q parts (i + 1) old
last_left q parts i T old l e k t s =
    list_any_more (λ U. commits_after s U.status && q U) parts i T l ∙ ap (λ b. b || (commits_after s (get_or parts i T).status && q (get_or parts i T))) (k s)
    ∙ ap (λ U. nat_lt s.0 old || (commits_after s U.status && q U)) (sym e) ∙ ap (λ b. nat_lt s.0 old || (commits_after s T.status && b)) t
    ∙ none (nat_lt s.0 old) (commits_after s T.status)
  where
    none : (a b : Bool) → (a || (b && false)) ≡ a
    none true b = refl
    none false true = refl
    none false false = refl

-- ---- reads that are places

pub reads_count : (test : OnKey → Part → Placed → Bool) (Q : OnKey) → length (reads_where test Q) ≡ sum_by (λ T. count_by (test Q T) T.accesses) Q.parts
reads_count test Q =
    length-flat_map (λ T. map (λ a. (T.id, a.place)) (filter (test Q T) T.accesses)) Q.parts
    ∙ sums_agree (λ T. length (map (λ a. (T.id, a.place)) (filter (test Q T) T.accesses))) (λ T. count_by (test Q T) T.accesses) Q.parts
    (λ T c. length-map (filter (test Q T) T.accesses) (λ (a : Placed). (T.id, a.place)) ∙ length-filter (test Q T) T.accesses)

pub own_is : (parts : List Part) → own_on (on parts) ≡ sum_by own_reads parts
own_is parts = reads_count is_own_place (on parts)

pub future_is : (parts : List Part) → future_on (on parts) ≡ sum_by (reads_beside 0 parts) parts
future_is parts =
    reads_count is_future_place (on parts)
    ∙ sums_agree (λ T. count_by (is_future_place (on parts) T) T.accesses) (reads_beside 0 parts) parts
    (λ T c. count_under (is_free_read T) (list_any (λ U. runs_beside T U && writes_key U) parts) T.accesses
    ∙ ap (λ b. cond b (free_reads T) 0) (anys_agree (λ U. runs_beside T U && writes_key U) (λ U. runs_beside T U && nat_lt 0 (write_count U)) parts
    (λ U d. ap (λ b. runs_beside T U && b) (any_counted (λ a. is_write_access a.access) U.accesses))))

pub intermediate_is : (parts : List Part) → intermediate_on (on parts) ≡ sum_by (reads_beside 1 parts) parts
intermediate_is parts =
    reads_count is_intermediate_place (on parts)
    ∙ sums_agree (λ T. count_by (is_intermediate_place (on parts) T) T.accesses) (reads_beside 1 parts) parts
    (λ T c. count_under (is_free_read T) (list_any (λ U. runs_beside T U && writes_twice U) parts) T.accesses)

-- ---- writers that are places

pub writers_count : (test : OnKey → Part → Bool) (Q : OnKey) → length (writers_where test Q) ≡ count_by (test Q) Q.parts
writers_count test Q = length-map (filter (test Q) Q.parts) (λ (U : Part). U.id) ∙ length-filter (test Q) Q.parts

pub aborted_is : (parts : List Part) (last : ℕ) → ((s : Stamp) → list_any (reads_after s) parts ≡ nat_lt s.0 last) → aborted_on (on parts) ≡ count_by (aborted_before last) parts
aborted_is parts last k =
    writers_count is_aborted_place (on parts)
    ∙ counts_agree (is_aborted_place (on parts)) (aborted_before last) parts (λ U c. ap (λ b. (is_aborted U.status && writes_key U) && b) (k U.start))

pub overlap_is : (parts : List Part) (last : ℕ) → ((s : Stamp) → list_any (λ T. commits_after s T.status && writes_key T) parts ≡ nat_lt s.0 last) → overlap_on (on parts) ≡ count_by (aborted_before last) parts
overlap_is parts last k =
    writers_count is_overlap_place (on parts)
    ∙ counts_agree (is_overlap_place (on parts)) (aborted_before last) parts (λ U c. ap (λ b. (is_aborted U.status && writes_key U) && b) (k U.start))

-- of a value that U writes last, another transaction is one that doesn't write it last itself
other_is : (parts : List Part) (U T : Part) (v : Value) → IsOfHistory (on parts) → Contains parts U → Contains parts T → last_write U.accesses ≡ Some v → returns_free U v T ≡ returns_other v T
other_is parts U T v h u t e = swap (same_id T.id U.id) (option_eq same_value (last_write T.accesses) (Some v)) (list_any (returns_freely T v) T.accesses) own back
  where
    own : same_id T.id U.id ≡ true → option_eq same_value (last_write T.accesses) (Some v) ≡ true
    own s = (value_is (last_write T.accesses) v).1 (ap (λ (X : Part). last_write X.accesses) (same_named (λ (X : Part). X.id) parts h.names T U t u (same_id_is T.id U.id s)) ∙ e)

    back : option_eq same_value (last_write T.accesses) (Some v) ≡ true → same_id T.id U.id ≡ true
    back s =
        let w = last_written T v ((value_is (last_write T.accesses) v).0 s) in
        let x = last_written U v e in
        same_id_from T.id U.id (h.writes T U w.0 x.0 v t u w.1 x.1).0

    swap : (a b c : Bool) → (a ≡ true → b ≡ true) → (b ≡ true → a ≡ true) → (not a && c) ≡ (c && not b)
    swap true true true f g = refl
    swap true true false f g = refl
    swap false false true f g = refl
    swap false false false f g = refl
    swap true false c f g = absurd (let n = f refl in cc)
    swap false true c f g = absurd (let n = g refl in cc)

pub stale_is : (parts : List Part) (values : List ℕ) → IsOfHistory (on parts) → ((v : Value) → list_any (λ m. nat_eq m v.0) values ≡ list_any (returns_other v) parts) → stale_on (on parts) ≡ count_by (installed_in values) parts
stale_is parts values h k =
    writers_count is_stale_place (on parts)
    ∙ counts_agree (is_stale_place (on parts)) (installed_in values) parts (λ U u. ap (λ b. is_committed U.status && b) (by_last U u (last_write U.accesses) refl))
  where
    by_last : (U : Part) → Contains parts U → (o : Option Value) → last_write U.accesses ≡ o → is_returned parts U o ≡ is_in values o
    by_last U u None e = refl
    by_last U u (Some v) e = anys_agree (returns_free U v) (returns_other v) parts (λ T t. other_is parts U T v h u t e) ∙ sym (k v)

made : ℕ → ℕ → ℕ → ℕ → ℕ → ℕ → Places
made o a i f s v = record { own = o; aborted = a; intermediate = i; future = f; stale = s; overlap = v }

-- six numbers that are those of a key
pub places_made : (Q : OnKey) (o a i f s v : ℕ) → o ≡ own_on Q → a ≡ aborted_on Q → i ≡ intermediate_on Q → f ≡ future_on Q → s ≡ stale_on Q → v ≡ overlap_on Q
    → (let it : Places = record { own = o; aborted = a; intermediate = i; future = f; stale = s; overlap = v } in it) ≡ places_on Q
unfolding made
places_made Q o a i f s v p q r t u w =
    ap (λ x. made x a i f s v) p ∙ ap (λ x. made (own_on Q) x i f s v) q ∙ ap (λ x. made (own_on Q) (aborted_on Q) x f s v) r ∙ ap (λ x. made (own_on Q) (aborted_on Q) (intermediate_on Q) x s v) t
    ∙ ap (λ x. made (own_on Q) (aborted_on Q) (intermediate_on Q) (future_on Q) x v) u ∙ ap (λ x. made (own_on Q) (aborted_on Q) (intermediate_on Q) (future_on Q) (stale_on Q) x) w
