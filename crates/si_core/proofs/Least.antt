-- The least position among shards, found one after the other.
use Rattle.std.proofs.Common.{◌≡◌, ◌∙◌, ◌⊎◌, inl, inr, ◌<◌, ◌≤◌, ◌+◌, ℕ, List, Some, length, slice_get, slice_index_or, refl, sym, ap, arith}
use Rattle.std.specs.List.{Contains}
use Rattle.std.proofs.lemmas.Bool.{cases_eq}
use Rattle.std.proofs.lemmas.Option.{slice_get-get_or, slice_get_within}
use Rattle.si_lists.proofs.Members.{contains_get, get_contains, same_some}
use Rattle.si_shard.specs.declared.journal_shards.JournalShard.{JournalShard}
use Rattle.si_core.specs.Worlds.{IsLeastOf}

-- the least of those before the place i
pub record IsLeastBefore (shards : List JournalShard) (i n : ℕ) : Type 0 where
  pub one : (s : JournalShard) × Contains shards s × (s.position ≡ n)
  pub least : (j : ℕ) (t : JournalShard) → j < i → slice_get shards j ≡ Some t → n ≤ t.position

stands : (shards : List JournalShard) (i : ℕ) (s : JournalShard) → i < length shards → s ≡ slice_index_or shards i s → slice_get shards i ≡ Some s
stands shards i s within is = slice_get-get_or shards i s within ∙ ap Some (sym is)

pub first_least : (shards : List JournalShard) (s : JournalShard) → 0 < length shards → s ≡ slice_index_or shards 0 s → IsLeastBefore shards 1 (s.position)
first_least shards s within is = record {
  one = (s, get_contains shards 0 s (stands shards 0 s within is), refl);
  least = λ j t lt e. (let zero : j ≡ 0 = omega arith in
      let same : s ≡ t = same_some (sym (stands shards 0 s within is) ∙ ap (slice_get shards) (sym zero) ∙ e) in
      let long : s.position ≡ t.position = ap (λ (w : JournalShard). w.position) same in omega arith);
}

here_or_before : (j i : ℕ) → j < i + 1 → (j < i) ⊎ (j ≡ i)
here_or_before j i lt = elim (cases_eq j i) [ inl e ↦ inr e | inr d ↦ inl (omega arith) ]

pub next_least : (shards : List JournalShard) (i n m : ℕ) (s : JournalShard) → i < length shards → s ≡ slice_index_or shards i s → IsLeastBefore shards i n
    → ((m ≡ s.position) × (m < n)) ⊎ ((m ≡ n) × (n ≤ s.position)) → IsLeastBefore shards (i + 1) m
next_least shards i n m s within is before (inl less) = record {
  one = (s, get_contains shards i s (stands shards i s within is), sym less.0);
  least = λ j t lt e. by j t (here_or_before j i lt) e;
}
  where
    by : (j : ℕ) (t : JournalShard) → (j < i) ⊎ (j ≡ i) → slice_get shards j ≡ Some t → m ≤ t.position
    by j t (inl earlier) e = (let l = before.least j t earlier e in let a = less.1 in omega arith)
    by j t (inr now) e = (let same : s ≡ t = same_some (sym (stands shards i s within is) ∙ ap (slice_get shards) (sym now) ∙ e) in
        let long : s.position ≡ t.position = ap (λ (w : JournalShard). w.position) same in let a = less.0 in omega arith)
next_least shards i n m s within is before (inr more) = record {
  one = (before.one.0, before.one.1, before.one.2 ∙ sym more.0);
  least = λ j t lt e. by j t (here_or_before j i lt) e;
}
  where
    by : (j : ℕ) (t : JournalShard) → (j < i) ⊎ (j ≡ i) → slice_get shards j ≡ Some t → m ≤ t.position
    by j t (inl earlier) e = (let l = before.least j t earlier e in let a = more.0 in omega arith)
    by j t (inr now) e = (let same : s ≡ t = same_some (sym (stands shards i s within is) ∙ ap (slice_get shards) (sym now) ∙ e) in
        let long : s.position ≡ t.position = ap (λ (w : JournalShard). w.position) same in let a = more.0 in let b = more.1 in omega arith)

pub least_of_all : (shards : List JournalShard) (i n : ℕ) → length shards ≤ i → IsLeastBefore shards i n → IsLeastOf shards n
least_of_all shards i n all is = (is.one, λ s c. (let g = contains_get shards s c in let lt = slice_get_within shards g.0 s g.1 in is.least g.0 s (omega arith) g.1))
