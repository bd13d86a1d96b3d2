-- Stamps that are counted.
use Rattle.std.proofs.Common.{◌≡◌, ℕ, ◌<◌, ◌+◌, cond, List, [], ap, sym, ◌∙◌, length, get_or, take, nat_lt, nat_le}
use Rattle.std.specs.List.{count_by}
use Rattle.std.specs.List.Sorted.{IsPermutation}
use Rattle.std.proofs.lemmas.List.Sorted.{sum_by-IsPermutation}
use Rattle.std.proofs.lemmas.List.Sums.{sum_by_more}
use Rattle.si_model.specs.declared.parts.Part.{Part}
use Rattle.si_chances.specs.Spans.{AddsSpan, CountSpans, below, up_to, starts_below, commits_by}
use Rattle.si_chances.specs.declared.spans.Spans.{Spans}

-- the next one
pub spans_more : (places : ℕ) (parts : List Part) (i : ℕ) (U : Part) (old new : Spans) → i < length parts → U ≡ get_or parts i U → CountSpans places (take i parts) old → AddsSpan places U old new
    → CountSpans places (take (i + 1) parts) new
spans_more places parts i U old new l e k a = record {
  starts = λ n. a.starts n ∙ ap (λ m. m + cond (starts_below places n U) 1 0) (k.starts n) ∙ ap (λ T. count_by (starts_below places n) (take i parts) + cond (starts_below places n T) 1 0) e
      ∙ sym (sum_by_more (λ T. cond (starts_below places n T) 1 0) parts i U l);
  commits = λ n. a.commits n ∙ ap (λ m. m + cond (commits_by places n U) 1 0) (k.commits n) ∙ ap (λ T. count_by (commits_by places n) (take i parts) + cond (commits_by places n T) 1 0) e
      ∙ sym (sum_by_more (λ T. cond (commits_by places n T) 1 0) parts i U l);
}

pub spans_none : (places : ℕ) (s : Spans) → s.starts.items ≡ [] → s.commits.items ≡ [] → CountSpans places [] s
spans_none places s e f = record { starts = λ n. ap (λ ms. below ms n) e; commits = λ n. ap (λ ms. up_to ms n) f }

-- in another order
pub spans_sorted : (places : ℕ) (parts : List Part) (old new : Spans) → CountSpans places parts old → IsPermutation old.starts.items new.starts.items → IsPermutation old.commits.items new.commits.items
    → CountSpans places parts new
spans_sorted places parts old new k p q = record {
  starts = λ n. sum_by-IsPermutation (λ m. cond (nat_lt m n) 1 0) old.starts.items new.starts.items p ∙ k.starts n;
  commits = λ n. sum_by-IsPermutation (λ m. cond (nat_le m n) 1 0) old.commits.items new.commits.items q ∙ k.commits n;
}
