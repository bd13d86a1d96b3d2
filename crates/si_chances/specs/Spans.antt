-- When the transactions ran that install a version of a key.
use Rattle.std.specs.Prelude.{◌≡◌, ℕ, ◌+◌, Bool, false, ◌&&◌, nat_lt, nat_le, cond, List, count_by, IsSorted}
use Rattle.std.specs.Ordering.{nat_cmp}
use Rattle.si_model.specs.declared.transactions.Status.{Status}
use Rattle.si_model.specs.declared.transactions.Status.TheVariants as status
use Rattle.si_model.specs.declared.parts.Part.{Part}
use Rattle.si_model.specs.Chances.{is_committed}
use Rattle.si_chances.specs.Summaries.{write_count}
use Rattle.si_chances.specs.declared.spans.Spans.{Spans}

-- whether U committed and writes the key at more than so many places
abbrev pub installs_at : ℕ → Part → Bool
installs_at places U = is_committed U.status && nat_lt places (write_count U)

-- whether a transaction committed at n at the latest
abbrev pub committed_by : ℕ → Status → Bool
committed_by n (status.Committed c) = nat_le c.0 n
committed_by n status.Aborted = false
committed_by n status.InDoubt = false

-- those that started before n, and those that committed by n
abbrev pub starts_below : ℕ → ℕ → Part → Bool
starts_below places n U = installs_at places U && nat_lt U.start.0 n

abbrev pub commits_by : ℕ → ℕ → Part → Bool
commits_by places n U = installs_at places U && committed_by n U.status

-- how many of some numbers are below n, and how many are n at most
abbrev pub below : List ℕ → ℕ → ℕ
below ms n = count_by (λ m. nat_lt m n) ms

abbrev pub up_to : List ℕ → ℕ → ℕ
up_to ms n = count_by (λ m. nat_le m n) ms

-- the numbers are stamps of those of these that write the key at more than so many places
pub record CountSpans (places : ℕ) (parts : List Part) (s : Spans) : Type 0 where
  pub starts : (n : ℕ) → below s.starts.items n ≡ count_by (starts_below places n) parts
  pub commits : (n : ℕ) → up_to s.commits.items n ≡ count_by (commits_by places n) parts

-- and they are in order
pub record AreSorted (s : Spans) : Type 0 where
  pub starts : IsSorted nat_cmp s.starts.items
  pub commits : IsSorted nat_cmp s.commits.items

pub record AreSpansOf (places : ℕ) (parts : List Part) (s : Spans) : Type 0 where
  pub sorted : AreSorted s
  pub counts : CountSpans places parts s

-- the stamps of one transaction more
pub record AddsSpan (places : ℕ) (U : Part) (old new : Spans) : Type 0 where
  pub starts : (n : ℕ) → below new.starts.items n ≡ below old.starts.items n + cond (starts_below places n U) 1 0
  pub commits : (n : ℕ) → up_to new.commits.items n ≡ up_to old.commits.items n + cond (commits_by places n U) 1 0
