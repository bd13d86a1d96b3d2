-- What one transaction does on a key, in numbers.
use Rattle.std.specs.Prelude.{ℕ, ◌<◌, Bool, ◌&&◌, nat_lt, List, count_by}
use Rattle.std.specs.List.{AllPairs, Contains, list_any}
use Rattle.si_model.specs.declared.parts.Placed.{Placed}
use Rattle.si_model.specs.declared.parts.Part.{Part}
use Rattle.si_model.specs.Chances.{is_write_access, is_own_read, is_free_read}

-- the places of the accesses rise
abbrev pub Rise : List Placed → Type 0
Rise ys = AllPairs (λ a b. a.place < b.place) ys

abbrev pub RiseAll : List Part → Type 0
RiseAll parts = (T : Part) → Contains parts T → Rise T.accesses

-- whether one of the accesses before the place i is a write
abbrev pub wrote_among : List Placed → ℕ → Bool
wrote_among ys i = list_any (λ a. nat_lt a.place i && is_write_access a.access) ys

-- how many of a transaction's reads are judged and come after a write of its own, and how many before any
abbrev pub own_reads : Part → ℕ
own_reads T = count_by (is_own_read T) T.accesses

abbrev pub free_reads : Part → ℕ
free_reads T = count_by (is_free_read T) T.accesses

-- how many of its accesses are writes
abbrev pub write_count : Part → ℕ
write_count T = count_by (λ a. is_write_access a.access) T.accesses
