-- The reads of a key's committed transactions. All of it is this project's choice.
use Rattle.std.specs.Prelude.{◌≡◌, ℕ, ◌<◌, ◌+◌, ◌-◌, ◌^◌, Bool, true, ◌&&◌, if◌then◌else◌, nat_eq, nat_lt, List, Some, None, Option, ⊤, map}
use Rattle.std.specs.List.{filter}
use Rattle.std.specs.List.Sorted.{IsStrictlySortedBy}
use Rattle.std.specs.Map.{keys_of}
use Rattle.std.specs.Option.{option_cmp, option_eq}
use Rattle.std.specs.Ordering.{nat_cmp, ordering_then}
use Rattle.std.specs.declared.cmp.Ordering.{Ordering}
use Rattle.std.specs.declared.ops.Bound.{Bound}
use Rattle.std.specs.declared.ops.Bound.TheVariants.{Included, Excluded, Unbounded}
use Rattle.si_model.specs.declared.numbers.Stamp.{Stamp}
use Rattle.si_model.specs.declared.numbers.Value.{Value}
use Rattle.si_model.specs.Operations.{same_value}
use Rattle.si_sorted.specs.Entries.{Sets, value_at}
use Rattle.si_judge.specs.Values.{value_cmp}
use Rattle.si_judge.specs.declared.reads.KeptRead.{KeptRead}

-- readers in their order
abbrev pub kept_read_cmp : KeptRead → KeptRead → Ordering
kept_read_cmp r s = ordering_then (option_cmp value_cmp r.value s.value)
    (ordering_then (nat_cmp r.start.0 s.start.0) (ordering_then (nat_cmp r.txn.0 s.txn.0) (nat_cmp r.place s.place)))

-- each reader with its transaction's own value there, which stands apart, if it has one
abbrev pub with_own : {X : Type 0} → List (KeptRead × Value) → List (KeptRead × X) → List (KeptRead × Option Value)
with_own own = map (λ e. (e.0, value_at kept_read_cmp own e.0))

-- an own value stands apart only for a reader that is there
abbrev pub AreOfKeptReads : {X : Type 0} → List (KeptRead × Value) → List (KeptRead × X) → Type 0
AreOfKeptReads own es = (r : KeptRead) → value_at kept_read_cmp es r ≡ None → value_at kept_read_cmp own r ≡ None

-- what stands beside the reader: its transaction's own value there, if it has one
abbrev pub own_at : List (KeptRead × Option Value) → KeptRead → Option (Option Value)
own_at = value_at kept_read_cmp

-- each reader stands once, in order
abbrev pub AreInOrder : List (KeptRead × Option Value) → Type 0
AreInOrder es = IsStrictlySortedBy kept_read_cmp (keys_of es)

-- o stands beside the reader afterwards, and all else as before
abbrev pub SetsOwn : KeptRead → Option (Option Value) → List (KeptRead × Option Value) → List (KeptRead × Option Value) → Type 0
SetsOwn = Sets kept_read_cmp

-- ---- the reads of a value

-- the stamp is later, if there is one
abbrev pub IsLaterThan : Option Stamp → Stamp → Type 0
IsLaterThan None s = ⊤
IsLaterThan (Some c) s = c.0 < s.0

-- the least reader that the bounds let in for reads of a value after the stamp
abbrev pub least_kept_read : Option Value → Option Stamp → Bound KeptRead
least_kept_read v None = Included (record { value = v; start = record { 0 = 0 }; txn = record { 0 = 0 }; place = 0 })
least_kept_read v (Some c) = Included (record { value = v; start = c; txn = record { 0 = 0 }; place = 0 })

-- the least reader of a value beyond n
abbrev pub least_of : ℕ → Bound KeptRead
least_of n = Excluded (record { value = Some (record { 0 = n }); start = record { 0 = 0 }; txn = record { 0 = 0 }; place = 0 })

-- where the readers of a greater value begin
abbrev pub beyond : Option Value → Bound KeptRead
beyond None = least_of 0
beyond (Some v) = if nat_eq v.0 (2 ^ 64 - 1) then Unbounded else least_of (v.0 + 1)

-- a read of the value by a reader that started after the stamp
abbrev pub IsKeptReadOf : Option Value → Option Stamp → KeptRead → Type 0
IsKeptReadOf v after r = (r.value ≡ v) × IsLaterThan after r.start

-- the same as tests
abbrev pub is_later : Option Stamp → Stamp → Bool
is_later None s = true
is_later (Some c) s = nat_lt c.0 s.0

abbrev pub is_kept_read_of : Option Value → Option Stamp → KeptRead → Bool
is_kept_read_of v after r = option_eq same_value r.value v && is_later after r.start

-- those among the readers that returned the value and started after the stamp
abbrev pub kept_reads_among : List (KeptRead × Option Value) → Option Value → Option Stamp → List (KeptRead × Option Value)
kept_reads_among es v after = filter (λ p. is_kept_read_of v after p.0) es
