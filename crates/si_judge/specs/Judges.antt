-- What is known of every judge. All of it is this project's choice.
use Rattle.std.specs.Prelude.{◌≡◌, ℕ, ◌+◌, ◌-◌, ◌^◌, min}
use Rattle.si_model.specs.declared.numbers.TxnId.{TxnId}
use Rattle.si_model.specs.declared.kinds.Kind.{Kind}
use Rattle.si_model.specs.declared.kinds.Kind.TheVariants as kind

-- the next number, up to the greatest that fits
abbrev pub one_more : ℕ → ℕ
one_more n = min (n + 1) (2 ^ 64 - 1)

-- the kind is of the read of t at the place i
abbrev pub NamesRead : TxnId → ℕ → Kind → Type 0
NamesRead t i (kind.Unknown u j v) = (u ≡ t) × (j ≡ i)
NamesRead t i (kind.Doubt u j v w) = (u ≡ t) × (j ≡ i)
NamesRead t i (kind.Own u j v w) = (u ≡ t) × (j ≡ i)
NamesRead t i (kind.Aborted u j v w) = (u ≡ t) × (j ≡ i)
NamesRead t i (kind.Intermediate u j v w) = (u ≡ t) × (j ≡ i)
NamesRead t i (kind.Future u j v w) = (u ≡ t) × (j ≡ i)
NamesRead t i (kind.Stale u j v n) = (u ≡ t) × (j ≡ i)
NamesRead t i (kind.Overlap a b) = ⊥
