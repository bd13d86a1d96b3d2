-- The ends of an opening have put nothing.
use Rattle.std.proofs.Common.{◌≡◌, ℕ, zero, suc, false, refl, [], ◌∷◌, All, arith}
use Rattle.std.proofs.lemmas.List.Elements.{All-append, All-nil}
use Rattle.si_intake.specs.Ends.{Putting, Accepting, new_end, new_ends}
use Rattle.si_intake.specs.Items.{has_last}

abbrev pub IsUnended : Putting → Type 0
IsUnended end = has_last end.put ≡ false

one : (accepter : Accepting) (source : ℕ) → All IsUnended (new_end accepter.intake source ∷ [])
one accepter source zero d within = refl
one accepter source (suc k) d within = absurd (omega arith)

pub fresh : (accepter : Accepting) (sources : ℕ) → All IsUnended (new_ends accepter.intake sources)
fresh accepter zero = All-nil IsUnended
fresh accepter (suc n) = All-append IsUnended (new_ends accepter.intake n) (new_end accepter.intake n ∷ []) (fresh accepter n) (one accepter n)
