-- What tests of lists and of options decide.
use Rattle.std.proofs.Common.{◌≡◌, ℕ, Bool, List, Some, slice_get}
use Rattle.std.specs.Bool.{Decides}
use Rattle.std.specs.List.{Contains, list_any, list_all}
use Rattle.si_lists.proofs.Members.{get_contains, contains_get}
use Rattle.si_lists.proofs.Tests.{all_at, all_from, any_from, any_is}

module _ {X : Type 0} (p : X → Bool) (R : X → Type 0) (each : (x : X) → Decides (p x) (R x)) where
  -- one of them, at its place
  pub any_decides : (xs : List X) → Decides (list_any p xs) ((i : ℕ) × (x : X) × (slice_get xs i ≡ Some x) × R x)
  any_decides xs = (
    λ e. (let r = any_is p xs e in let at = contains_get xs r.0 r.1 in (at.0, r.0, at.1, (each r.0).0 r.2)),
    λ r. any_from p xs r.1 (get_contains xs r.0 r.1 r.2) ((each r.1).1 r.3),
  )

  -- all of them
  pub all_decides : (xs : List X) → Decides (list_all p xs) ((x : X) → Contains xs x → R x)
  all_decides xs = (λ e x c. (each x).0 (all_at p xs x e c), λ f. all_from p xs (λ x c. (each x).1 (f x c)))
