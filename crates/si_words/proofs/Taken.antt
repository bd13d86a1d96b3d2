-- The steps of a seat that was taken out of its badge, at a view that is known.
use Rattle.std.proofs.Common.{◌≡◌, ℕ, ◌+◌, ◌-◌, ◌<◌, ◌≤◌, List, [], ◌∷◌, length, max, sym, ap, ◌∙◌, subst}
use mathlib.Core.Option.{none}
use Rattle.atomic_table.specs.Table.{step, Allows}
use Rattle.si_words.specs.declared.views.ShardView.{ShardView}
use Rattle.si_words.specs.declared.views.PassView.{PassView}
use Rattle.si_words.specs.declared.views.View.{View}
use Rattle.si_words.specs.Views.{shard_view, pass_view}
use Rattle.si_words.specs.Rule.{IsKept}
use Rattle.si_words.specs.Steps.{SeatView, Becomes, published, looked, counted, asked_closed}
use Rattle.si_words.proofs.Loads.{looks, counts, counts_at, asks, asks_at}
use Rattle.si_words.proofs.Writes.{publishes}

abbrev first_of : View → List View → View
first_of d [] = d
first_of d (x ∷ xs) = x

-- the seat that was in a badge with this view
pub taken : (views : List View) (v : View) (me : SeatView) → views ≡ v ∷ [] → views ≡ me.0 ∷ [] → me.1 ≡ [] → me ≡ (v, [])
taken views v me is was bare = λ i. (ap (first_of v) (sym was ∙ is) i, bare i)

module _ (shards passes slots id : ℕ) (me : SeatView) (p : PassView) (is : me ≡ (pass_view p, [])) where
  pub counts_as : Allows (IsKept shards passes) slots id me 0 (λ n. n) (λ n. Becomes (counted n me.0) (step slots 0 0 0 none) me n)
  counts_as = subst (λ (x : SeatView). Allows (IsKept shards passes) slots id x 0 (λ n. n) (λ n. Becomes (counted n x.0) (step slots 0 0 0 none) x n)) (sym is) (counts shards passes slots id p [])

  pub asks_as : Allows (IsKept shards passes) slots id me 1 (λ n. n) (λ n. Becomes (asked_closed n me.0) (step slots 1 0 0 none) me n)
  asks_as = subst (λ (x : SeatView). Allows (IsKept shards passes) slots id x 1 (λ n. n) (λ n. Becomes (asked_closed n x.0) (step slots 1 0 0 none) x n)) (sym is) (asks shards passes slots id p [])

  pub looks_as : (k : ℕ) → k < shards → Allows (IsKept shards passes) slots id me (2 + k) (λ n. n) (λ n. Becomes (looked (2 + k - 2) n me.0) (step slots (2 + k) 0 0 none) me n)
  looks_as k below = subst (λ (x : SeatView). Allows (IsKept shards passes) slots id x (2 + k) (λ n. n) (λ n. Becomes (looked (2 + k - 2) n x.0) (step slots (2 + k) 0 0 none) x n)) (sym is) (looks shards passes slots id k p [] below)

module _ (shards passes slots id : ℕ) (me : SeatView) (s : ShardView) (is : me ≡ (shard_view s, [])) where
  pub counts_at_as : Allows (IsKept shards passes) slots id me 0 (λ n. n) (λ n. Becomes (counted n me.0) (step slots 0 0 0 none) me n)
  counts_at_as = subst (λ (x : SeatView). Allows (IsKept shards passes) slots id x 0 (λ n. n) (λ n. Becomes (counted n x.0) (step slots 0 0 0 none) x n)) (sym is) (counts_at shards passes slots id s [])

  pub asks_at_as : Allows (IsKept shards passes) slots id me 1 (λ n. n) (λ n. Becomes (asked_closed n me.0) (step slots 1 0 0 none) me n)
  asks_at_as = subst (λ (x : SeatView). Allows (IsKept shards passes) slots id x 1 (λ n. n) (λ n. Becomes (asked_closed n x.0) (step slots 1 0 0 none) x n)) (sym is) (asks_at shards passes slots id s [])

  pub publishes_as : (k position : ℕ) → k ≡ s.number → s.done ≤ position → position ≤ length s.due
      → Allows (IsKept shards passes) slots id me (2 + k) (λ n. max n position) (λ n. Becomes (published position me.0) (step slots (2 + k) position 0 none) me n)
  publishes_as k position same onward within = subst
      (λ (x : SeatView). Allows (IsKept shards passes) slots id x (2 + k) (λ n. max n position) (λ n. Becomes (published position x.0) (step slots (2 + k) position 0 none) x n))
      (sym is)
      (subst
      (λ (j : ℕ). Allows (IsKept shards passes) slots id (shard_view s, []) (2 + j) (λ n. max n position) (λ n. Becomes (published position (shard_view s)) (step slots (2 + j) position 0 none) (shard_view s, []) n))
      (sym same)
      (publishes shards passes slots id s [] position onward within))
