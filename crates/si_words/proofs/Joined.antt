-- Joins, parts and the steps of joined seats, at views that are known.
use Rattle.std.proofs.Common.{◌≡◌, ℕ, ◌+◌, ◌%◌, ◌^◌, ◌<◌, [], length, Some, Option, sym, subst}
use mathlib.Core.Option.{none}
use Rattle.atomic_table.specs.Table.{step, Allows, Splits, Joins}
use Rattle.si_model.specs.declared.edits.Edit.{Edit}
use Rattle.si_model.specs.declared.edits.TheConstants.{MOST_EDITS}
use Rattle.si_words.specs.declared.views.BookView.{BookView}
use Rattle.si_words.specs.declared.views.ShardView.{ShardView}
use Rattle.si_words.specs.declared.views.PassView.{PassView}
use Rattle.si_words.specs.declared.views.View.{View}
use Rattle.si_words.specs.Views.{book_view, shard_view, pass_view, book_and_pass, book_and_shard, shard_and_pass, spent}
use Rattle.si_words.specs.Rule.{IsKept}
use Rattle.si_words.specs.Steps.{SeatView, Becomes, issued, pulled, sighted, learned, closed, together, without_shard, shard_alone, without_pass, pass_alone}
use Rattle.si_words.proofs.Partings.{joins_book_pass, joins_book_shard, joins_shard_pass, parts_pass_of_book, parts_shard_of_book, parts_pass_of_shard}
use Rattle.si_words.proofs.Loads.{pulls, sees, learns}
use Rattle.si_words.proofs.Writes.{issues, closes}

module _ (shards passes id other : ℕ) (v w : View) where
  abbrev AreJoined : View → View → Type 0
  AreJoined x y = Joins (IsKept shards passes) id x other y (together x y) spent

  pub joins_book_pass_as : (b : BookView) (p : PassView) → v ≡ book_view b → w ≡ pass_view p → AreJoined v w
  joins_book_pass_as b p e f = subst (λ (x : View × View). AreJoined x.0 x.1) (λ i. (sym e i, sym f i)) (joins_book_pass shards passes id other b p)

  pub joins_book_shard_as : (b : BookView) (s : ShardView) → v ≡ book_view b → w ≡ shard_view s → AreJoined v w
  joins_book_shard_as b s e f = subst (λ (x : View × View). AreJoined x.0 x.1) (λ i. (sym e i, sym f i)) (joins_book_shard shards passes id other b s)

  pub joins_shard_pass_as : (s : ShardView) (p : PassView) → v ≡ shard_view s → w ≡ pass_view p → AreJoined v w
  joins_shard_pass_as s p e f = subst (λ (x : View × View). AreJoined x.0 x.1) (λ i. (sym e i, sym f i)) (joins_shard_pass shards passes id other s p)

module _ (shards passes id : ℕ) (v : View) where
  pub parts_pass_of_book_as : (b : BookView) (p : PassView) → v ≡ book_and_pass b p → Splits (IsKept shards passes) id v (without_pass v) (pass_alone v)
  parts_pass_of_book_as b p e = subst (λ (x : View). Splits (IsKept shards passes) id x (without_pass x) (pass_alone x)) (sym e) (parts_pass_of_book shards passes id b p)

  pub parts_shard_of_book_as : (b : BookView) (s : ShardView) → v ≡ book_and_shard b s → Splits (IsKept shards passes) id v (without_shard v) (shard_alone v)
  parts_shard_of_book_as b s e = subst (λ (x : View). Splits (IsKept shards passes) id x (without_shard x) (shard_alone x)) (sym e) (parts_shard_of_book shards passes id b s)

  pub parts_pass_of_shard_as : (s : ShardView) (p : PassView) → v ≡ shard_and_pass s p → Splits (IsKept shards passes) id v (without_pass v) (pass_alone v)
  parts_pass_of_shard_as s p e = subst (λ (x : View). Splits (IsKept shards passes) id x (without_pass x) (pass_alone x)) (sym e) (parts_pass_of_shard shards passes id s p)

module _ (shards passes slots id : ℕ) (me : SeatView) where
  pub issues_as : (b : BookView) (p : PassView) (named : Option Edit) (edit : Edit) → me ≡ (book_and_pass b p, []) → named ≡ Some edit → length b.journal < MOST_EDITS
      → Allows (IsKept shards passes) slots id me 0 (λ n. (n + 1) % 2 ^ 64) (λ n. Becomes (issued named me.0) (step slots 0 1 0 none) me n)
  issues_as b p named edit is says room = subst
      (λ (x : SeatView × Option Edit). Allows (IsKept shards passes) slots id x.0 0 (λ n. (n + 1) % 2 ^ 64) (λ n. Becomes (issued x.1 x.0.0) (step slots 0 1 0 none) x.0 n))
      (λ i. (sym is i, sym says i))
      (issues shards passes slots id b p [] edit room)

  pub pulls_as : (b : BookView) (s : ShardView) → me ≡ (book_and_shard b s, []) → Allows (IsKept shards passes) slots id me 0 (λ n. n) (λ n. Becomes (pulled me.0) (step slots 0 0 0 none) me n)
  pulls_as b s is = subst (λ (x : SeatView). Allows (IsKept shards passes) slots id x 0 (λ n. n) (λ n. Becomes (pulled x.0) (step slots 0 0 0 none) x n)) (sym is) (pulls shards passes slots id b s [])

  pub sees_as : (b : BookView) (p : PassView) → me ≡ (book_and_pass b p, []) → Allows (IsKept shards passes) slots id me 0 (λ n. n) (λ n. Becomes (sighted me.0) (step slots 0 0 0 none) me n)
  sees_as b p is = subst (λ (x : SeatView). Allows (IsKept shards passes) slots id x 0 (λ n. n) (λ n. Becomes (sighted x.0) (step slots 0 0 0 none) x n)) (sym is) (sees shards passes slots id b p [])

  pub learns_as : (s : ShardView) (p : PassView) (k : ℕ) → me ≡ (shard_and_pass s p, []) → k ≡ s.number
      → Allows (IsKept shards passes) slots id me (2 + k) (λ n. n) (λ n. Becomes (learned n me.0) (step slots (2 + k) 0 0 none) me n)
  learns_as s p k is same = subst
      (λ (x : SeatView × ℕ). Allows (IsKept shards passes) slots id x.0 (2 + x.1) (λ n. n) (λ n. Becomes (learned n x.0.0) (step slots (2 + x.1) 0 0 none) x.0 n))
      (λ i. (sym is i, sym same i))
      (learns shards passes slots id s p [])

  pub closes_as : (b : BookView) → me ≡ (book_view b, []) → Allows (IsKept shards passes) slots id me 1 (λ _. 1) (λ _ after. after ≡ (closed me.0, me.1))
  closes_as b is = subst (λ (x : SeatView). Allows (IsKept shards passes) slots id x 1 (λ _. 1) (λ _ after. after ≡ (closed x.0, x.1))) (sym is) (closes shards passes slots id b [])
