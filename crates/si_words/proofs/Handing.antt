-- The opener's steps, at a view that is known.
use Rattle.std.proofs.Common.{◌≡◌, ℕ, ◌<◌, sym, ap, ◌∙◌, subst}
use Rattle.atomic_table.specs.Table.{Splits}
use Rattle.si_words.specs.declared.views.BookView.{BookView}
use Rattle.si_words.specs.declared.views.View.{View}
use Rattle.si_words.specs.Views.{book_and_opener, opener_from}
use Rattle.si_words.specs.Rule.{IsKept}
use Rattle.si_words.specs.Steps.{shard_given, next_shard, pass_given, next_pass, without_opener, opener_alone}
use Rattle.si_words.proofs.Partings.{gives_shard, gives_pass, drops_opener}

module _ (shards passes id : ℕ) (b : BookView) (v : View) (n k i : ℕ) (same : n ≡ shards) (is : v ≡ book_and_opener b (opener_from n k i)) where
  known : v ≡ book_and_opener b (opener_from shards k i)
  known = is ∙ ap (λ m. book_and_opener b (opener_from m k i)) same

  pub gives_shard_as : k < n → Splits (IsKept shards passes) id v (shard_given v) (next_shard v)
  gives_shard_as below = subst (λ (x : View). Splits (IsKept shards passes) id x (shard_given x) (next_shard x)) (sym known) (gives_shard shards passes id k i b (subst (λ (m : ℕ). k < m) same below))

  pub gives_pass_as : i < passes → Splits (IsKept shards passes) id v (pass_given v) (next_pass v)
  gives_pass_as below = subst (λ (x : View). Splits (IsKept shards passes) id x (pass_given x) (next_pass x)) (sym known) (gives_pass shards passes id k i b below)

  pub drops_opener_as : Splits (IsKept shards passes) id v (without_opener v) (opener_alone v)
  drops_opener_as = subst (λ (x : View). Splits (IsKept shards passes) id x (without_opener x) (opener_alone x)) (sym known) (drops_opener shards passes id k i b)
