use Rattle.std.proofs.Common.{ℕ, List, [], ◌∙◌, sym, subst}
use Rattle.atomic_table.specs.Table.{opening}
use Rattle.si_words.specs.Rule.{IsKept}
use Rattle.si_words.specs.Views.{opening_view}
use Rattle.si_words.proofs.Partings.{begins}
use Rattle.si_words.proofs.words.Words.open.Goals as goal

pub of_words-requires : goal.of_words-requires
of_words-requires c =
    let shards = c.args.shards in
    let passes = c.args.passes in
    let zeros = c.as_slice.ensures.value ∙ c.in_ok-zeros.ensures.items_if_clones_equal (λ y h. h) in
    subst (λ (words : List ℕ). IsKept shards passes (opening words [] (opening_view shards passes))) (sym zeros) (begins shards passes)
