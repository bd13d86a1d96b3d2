use Rattle.std.proofs.Common.{◌≡◌, ◌∙◌, None, Option, Some, ap, refl, sym}
use Rattle.std.specs.Option.{option_and_then, option_map}
use Rattle.si_model.specs.declared.numbers.Stamp.{Stamp}
use Rattle.si_model.specs.declared.numbers.TxnId.{TxnId}
use Rattle.si_sorted.specs.Entries.{value_at}
use Rattle.si_judge.specs.Found.{overlap_in, overlap_of}
use Rattle.si_judge.specs.Mending.{stamp_cmp}
use Rattle.si_judge.proofs.FoundLists.{told_under}
use Rattle.si_judge.proofs.Listed.{stamp_total}
use Rattle.si_judge.proofs.Orders.{stamp_decides}
use Rattle.si_judge.proofs.found_pairs.FoundPairs.get.Goals as goal

as_kind : (commit : Stamp) (o : Option (TxnId × TxnId)) → option_map overlap_of o ≡ option_and_then (overlap_in commit) o
as_kind commit None = refl
as_kind commit (Some p) = refl

pub returns : goal.returns
returns c = c.kind_of.ensures ∙ ap (option_map overlap_of) c.get.ensures.value ∙ as_kind c.args.commit (value_at stamp_cmp c.self.inside.pairs c.args.commit)
    ∙ sym (told_under overlap_in stamp_total stamp_decides c.self.inside.pairs c.get.ensures.rising c.args.commit) ∙ ap (λ l. value_at stamp_cmp l c.args.commit) c.self.view_is
