use Rattle.std.proofs.Common.{Some, subst}
use Rattle.si_sorted.specs.Entries.{Sets}
use Rattle.si_judge.specs.Found.{overlap_in, overlap_of, told_of}
use Rattle.si_judge.specs.Mending.{stamp_cmp}
use Rattle.si_judge.proofs.FoundLists.{told_sets}
use Rattle.si_judge.proofs.Listed.{stamp_total}
use Rattle.si_judge.proofs.Orders.{stamp_decides}
use Rattle.si_judge.proofs.found_pairs.FoundPairs.insert.Goals as goal

pub returns : goal.returns
returns c = subst (λ l. Sets stamp_cmp c.args.commit (Some (overlap_of c.args.pair)) l (told_of overlap_in c.insert.new.self)) c.self.view_is
    (told_sets overlap_in stamp_total stamp_decides c.args.commit (Some c.args.pair) c.self.inside.pairs c.insert.new.self c.len-rising.ensures.rising c.in_ok-insert.ensures.rising c.in_ok-insert.ensures.sets)
