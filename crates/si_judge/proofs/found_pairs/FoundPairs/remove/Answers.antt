use Rattle.std.proofs.Common.{None, subst}
use Rattle.si_sorted.specs.Entries.{Sets}
use Rattle.si_judge.specs.Found.{overlap_in, told_of}
use Rattle.si_judge.specs.Mending.{stamp_cmp}
use Rattle.si_judge.proofs.FoundLists.{told_sets}
use Rattle.si_judge.proofs.Listed.{stamp_total}
use Rattle.si_judge.proofs.Orders.{stamp_decides}
use Rattle.si_judge.proofs.found_pairs.FoundPairs.remove.Goals as goal

pub returns-then-not-is_empty : goal.returns-then-not-is_empty
returns-then-not-is_empty c = subst (λ l. Sets stamp_cmp c.args.commit None l (told_of overlap_in c.remove.new.self)) c.self.view_is
    (told_sets overlap_in stamp_total stamp_decides c.args.commit None c.self.inside.pairs c.remove.new.self c.len-rising.ensures.rising c.remove.ensures.rising c.remove.ensures.sets)
