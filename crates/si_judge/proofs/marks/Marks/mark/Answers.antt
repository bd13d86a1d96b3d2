use Rattle.std.proofs.Common.{◌∙◌, Some, ap, subst}
use Rattle.si_sorted.specs.Entries.{Sets}
use Rattle.si_judge.specs.Marks.{AddsMark, least_mark, returned_cmp}
use Rattle.si_judge.proofs.MarkLists.{mark_added}
use Rattle.si_judge.proofs.marks.Marks.mark.Goals as goal

pub returns : goal.returns
returns c =
    let old = c.self.inside.all in
    let new = c.insert.new.self in
    subst (λ l. AddsMark c.args.value c.args.after l new) c.self.view_is (mark_added c.args.value c.args.after old new
    (subst (λ w. Sets returned_cmp c.args.value (Some w) old new) (c.least_mark-least.ensures ∙ ap (λ w. least_mark w c.args.after) c.get.ensures.value) c.in_ok-insert.ensures.sets))
