use Rattle.std.proofs.Common.{List, arith, sym, ap, ◌∙◌, subst}
use Rattle.si_words.specs.declared.views.Entry.{Entry}
use Rattle.si_words.specs.declared.views.View.{View}
use Rattle.si_words.specs.Entries.{IsBeginning}
use Rattle.si_words.specs.Seats.{first_shard, first_pass}
use Rattle.si_words.proofs.Joined.{learns_as}
use Rattle.si_words.proofs.Telling.{learned_begins}
use Rattle.si_words.proofs.words.Words.learn.Goals as goal

pub load-requires : goal.load-requires
load-requires c =
    let j = c.join_learner.ensures in
    let same = ap (λ s. s.table.words) c.shard.view_is ∙ ap (λ t. t.words) c.requires.shard ∙ sym (ap (λ w. w.table.words) c.self.view_is) in
    let seat = c.shard.invariant in
    let number = c.shard.invariant.1 ∙ ap (λ (l : List View). (first_shard l).number) c.take_seat-place.ensures.1 in
    (j.0 ∙ sym (ap (λ w. w.table) c.self.view_is), omega arith, learns_as _ _ _ _ _ _ _ _ j.1 number)

pub returns-clause-seen : goal.returns-clause-seen
returns-clause-seen c =
    let both = learned_begins _ _ _ _ _ _ _ c.join_learner.ensures.1 c.load.ensures.2.1 c.load.ensures.2.0 c.part_learner.ensures.pass.1 in
    subst (λ (l : List Entry). IsBeginning l (first_pass c.part_learner.new.pass.views).seen) (ap (λ s. s.view.seen) c.pass.view_is) both.0

pub returns-clause-due : goal.returns-clause-due
returns-clause-due c =
    let both = learned_begins _ _ _ _ _ _ _ c.join_learner.ensures.1 c.load.ensures.2.1 c.load.ensures.2.0 c.part_learner.ensures.pass.1 in
    let was = sym (ap (λ (l : List View). (first_shard l).due) c.take_seat-place.ensures.1) ∙ ap (λ s. s.view.due) c.shard.view_is in
    subst (λ (l : List Entry). IsBeginning l (first_pass c.part_learner.new.pass.views).seen) was both.1
