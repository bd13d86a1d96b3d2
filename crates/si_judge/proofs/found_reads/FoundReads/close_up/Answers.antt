use Rattle.std.proofs.Common.{◌≡◌, ◌∙◌, ap, arith, length, sym}
use Rattle.si_judge.specs.Found.{count_empty, kind_in, told_of}
use Rattle.si_judge.proofs.FoundLists.{closed_counted, closed_same, nothing_left}
use Rattle.si_judge.proofs.found_reads.FoundReads.close_up.Goals as goal

pub invariant_of-self-then-self-len-2 : goal.invariant_of-self-then-self-len-2
invariant_of-self-then-self-len-2 c = closed_counted c.self.inside.places ∙ ap count_empty (sym c.retain.ensures.entries)

pub returns-then-self-len : goal.returns-then-self-len
returns-then-self-len c =
    let all : count_empty c.self.inside.places ≡ length c.self.inside.places = omega (arith, c.self.invariant, c.if-self-len.true, c.len-len.ensures.count) in
    ap (told_of kind_in) c.new.ensures ∙ nothing_left c.self.inside.places all ∙ c.self.view_is

pub returns-then-self-len-2 : goal.returns-then-self-len-2
returns-then-self-len-2 c = ap (told_of kind_in) c.retain.ensures.entries ∙ closed_same c.self.inside.places ∙ c.self.view_is
