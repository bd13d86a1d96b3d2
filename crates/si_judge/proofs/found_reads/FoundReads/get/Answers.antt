use Rattle.std.proofs.Common.{◌≡◌, ◌∙◌, ap, sym}
use Rattle.std.specs.Option.{option_and_then}
use Rattle.si_sorted.specs.Entries.{value_at}
use Rattle.si_judge.specs.Found.{kind_in}
use Rattle.si_judge.specs.Mending.{read_cmp}
use Rattle.si_judge.proofs.FoundLists.{told_under}
use Rattle.si_judge.proofs.Listed.{read_total}
use Rattle.si_judge.proofs.Orders.{read_decides}
use Rattle.si_judge.proofs.found_reads.FoundReads.get.Goals as goal
use Rattle.si_judge.proofs.found_reads.FoundReads.get.Goals.{After-get}

-- what the place of the read tells is what is found of it
told : (c : After-get) → option_and_then (kind_in c.args.id) (value_at read_cmp c.self.inside.places c.args.id) ≡ value_at read_cmp c.args.self.now c.args.id
told c = sym (told_under kind_in read_total read_decides c.self.inside.places c.get.ensures.rising c.args.id) ∙ ap (λ l. value_at read_cmp l c.args.id) c.self.view_is

pub returns-in-Some : goal.returns-in-Some
returns-in-Some c = c.kind.ensures ∙ ap (option_and_then (kind_in c.args.id)) c.in-Some.ensures.value ∙ told (goal.at.returns-in-Some c).After-get

pub returns-in-None : goal.returns-in-None
returns-in-None c = ap (option_and_then (kind_in c.args.id)) c.in-None.ensures.value ∙ told (goal.at.returns-in-None c).After-get
