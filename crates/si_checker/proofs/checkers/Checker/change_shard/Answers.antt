use Rattle.std.proofs.Common.{◌∙◌, sym, true≢false}
use Rattle.std.specs.Prelude.{IfErr, Result, Ok, Err}
use Rattle.si_checker.proofs.checkers.Checker.change_shard.Goals as goal

map_err : {A E : Type 0} {P Q : E → Type 0} (r : Result A E) → ((f : E) → P f → Q f) → IfErr r P → IfErr r Q
map_err (Ok a) h p = tt
map_err (Err e) h p = h e p

pub returns-clause-fault : goal.returns-clause-fault
returns-clause-fault g c j = map_err c.add_changes.result (λ f h e. absurd (true≢false (sym (h e).1 ∙ c.in_ok-settle.ensures.settled.1))) (c.add_changes.ensures.spoiled j)
