use Rattle.std.proofs.Common.{arith, rules}
use Rattle.std.proofs.lemmas.Grind.{common_steps}
use Rattle.si_text.proofs.Appended.{kept_on}
use Rattle.si_text.proofs.explaining.put_next_edges.Goals as goal

pub returns-in_err-put_next_edge : goal.returns-in_err-put_next_edge
returns-in_err-put_next_edge c = record { whole = search rules; begins = grind (arith, common_steps, kept_on) }
