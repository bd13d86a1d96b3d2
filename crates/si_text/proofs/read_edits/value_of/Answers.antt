use Rattle.std.proofs.Common.{◌≡◌, true, refl}
use Rattle.si_text.proofs.LineValues.{value_of_utf8, value_of_none}
use Rattle.si_text.proofs.read_edits.value_of.Goals as goal

pub returns-in-Ok-clause-ok : goal.returns-in-Ok-clause-ok
returns-in-Ok-clause-ok c = value_of_utf8 _ _ c.in-Ok.ensures.ok.0 c.in-Ok.ensures.ok.1

pub returns-in-Err-2-clause-fault : goal.returns-in-Err-2-clause-fault
returns-in-Err-2-clause-fault c h = (refl, value_of_none _ (c.in-Err.ensures.err (λ memory. let was : c.is_memory.result ≡ true = c.is_memory.ensures.1 memory in cc)))
