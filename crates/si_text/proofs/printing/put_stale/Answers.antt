use Rattle.std.proofs.Common.{append_assoc}
use Rattle.si_text.proofs.Appended.{then}
use Rattle.si_text.proofs.printing.put_stale.Goals as goal

pub returns : goal.returns
returns c = simp append_assoc (simp append_assoc at (then c.in_ok-put_reading.ensures c.put_number.ensures))
