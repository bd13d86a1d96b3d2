use Rattle.std.proofs.Common.{append_assoc}
use Rattle.si_text.proofs.Appended.{then}
use Rattle.si_text.proofs.shortages.put_short.Goals as goal

pub returns : goal.returns
returns c =
    simp append_assoc (simp (append_assoc, c.least.ensures) at (then c.in_ok-put_number.ensures (then c.in_ok-put_number-2.ensures (then c.in_ok-put_number-3.ensures
    (then c.in_ok-put_ids.ensures c.put.ensures)))))
