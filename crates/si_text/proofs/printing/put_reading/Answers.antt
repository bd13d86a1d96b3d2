use Rattle.std.proofs.Common.{append_assoc}
use Rattle.si_text.proofs.Appended.{then}
use Rattle.si_text.proofs.printing.put_reading.Goals as goal

pub returns-in-None : goal.returns-in-None
returns-in-None c =
    rw c.in-None.is (simp append_assoc (simp append_assoc at (then c.in_ok-put_key.ensures (then c.in_ok-put_number.ensures (then c.in_ok-put_number-2.ensures c.put.ensures)))))

pub returns-in-Some : goal.returns-in-Some
returns-in-Some c =
    rw c.in-Some.is (simp append_assoc (simp append_assoc at (then c.in_ok-put_key.ensures (then c.in_ok-put_number.ensures (then c.in_ok-put_number-2.ensures c.put_number-in-Some.ensures)))))
