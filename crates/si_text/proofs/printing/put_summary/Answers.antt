use Rattle.std.proofs.Common.{append_assoc}
use Rattle.si_text.proofs.Appended.{then}
use Rattle.si_text.proofs.printing.put_summary.Goals as goal

pub returns : goal.returns
returns c =
    simp append_assoc (simp (append_assoc, c.word.ensures) at (then c.in_ok-put_number.ensures (then c.in_ok-put_number-2.ensures (then c.in_ok-put_number-3.ensures
    (then c.in_ok-put.ensures (then c.in_ok-put-2.ensures c.put-3.ensures))))))
