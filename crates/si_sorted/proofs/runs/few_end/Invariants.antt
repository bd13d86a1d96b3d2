use Rattle.std.proofs.Common.{◌≡◌, ◌≤◌, ◌<◌, ℕ, false, get_or}
use Rattle.std.specs.BTreeMap.Range.{is_past_end}
use Rattle.si_sorted.proofs.runs.few_end.Given as goal

abbrev pub invariant-loop-to : goal.invariant-loop-to
invariant-loop-to g l = (j : ℕ) (d : _) → l.from ≤ j → j < l.to → is_past_end g.K.Ord.cmp l.high (get_or l.entries j d).0 ≡ false
