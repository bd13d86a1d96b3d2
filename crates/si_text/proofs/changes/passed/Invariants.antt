use Rattle.std.proofs.Common.{◌≡◌, ◌≤◌, ◌-◌, All, length, take}
use Rattle.std.specs.declared.cmp.Ordering.TheVariants.{Less}
use Rattle.si_model.specs.Order.{finding_cmp}
use Rattle.si_text.proofs.changes.passed.Given as goal

-- all that was passed comes before the finding, if what was passed before does
abbrev pub invariant-loop-at : goal.invariant-loop-at
invariant-loop-at l = record {
  within : l.at ≤ length l.findings;
  before : All (λ f. finding_cmp f l.finding ≡ Less) (take l.place l.findings) → All (λ f. finding_cmp f l.finding ≡ Less) (take l.at l.findings);
}

abbrev pub decreases-loop-at : goal.decreases-loop-at
decreases-loop-at l = length l.findings - l.at
