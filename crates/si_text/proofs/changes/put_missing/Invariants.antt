use Rattle.std.proofs.Common.{◌≡◌, ◌≤◌, ◌++◌, All, length, take}
use Rattle.std.specs.List.{AllWithin, flat_map}
use Rattle.std.specs.declared.cmp.Ordering.TheVariants.{Less}
use Rattle.si_model.specs.Order.{finding_cmp}
use Rattle.si_text.specs.Printing.{change_text}
use Rattle.si_text.specs.Texts.{not_among}
use Rattle.si_text.proofs.changes.put_missing.Given as goal

-- what was passed of the others comes before all findings that are left
abbrev pub invariant-loop-finding : goal.invariant-loop-finding
invariant-loop-finding l = record {
  within : l.place ≤ length l.others;
  before : AllWithin (λ f. All (λ other. finding_cmp other f ≡ Less) (take l.place l.others)) l.findings l.finding-index (length l.findings);
  text : l.out.items ≡ l.fn.out.items ++ flat_map (change_text l.change) (not_among l.others (take l.finding-index l.findings));
}
