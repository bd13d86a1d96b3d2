use Rattle.std.proofs.Common.{rules, false, subst, sym, true}
use Rattle.std.specs.BTreeSet.{Updates}
use Rattle.std.specs.Cmp.Lexicographic.{slice_cmp}
use Rattle.std.specs.Ordering.{nat_cmp}
use Rattle.si_shard.specs.KeyStates.{IsToldAt}
use Rattle.si_shard.proofs.OnKeys.{found_set}
use Rattle.si_shard.proofs.key_states.set_found.Goals as goal

pub returns-in_ok-insert : goal.returns-in_ok-insert
returns-in_ok-insert c =
    let updates : Updates (slice_cmp nat_cmp) c.args.found.now c.insert.new.self c.args.key.now true = search rules in
    subst (λ b. IsToldAt c.args.key.now b c.args.found.now c.insert.new.self) (sym c.if-has_findings.true) (found_set c.args.key.now c.args.found.now c.insert.new.self true updates)

pub returns-else-has_findings : goal.returns-else-has_findings
returns-else-has_findings c =
    let updates : Updates (slice_cmp nat_cmp) c.args.found.now c.remove.new.self c.args.key.now false = search rules in
    subst (λ b. IsToldAt c.args.key.now b c.args.found.now c.remove.new.self) (sym c.if-has_findings.false) (found_set c.args.key.now c.args.found.now c.remove.new.self false updates)
