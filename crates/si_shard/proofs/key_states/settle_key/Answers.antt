use Rattle.std.proofs.Common.{rules, ◌≡◌, Some}
use Rattle.std.specs.HashMap.{Updates, get}
use Rattle.si_model.specs.Operations.{same_key}
use Rattle.si_shard.proofs.Noted.{keeps_all}
use Rattle.si_shard.proofs.OnKeys.{settled_key}
use Rattle.si_shard.proofs.key_states.settle_key.Goals as goal

pub returns-in_ok-set_found-clause-settled : goal.returns-in_ok-set_found-clause-settled
returns-in_ok-set_found-clause-settled c =
    let x = c.args.key.now in
    let old = c.args.states.now in
    let k = c.settle.new.kept in
    let there : get same_key old x ≡ Some c.in-Some.kept.now = search rules in
    let states : Updates same_key old (c.get_mut.follows.lender k) x (Some k) = search rules in
    settled_key x old (c.get_mut.follows.lender k) c.args.found.now c.set_found.new.found c.in-Some.kept.now k c.has_findings.result there states c.in_ok-settle.ensures.key c.in_ok-settle.ensures.marks
    c.in_ok-settle.ensures.ok c.has_findings.ensures.found c.has_findings.ensures.rising c.in_ok-set_found.ensures

pub returns-in_ok-set_found-clause-noted : goal.returns-in_ok-set_found-clause-noted
returns-in_ok-set_found-clause-noted c =
    let x = c.args.key.now in
    let old = c.args.states.now in
    let k = c.settle.new.kept in
    let there : get same_key old x ≡ Some c.in-Some.kept.now = search rules in
    let states : Updates same_key old (c.get_mut.follows.lender k) x (Some k) = search rules in
    keeps_all x (Some c.in-Some.kept.now) (Some k) c.args.notes.now c.settle.new.self old (c.get_mut.follows.lender k) there states.0 c.in_ok-settle.ensures.noted
