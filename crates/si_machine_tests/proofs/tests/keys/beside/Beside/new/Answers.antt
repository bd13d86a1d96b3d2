use Rattle.std.proofs.Common.{rules, ◌≡◌}
use Rattle.si_model.specs.Journals.{nothing}
use Rattle.si_model.specs.Parts.{Present}
use Rattle.si_judge.proofs.Following.{nothing_state}
use Rattle.si_machine_tests.proofs.tests.keys.beside.Beside.new.Goals as goal

pub invariant_of-result : goal.invariant_of-result
invariant_of-result c =
    let P : Present = record { txns = c.new-3.result.items; initial = c.new-4.result.items } in
    let is : P ≡ nothing = search rules in
    λ e. nothing_state P c.args.key c.new-2.result is (search rules) (search rules) (search rules)
