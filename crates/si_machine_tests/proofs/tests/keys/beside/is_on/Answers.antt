use Rattle.std.proofs.Common.{rules, ◌≡◌, ◌↔◌, true, Some, None, subst}
use Rattle.std.specs.Option.{is_some}
use Rattle.si_model.specs.Edits.{with_id}
use Rattle.si_model.specs.Parts.{Present, on_key, part}
use Rattle.si_model.proofs.Histories.{id_found}
use Rattle.si_judge.specs.States.{HasPart}
use Rattle.si_judge.proofs.Following.{none_on, part_or_none}
use Rattle.si_machine_tests.proofs.tests.keys.beside.is_on.Goals as goal

pub returns : goal.returns
returns c =
    let P : Present = record { txns = c.args.txns.now; initial = c.args.initial.now } in
    let T = c.in-Some.txn.now in
    let found : with_id P.txns c.args.id ≡ Some T = search rules in
    let there = (id_found P c.args.id T c.requires).0 found in
    let done : part c.args.key.now T ≡ c.in_ok-part_of.field-0 = search rules in
    let or : (is_some c.in_ok-part_of.field-0 ≡ true) ↔ HasPart (on_key c.args.key.now P) c.args.id =
    subst (λ u. (is_some c.in_ok-part_of.field-0 ≡ true) ↔ HasPart (on_key c.args.key.now P) u) there.1 (part_or_none P c.args.key.now T c.in_ok-part_of.field-0 c.requires there.0 done) in
    search rules

pub returns-in_default : goal.returns-in_default
returns-in_default c =
    let P : Present = record { txns = c.args.txns.now; initial = c.args.initial.now } in
    let nobody : with_id P.txns c.args.id ≡ None = search rules in
    let none : HasPart (on_key c.args.key.now P) c.args.id → ⊥ = none_on P c.args.key.now c.args.id nobody in
    search rules
