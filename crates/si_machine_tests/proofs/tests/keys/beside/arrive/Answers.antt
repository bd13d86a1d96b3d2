use Rattle.std.proofs.Common.{rules, ◌≡◌, Some, None, sym, subst}
use Rattle.si_model.specs.declared.edits.Edit.TheVariants as edit
use Rattle.si_model.specs.History.{IsOfHistory}
use Rattle.si_model.specs.Parts.{Present, part}
use Rattle.si_judge.specs.States.{IsMended}
use Rattle.si_judge.specs.Touched.{IsTouched}
use Rattle.si_judge.proofs.Following.{arrival_is, edited_history, edited_state, same_state}
use Rattle.si_machine_tests.proofs.tests.keys.beside.arrive.Goals as goal

pub arrive-requires : goal.arrive-requires
arrive-requires c =
    let P : Present = record { txns = c.args.txns.now; initial = c.args.initial.now } in
    let there : part c.args.key.now c.args.txn.now ≡ Some c.in-Some.part = search rules in
    λ e. subst IsOfHistory (arrival_is c.args.key.now c.args.txn.now c.args.state.now.present (Some c.in-Some.part) there)
    (edited_history P (edit.Arrive c.args.txn.now) c.args.key.now c.args.state.now c.requires.history c.requires.acceptable c.requires.state)

pub returns-in_ok-arrive : goal.returns-in_ok-arrive
returns-in_ok-arrive c =
    let P : Present = record { txns = c.args.txns.now; initial = c.args.initial.now } in
    let there : part c.args.key.now c.args.txn.now ≡ Some c.in-Some.part = search rules in
    edited_state P (edit.Arrive c.args.txn.now) c.args.key.now (IsTouched c.args.state.now.present c.arrive.new.self.present c.in-Some.part.id) c.args.state.now c.arrive.new.self
    c.requires.history c.requires.acceptable c.requires.state
    (subst (λ Q. IsMended (IsTouched c.args.state.now.present c.arrive.new.self.present c.in-Some.part.id) Q c.args.state.now c.arrive.new.self)
    (sym (arrival_is c.args.key.now c.args.txn.now c.args.state.now.present (Some c.in-Some.part) there)) c.in_ok-arrive.ensures.ok)

pub returns-in_default : goal.returns-in_default
returns-in_default c =
    let P : Present = record { txns = c.args.txns.now; initial = c.args.initial.now } in
    let absent : part c.args.key.now c.args.txn.now ≡ None = search rules in
    same_state P (edit.Arrive c.args.txn.now) c.args.key.now c.args.state.now c.requires.history c.requires.acceptable c.requires.state
    (arrival_is c.args.key.now c.args.txn.now c.args.state.now.present None absent)
