use Rattle.std.proofs.Common.{rules, ◌∙◌, sym, subst}
use Rattle.si_model.specs.declared.edits.Edit.TheVariants as edit
use Rattle.si_model.specs.Parts.{Present, on_key}
use Rattle.si_judge.specs.States.{HasPart, IsMended}
use Rattle.si_judge.specs.Touched.{IsTouched}
use Rattle.si_judge.proofs.Following.{edited_state, others_pass, part_moved, same_back, same_state, withdrawal_is}
use Rattle.si_machine_tests.proofs.tests.keys.beside.withdraw.Goals as goal

pub withdraw-requires : goal.withdraw-requires
withdraw-requires c =
    let P : Present = record { txns = c.args.txns.now; initial = c.args.initial.now } in
    let had : HasPart (on_key c.args.key.now P) c.args.id = search rules in
    λ e. part_moved (on_key c.args.key.now P) c.args.state.now.present c.args.id c.requires.state.same had

pub returns-in_ok-withdraw : goal.returns-in_ok-withdraw
returns-in_ok-withdraw c =
    let P : Present = record { txns = c.args.txns.now; initial = c.args.initial.now } in
    let Touched = IsTouched c.args.state.now.present c.withdraw.new.self.present c.args.id in
    edited_state P (edit.Withdraw c.args.id) c.args.key.now Touched c.args.state.now c.withdraw.new.self c.requires.history c.requires.acceptable c.requires.state
    (subst (λ R. IsMended Touched R c.args.state.now c.withdraw.new.self) (sym (withdrawal_is c.args.key.now c.args.id c.args.state.now.present)) c.in_ok-withdraw.ensures.ok)

pub returns-else-branch : goal.returns-else-branch
returns-else-branch c =
    let P : Present = record { txns = c.args.txns.now; initial = c.args.initial.now } in
    let Q = c.args.state.now.present in
    let none : HasPart (on_key c.args.key.now P) c.args.id → ⊥ = search rules in
    same_state P (edit.Withdraw c.args.id) c.args.key.now c.args.state.now c.requires.history c.requires.acceptable c.requires.state
    (withdrawal_is c.args.key.now c.args.id Q
    ∙ others_pass.withdrawal c.args.id Q (λ had. none (part_moved Q (on_key c.args.key.now P) c.args.id (same_back (on_key c.args.key.now P) Q c.requires.state.same) had)))
