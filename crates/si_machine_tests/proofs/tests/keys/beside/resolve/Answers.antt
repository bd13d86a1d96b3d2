use Rattle.std.proofs.Common.{rules, ◌∙◌, sym, subst}
use Rattle.si_model.specs.declared.edits.Edit.TheVariants as edit
use Rattle.si_model.specs.History.{IsOfHistory}
use Rattle.si_model.specs.Parts.{Present, on_key}
use Rattle.si_judge.specs.States.{HasPart, IsMended}
use Rattle.si_judge.specs.Touched.{IsTouched}
use Rattle.si_judge.proofs.Following.{edited_history, edited_state, others_pass, part_moved, resolution_is, resolutions_follow, same_back, same_state}
use Rattle.si_machine_tests.proofs.tests.keys.beside.resolve.Goals as goal

pub resolve-requires : goal.resolve-requires
resolve-requires c =
    let P : Present = record { txns = c.args.txns.now; initial = c.args.initial.now } in
    let Q = c.args.state.now.present in
    let had : HasPart (on_key c.args.key.now P) c.args.id = search rules in
    λ e. (
      resolutions_follow P c.args.id c.args.outcome c.args.key.now Q c.requires.history c.requires.acceptable c.requires.state.same
          (part_moved (on_key c.args.key.now P) Q c.args.id c.requires.state.same had),
      subst IsOfHistory (resolution_is c.args.key.now c.args.id c.args.outcome Q)
          (edited_history P (edit.Resolve c.args.id c.args.outcome) c.args.key.now c.args.state.now c.requires.history c.requires.acceptable c.requires.state),
    )

pub returns-in_ok-resolve : goal.returns-in_ok-resolve
returns-in_ok-resolve c =
    let P : Present = record { txns = c.args.txns.now; initial = c.args.initial.now } in
    let Touched = IsTouched c.args.state.now.present c.resolve.new.self.present c.args.id in
    edited_state P (edit.Resolve c.args.id c.args.outcome) c.args.key.now Touched c.args.state.now c.resolve.new.self c.requires.history c.requires.acceptable c.requires.state
    (subst (λ R. IsMended Touched R c.args.state.now c.resolve.new.self) (sym (resolution_is c.args.key.now c.args.id c.args.outcome c.args.state.now.present)) c.in_ok-resolve.ensures.ok)

pub returns-else-branch : goal.returns-else-branch
returns-else-branch c =
    let P : Present = record { txns = c.args.txns.now; initial = c.args.initial.now } in
    let Q = c.args.state.now.present in
    let none : HasPart (on_key c.args.key.now P) c.args.id → ⊥ = search rules in
    same_state P (edit.Resolve c.args.id c.args.outcome) c.args.key.now c.args.state.now c.requires.history c.requires.acceptable c.requires.state
    (resolution_is c.args.key.now c.args.id c.args.outcome Q
    ∙ others_pass.resolution c.args.id c.args.outcome Q (λ had. none (part_moved Q (on_key c.args.key.now P) c.args.id (same_back (on_key c.args.key.now P) Q c.requires.state.same) had)))
