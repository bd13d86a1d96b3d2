use Rattle.std.proofs.Common.{rules, ◌≡◌, ◌∙◌, true, false, cond, sym, ap, subst}
use Rattle.si_model.specs.declared.edits.Edit.TheVariants as edit
use Rattle.si_model.specs.History.{IsOfHistory}
use Rattle.si_model.specs.KeyEdits.{set_up_on}
use Rattle.si_model.specs.Operations.{same_key}
use Rattle.si_model.specs.Parts.{Present}
use Rattle.si_model.specs.Edits.{IsAcceptable}
use Rattle.si_model.proofs.Equalities.{same_key_is}
use Rattle.si_judge.specs.States.{IsMended}
use Rattle.si_judge.specs.Touched.{IsTouchedBySetUp}
use Rattle.si_judge.proofs.Following.{edited_history, edited_state, same_state, set_up_is, set_ups_follow}
use Rattle.si_machine_tests.proofs.tests.keys.beside.set_up.Goals as goal

pub set_up-requires : goal.set_up-requires
set_up-requires c =
    let P : Present = record { txns = c.args.txns.now; initial = c.args.initial.now } in
    let Q = c.args.state.now.present in
    let same : same_key c.args.other.now c.args.key.now ≡ true = search rules in
    let is = set_up_is c.args.key.now c.args.other.now c.args.value Q ∙ ap (λ b. cond b (set_up_on c.args.value Q) Q) same in
    λ e. (
      set_ups_follow P c.args.key.now c.args.value Q
          (subst (λ y. IsAcceptable P (edit.SetUp y c.args.value)) (same_key_is c.args.other.now c.args.key.now same) c.requires.acceptable) c.requires.state.same,
      subst IsOfHistory is (edited_history P (edit.SetUp c.args.other.now c.args.value) c.args.key.now c.args.state.now c.requires.history c.requires.acceptable c.requires.state),
    )

pub returns-in_ok-set_up : goal.returns-in_ok-set_up
returns-in_ok-set_up c =
    let P : Present = record { txns = c.args.txns.now; initial = c.args.initial.now } in
    let Q = c.args.state.now.present in
    let same : same_key c.args.other.now c.args.key.now ≡ true = search rules in
    let is = set_up_is c.args.key.now c.args.other.now c.args.value Q ∙ ap (λ b. cond b (set_up_on c.args.value Q) Q) same in
    let Touched = IsTouchedBySetUp c.set_up.new.self.present c.args.value in
    edited_state P (edit.SetUp c.args.other.now c.args.value) c.args.key.now Touched c.args.state.now c.set_up.new.self c.requires.history c.requires.acceptable c.requires.state
    (subst (λ R. IsMended Touched R c.args.state.now c.set_up.new.self) (sym is) c.in_ok-set_up.ensures.ok)

pub returns-else-eq : goal.returns-else-eq
returns-else-eq c =
    let P : Present = record { txns = c.args.txns.now; initial = c.args.initial.now } in
    let Q = c.args.state.now.present in
    let other : same_key c.args.other.now c.args.key.now ≡ false = search rules in
    same_state P (edit.SetUp c.args.other.now c.args.value) c.args.key.now c.args.state.now c.requires.history c.requires.acceptable c.requires.state
    (set_up_is c.args.key.now c.args.other.now c.args.value Q ∙ ap (λ b. cond b (set_up_on c.args.value Q) Q) other)
