use Rattle.std.proofs.Common.{rules, ◌≡◌, sym, subst}
use Rattle.si_model.specs.Edits.{IsAcceptable, after}
use Rattle.si_model.specs.History.{IsHistory}
use Rattle.si_model.specs.Parts.{Present}
use Rattle.si_model.proofs.PresentHistories.{acceptance_exact}
use Rattle.si_judge.specs.Following.{IsStateOf}
use Rattle.si_machine_tests.proofs.tests.keys.beside.Beside.give.Goals as goal

pub invariant_of-self-2 : goal.invariant_of-self-2
invariant_of-self-2 g c =
    let P : Present = record { txns = c.self.inside.txns.items; initial = c.self.inside.initial.items } in
    let Q : Present = record { txns = c.change.new.txns.items; initial = c.change.new.initial.items } in
    let h : IsHistory P = search rules in
    let acceptable : IsAcceptable P c.args.edit.now = search rules in
    let is : IsStateOf (after c.args.edit.now P) c.self.inside.key c.follow.new.state = search rules in
    let changed : Q ≡ after c.args.edit.now P = search rules in
    λ e. (
      subst IsHistory (sym changed) ((acceptance_exact P c.args.edit.now h).0 acceptable).1,
      subst (λ R. IsStateOf R c.self.inside.key c.follow.new.state) (sym changed) is,
    )
