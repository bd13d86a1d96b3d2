use Rattle.std.proofs.Common.{take, drop, Some, sym, subst}
use Rattle.std.proofs.lemmas.List.{take-append-drop}
use Rattle.si_accept.specs.Writers.{AreFree}
use Rattle.si_accept.proofs.WriterChanges.{undone, free_of_some}
use Rattle.si_accept.proofs.writers.Writers.add_all.Goals as goal

pub returns-in-Err-clause-err : goal.returns-in-Err-clause-err
returns-in-Err-clause-err c =
    let done = take c.loop-place.place c.args.ops.now in
    let rest = drop c.loop-place.place c.args.ops.now in
    undone done (Some c.args.id) c.args.self.now c.loop-place.self c.add.new.self c.remove_all.new.self
    (free_of_some done rest c.args.self.now (subst (λ ps. AreFree ps c.args.self.now) (sym (take-append-drop c.loop-place.place c.args.ops.now)) c.requires))
    c.loop-place.invariant c.in-Err.ensures.err c.remove_all.ensures
