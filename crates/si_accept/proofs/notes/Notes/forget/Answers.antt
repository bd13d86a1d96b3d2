use Rattle.std.proofs.Common.{refl, sym}
use Rattle.si_accept.proofs.Noting.{noted_fewer}
use Rattle.si_accept.proofs.notes.Notes.forget.Goals as goal

pub returns-clause-notes : goal.returns-clause-notes
returns-clause-notes c = λ J are many.
    noted_fewer J c.args.self.now (record { alloc = c.args.self.now.alloc; hash = c.args.self.now.hash; older = c.replace.result; newer = c.replace.new.dest; from = c.args.self.now.middle; middle = c.args.edits }) are refl (sym many) c.replace.ensures.value
