use Rattle.std.proofs.Common.{◌≤◌, ◌+◌, All, arith, length, sym, subst}
use Rattle.si_words.specs.declared.views.BookView.{BookView}
use Rattle.si_words.specs.Entries.{edits_of}
use Rattle.si_shard.specs.ToldEdits.{AreTold}
use Rattle.si_checker.specs.Blocks.{IsBlockOf}
use Rattle.si_checker.proofs.Covering.{told_from}
use Rattle.si_checker.proofs.locked_books.LockedBook.kept_from.Goals as goal

pub returns-in-Some-clause-edits : goal.returns-in-Some-clause-edits
returns-in-Some-clause-edits g c =
    let journal = edits_of c.self.inside.seat.view.journal in
    let block = c.block-item.result in
    let p = c.args.position in
    let all = subst (All (IsBlockOf journal)) (sym c.deref-block-items.ensures.value) c.self.invariant.parts in
    let is = subst (IsBlockOf journal) (sym c.block-item.is) (all c.loop-block.block-index block c.loop-block-test.true) in
    let said = c.in-Some.ensures in
    let high : p ≤ block.first + length block.edits = (let some = said.some in omega arith) in
    subst (λ (v : BookView). AreTold (edits_of v.journal) p c.in-Some.copied) c.self.view_is
    (subst (AreTold journal p) (sym said.edits) (told_from journal block.first p block.edits is.told said.begins high))
