use Rattle.std.proofs.Common.{◌≤◌, ◌+◌, arith, length, sym, subst}
use Rattle.si_words.specs.Entries.{edits_of}
use Rattle.si_shard.specs.ToldEdits.{AreTold}
use Rattle.si_checker.proofs.Covering.{told_from}
use Rattle.si_checker.proofs.locked_books.LockedBook.copy.Goals as goal

pub returns-clause-edits : goal.returns-clause-edits
returns-clause-edits g c =
    let journal = edits_of c.args.self.now.journal in
    let block = c.in_ok-block.block in
    let p = c.args.position in
    let said = c.in_ok-copied.ensures in
    let high : p ≤ block.first + length block.edits = (let some = said.some in omega arith) in
    subst (AreTold journal p) (sym said.edits) (told_from journal block.first p block.edits c.in_ok-block.ensures.block.told said.begins high)
