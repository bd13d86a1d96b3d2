use Rattle.std.proofs.Common.{◌+◌, ◌≤◌, length, arith}
use Rattle.std.proofs.lemmas.List.{drop_all}
use Rattle.si_text.proofs.MemoryReads.{given_piece}
use Rattle.si_text.proofs.memory.MemorySourceByteSource.read.Goals as goal

pub returns-clause-bytes : goal.returns-clause-bytes
returns-clause-bytes c =
    let least = c.min.ensures in
    let least_count = c.min-count.ensures in
    let room = c.len.ensures in
    let value = c.deref.ensures.value in
    let inside : c.args.self.now.given + c.min-count.result ≤ length c.args.self.now.bytes.items = omega (arith, c.args.self.now.bytes.ok.0, c.args.self.now.within) in (
      given_piece _ _ _ _ _ inside (rw value at c.copy_from_slice.ensures.after),
      λ none some. drop_all (c.args.self.now.given + c.min-count.result) c.args.self.now.bytes.items (omega (arith, c.args.self.now.bytes.ok.0, c.args.self.now.within, c.args.self.now.some, c.requires, c.copy_from_slice.ensures.len)),
    )
