use Rattle.std.proofs.Common.{◌<◌, length, sym, subst, arith}
use Rattle.std.specs.Result.{is_ok}
use Rattle.si_words.specs.declared.views.BookView.{BookView}
use Rattle.si_words.specs.Entries.{edits_of}
use Rattle.si_checker.specs.Blocks.{IsBlockOf}
use Rattle.si_checker.specs.LockedBooks.{IsLockedBook}
use Rattle.si_checker.specs.declared.locked_books.LockedBook.TheInside.{Inside}
use Rattle.si_checker.proofs.Covering.{room_made, with_block, without_oldest}
use Rattle.si_checker.proofs.locked_books.LockedBook.keep.Goals as goal
use Rattle.si_checker.proofs.locked_books.LockedBook.keep.Goals.{then-len-ge-MOST_BLOCKS, else-len-ge-MOST_BLOCKS}

pub invariant_of-self : goal.invariant_of-self
invariant_of-self g c =
    let board = g.N.Name.board in
    let limit = g.N.Name.limit in
    let block = c.args.block in
    let first = c.self.inside in
    let here = c.if-len-ge-MOST_BLOCKS.self-inside in
    let P : Inside g.row.N.Denot → Type 0 = λ d. IsLockedBook board limit d.book d.blocks.items d.seat × (length d.blocks.items < 16)
    × IsBlockOf (edits_of d.seat.view.journal) block in
    let part = subst (λ (v : BookView). IsBlockOf (edits_of v.journal) block) (sym c.self.view_is) c.requires in
    let before : P here = elim c.if-len-ge-MOST_BLOCKS.branch [
      | then-len-ge-MOST_BLOCKS w ↦
          let some : 0 < length first.blocks.items = omega (arith, w.if-len-ge-MOST_BLOCKS.true, c.len.ensures) in
          let less = subst (λ l. IsLockedBook board limit first.book l first.seat) (sym w.remove.ensures.items) (without_oldest board limit first.book first.blocks.items first.seat c.self.invariant some) in
          let few = subst (λ l. length l < 16) (sym w.remove.ensures.items) (room_made board limit first.book first.blocks.items first.seat c.self.invariant some) in
          subst P (sym w.self-inside-is) (less, few, part)
      | else-len-ge-MOST_BLOCKS w ↦ subst P (sym w.self-inside-is) (c.self.invariant, omega (arith, w.if-len-ge-MOST_BLOCKS.false, c.len.ensures), part)
    ] in
    with_block board limit here.book here.blocks.items here.seat before.0 c.push.new.self.items block (is_ok c.push.result) before.1 before.2 c.push.ensures.items
