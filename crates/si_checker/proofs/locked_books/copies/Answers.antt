use Rattle.std.proofs.Common.{◌≡◌, ◌+◌, arith, length, sym, subst}
use Rattle.si_shard.specs.ToldEdits.{AreTold, IsToldAt}
use Rattle.si_checker.proofs.Covering.{told_more}
use Rattle.si_checker.proofs.locked_books.copies.Goals as goal

pub loop-place-preserved : goal.loop-place-preserved
loop-place-preserved c =
    let J = c.args.book.now.journal in
    let from = c.args.from in
    let copies = c.loop-place.copies in
    let copy = c.in-Ok-told_edit.copy in
    let at : from + length copies.items ≡ c.loop-place.place = (let l = copies.ok.0 in let i = c.loop-place.invariant.1 in omega arith) in
    let here = subst (λ p. IsToldAt J p copy) (sym at) c.in-Ok-told_edit.ensures in
    let is = c.in-Ok-push.ensures in
    let one = is.len in (
      subst (AreTold J from) (sym is.items) (told_more J from copies.items copy c.loop-place.invariant.0 here),
      (let i = c.loop-place.invariant.1 in omega arith),
    )
