use Rattle.std.proofs.Common.{sym, ap, ◌∙◌}
use Rattle.si_intake.proofs.Taking.{view_after, one_unended, counted_last, counted_line, below_after}
use Rattle.si_intake.proofs.accepters.Accepter.next.Goals as goal

pub overflow_sub-self : goal.overflow_sub-self
overflow_sub-self g c = let i = c.self.invariant in one_unended _ _ _ _ _ i.1 i.2 i.3 c.take-item.ensures.taken

pub invariant_of-self : goal.invariant_of-self
invariant_of-self g c =
    let i = c.self.invariant in
    let own = c.take-item.ensures.own in
    let taken = c.take-item.ensures.taken in (
      (own.0 ∙ ap (λ h. h.queue.table.shared.table_id) c.deref.ensures, own.1),
      view_after _ _ _ _ _ i.1 i.2 i.3 taken,
      counted_last _ _ _ _ _ i.1 i.2 i.3 taken (sym c.is_last.ensures ∙ c.if-is_last.true),
      below_after _ _ _ _ _ i.1 i.2 i.3 taken,
    )

pub invariant_of-self-else-is_last : goal.invariant_of-self-else-is_last
invariant_of-self-else-is_last g c =
    let i = c.self.invariant in
    let own = c.take-item.ensures.own in
    let taken = c.take-item.ensures.taken in (
      (own.0 ∙ ap (λ h. h.queue.table.shared.table_id) c.deref.ensures, own.1),
      view_after _ _ _ _ _ i.1 i.2 i.3 taken,
      counted_line _ _ _ _ _ i.1 i.2 i.3 taken (sym c.is_last.ensures ∙ c.if-is_last.false),
      below_after _ _ _ _ _ i.1 i.2 i.3 taken,
    )
