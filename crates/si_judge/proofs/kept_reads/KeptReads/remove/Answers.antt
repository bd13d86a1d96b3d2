use Rattle.std.proofs.Common.{None, subst, sym}
use Rattle.std.specs.List.Sorted.{IsStrictlySortedBy}
use Rattle.si_judge.specs.KeptReads.{SetsOwn, kept_read_cmp, with_own}
use Rattle.si_judge.proofs.OwnApart.{both_set, fewer_reads, keys_with_own}
use Rattle.si_judge.proofs.kept_reads.KeptReads.remove.Goals as goal

pub returns-clause-value : goal.returns-clause-value
returns-clause-value c = subst (λ l. SetsOwn c.args.reader None l (with_own c.forget_own.new.own c.remove.new.self)) c.self.view_is
    (both_set c.args.reader None None c.self.inside.all c.remove.new.self c.self.inside.own c.forget_own.new.own c.remove.ensures.sets c.forget_own.ensures)

pub returns-clause-ordered : goal.returns-clause-ordered
returns-clause-ordered c = subst (IsStrictlySortedBy kept_read_cmp) (sym (keys_with_own c.forget_own.new.own c.remove.new.self)) c.remove.ensures.rising

pub invariant_of-self : goal.invariant_of-self
invariant_of-self c = fewer_reads c.args.reader c.self.inside.own c.forget_own.new.own c.self.inside.all c.remove.new.self c.remove.ensures.sets c.forget_own.ensures c.self.invariant
