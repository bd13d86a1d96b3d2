use Rattle.std.proofs.Common.{Some, subst, sym}
use Rattle.std.specs.List.Sorted.{IsStrictlySortedBy}
use Rattle.si_judge.specs.KeptReads.{AreOfKeptReads, SetsOwn, kept_read_cmp, with_own}
use Rattle.si_judge.proofs.OwnApart.{both_set, keys_with_own, more_reads}
use Rattle.si_judge.proofs.kept_reads.KeptReads.insert.Goals as goal

pub returns-clause-value : goal.returns-clause-value
returns-clause-value c = subst (λ l. SetsOwn c.args.reader (Some c.args.own) l (with_own c.set_own.new.own c.insert.new.self)) c.self.view_is
    (both_set c.args.reader (Some tt) c.args.own c.self.inside.all c.insert.new.self c.self.inside.own c.set_own.new.own c.in_ok-insert.ensures.sets c.in_ok-set_own.ensures.ok)

pub returns-clause-ordered : goal.returns-clause-ordered
returns-clause-ordered c = subst (IsStrictlySortedBy kept_read_cmp) (sym (keys_with_own c.set_own.new.own c.insert.new.self)) c.in_ok-insert.ensures.rising

pub invariant_of-self-in_err-set_own : goal.invariant_of-self-in_err-set_own
invariant_of-self-in_err-set_own c = subst (λ own. AreOfKeptReads own c.insert.new.self) (sym c.in_err-set_own.ensures.err)
    (more_reads c.args.reader tt c.self.inside.own c.self.inside.all c.insert.new.self c.in_ok-insert.ensures.sets c.self.invariant)
