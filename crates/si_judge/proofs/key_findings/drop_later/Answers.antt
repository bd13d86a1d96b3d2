use Rattle.std.proofs.Common.{subst}
use Rattle.si_judge.specs.Mending.{HasGone, found_by}
use Rattle.si_judge.proofs.key_findings.drop_later.Goals as goal

pub returns-clause-judged : goal.returns-clause-judged
returns-clause-judged g c = λ R is. record {
  others = c.in_ok-reads.ensures.0;
  touched = c.in_ok-reads.ensures.1;
  judged = c.in_ok-reads.reads.items;
  gathered = c.in_ok-reads.ensures.2;
  gone = subst (λ l. HasGone g.J.Judge.rules c.args.part.now R c.args.indexes.now l (found_by g.J.Judge.answers c.args.judgements.now) (found_by g.J.Judge.answers c.leave.new.judgements))
      c.as_slice.ensures.value (c.in_ok-leave.ensures.judged R is);
}
