use Rattle.std.proofs.Common.{subst}
use Rattle.si_judge.specs.Mending.{HasCome, found_by}
use Rattle.si_judge.proofs.key_findings.add.Goals as goal

pub come-requires-clause-fits : goal.come-requires-clause-fits
come-requires-clause-fits g c = c.requires

pub returns-clause-judged : goal.returns-clause-judged
returns-clause-judged g c = λ R is. record {
  others = c.in_ok-others.others.items;
  touched = c.in_ok-others.ensures;
  come = subst (λ l. HasCome g.J.Judge.rules c.args.part.now R c.come.new.indexes l (found_by g.J.Judge.answers c.args.judgements.now) (found_by g.J.Judge.answers c.come.new.judgements))
      c.as_slice-2.ensures.value (c.in_ok-come.ensures.judged R is);
}
