use Rattle.si_judge.proofs.Bare.{shows_bare}
use Rattle.si_judge.proofs.key_findings.KeyFindings.new.Goals as goal

pub returns-clause-shows : goal.returns-clause-shows
returns-clause-shows g c = λ M h bare. shows_bare M bare g.J.Judge.rules _ h c.new.ensures.initial c.new.ensures.timeline c.new.ensures.writes c.new.ensures.reads
    c.new-2.ensures.reads c.new-2.ensures.overlaps
