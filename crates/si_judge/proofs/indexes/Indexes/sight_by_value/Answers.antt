use Rattle.std.proofs.Common.{◌≡◌, ◌∙◌, if◌then◌else◌, ap}
use Rattle.std.specs.Option.{option_eq}
use Rattle.si_model.specs.declared.sights.Source.TheVariants as source
use Rattle.si_model.specs.Operations.{same_value}
use Rattle.si_model.specs.Reads.{missed_of, version_of}
use Rattle.si_judge.specs.Sights.{source_in}
use Rattle.si_judge.proofs.indexes.Indexes.sight_by_value.Goals as goal

pub returns-clause-seen : goal.returns-clause-seen
returns-clause-seen c = λ M is.
    let p = c.args.read in
    let ix = c.args.self.now in
    let from : c.source_of-source.result ≡ source_in ix p.0.value = c.source_of-source.ensures
    ∙ ap (λ s. if option_eq same_value p.0.value ix.initial then source.Initial else s) (c.told_of-told.ensures.source M is) in
    let later = c.told_of-told.ensures.later M is in
    let missed = c.missed_at.ensures M is ∙ ap (λ s. missed_of M.parts p.0.start (version_of s)) from in
    λ k. record {
      txn = p.0.txn;
      op = p.0.place;
      start = p.0.start;
      read = p.0.value;
      own = p.1;
      later = later k;
      source = from k;
      missed = missed k;
    }
