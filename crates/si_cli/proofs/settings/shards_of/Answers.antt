use Rattle.std.proofs.Common.{◌∙◌, ◌≤◌, codes, sym, subst}
use Rattle.std.specs.Option.{IfSome}
use Rattle.clap.specs.Words.{found_of, rows_of}
use Rattle.si_shard.specs.declared.shards.TheConstants.{MOST_SHARDS}
use Rattle.si_cli.proofs.GivenValues.{number_within}
use Rattle.si_cli.proofs.settings.shards_of.Goals as goal

pub number_of-requires : goal.number_of-requires
number_of-requires c = (1, MOST_SHARDS, c.requires.shards)

pub returns-in-Some-clause-range : goal.returns-in-Some-clause-range
returns-in-Some-clause-range c =
    let rows = rows_of (found_of c.args.check.now) in
    subst (λ o. IfSome o (λ n. (1 ≤ n) × (n ≤ MOST_SHARDS))) (sym c.number_of.ensures ∙ c.in-Some.is) (number_within (codes "shards") 1 MOST_SHARDS rows c.requires.shards)
