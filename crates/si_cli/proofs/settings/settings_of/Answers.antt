use Rattle.std.proofs.Common.{map}
use Rattle.si_cli.proofs.GivenValues.{reads_fit}
use Rattle.si_cli.proofs.settings.settings_of.Goals as goal

pub read-requires : goal.read-requires
read-requires g c = reads_fit (map g.S.AsStr.text c.args.words.now) _ _ c.in-Ok.ensures.kinds c.in-Ok.ensures.check c.in-Some.ensures.rows
