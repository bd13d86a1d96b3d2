-- A short text is UTF-8, so it can be read as text.
use Rattle.std.proofs.Common.{subst}
use Rattle.std.proofs.lemmas.Grind.{not_there}
use Rattle.si_model.specs.Keys.{IsWhole}
use Rattle.si_model.proofs.keys.Text.as_str.Goals as goal

pub unreachable-requires : goal.unreachable-requires
unreachable-requires c = not_there (subst IsWhole c.in-Short.is c.requires).1 c.in-Err.ensures.cases.0
