-- The command line is one of those that clap's definition covers.
use Rattle.std.proofs.Common.{◌≡◌, true, refl}
use Rattle.clap.specs.Faults.{is_simple_and_free}
use Rattle.clap.specs.Words.{is_simple}
use Rattle.clap.proofs.OnLiterals.{clap_on_literals}
use Rattle.si_cli.specs.CommandLines.{sicheck_app}

pub simple : is_simple sicheck_app ≡ true
unfolding clap_on_literals
simple = refl

pub simple_and_free : is_simple_and_free sicheck_app ≡ true
unfolding clap_on_literals
simple_and_free = refl
