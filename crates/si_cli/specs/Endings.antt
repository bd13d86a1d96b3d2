-- How the program ends, by what its words ask for.
use Rattle.std.specs.Prelude.{ℕ, Bool, true, false, List}
use Rattle.clap.specs.Words.{Text}
use Rattle.si_text.specs.Devices.{Input, Lent, Output}
use Rattle.si_cli.specs.Judges.{EndsEvidence, EndsKeyless, asks_for_help, is_about_evidence}
use Rattle.si_cli.specs.Programs.{EndsChecker, EndsCheckerWithoutKey, Files}

-- the words ask for the check of evidence, or for anything else
abbrev pub EndsBy : Bool → List Text → Lent Input → Files → Lent Output → Lent Output → ℕ → Type 0
EndsBy true words input files out err result = EndsEvidence (asks_for_help words) words input files out err result
EndsBy false words input files out err result = EndsChecker words input files out err result

-- how the program ends
abbrev pub EndsProgram : List Text → Lent Input → Files → Lent Output → Lent Output → ℕ → Type 0
EndsProgram words input files out err result = EndsBy (is_about_evidence words) words input files out err result

-- the same where no secret key could be drawn
abbrev pub EndsKeylessBy : Bool → List Text → Lent Output → Lent Output → ℕ → Type 0
EndsKeylessBy true words out err result = EndsKeyless (asks_for_help words) out err result
EndsKeylessBy false words out err result = EndsCheckerWithoutKey words out err result

abbrev pub EndsWithoutKey : List Text → Lent Output → Lent Output → ℕ → Type 0
EndsWithoutKey words out err result = EndsKeylessBy (is_about_evidence words) words out err result
