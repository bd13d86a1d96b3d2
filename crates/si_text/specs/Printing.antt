-- How text is printed: it is appended while memory may be refused, and a key that JSON doesn't escape stands in quotes.
use Rattle.std.specs.Prelude.{◌≡◌, ℕ, List, ◌++◌, length, take, OnOk, Result, Bool, not, ◌&&◌, ◌==◌, nat_le}
use Rattle.si_model.specs.declared.findings.Finding.{Finding}
use Rattle.si_text.specs.declared.changes.Change.{Change}
use Rattle.si_text.specs.declared.changes.Change.TheVariants.{Came, Went}
use Rattle.si_text.specs.Texts.{finding_lines, gone_text}

-- the text stands behind the old bytes; where memory was refused they are still there, whatever was written of the text
pub record Appends {A E : Type 0} (result : Result A E) (old new text : List ℕ) : Type 0 where
  pub whole : OnOk result (new ≡ old ++ text)
  pub begins : take (length old) new ≡ old

-- a byte that stands for itself in a JSON string: no control character, quote or backslash
abbrev pub is_plain : ℕ → Bool
is_plain byte = nat_le 32 byte && not (byte == 34) && not (byte == 92)

-- what is told of a finding that came or went
abbrev pub change_text : Change → Finding → List ℕ
change_text (Came explain) f = finding_lines explain f
change_text Went f = gone_text f
