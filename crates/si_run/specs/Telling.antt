-- What is told of a run on the error device: where it is asked for, lines of progress, each in the place of the one before; and why it didn't come
-- to its end. All of it is this project's choice.
use Rattle.std.specs.Prelude.{◌≡◌, ◌⊎◌, ℕ, ◌++◌, Bool, false, true, List, [], ◌∷◌, Option, Some, None, Result, Ok, Err, codes, decimal}
use Rattle.std.specs.List.{flat_map}
use Rattle.std.specs.Io.KnownBytes.{Appends}
use Rattle.si_text.specs.Devices.{Lent, Output}
use Rattle.si_run.specs.declared.statuses.ExitStatus.{ExitStatus}
use Rattle.si_run.specs.declared.faults.RunFault.{RunFault}
use Rattle.si_run.specs.declared.faults.RunFault.TheVariants as fault

-- nothing was written
abbrev pub IsUntouched : Lent Output → Type 0
IsUntouched d = d.after.written ≡ d.before.written

-- the text was written, once and nothing else, unless the device has failed
abbrev pub Tells : Lent Output → List ℕ → Type 0
Tells d text = (d.after.failed ≡ true) ⊎ Appends d.before.written d.after.written text

-- ---- the line of each fault

abbrev pub memory_line : List ℕ
memory_line = codes "sicheck: out of memory\n"

abbrev pub output_line : List ℕ
output_line = codes "sicheck: cannot write\n"

-- something can't be done with the source of that number
abbrev pub source_line : List ℕ → ℕ → List ℕ
source_line what source = what ++ decimal source ++ codes "\n"

abbrev pub fault_line : RunFault → List ℕ
fault_line (fault.Input source) = source_line (codes "sicheck: cannot read source ") source
fault_line (fault.Open opening) = codes "sicheck: options out of range\n"
fault_line fault.Output = output_line
fault_line fault.Memory = memory_line

-- ---- lines of progress

-- that standard input is waited for; or how many lines are decided, how many a second lately, and how many findings the last report had, if there was one
pub data Note : Type 0 where
  Waits : Note
  Goes : ℕ → ℕ → Option ℕ → Note

-- back to the front of the line, and nothing on it
abbrev pub erasure : List ℕ
erasure = 13 ∷ 27 ∷ codes "[K"

abbrev pub findings_words : Option ℕ → List ℕ
findings_words None = []
findings_words (Some count) = codes ", " ++ decimal count ++ codes " findings at the last report"

abbrev pub lines_words : ℕ → List ℕ
lines_words lines = erasure ++ codes "sicheck: " ++ decimal lines ++ codes " lines, "

abbrev pub rate_words : ℕ → List ℕ
rate_words rate = decimal rate ++ codes " a second"

abbrev pub note_text : Note → List ℕ
note_text Waits = erasure ++ codes "sicheck: waiting for standard input"
note_text (Goes lines rate findings) = lines_words lines ++ rate_words rate ++ findings_words findings

-- the text was written, once and nothing else, unless the device has failed, as one has that had failed before
abbrev pub TellsOn : Lent Output → List ℕ → Type 0
TellsOn d text = (d.before.failed ≡ true → d.after.failed ≡ true) × Tells d text

-- where they are asked for, lines of progress were written, and nothing else; and else the device wasn't touched
abbrev pub ShowsNotes : Bool → Lent Output → Type 0
ShowsNotes false d = d.after ≡ d.before
ShowsNotes true d = (notes : List Note) × TellsOn d (flat_map note_text notes)

-- the last of them is gone, where they are asked for
abbrev pub IsCleared : Bool → Lent Output → Type 0
IsCleared false d = d.after ≡ d.before
IsCleared true d = TellsOn d erasure

-- the text was told, behind lines of progress that are gone, where these are asked for
abbrev pub TellsBehind : Bool → Lent Output → List ℕ → Type 0
TellsBehind false d text = Tells d text
TellsBehind true d text = (notes : List Note) × TellsOn d (flat_map note_text notes ++ erasure ++ text)

-- ---- what of a run is told

-- of a run that came to its end nothing but lines of progress, where these are asked for, which are gone; else the line of its fault behind them
abbrev pub IsTold : Bool → Result ExitStatus RunFault → Lent Output → Type 0
IsTold false (Ok status) err = IsUntouched err
IsTold true (Ok status) err = TellsBehind true err []
IsTold shows (Err f) err = TellsBehind shows err (fault_line f)

-- the same of a run that was tried; of one that didn't begin nothing was told yet
abbrev pub IsToldIfTried : Bool → Option (Result ExitStatus RunFault) → Lent Output → Type 0
IsToldIfTried shows (Some result) err = IsTold shows result err
IsToldIfTried shows None err = err.after ≡ err.before
