-- How the program ends where its words ask for the check of evidence.
use Rattle.std.specs.Prelude.{◌≡◌, ◌⊎◌, ℕ, ◌&&◌, ◌||◌, ◌==◌, Bool, true, false, List, [], ◌∷◌, Option, None, codes, length, slice_index_or}
use Rattle.clap.specs.Words.{Text}
use Rattle.si_text.specs.Devices.{Input, Lent, Output, foretold}
use Rattle.si_run.specs.Telling.{IsUntouched, memory_line, output_line, source_line}
use Rattle.si_evidence.specs.declared.judges.Judged.{Judged}
use Rattle.si_evidence.specs.declared.judges.Judged.TheVariants as judged
use Rattle.si_evidence.specs.declared.judges.JudgeFault.{JudgeFault}
use Rattle.si_evidence.specs.declared.judges.JudgeFault.TheVariants as fault
use Rattle.si_evidence.specs.Runs.{Answers}
use Rattle.si_cli.specs.declared.helps.TheConstants.{EVIDENCE_HELP}
use Rattle.si_cli.specs.Folders.{Folder}
use Rattle.si_cli.specs.Helps.{is_word}
use Rattle.si_cli.specs.Programs.{EndsAsked, Fails, Files, key_line, open_line}

-- behind the program's name the words begin with `evidence`, or with `help evidence`
abbrev pub is_about_evidence : List Text → Bool
is_about_evidence words = is_word words 1 (codes "evidence") || (is_word words 1 (codes "help") && is_word words 2 (codes "evidence"))

-- they ask for its help
abbrev pub asks_for_help : List Text → Bool
asks_for_help words = is_word words 1 (codes "help") || (is_word words 2 (codes "--help") || is_word words 2 (codes "-h"))

-- they don't name one log
abbrev pub log_line : List ℕ
log_line = codes "sicheck: evidence takes one LOG, and the answer on standard input\n"

-- what the process ends with where the evidence was judged
abbrev pub judged_code : Judged → ℕ
judged_code judged.Holds = 0
judged_code judged.Fails = 10

-- the line of each fault
abbrev pub judge_line : JudgeFault → List ℕ
judge_line (fault.Malformed number) = source_line (codes "sicheck: no evidence in line ") number
judge_line fault.Log = source_line (codes "sicheck: cannot read source ") 0
judge_line fault.Answer = codes "sicheck: cannot read standard input\n"
judge_line fault.Output = output_line
judge_line fault.Memory = memory_line

-- the evidence of the answer was judged by the log, whose refused lines and failing evidence were written, and nothing else was told; or a fault is told
abbrev pub EndsJudged : Option (List ℕ) → Option (List ℕ) → Lent Output → Lent Output → ℕ → Type 0
EndsJudged log answer out err result =
    ((said : Judged) × (result ≡ judged_code said) × Answers log answer out.before.written out.after.written said × IsUntouched err)
    ⊎ ((f : JudgeFault) × Fails err (judge_line f) result)

-- the bytes of the file of that name, where what its source has given is still known to be a beginning of them
abbrev pub held_of : Folder → Text → List Input → Option (List ℕ)
held_of folder name [] = None
held_of folder name (source ∷ sources) = foretold (folder.bytes 0 name) source.left

-- the log couldn't be opened, which may be, or memory was refused, and nothing was written; or its source is there, and the evidence is judged so
abbrev pub EndsJudging : Text → Lent Input → Files → Lent Output → Lent Output → ℕ → Type 0
EndsJudging name input files out err result =
    ((files.folder.may_lack name ≡ true) × IsUntouched out × Fails err (open_line 0) result)
    ⊎ (IsUntouched out × Fails err memory_line result)
    ⊎ ((length files.sources ≡ 1) × EndsJudged (held_of files.folder name files.sources) (foretold input.before.left input.after.left) out err result)

-- the words name a log, by which the answer on the input is judged, or they don't, which is told
abbrev pub EndsNaming : Bool → List Text → Lent Input → Files → Lent Output → Lent Output → ℕ → Type 0
EndsNaming true words input files out err result = EndsJudging (slice_index_or words 2 []) input files out err result
EndsNaming false words input files out err result = IsUntouched out × Fails err log_line result

-- the help of `evidence` is asked for, and told; or else they should name a log
abbrev pub EndsEvidence : Bool → List Text → Lent Input → Files → Lent Output → Lent Output → ℕ → Type 0
EndsEvidence true words input files out err result = EndsAsked EVIDENCE_HELP.now out err result
EndsEvidence false words input files out err result = EndsNaming (length words == 3) words input files out err result

-- the same with no secret key, when nothing is judged
abbrev pub EndsKeyless : Bool → Lent Output → Lent Output → ℕ → Type 0
EndsKeyless true out err result = EndsAsked EVIDENCE_HELP.now out err result
EndsKeyless false out err result = IsUntouched out × Fails err key_line result
