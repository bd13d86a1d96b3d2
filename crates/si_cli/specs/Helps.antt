-- What help tells, by the words.
use Rattle.std.specs.Prelude.{ℕ, ◌++◌, ◌||◌, ◌&&◌, Bool, false, List, codes, slice_get, if◌then◌else◌}
use Rattle.std.specs.Option.{option_map_or}
use Rattle.std.specs.Str.{bytes_eq}
use Rattle.clap.specs.Words.{Text}
use Rattle.si_cli.specs.declared.helps.TheConstants.{CHECK_HEAD, MANUAL, PROGRAM_HEAD}

-- the word of that place is this one
abbrev pub is_word : List Text → ℕ → Text → Bool
is_word words place text = option_map_or (λ word. bytes_eq word text) (slice_get words place) false

-- behind the program's name the words begin with `check`, or with `help check`
abbrev pub is_about_check : List Text → Bool
is_about_check words = is_word words 1 (codes "check") || (is_word words 1 (codes "help") && is_word words 2 (codes "check"))

-- what the help begins with that they ask for
abbrev pub head_of : List Text → Text
head_of words = if is_about_check words then CHECK_HEAD.now else PROGRAM_HEAD.now

-- the whole help
abbrev pub help_of : List Text → Text
help_of words = head_of words ++ MANUAL.now
