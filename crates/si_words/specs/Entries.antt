-- Lists of entries: edits that were accepted, each with the pass that submitted it.
use Rattle.std.specs.Prelude.{◌≡◌, ℕ, ◌==◌, Bool, if◌then◌else◌, nat_lt, List, ◌++◌, length, map, filter}
use Rattle.si_model.specs.declared.edits.Edit.{Edit}
use Rattle.si_words.specs.declared.views.Entry.{Entry}

abbrev pub entry : ℕ → Edit → Entry
entry by edit = record { by = by; edit = edit }

abbrev pub edit_in : Entry → Edit
edit_in e = e.edit

-- what was accepted, whoever submitted it
abbrev pub edits_of : List Entry → List Edit
edits_of entries = map edit_in entries

-- the second list goes on where the first one ends
abbrev pub IsBeginning : List Entry → List Entry → Type 0
IsBeginning part whole = (rest : List Entry) × (whole ≡ part ++ rest)

abbrev pub bears : ℕ → Entry → Bool
bears pass e = e.by == pass

-- the entries that bear the pass, in order
abbrev pub made_by : ℕ → List Entry → List Entry
made_by pass journal = filter (bears pass) journal

-- the longer of two lists
abbrev pub longer : List Entry → List Entry → List Entry
longer xs ys = if nat_lt (length xs) (length ys) then ys else xs
