-- The edits of entries.
use Rattle.std.proofs.Common.{◌≡◌, ℕ, ◌≤◌, List, ◌++◌, length, take, map, sym, ap, ◌∙◌, arith}
use Rattle.std.proofs.lemmas.List.{length-map, map-append, take-append-le}
use Rattle.si_words.specs.declared.views.Entry.{Entry}
use Rattle.si_words.specs.Entries.{IsBeginning, edit_in, edits_of}
use Rattle.si_words.specs.Laws.{EditsKeepLength, EditsAppend, EditsBegin}

pub edits_keep_length : EditsKeepLength
edits_keep_length es = length-map es edit_in

pub edits_append : EditsAppend
edits_append xs ys = map-append edit_in xs ys

pub edits_begin : EditsBegin
edits_begin part whole n b le =
    let all : edits_of whole ≡ edits_of part ++ edits_of b.0 = ap edits_of b.1 ∙ edits_append part b.0 in
    let within : n ≤ length (edits_of part) = (let l = edits_keep_length part in omega arith) in
    sym (ap (take n) all ∙ take-append-le n (edits_of part) (edits_of b.0) within)
