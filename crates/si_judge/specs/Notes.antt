-- What came and what went on a key since something was found there. All of it is this project's choice.
use Rattle.std.specs.Prelude.{◌≡◌, ℕ, ◌+◌, count_by, List, None, Some, Option}
use Rattle.std.specs.Map.{values_of}
use Rattle.std.specs.Option.{option_to_list}
use Rattle.si_model.specs.declared.kinds.Kind.{Kind}
use Rattle.si_model.specs.declared.numbers.Stamp.{Stamp}
use Rattle.si_model.specs.Order.{kind_eq}
use Rattle.si_judge.specs.declared.judgements.Judgements.{Judgements}
use Rattle.si_judge.specs.declared.judgements.ReadId.{ReadId}
use Rattle.si_judge.specs.declared.notes.Notes.{Notes}
use Rattle.si_judge.specs.Kept.{Kept, Noted}

-- how often the kind is among these
abbrev pub times : Kind → List Kind → ℕ
times k ks = count_by (kind_eq k) ks

-- how often it stands under reads and under commits
abbrev pub times_found : Kind → List (ReadId × Kind) → List (Stamp × Kind) → ℕ
times_found k reads overlaps = times k (values_of reads) + times k (values_of overlaps)

-- the kind was found n times before all that was noted, where it is found m times now: what came and what went make the difference
abbrev pub WasFoundBy : Notes → Kind → ℕ → ℕ → Type 0
WasFoundBy o k n m = n + times k o.came.items ≡ m + times k o.went.items

-- the same where something is noted; else nothing is known
abbrev pub WasFound : Noted → Kind → ℕ → ℕ → Type 0
WasFound None k n m = ⊥
WasFound (Some b) k n m = WasFoundBy b.value k n m

-- in one place this is found from now on, or nothing, and that was found there before
abbrev pub IsNotedBy : Option Kind → Option Kind → Notes → Notes → Type 0
IsNotedBy former now old new = (k : Kind) (n m : ℕ) → WasFoundBy old k n (m + times k (option_to_list former)) → WasFoundBy new k n (m + times k (option_to_list now))

-- the same where something is noted
abbrev pub IsNoted : Option Kind → Option Kind → Noted → Noted → Type 0
IsNoted former now old new = (k : Kind) (n m : ℕ) → WasFound old k n (m + times k (option_to_list former)) → WasFound new k n (m + times k (option_to_list now))

-- whatever was found before all that was noted is still what was
abbrev pub KeepsNotes : {J : Type 0} → Judgements J → Judgements J → Type 0
KeepsNotes old new = (k : Kind) (n : ℕ) → WasFound old.notes k n (times_found k old.reads old.overlaps) → WasFound new.notes k n (times_found k new.reads new.overlaps)

-- the same of what is kept of a key
abbrev pub KeepsNotesOf : Kept → Kept → Type 0
KeepsNotesOf old new = (k : Kind) (n : ℕ) → WasFound old.notes k n (times_found k old.reads old.overlaps) → WasFound new.notes k n (times_found k new.reads new.overlaps)
