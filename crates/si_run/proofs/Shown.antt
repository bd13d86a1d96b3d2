-- Lines of progress before what is told, and texts that are told one behind the other.
use Rattle.std.proofs.Common.{inl, inr, ℕ, List, [], ◌∷◌, ◌++◌, Bool, true, false, flat_map, refl, sym, ap, subst, ◌∙◌, append_assoc, append-nil}
use Rattle.std.specs.Prelude.{Option, Result, Ok, Err}
use Rattle.std.specs.Io.KnownBytes.{Appends}
use Rattle.std.proofs.KnownBytes.{Appends-nil, Appends-trans}
use Rattle.std.proofs.lemmas.Grind.{flat_map-append}
use Rattle.si_text.specs.Devices.{Output, lent}
use Rattle.si_run.specs.declared.statuses.ExitStatus.{ExitStatus}
use Rattle.si_run.specs.declared.faults.RunFault.{RunFault}
use Rattle.si_run.specs.Telling.{IsCleared, IsTold, Note, ShowsNotes, Tells, TellsBehind, TellsOn, erasure, fault_line, note_text}

-- a device that isn't touched tells nothing
pub untouched : (x : Output) → TellsOn (lent x x) []
untouched x = ((λ failed. failed), inr (Appends-nil x.written))

-- a text behind another one
pub tells_trans : (x y z : Output) (s t : List ℕ) → Tells (lent x y) s → TellsOn (lent y z) t → Tells (lent x z) (s ++ t)
tells_trans x y z s t first second = elim first [
  | inl failed ↦ inl (second.0 failed)
  | inr a ↦ elim second.1 [
    | inl failed ↦ inl failed
    | inr b ↦ inr (Appends-trans x.written y.written z.written s t a b)
  ]
]

pub on_trans : (x y z : Output) (s t : List ℕ) → TellsOn (lent x y) s → TellsOn (lent y z) t → TellsOn (lent x z) (s ++ t)
on_trans x y z s t first second = ((λ failed. second.0 (first.0 failed)), tells_trans x y z s t first.1 second)

-- lines of progress behind others
pub shows_on : (shows : Bool) (x y z : Output) → ShowsNotes shows (lent x y) → ShowsNotes shows (lent y z) → ShowsNotes shows (lent x z)
shows_on false x y z first second = second ∙ first
shows_on true x y z first second = (
  first.0 ++ second.0,
  subst (TellsOn (lent x z)) (sym (flat_map-append note_text first.0 second.0)) (on_trans x y z (flat_map note_text first.0) (flat_map note_text second.0) first.1 second.1),
)

-- none were shown
pub shows_none : (shows : Bool) (x : Output) → ShowsNotes shows (lent x x)
shows_none false x = refl
shows_none true x = ([], untouched x)

-- one was shown
pub shows_one : (x y : Output) (note : Note) → TellsOn (lent x y) (note_text note) → ShowsNotes true (lent x y)
shows_one x y note told = (note ∷ [], subst (TellsOn (lent x y)) (sym (append-nil (note_text note))) told)

-- a text behind what is gone
pub behind : (shows : Bool) (x y z : Output) (text : List ℕ) → IsCleared shows (lent x y) → TellsOn (lent y z) text → TellsBehind shows (lent x z) text
behind false x y z text gone told = subst (λ o. Tells (lent o z) text) gone told.1
behind true x y z text gone told = ([], on_trans x y z erasure text gone told)

-- lines of progress before it
pub notes_behind : (shows : Bool) (x y z : Output) (text : List ℕ) → ShowsNotes shows (lent x y) → TellsBehind shows (lent y z) text → TellsBehind shows (lent x z) text
notes_behind false x y z text notes told = subst (λ o. Tells (lent o z) text) notes told
notes_behind true x y z text notes told =
    let before = flat_map note_text notes.0 in
    let after = flat_map note_text told.0 in
    let whole = on_trans x y z before ((after ++ erasure) ++ text) notes.1 told.1 in
    let joined = ap (λ l. (l ++ erasure) ++ text) (flat_map-append note_text notes.0 told.0) ∙ ap (λ l. l ++ text) (append_assoc before after erasure) ∙ append_assoc before (after ++ erasure) text in
    (notes.0 ++ told.0, subst (TellsOn (lent x z)) (sym joined) whole)

-- the end of a run that came to it
pub cleared_end : (shows : Bool) (status : ExitStatus) (x y : Output) → IsCleared shows (lent x y) → IsTold shows (Ok status) (lent x y)
cleared_end false status x y gone = ap (λ (o : Output). o.written) gone
cleared_end true status x y gone = ([], subst (TellsOn (lent x y)) (sym (append-nil erasure)) gone)

-- lines of progress before the end of a run
pub notes_told : (shows : Bool) (result : Result ExitStatus RunFault) (x y z : Output) → ShowsNotes shows (lent x y) → IsTold shows result (lent y z) → IsTold shows result (lent x z)
notes_told false (Ok status) x y z notes told = told ∙ ap (λ (o : Output). o.written) notes
notes_told true (Ok status) x y z notes told = notes_behind true x y z [] notes told
notes_told shows (Err f) x y z notes told = notes_behind shows x y z (fault_line f) notes told

-- a text behind what was told behind lines of progress
pub behind_more : (x y z : Output) (text more : List ℕ) → TellsBehind true (lent x y) text → TellsOn (lent y z) more → TellsBehind true (lent x z) (text ++ more)
behind_more x y z text more told next =
    let front = flat_map note_text told.0 ++ erasure in
    (told.0, subst (TellsOn (lent x z)) (append_assoc front text more) (on_trans x y z (front ++ text) more told.1 next))

-- three pieces, one behind the other
pub three : (a b c d : Option (List ℕ)) (s t u : List ℕ) → Appends a b s → Appends b c t → Appends c d u → Appends a d (s ++ t ++ u)
three a b c d s t u first second third = Appends-trans a c d (s ++ t) u (Appends-trans a b c s t first second) third
