-- Reads that are still to be judged again. All of it is this project's choice.
use Rattle.std.specs.Prelude.{◌≡◌, ◌⊎◌, ◌↔◌, if◌then◌else◌, nat_lt, List, [], None, Some, Option}
use Rattle.std.specs.List.{Contains}
use Rattle.std.specs.Option.{option_cmp}
use Rattle.std.specs.declared.cmp.Ordering.{Ordering}
use Rattle.si_model.specs.declared.numbers.Stamp.{Stamp}
use Rattle.si_model.specs.declared.numbers.Value.{Value}
use Rattle.si_model.specs.declared.parts.Part.{Part}
use Rattle.si_model.specs.declared.parts.OnKey.{OnKey}
use Rattle.si_model.specs.declared.kinds.Kind.{Kind}
use Rattle.si_model.specs.Reads.{IsRead}
use Rattle.si_model.specs.Findings.{Rules}
use Rattle.si_sorted.specs.Entries.{value_at}
use Rattle.si_judge.specs.declared.judgements.ReadId.{ReadId}
use Rattle.si_judge.specs.declared.reads.KeptRead.{KeptRead}
use Rattle.si_judge.specs.declared.indexes.Indexes.{Indexes}
use Rattle.si_judge.specs.Indexes.{AreTouchedReads, kept_read_of, writes_of}
use Rattle.si_judge.specs.KeptReads.{IsKeptReadOf, IsLaterThan}
use Rattle.si_judge.specs.Mending.{Found, HasCome, HasGone, IsReadKind}
use Rattle.si_judge.specs.Values.{value_cmp}

-- what reads returned, in order
abbrev pub returned_cmp : Option Value → Option Value → Ordering
returned_cmp = option_cmp value_cmp

-- under what reads returned stands the stamp after which their readers started that are marked, or none where all of them are
abbrev pub Marked : Type 0
Marked = List (Option Value × Option Stamp)

-- the read is marked
abbrev pub IsMarked : Marked → KeptRead → Type 0
IsMarked marks r = (after : Option Stamp) × (value_at returned_cmp marks r.value ≡ Some after) × IsLaterThan after r.start

-- the lesser of two marks of one value, if there is a first: it lets in the readers of both
abbrev pub least_mark : Option (Option Stamp) → Option Stamp → Option Stamp
least_mark None a = a
least_mark (Some None) a = None
least_mark (Some (Some s)) None = None
least_mark (Some (Some s)) (Some t) = Some (if nat_lt s.0 t.0 then s else t)

-- what was marked is still, and so are the reads of the value by readers that started after the stamp, if there is one
abbrev pub AddsMark : Option Value → Option Stamp → Marked → Marked → Type 0
AddsMark v after old new = (r : KeptRead) → IsMarked old r ⊎ IsKeptReadOf v after r → IsMarked new r

-- each of these reads is among those that were gathered, or marked; nothing else was gathered, and what was marked is still
pub record AreGathered (xs : List (KeptRead × Option Value)) (marks more : Marked) (old new : List (KeptRead × Option Value)) : Type 0 where
  pub covered : (p : KeptRead × Option Value) → Contains xs p → Contains new p ⊎ IsMarked more p.0
  pub within : (p : KeptRead × Option Value) → Contains new p → Contains old p ⊎ Contains xs p
  pub kept : (p : KeptRead × Option Value) → Contains old p → Contains new p
  pub marked : (r : KeptRead) → IsMarked marks r → IsMarked more r

-- o is a read on the key that is marked
abbrev pub IsMarkedOn : OnKey → Marked → ReadId → Type 0
IsMarkedOn Q marks o = (T : Part) × (v : Option Value) × IsRead Q T o.place v × (T.id ≡ o.txn) × IsMarked marks (kept_read_of T o.place v)

-- what stands under o is what the judge finds of it
abbrev pub IsReadRight : Rules → OnKey → (ReadId → Option Kind) → ReadId → Type 0
IsReadRight J Q at o = (k : Kind) → (at o ≡ Some k) ↔ IsReadKind J Q o k

-- what stands under reads is what the judge finds of them, but for those that are marked
abbrev pub AreReadKindsBut : Rules → OnKey → Marked → (ReadId → Option Kind) → Type 0
AreReadKindsBut J Q marks at = (o : ReadId) → IsMarkedOn Q marks o ⊎ IsReadRight J Q at o

-- T came to what the indexes held before, and R is on the key: the reads that it touches were judged or marked, its own were judged, and
-- its version
pub record IsComeLater (J : Rules) (T : Part) (R : OnKey) (before after : Indexes) (marks more : Marked) (old new : Found) : Type 0 where
  pub others : List (KeptRead × Option Value)
  pub touched : AreTouchedReads before T (writes_of T) others
  pub judged : List (KeptRead × Option Value)
  pub gathered : AreGathered others marks more [] judged
  pub come : HasCome J T R after judged old new

-- T went from a key on which R is left, and the indexes are without it: the reads that it touched were judged or marked, its own were
-- forgotten, and its version
pub record IsGoneLater (J : Rules) (T : Part) (R : OnKey) (after : Indexes) (marks more : Marked) (old new : Found) : Type 0 where
  pub others : List (KeptRead × Option Value)
  pub touched : AreTouchedReads after T (writes_of T) others
  pub judged : List (KeptRead × Option Value)
  pub gathered : AreGathered others marks more [] judged
  pub gone : HasGone J T R after judged old new
