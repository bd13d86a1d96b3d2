-- What is known of many keys, and where something is found. All of it is this project's choice.
use Rattle.std.specs.Prelude.{cond, ◌≡◌, ◌≢◌, ◌↔◌, ◌⊎◌, ⊤, ℕ, Bool, true, false, List, [], Some, None, Option}
use Rattle.std.specs.List.{Contains}
use Rattle.std.specs.HashMap.{HashMap, Updates, get}
use Rattle.std.specs.BTreeSet.{BTreeSet, contains}
use Rattle.std.specs.Ordering.{nat_cmp}
use Rattle.std.specs.Cmp.Lexicographic.{slice_cmp}
use Rattle.si_model.specs.declared.parts.OnKey.{OnKey}
use Rattle.si_model.specs.declared.findings.Finding.{Finding}
use Rattle.si_model.specs.Operations.{same_key}
use Rattle.si_model.specs.Findings.{cases, findings_on}
use Rattle.si_model.specs.History.{IsOfHistory}
use Rattle.si_judge.specs.Kept.{IsBare, IsRising, Kept, Shows, WouldShow}
use Rattle.si_shard.specs.declared.key_changes.Change.{Change}
use Rattle.si_shard.specs.declared.key_states.KeyStates.{KeyStates}
use Rattle.si_shard.specs.KeyChanges.{CanChange, changed_on}
use Rattle.si_shard.specs.KeyNotes.{WereFound}

-- what is kept of the key x would show Q once its marked reads are judged, and Q isn't bare, or nothing is kept and Q is bare
abbrev pub ShowsAt : List ℕ → Option Kept → OnKey → Type 0
ShowsAt x None Q = IsOfHistory Q × IsBare Q
ShowsAt x (Some s) Q = (s.key ≡ x) × WouldShow cases Q s × (IsBare Q → ⊥)

-- no read is marked in what is kept
abbrev pub IsUnmarked : Option Kept → Type 0
IsUnmarked None = ⊤
IsUnmarked (Some s) = s.marks ≡ []

-- what was found stands in order
abbrev pub IsRisingAt : Option Kept → Type 0
IsRisingAt None = ⊤
IsRisingAt (Some s) = IsRising s

-- something is found
abbrev pub HasFinding : List ℕ → OnKey → Type 0
HasFinding x Q = (f : Finding) × Contains (findings_on cases x Q) f

-- Q may be on the key x, of which that is kept; where no read is marked there it is told whether something is found, and else the key is
-- listed
pub record IsOnKey (x : List ℕ) (kept : Option Kept) (told : Bool) (IsListed : Type 0) (Q : OnKey) : Type 0 where
  pub shows : ShowsAt x kept Q
  pub found : IsUnmarked kept → (told ≡ true) ↔ HasFinding x Q
  pub listed : IsListed ⊎ IsUnmarked kept
  pub rising : IsRisingAt kept

-- Q may be on the key x
abbrev pub IsOn : KeyStates → List ℕ → OnKey → Type 0
IsOn ks x Q = IsOnKey x (get same_key ks.states x) (contains (slice_cmp nat_cmp) ks.found x) (Contains ks.marked.items x) Q

-- this may be on each key
abbrev pub AreOn : KeyStates → (List ℕ → OnKey) → Type 0
AreOn ks on = (x : List ℕ) → IsOn ks x (on x)

-- the findings on the key x
abbrev pub findings_at : (List ℕ → OnKey) → List ℕ → List Finding
findings_at on x = findings_on cases x (on x)

-- ---- one change

-- whether what is kept can be left out, whether something is found where no read is marked, and whether one is
pub record IsLeft (is_bare has_findings is_marked : Bool) (s : Kept) : Type 0 where
  pub bare : (Q : OnKey) → WouldShow cases Q s → (is_bare ≡ true) ↔ IsBare Q
  pub found : (Q : OnKey) → Shows cases Q s → (has_findings ≡ true) ↔ HasFinding s.key Q
  pub marked : (is_marked ≡ false) ↔ (s.marks ≡ [])
  pub rising : IsRising s

-- what is kept of the key x was changed so, or begun, and is left so
pub record IsChangedIn {S : Type 0} (x : List ℕ) (c : Change) (is_bare has_findings is_marked : Bool) (old new : HashMap (List ℕ) Kept S) : Type 0 where
  pub kept : Kept
  pub key : kept.key ≡ x
  pub shows : (Q : OnKey) → ShowsAt x (get same_key old x) Q → CanChange c Q → WouldShow cases (changed_on c Q) kept
  pub left : IsLeft is_bare has_findings is_marked kept
  pub states : Updates same_key old new x (Some kept)

-- of the key x it is told so whether something is found, and of each other as before
abbrev pub IsToldAt : List ℕ → Bool → BTreeSet (List ℕ) → BTreeSet (List ℕ) → Type 0
IsToldAt x b old new = (y : List ℕ) → contains (slice_cmp nat_cmp) new y ≡ cond (same_key x y) b (contains (slice_cmp nat_cmp) old y)

-- what was listed is still, the key x is where reads are marked there that weren't before, and it is told whether something is found on it
-- where none is marked, and of a bare key that nothing is; of each other key as before
pub record IsToldSo (x : List ℕ) (is_bare has_findings is_marked was_marked : Bool) (list more : List (List ℕ)) (old new : BTreeSet (List ℕ)) : Type 0 where
  pub kept : (y : List ℕ) → Contains list y → Contains more y
  pub listed : is_marked ≡ true → Contains more x ⊎ (was_marked ≡ true)
  pub told : Bool
  pub is : IsToldAt x told old new
  pub unmarked : is_marked ≡ false → told ≡ has_findings
  pub bare : is_marked ≡ true → is_bare ≡ true → told ≡ false

-- where Q may be on the key x and the change can be made there, that may be there which it makes of Q
abbrev pub IsMadeAt : List ℕ → Change → KeyStates → KeyStates → Type 0
IsMadeAt x c old new = (Q : OnKey) → IsOn old x Q → CanChange c Q → IsOn new x (changed_on c Q)

-- what may be on the key x may be there still
abbrev pub StaysAt : List ℕ → KeyStates → KeyStates → Type 0
StaysAt x old new = (Q : OnKey) → IsOn old x Q → IsOn new x Q

-- the key x was changed so, and no other
pub record IsChangedAt (x : List ℕ) (c : Change) (old new : KeyStates) : Type 0 where
  pub made : IsMadeAt x c old new
  pub others : (y : List ℕ) → y ≢ x → StaysAt y old new

-- ---- settled

-- on the key x no read is marked any more, and it is told whether something is found; on each other key all is as before
pub record IsKeySettled {S : Type 0} (x : List ℕ) (old new : HashMap (List ℕ) Kept S) (told more : BTreeSet (List ℕ)) : Type 0 where
  pub here : (Q : OnKey) → ShowsAt x (get same_key old x) Q → (IsUnmarked (get same_key old x) → (contains (slice_cmp nat_cmp) told x ≡ true) ↔ HasFinding x Q)
      → ShowsAt x (get same_key new x) Q × IsUnmarked (get same_key new x) × ((contains (slice_cmp nat_cmp) more x ≡ true) ↔ HasFinding x Q)
  pub rising : IsRisingAt (get same_key old x) → IsRisingAt (get same_key new x)
  pub states : (y : List ℕ) → y ≢ x → get same_key new y ≡ get same_key old y
  pub found : (y : List ℕ) → y ≢ x → contains (slice_cmp nat_cmp) more y ≡ contains (slice_cmp nat_cmp) told y

-- on each of these keys no read is marked any more, and on no other one where none was; of each where none is it is told whether something
-- is found
pub record AreKeysSettled {S : Type 0} (list : List (List ℕ)) (old new : HashMap (List ℕ) Kept S) (told more : BTreeSet (List ℕ)) : Type 0 where
  pub shows : (x : List ℕ) (Q : OnKey) → ShowsAt x (get same_key old x) Q → (IsUnmarked (get same_key old x) → (contains (slice_cmp nat_cmp) told x ≡ true) ↔ HasFinding x Q)
      → ShowsAt x (get same_key new x) Q × (IsUnmarked (get same_key new x) → (contains (slice_cmp nat_cmp) more x ≡ true) ↔ HasFinding x Q)
      × (Contains list x ⊎ IsUnmarked (get same_key old x) → IsUnmarked (get same_key new x))
  pub rising : (x : List ℕ) → IsRisingAt (get same_key old x) → IsRisingAt (get same_key new x)

-- what may be on each key may be there still, and no key is listed
pub record IsSettledFrom (old new : KeyStates) : Type 0 where
  pub stays : (x : List ℕ) → StaysAt x old new
  pub none : new.marked.items ≡ []

-- ---- noted

-- these were found on the keys before all that was noted
abbrev pub WereFoundOn : List Finding → KeyStates → Type 0
WereFoundOn found ks = WereFound found ks.notes (get same_key ks.states)

-- what was found before all that was noted is still what was
abbrev pub KeepsNotesOf : KeyStates → KeyStates → Type 0
KeepsNotesOf old new = (found : List Finding) → WereFoundOn found old → WereFoundOn found new
