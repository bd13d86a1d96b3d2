-- What a judge found on a key, kept under what was judged. All of it is this project's choice.
use Rattle.std.specs.Prelude.{◌≡◌, ◌↔◌, ℕ, zero, suc, ◌+◌, ◌≤◌, true, cond, List, length, None, Some, Option}
use Rattle.std.specs.List.{fold}
use Rattle.std.specs.Map.{update}
use Rattle.std.specs.Ordering.{eq_by_cmp, nat_cmp, ordering_then}
use Rattle.std.specs.declared.cmp.Ordering.{Ordering}
use Rattle.si_model.specs.declared.numbers.Stamp.{Stamp}
use Rattle.si_model.specs.declared.numbers.Value.{Value}
use Rattle.si_model.specs.declared.parts.Part.{Part}
use Rattle.si_model.specs.declared.parts.OnKey.{OnKey}
use Rattle.si_model.specs.declared.sights.Installer.{Installer}
use Rattle.si_model.specs.declared.sights.VersionId.TheVariants as version
use Rattle.si_model.specs.declared.kinds.Kind.{Kind}
use Rattle.si_model.specs.declared.kinds.Kind.TheVariants as kind
use Rattle.si_model.specs.Versions.{IsInstaller, IsNext, next_after}
use Rattle.si_model.specs.Reads.{IsRead, sight_of}
use Rattle.si_model.specs.Findings.{Rules, overlap_with}
use Rattle.si_sorted.specs.Entries.{value_at}
use Rattle.si_timeline.specs.Timelines.{Dated, IsNearestBefore}
use Rattle.si_judge.specs.declared.reads.KeptRead.{KeptRead}
use Rattle.si_judge.specs.declared.indexes.Indexes.{Indexes}
use Rattle.si_judge.specs.declared.judgements.ReadId.{ReadId}
use Rattle.si_judge.specs.declared.judgements.Judgements.{Judgements}
use Rattle.si_judge.specs.Indexes.{AreTouchedReads, reads_in, version_by, writes_of}
use Rattle.si_judge.specs.Sights.{sight_in}
use Rattle.si_judge.specs.Judges.{one_more}

-- a count after so many more answers
abbrev pub risen : ℕ → ℕ → ℕ
risen n zero = n
risen n (suc k) = one_more (risen n k)

-- reads in the order of their transactions, and then of their places
abbrev pub read_cmp : ReadId → ReadId → Ordering
read_cmp o p = ordering_then (nat_cmp o.txn.0 p.txn.0) (nat_cmp o.place p.place)

-- stamps in their order
abbrev pub stamp_cmp : Stamp → Stamp → Ordering
stamp_cmp c d = nat_cmp c.0 d.0

-- the read by its transaction and its place there
abbrev pub id_of : KeptRead × Option Value → ReadId
id_of p = record { txn = p.0.txn; place = p.0.place }

-- the installer of a version
abbrev pub installer : Dated → Installer
installer d = record { txn = d.1.writer; start = d.1.start; commit = d.0 }

-- ---- what was judged

-- the read o is judged to be of this kind
abbrev pub IsReadKind : Rules → OnKey → ReadId → Kind → Type 0
IsReadKind J Q o k = (T : Part) × (v : Option Value) × IsRead Q T o.place v × (T.id ≡ o.txn) × (J.read (sight_of Q T o.place v) ≡ Some k)

-- the version that was installed at the commit is judged to overlap with the next one
abbrev pub IsPairKind : Rules → OnKey → Stamp → Kind → Type 0
IsPairKind J Q c k = (first : Installer) × (second : Installer) × IsInstaller Q first × (first.commit ≡ c)
    × IsNext Q (version.Installed first.commit) second × (J.pair first.commit second.start ≡ true) × (k ≡ kind.Overlap first.txn second.txn)

-- what stands under reads is what the judge finds of them
abbrev pub AreReadKinds : Rules → OnKey → (ReadId → Option Kind) → Type 0
AreReadKinds J Q at = (o : ReadId) (k : Kind) → (at o ≡ Some k) ↔ IsReadKind J Q o k

-- what stands under commits is what the judge finds of versions
abbrev pub ArePairKinds : Rules → OnKey → (Stamp → Option Kind) → Type 0
ArePairKinds J Q at = (c : Stamp) (k : Kind) → (at c ≡ Some k) ↔ IsPairKind J Q c k

-- these reads were judged, in turn
abbrev pub AreReadsJudged : Rules → OnKey → Indexes → List (KeptRead × Option Value) → (ReadId → Option Kind) → (ReadId → Option Kind) → Type 0
AreReadsJudged J M ix reads old new = (o : ReadId) → new o ≡ fold (λ f p. update (eq_by_cmp read_cmp) f (id_of p) (J.read (sight_in M ix p))) old reads o

-- these reads were forgotten, in turn
abbrev pub AreForgotten : List (KeptRead × Option Value) → (ReadId → Option Kind) → (ReadId → Option Kind) → Type 0
AreForgotten reads old new = (o : ReadId) → new o ≡ fold (λ f p. update (eq_by_cmp read_cmp) f (id_of p) None) old reads o

-- ---- what each step does

-- with that kind, or none, under the stamp
abbrev pub with_kind : (Stamp → Option Kind) → Stamp → Option Kind → Stamp → Option Kind
with_kind old c k d = cond (eq_by_cmp stamp_cmp c d) k (old d)

-- the version of the first installer was judged with the next one
abbrev pub IsPairJudged : Rules → OnKey → Installer → (Stamp → Option Kind) → (Stamp → Option Kind) → Type 0
IsPairJudged J Q first old new = (c : Stamp) → new c ≡ with_kind old first.commit (overlap_with J first (next_after Q.parts (version.Installed first.commit))) c

-- the same of a version, if there is one
abbrev pub IsPairJudgedOf : Rules → OnKey → Option Dated → (Stamp → Option Kind) → (Stamp → Option Kind) → Type 0
IsPairJudgedOf J Q None old new = (c : Stamp) → new c ≡ old c
IsPairJudgedOf J Q (Some d) old new = IsPairJudged J Q (installer d) old new

-- the version that was installed last before the stamp was judged with the next one, if there is one
abbrev pub IsPairJudgedBefore : Rules → OnKey → Indexes → Stamp → (Stamp → Option Kind) → (Stamp → Option Kind) → Type 0
IsPairJudgedBefore J M ix c old new = (o : Option Dated) × IsNearestBefore ix.timeline c o × IsPairJudgedOf J M o old new

-- the version was judged with the one before it and with the one after it, if there is a version
abbrev pub IsVersionJudged : Rules → OnKey → Indexes → Option Dated → (Stamp → Option Kind) → (Stamp → Option Kind) → Type 0
IsVersionJudged J M ix None old new = (c : Stamp) → new c ≡ old c
IsVersionJudged J M ix (Some d) old new = (middle : Stamp → Option Kind) × IsPairJudgedBefore J M ix d.0 old middle
    × IsPairJudged J M (installer d) middle new

-- the version was forgotten, and the one before it judged with the one after it, if there is a version
abbrev pub IsVersionForgotten : Rules → OnKey → Indexes → Option Dated → (Stamp → Option Kind) → (Stamp → Option Kind) → Type 0
IsVersionForgotten J M ix None old new = (c : Stamp) → new c ≡ old c
IsVersionForgotten J M ix (Some d) old new = (middle : Stamp → Option Kind) × ((c : Stamp) → middle c ≡ with_kind old d.0 None c)
    × IsPairJudgedBefore J M ix d.0 middle new

-- a count rose by so many answers at most
abbrev pub RisesBy : ℕ → ℕ → ℕ → Type 0
RisesBy most old new = (k : ℕ) × (k ≤ most) × (new ≡ risen old k)

-- what a judge found on a key, and its count
pub record Found : Type 0 where
  pub reads : ReadId → Option Kind
  pub overlaps : Stamp → Option Kind
  pub answers : ℕ

-- all that a judge found is right
pub record IsRight (J : Rules) (Q : OnKey) (m : Found) : Type 0 where
  pub reads : AreReadKinds J Q m.reads
  pub overlaps : ArePairKinds J Q m.overlaps

-- T came to what the indexes hold, and R is on the key: these reads of others were judged, its own, and its version
pub record HasCome (J : Rules) (T : Part) (R : OnKey) (after : Indexes) (others : List (KeptRead × Option Value)) (old new : Found) : Type 0 where
  pub middle : ReadId → Option Kind
  pub others_judged : AreReadsJudged J R after others old.reads middle
  pub own_judged : AreReadsJudged J R after (reads_in T) middle new.reads
  pub version : IsVersionJudged J R after (version_by T) old.overlaps new.overlaps
  pub counted : RisesBy (length others + length (reads_in T) + 2) old.answers new.answers

-- the same, where the reads are those that it touches among what the indexes held before
pub record IsJudgedWith (J : Rules) (T : Part) (R : OnKey) (before after : Indexes) (old new : Found) : Type 0 where
  pub others : List (KeptRead × Option Value)
  pub touched : AreTouchedReads before T (writes_of T) others
  pub come : HasCome J T R after others old new

-- T went from a key on which R is left, and the indexes are without it: its own reads were forgotten, these reads of others were
-- judged, and its version was forgotten
pub record HasGone (J : Rules) (T : Part) (R : OnKey) (after : Indexes) (others : List (KeptRead × Option Value)) (old new : Found) : Type 0 where
  pub middle : ReadId → Option Kind
  pub own_forgotten : AreForgotten (reads_in T) old.reads middle
  pub others_judged : AreReadsJudged J R after others middle new.reads
  pub version : IsVersionForgotten J R after (version_by T) old.overlaps new.overlaps
  pub counted : RisesBy (length others + 2) old.answers new.answers

-- the same, where the reads are those that it touched
pub record IsJudgedWithout (J : Rules) (T : Part) (R : OnKey) (after : Indexes) (old new : Found) : Type 0 where
  pub others : List (KeptRead × Option Value)
  pub touched : AreTouchedReads after T (writes_of T) others
  pub gone : HasGone J T R after others old new

-- what a judge that is counted so found on a key
abbrev pub found_by : {J : Type 0} → (J → ℕ) → Judgements J → Found
found_by answers m = record { reads = value_at read_cmp m.reads; overlaps = value_at stamp_cmp m.overlaps; answers = answers m.judge }
