-- What was found, kept under ids of reads and commits of versions. All of it is this project's choice.
use Rattle.std.specs.Prelude.{ℕ, ◌+◌, Bool, true, false, if◌then◌else◌, List, [], ◌∷◌, None, Option, Some}
use Rattle.std.specs.List.{filter_map}
use Rattle.std.specs.Option.{option_map}
use Rattle.si_model.specs.declared.numbers.Stamp.{Stamp}
use Rattle.si_model.specs.declared.numbers.TxnId.{TxnId}
use Rattle.si_model.specs.declared.numbers.Value.{Value}
use Rattle.si_model.specs.declared.kinds.Kind.{Kind}
use Rattle.si_model.specs.declared.kinds.Kind.TheVariants as kind
use Rattle.si_judge.specs.declared.judgements.ReadId.{ReadId}
use Rattle.si_judge.specs.declared.found_reads.Case.{Case}
use Rattle.si_judge.specs.declared.found_reads.Case.TheVariants as case
use Rattle.si_judge.specs.declared.found_reads.ReadFinding.{ReadFinding}

-- what the entries tell, each under its key, where one tells something
abbrev pub told_of : {K X Y : Type 0} → (K → X → Option Y) → List (K × X) → List (K × Y)
told_of tells es = filter_map (λ e. option_map (λ y. (e.0, y)) (tells e.0 e.1)) es

-- a number that may be there, and the value of that number
abbrev pub number_if : Bool → ℕ → Option ℕ
number_if b n = if b then Some n else None

abbrev pub value_if : Bool → ℕ → Option Value
value_if b n = if b then Some (record { 0 = n }) else None

-- the kind of finding that a read is of which this is found, if anything is
abbrev pub kind_by : Case → ReadId → ReadFinding → Option Kind
kind_by case.Nothing o f = None
kind_by case.Unknown o f = Some (kind.Unknown o.txn o.place (value_if f.has_read f.read))
kind_by case.Doubt o f = Some (kind.Doubt o.txn o.place (value_if f.has_read f.read) (record { 0 = f.other }))
kind_by case.Own o f = Some (kind.Own o.txn o.place (value_if f.has_read f.read) (value_if f.has_other f.other))
kind_by case.Aborted o f = Some (kind.Aborted o.txn o.place (value_if f.has_read f.read) (record { 0 = f.other }))
kind_by case.Intermediate o f = Some (kind.Intermediate o.txn o.place (value_if f.has_read f.read) (record { 0 = f.other }))
kind_by case.Future o f = Some (kind.Future o.txn o.place (value_if f.has_read f.read) (record { 0 = f.other }))
kind_by case.Stale o f = Some (kind.Stale o.txn o.place (value_if f.has_read f.read) (record { 0 = f.other }))

abbrev pub kind_in : ReadId → ReadFinding → Option Kind
kind_in o f = kind_by f.case o f

-- whether anything is found
abbrev pub finds : Case → Bool
finds case.Nothing = false
finds case.Unknown = true
finds case.Doubt = true
finds case.Own = true
finds case.Aborted = true
finds case.Intermediate = true
finds case.Future = true
finds case.Stale = true

abbrev pub is_finding : ReadFinding → Bool
is_finding f = finds f.case

-- how many of the places are of reads of which nothing is found
abbrev pub one_if_empty : ReadFinding → ℕ
one_if_empty f = if is_finding f then 0 else 1

abbrev pub count_empty : List (ReadId × ReadFinding) → ℕ
count_empty [] = 0
count_empty (e ∷ es) = one_if_empty e.1 + count_empty es

-- the overlap of two installers' versions
abbrev pub overlap_of : TxnId × TxnId → Kind
overlap_of p = kind.Overlap p.0 p.1

abbrev pub overlap_in : Stamp → TxnId × TxnId → Option Kind
overlap_in c p = Some (overlap_of p)
