-- The findings on a key, kept without its transactions, and what they show. All of it is this project's choice.
use Rattle.std.specs.Prelude.{◌≡◌, ℕ, Box, List, [], None, Option}
use Rattle.std.specs.List.{Contains}
use Rattle.std.specs.List.Sorted.{IsStrictlySortedBy}
use Rattle.std.specs.Map.{keys_of}
use Rattle.std.specs.declared.alloc.Global.{Global}
use Rattle.si_model.specs.declared.numbers.TxnId.{TxnId}
use Rattle.si_model.specs.declared.transactions.Status.TheVariants as status
use Rattle.si_model.specs.declared.parts.Part.{Part}
use Rattle.si_model.specs.declared.parts.OnKey.{OnKey}
use Rattle.si_model.specs.declared.numbers.Stamp.{Stamp}
use Rattle.si_model.specs.declared.kinds.Kind.{Kind}
use Rattle.si_model.specs.Findings.{Rules}
use Rattle.si_sorted.specs.Entries.{value_at}
use Rattle.si_judge.specs.declared.judgements.ReadId.{ReadId}
use Rattle.si_judge.specs.declared.indexes.Indexes.{Indexes}
use Rattle.si_judge.specs.declared.notes.Notes.{Notes}
use Rattle.si_judge.specs.Indexes.{AreIndexes, reads_in, writes_of}
use Rattle.si_judge.specs.Marks.{AreReadKindsBut, Marked}
use Rattle.si_judge.specs.Mending.{ArePairKinds, Found, IsRight, read_cmp, risen, stamp_cmp}
use Rattle.si_judge.specs.Touched.{IsBoundedBy}

-- what came and what went, where that is noted
abbrev pub Noted : Type 0
Noted = Option (Box Notes Global)

-- what is kept of a key
pub record Kept : Type 0 where
  pub key : List ℕ
  pub indexes : Indexes
  -- what the judge found of reads, and of versions under their commits
  pub reads : List (ReadId × Kind)
  pub overlaps : List (Stamp × Kind)
  -- how many answers the judge has given
  pub judged : ℕ
  -- which reads are still to be judged again
  pub marks : Marked
  -- what came and what went, where that is noted
  pub notes : Noted

-- what the judge found, and its count
abbrev pub found_in : Kept → Found
found_in s = record { reads = value_at read_cmp s.reads; overlaps = value_at stamp_cmp s.overlaps; answers = s.judged }

-- what was found stands in the order of reads, and of commits
pub record IsRising (s : Kept) : Type 0 where
  pub reads : IsStrictlySortedBy read_cmp (keys_of s.reads)
  pub overlaps : IsStrictlySortedBy stamp_cmp (keys_of s.overlaps)

-- it shows what is on the key: it has the indexes of that, and what the judge finds there
pub record Shows (J : Rules) (M : OnKey) (s : Kept) : Type 0 where
  pub indexes : AreIndexes M s.indexes
  pub right : IsRight J M (found_in s)

-- it would show what is on the key if the reads that are marked were judged: it has the indexes of that, of each other read what the
-- judge finds, and of the versions too
pub record WouldShow (J : Rules) (M : OnKey) (s : Kept) : Type 0 where
  pub indexes : AreIndexes M s.indexes
  pub reads : AreReadKindsBut J M s.marks (found_in s).reads
  pub overlaps : ArePairKinds J M (found_in s).overlaps

-- no write, no read of a committed transaction and no set-up value is on the key
pub record IsBare (M : OnKey) : Type 0 where
  pub initial : M.initial ≡ None
  pub writes : (T : Part) → Contains M.parts T → writes_of T ≡ []
  pub reads : (T : Part) → Contains M.parts T → reads_in T ≡ []

-- the transaction is on the key so, and in doubt
pub record IsInDoubt (T : Part) (M : OnKey) : Type 0 where
  pub part : Contains M.parts T
  pub doubt : T.status ≡ status.InDoubt

-- after the edit R is shown, and the judgements are within the bound
pub record IsShown (J : Rules) (IsTouchedRead : TxnId × ℕ → Type 0) (R : OnKey) (old new : Kept) : Type 0 where
  pub shows : Shows J R new
  pub judged : (n : ℕ) × IsBoundedBy IsTouchedRead n × (new.judged ≡ risen old.judged n)
