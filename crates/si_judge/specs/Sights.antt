-- What is seen at a read, by the indexes. All of it is this project's choice.
use Rattle.std.specs.Prelude.{Bool, false, ◌&&◌, not, if◌then◌else◌, nat_lt, Some, None, Option}
use Rattle.std.specs.List.{find}
use Rattle.std.specs.Option.{option_eq}
use Rattle.si_model.specs.declared.numbers.Stamp.{Stamp}
use Rattle.si_model.specs.declared.numbers.TxnId.{TxnId}
use Rattle.si_model.specs.declared.numbers.Value.{Value}
use Rattle.si_model.specs.declared.sights.VersionId.{VersionId}
use Rattle.si_model.specs.declared.sights.VersionId.TheVariants as version
use Rattle.si_model.specs.declared.sights.Source.{Source}
use Rattle.si_model.specs.declared.sights.Source.TheVariants as source
use Rattle.si_model.specs.declared.sights.Sight.{Sight}
use Rattle.si_model.specs.declared.parts.OnKey.{OnKey}
use Rattle.si_model.specs.Operations.{same_value}
use Rattle.si_model.specs.Edits.{same_id}
use Rattle.si_model.specs.Reads.{missed_of, version_of}
use Rattle.si_judge.specs.declared.reads.Fate.{Fate}
use Rattle.si_judge.specs.declared.reads.Fate.TheVariants as fate
use Rattle.si_judge.specs.declared.reads.KeptRead.{KeptRead}
use Rattle.si_judge.specs.declared.reads.Write.{Write}
use Rattle.si_judge.specs.declared.indexes.Indexes.{Indexes}
use Rattle.si_judge.specs.Values.{at_value}
use Rattle.si_timeline.specs.Timelines.{Dated}

-- the stamp after which the versions are that come after this one
abbrev pub stamp_of : VersionId → Stamp
stamp_of version.Initial = record { 0 = 0 }
stamp_of (version.Installed c) = c

-- the write of the value that installed no version, if there is one
abbrev pub write_in : Indexes → Option Value → Option Write
write_in ix None = None
write_in ix (Some v) = at_value ix.writes v

-- the version of the value, if there is one
abbrev pub version_in : Indexes → Option Value → Option Dated
version_in ix None = None
version_in ix (Some v) = find (λ d. same_value d.1.value v) ix.timeline

-- where a value comes from that the transaction wrote, by what became of the write
abbrev pub source_told : TxnId → Fate → Source
source_told u fate.InDoubt = source.InDoubt u
source_told u fate.Aborted = source.Aborted u
source_told u fate.Earlier = source.Earlier u
source_told u (fate.Installed c) = source.Installed u c

-- where a value comes from, by a write of it that installed no version, or else by the version of it
abbrev pub source_with : Option Write → Option Dated → Source
source_with (Some w) d = source_told w.txn w.fate
source_with None (Some d) = source.Installed d.1.writer d.0
source_with None None = source.Missing

-- where what a read returned comes from
abbrev pub source_in : Indexes → Option Value → Source
source_in ix v = if option_eq same_value v ix.initial then source.Initial else source_with (write_in ix v) (version_in ix v)

-- whether the write is one of the reader, after the read
abbrev pub is_write_after : KeptRead → Write → Bool
is_write_after r w = same_id w.txn r.txn && nat_lt r.place w.place

-- whether the version, if there is one, is the reader's, which wrote it after the read: before the read it would be the own value there
abbrev pub is_version_after : KeptRead × Option Value → Option Dated → Bool
is_version_after p None = false
is_version_after p (Some d) = same_id d.1.writer p.0.txn && not (option_eq same_value p.1 p.0.value)

-- whether the reader writes what it read after the read, by the write of it that installed no version, or else by the version of it
abbrev pub later_with : KeptRead × Option Value → Option Write → Option Dated → Bool
later_with p (Some w) d = is_write_after p.0 w
later_with p None d = is_version_after p d

-- all that is seen at a read of a key on which M is
abbrev pub sight_in : OnKey → Indexes → KeptRead × Option Value → Sight
sight_in M ix p = record {
  txn = p.0.txn;
  op = p.0.place;
  start = p.0.start;
  read = p.0.value;
  own = p.1;
  later = later_with p (write_in ix p.0.value) (version_in ix p.0.value);
  source = source_in ix p.0.value;
  missed = missed_of M.parts p.0.start (version_of (source_in ix p.0.value));
}

-- the same of a read that returned the last version before its reader's start, which another transaction installed at the commit: the
-- reader wrote no such value and missed no version
abbrev pub sight_of_nearest : KeptRead × Option Value → TxnId → Stamp → Sight
sight_of_nearest p writer commit = record {
  txn = p.0.txn;
  op = p.0.place;
  start = p.0.start;
  read = p.0.value;
  own = p.1;
  later = false;
  source = source.Installed writer commit;
  missed = None;
}
