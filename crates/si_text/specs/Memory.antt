-- What the devices in memory show of themselves.
use Rattle.std.specs.Prelude.{ℕ, List, Bool, ◌||◌, drop}
use Rattle.si_text.specs.Devices.{Input, Output, turned_by}
use Rattle.si_text.specs.declared.memory.MemorySource.{MemorySource}
use Rattle.si_text.specs.declared.memory.MemorySink.{MemorySink}
use Rattle.si_text.specs.declared.memory.FailingSource.{FailingSource}
use Rattle.si_text.specs.declared.memory.FailingSink.{FailingSink}

-- the bytes that a source has not given yet
abbrev pub bytes_left : MemorySource → List ℕ
bytes_left source = drop source.given source.bytes.items

-- how many bytes a source gives at most at a read
abbrev pub most_given : MemorySource → ℕ
most_given source = source.piece

-- how many bytes a sink takes at most at a write
abbrev pub most_taken : MemorySink → ℕ
most_taken sink = sink.piece

-- the bytes that a sink was given
abbrev pub bytes_taken : MemorySink → List ℕ
bytes_taken sink = sink.bytes.items

-- whether memory was refused to a sink
abbrev pub has_failed : MemorySink → Bool
has_failed sink = sink.has_failed

-- how many reads are left before each one fails
abbrev pub reads_left : {S : Type 0} → FailingSource S → ℕ
reads_left source = source.reads

-- the source whose bytes are given
abbrev pub source_behind : {S : Type 0} → FailingSource S → S
source_behind source = source.source

-- what is known of such a source: a read failed by itself or of the source behind it
abbrev pub source_seen : {S : Type 0} → (S → Input) → FailingSource S → Input
source_seen seen source =
    let behind = seen source.source in
    record { left = behind.left; failed = source.has_failed || behind.failed; turned = turned_by source.has_turned behind.turned }

-- how many writes are left before each one fails
abbrev pub writes_left : {W : Type 0} → FailingSink W → ℕ
writes_left sink = sink.writes

-- the sink to which is written
abbrev pub sink_behind : {W : Type 0} → FailingSink W → W
sink_behind sink = sink.sink

-- what is known of such a sink: a write failed by itself or of the sink behind it
abbrev pub sink_seen : {W : Type 0} → (W → Output) → FailingSink W → Output
sink_seen seen sink = let behind = seen sink.sink in record { written = behind.written; failed = sink.has_failed || behind.failed }
