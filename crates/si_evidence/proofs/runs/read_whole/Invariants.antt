use Rattle.si_text.specs.Devices.{MayConsume}
use Rattle.si_evidence.proofs.runs.read_whole.Given as goal

-- what was read so far
abbrev pub invariant-reads : goal.invariant-reads
invariant-reads g l = MayConsume (g.S.ByteSource.seen l.fn.source).left (g.S.ByteSource.seen l.source).left l.bytes.items
