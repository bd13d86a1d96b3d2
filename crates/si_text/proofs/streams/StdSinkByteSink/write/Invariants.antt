use Rattle.std.proofs.Common.{◌≡◌}
use Rattle.std.specs.Io.KnownBytes.{Keeps}
use Rattle.si_text.proofs.streams.StdSinkByteSink.write.Given as goal

-- no try has taken a byte, and none has failed
abbrev pub invariant-tries : goal.invariant-tries
invariant-tries g l = Keeps (g.W.Write.contents l.initial.self.writer) (g.W.Write.contents l.self.writer) × (l.self.taken.numbers ≡ l.initial.self.taken.numbers) × (l.self.has_failed ≡ l.initial.self.has_failed)
