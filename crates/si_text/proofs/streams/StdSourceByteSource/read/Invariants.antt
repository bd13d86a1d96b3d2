use Rattle.std.proofs.Common.{◌≡◌}
use Rattle.std.specs.Io.KnownBytes.{Keeps}
use Rattle.si_text.proofs.streams.StdSourceByteSource.read.Given as goal

-- no try has taken a byte, and none has failed
abbrev pub invariant-tries : goal.invariant-tries
invariant-tries g l =
    Keeps (g.R.Read.remaining l.initial.self.reader) (g.R.Read.remaining l.self.reader)
    × (l.self.place ≡ l.initial.self.place) × (l.self.given.numbers ≡ l.initial.self.given.numbers) × (l.self.has_ended ≡ l.initial.self.has_ended) × (l.self.has_gone_on ≡ l.initial.self.has_gone_on) × (l.self.has_failed ≡ l.initial.self.has_failed) × (l.self.has_turned ≡ l.initial.self.has_turned)
