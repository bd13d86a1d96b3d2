use Rattle.std.proofs.Common.{rules, ◌≡◌, ◌++◌, false, take}
use Rattle.si_text.proofs.LeftBehind.{given_now}
use Rattle.si_text.proofs.streams.StdSourceByteSource.read.Goals as goal

pub returns-else-self-clause-bytes : goal.returns-else-self-clause-bytes
returns-else-self-clause-bytes g c =
    let whole = g.Z.Foreseen.bytes c.args.self.now.place in
    let given = c.args.self.now.given.numbers in
    let gone_on = c.args.self.now.has_gone_on in
    let piece = take c.in-Ok.count c.read.new.buf in
    let fine : c.tries.self.has_ended ≡ false = search rules in
    let old_fine : c.args.self.now.has_ended ≡ false = search rules in
    let at : c.tries.self.place ≡ c.args.self.now.place = search rules in
    let gone : c.tries.self.has_gone_on ≡ gone_on = search rules in
    let more : c.moved.result.numbers ≡ given ++ piece = search rules in
    (rw at (rw fine (rw old_fine (rw gone (rw more (given_now whole given piece gone_on))))), search rules)
