use Rattle.std.proofs.Common.{rules, ◌≡◌, inr}
use Rattle.si_cli.proofs.programs.tell_asked.Goals as goal

pub returns-in-Err : goal.returns-in-Err
returns-in-Err g c =
    let one : c.as_bytes.result.now ≡ c.args.head.now = search rules in
    let other : c.as_bytes-2.result.now ≡ c.args.rest.now = search rules in
    let head = rw one at c.in-Err.ensures.err in
    let part = rw other at head in
    inr (c.in-Err.ensures.failed, part, c.tell_unwritten.ensures)
