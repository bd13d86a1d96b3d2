use Rattle.std.proofs.Common.{inr}
use Rattle.si_cli.proofs.programs.check_by_words.Goals as goal

pub returns-in-Ok : goal.returns-in-Ok
returns-in-Ok g c =
    let given = c.in-Ok.ensures.1 in
    let named = rw c.deref.ensures.value at c.check_by.ensures in
    let files = rw given.files at named in
    let ends = rw given.terms at files in
    inr (c.in-Ok.ensures.0, inr ((given.together, given.few), ends))
