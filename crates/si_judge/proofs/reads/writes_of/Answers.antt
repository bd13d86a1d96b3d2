use Rattle.std.proofs.Common.{rules, ◌<◌, length, None, subst}
use Rattle.si_model.specs.declared.parts.Access.TheVariants as access
use Rattle.si_judge.specs.Indexes.{write_at}
use Rattle.si_judge.proofs.OwnValues.{reads_grow}
use Rattle.si_judge.proofs.reads.writes_of.Goals as goal

pub loop-placed-preserved : goal.loop-placed-preserved
loop-placed-preserved c =
    let T = c.args.part.now in
    let i = c.loop-placed.placed-index in
    let within = subst (λ ys. i < length ys) c.as_slice-placed-items.ensures c.loop-placed-test.true in
    let writes = reads_grow (write_at T) T.accesses i (record { place = 0; access = access.Read None }) within in
    search rules
