use Rattle.std.proofs.Common.{◌∙◌, refl, subst}
use Rattle.si_judge.specs.declared.indexes.Indexes.{Indexes}
use Rattle.si_judge.specs.Indexes.{others_among}
use Rattle.si_judge.specs.Maps.{AreTakenOut}
use Rattle.si_judge.specs.Values.{at_value, value_cmp}
use Rattle.si_judge.specs.KeptReads.{kept_read_cmp, own_at}
use Rattle.std.specs.Ordering.{eq_by_cmp}
use Rattle.si_judge.proofs.Coming.{has_version, went}
use Rattle.si_judge.proofs.indexes.Indexes.take_out.Goals as goal

pub reads_in-requires : goal.reads_in-requires
reads_in-requires c = c.requires.1.history.places c.args.part.now c.requires.2

pub remove_version-requires : goal.remove_version-requires
remove_version-requires c = has_version c.args.self.now c.args.part.now c.requires.1 c.requires.2

pub returns-clause-indexes : goal.returns-clause-indexes
returns-clause-indexes c =
    let after : Indexes = record { initial = c.args.self.now.initial; timeline = c.remove_version.new.timeline; writes = c.remove_writes.new.map; reads = c.remove_all.new.self } in
    λ M R is joins history. went c.args.self.now after c.args.part.now is joins history refl
    (subst (λ l. AreTakenOut (eq_by_cmp value_cmp) (at_value c.args.self.now.writes) (others_among l) (at_value c.remove_writes.new.map)) (c.as_slice.ensures.value ∙ c.in_ok-writes.ensures) c.remove_writes.ensures)
    (subst (λ l. AreTakenOut (eq_by_cmp kept_read_cmp) (own_at c.args.self.now.reads) l (own_at c.remove_all.new.self)) (c.as_slice-2.ensures.value ∙ c.in_ok-reads.ensures) c.remove_all.ensures.values)
    c.remove_version.ensures (c.remove_all.ensures.ordered is.ordered)
