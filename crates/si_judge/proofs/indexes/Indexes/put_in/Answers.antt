use Rattle.std.proofs.Common.{refl, subst, sym}
use Rattle.si_judge.specs.declared.indexes.Indexes.{Indexes}
use Rattle.si_judge.specs.Indexes.{AddsVersion, KeepsValuesOnce, LacksVersion}
use Rattle.si_judge.proofs.Coming.{accesses_rise, came, keeps_once, lacks_version}
use Rattle.si_judge.proofs.indexes.Indexes.put_in.Goals as goal

pub add_version-requires-clause-lacks : goal.add_version-requires-clause-lacks
add_version-requires-clause-lacks c = subst (λ v. LacksVersion v c.args.self.now.timeline) (sym c.requires.version) (lacks_version c.args.self.now c.args.part.now c.requires.fits.1 c.requires.fits.2)

pub add_version-requires-clause-once : goal.add_version-requires-clause-once
add_version-requires-clause-once c = subst (λ v. KeepsValuesOnce v c.args.self.now.timeline) (sym c.requires.version) (keeps_once c.args.self.now c.args.part.now c.requires.fits.1 c.requires.fits.2)

pub insert_in-requires : goal.insert_in-requires
insert_in-requires c = accesses_rise c.args.part.now c.requires.fits.2

after : goal.In_ok-add_version → Indexes
after c = record { initial = c.args.self.now.initial; timeline = c.add_version.new.timeline; writes = c.insert_writes.new.map; reads = c.insert_in.new.self }

pub returns : goal.returns
unfolding after
returns c = λ M R is joins history. came c.args.self.now (after c) c.args.part.now is joins history refl
    c.in_ok-insert_writes.ensures c.in_ok-insert_in.ensures.values
    (subst (λ v. AddsVersion v c.args.self.now.timeline c.add_version.new.timeline) c.requires.version c.in_ok-add_version.ensures) (c.in_ok-insert_in.ensures.ordered is.ordered)
