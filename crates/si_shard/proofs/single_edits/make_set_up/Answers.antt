use Rattle.std.proofs.Common.{◌∙◌, None, refl, sym}
use Rattle.si_shard.specs.declared.key_changes.Change.TheVariants as change
use Rattle.si_shard.proofs.EachKey.{set_up_made}
use Rattle.si_shard.proofs.single_edits.make_set_up.Goals as goal

pub change-requires : goal.change-requires
change-requires c = c.requires.can None c.args.key.now (change.SetUp c.args.value) (sym c.has.ensures ∙ c.if-has.true) (refl, refl)

pub returns-in_ok-change-clause-made : goal.returns-in_ok-change-clause-made
returns-in_ok-change-clause-made c = λ t. set_up_made c.args.id t c.args.key.now c.args.value c.args.keys.now c.change.new.self (sym c.has.ensures ∙ c.if-has.true) c.in_ok-change.ensures.changed
