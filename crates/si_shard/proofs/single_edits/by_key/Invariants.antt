use Rattle.si_shard.proofs.Listing.{AreListed}
use Rattle.si_shard.proofs.single_edits.by_key.Given as goal

abbrev pub invariant-loop-place : goal.invariant-loop-place
invariant-loop-place l = AreListed l.id l.ops l.place l.list.items
