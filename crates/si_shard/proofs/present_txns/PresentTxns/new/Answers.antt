use Rattle.std.proofs.Common.{nat_eq, rules}
use Rattle.std.specs.HashMap.{get}
use Rattle.si_shard.proofs.ById.{none_by_id}
use Rattle.si_shard.proofs.present_txns.PresentTxns.new.Goals as goal

pub returns : goal.returns
returns c = none_by_id (get nat_eq c.with_hasher.result) (λ n. search rules)
