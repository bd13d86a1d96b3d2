use Rattle.std.proofs.Common.{rules}
use Rattle.std.proofs.lemmas.List.Sorted.{answers_always}
use Rattle.si_sorted.proofs.Search as places
use Rattle.si_sorted.proofs.flat.searched.Goals as goal

-- the closure gives an entry's key
pub returns : goal.returns
returns g c =
    let facts = c.binary_search_by_key.ensures in
    let by_key = facts.position (λ entry. entry.0) (answers_always _ _ _ (λ f a r f' called. search rules)) in
    places.searched g.met.K.Ord.total c.args.entries.now c.requires c.args.key _ facts.bound by_key
