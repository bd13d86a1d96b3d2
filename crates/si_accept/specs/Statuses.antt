-- What became of the transactions of a list, all together. All of it is this project's choice.
use Rattle.std.specs.Prelude.{ℕ, List, length, map}
use Rattle.std.specs.List.{filter, filter_map}
use Rattle.si_model.specs.declared.numbers.TxnId.{TxnId}
use Rattle.si_model.specs.declared.transactions.Txn.{Txn}
use Rattle.si_model.specs.Edits.{is_in_doubt}
use Rattle.si_model.specs.Versions.{commit_of}

-- how many of them are committed, and so have a commit stamp
abbrev pub committed_among : List Txn → ℕ
committed_among txns = length (filter_map (λ T. commit_of T.status) txns)

-- the ids of those that are in doubt
abbrev pub doubtful_among : List Txn → List TxnId
doubtful_among txns = map (λ T. T.id) (filter (λ T. is_in_doubt T.status) txns)
