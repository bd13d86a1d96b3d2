use Rattle.std.proofs.Common.{rules, ◌≡◌, List, sym, subst}
use Rattle.si_model.specs.declared.transactions.Txn.{Txn}
use Rattle.si_model.specs.History.{IsHistory}
use Rattle.si_model.specs.Journals.{present}
use Rattle.si_history_tests.proofs.tests.chances.counted.Goals as goal

pub chances_of-requires-clause-history : goal.chances_of-requires-clause-history
chances_of-requires-clause-history g c =
    let P = present c.args.book.now.journal in
    let txns : c.deref.result.now ≡ P.txns = search rules in
    (P.initial, subst (λ (t : List Txn). IsHistory (record { txns = t; initial = P.initial })) (sym txns) c.present.ensures.history)
