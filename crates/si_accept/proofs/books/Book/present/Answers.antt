use Rattle.si_accept.proofs.books.Book.present.Goals as goal

pub returns-clause-history : goal.returns-clause-history
returns-clause-history c = rw (← c.self.view_is) (c.present_is_history.ensures c.self.inside.contents.journal c.self.invariant.accepted)
