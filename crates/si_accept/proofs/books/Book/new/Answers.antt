use Rattle.std.proofs.Common.{rules}
use Rattle.si_accept.proofs.Empty.{present_empty, accepted_empty}
use Rattle.si_accept.proofs.books.Book.new.Goals as goal

pub invariant_of-result : goal.invariant_of-result
invariant_of-result c = search (rules, present_empty, accepted_empty)
