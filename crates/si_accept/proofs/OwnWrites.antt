-- Operations of one transaction in an index of their own.
use Rattle.std.proofs.Common.{◌≡◌, List}
use Rattle.std.specs.List.{list_any}
use Rattle.std.specs.Option.{is_some}
use Rattle.si_model.specs.declared.operations.Op.{Op}
use Rattle.si_model.specs.Operations.{same_write}
use Rattle.si_accept.specs.Writers.{Written, writer_of}

-- a pair has a writer in the index where one of the operations writes it
abbrev pub IsSeen : List Op → Written → Type 0
IsSeen ps W = (q : Op) → is_some (writer_of W q) ≡ list_any (same_write q) ps
