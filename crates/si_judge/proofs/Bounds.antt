-- How many judgements an edit may cost.
use Rattle.std.proofs.Common.{◌≢◌, ℕ, ◌+◌, ◌≤◌, List, [], ◌∷◌, length}
use Rattle.std.specs.List.{Contains}
use Rattle.si_model.specs.declared.numbers.TxnId.{TxnId}
use Rattle.si_lists.proofs.Members.{Contains-nil, here}
use Rattle.si_lists.proofs.Names.{pairs_nil}
use Rattle.si_judge.specs.Touched.{IsTouched, UntouchedCostsTwo}

pub costs_two : UntouchedCostsTwo
costs_two Q R u n none = (
  λ h. most h.reads h.touched h.bound,
  λ le. record { reads = []; once = pairs_nil (λ o p. o ≢ p); touched = λ o c. absurd (Contains-nil o c); bound = le },
)
  where
    most : (reads : List (TxnId × ℕ)) → ((o : TxnId × ℕ) → Contains reads o → IsTouched Q R u o) → n ≤ length reads + 2 → n ≤ 2
    most [] touched le = le
    most (o ∷ reads) touched le = absurd (none o (touched o (here o reads)))
