-- A text that is written in two parts.
use Rattle.std.proofs.Common.{ℕ, List, ◌++◌, Option, sym, ap, ◌∙◌, append_assoc}
use Rattle.std.specs.Prelude.{Result, Ok, Err, OnErr}
use Rattle.std.specs.Io.KnownBytes.{Appends}
use Rattle.std.proofs.KnownBytes.{Appends-trans}
use Rattle.si_run.specs.Runs.{AppendsBeginning, AppendsPart}

-- a part of the first one is a beginning of both
pub in_head : (old new : Option (List ℕ)) (head rest : List ℕ) → AppendsPart old new head → AppendsBeginning old new (head ++ rest)
in_head old new head rest p = (p.0, p.1 ++ rest, ap (λ (l : List ℕ). l ++ rest) p.2 ∙ append_assoc p.0 p.1 rest, p.4)

-- and so is the first one with a part of the other
pub in_rest : (old mid new : Option (List ℕ)) (head rest : List ℕ) → Appends old mid head → AppendsPart mid new rest → AppendsBeginning old new (head ++ rest)
in_rest old mid new head rest first p =
    (head ++ p.0, p.1, ap (λ (l : List ℕ). head ++ l) p.2 ∙ sym (append_assoc head p.0 p.1), Appends-trans old mid new head p.0 first p.4)

-- what holds holds at an error
pub of_err : {A E : Type 0} (result : Result A E) (P : Type 0) → P → OnErr result P
of_err (Ok a) P p = tt
of_err (Err e) P p = p
