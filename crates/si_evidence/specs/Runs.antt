-- What is read whole, and what is written. All of it is this project's choice.
use Rattle.std.specs.Prelude.{◌≡◌, ℕ, Bool, false, List, [], ◌++◌, Option, Some, None, ⊤}
use Rattle.std.specs.Io.KnownBytes.{Appends, IsAtEnd}
use Rattle.si_text.specs.Devices.{MayConsume}
use Rattle.si_evidence.specs.declared.judges.Judged.{Judged}
use Rattle.si_evidence.specs.Judging.{IsAnswered}

-- the bytes are all that was foretold of the source, where that is known
abbrev pub IsWhole : Option (List ℕ) → List ℕ → Type 0
IsWhole None bytes = ⊤
IsWhole (Some left) bytes = bytes ≡ left

-- the text was written that this log and this answer give, where both are known, as far as the writer tells
abbrev pub Answers : Option (List ℕ) → Option (List ℕ) → Option (List ℕ) → Option (List ℕ) → Judged → Type 0
Answers None answer old new judged = ⊤
Answers (Some log) None old new judged = ⊤
Answers (Some log) (Some answer) old new judged = (text : List ℕ) × IsAnswered log answer [] text judged × Appends old new text

-- the next bytes of a source were put behind those that there are; where there were none, it is at its end
pub record TakesMore (before after : Option (List ℕ)) (old new : List ℕ) (some : Bool) : Type 0 where
  pub more : List ℕ
  pub next : new ≡ old ++ more
  pub taken : MayConsume before after more
  pub none : some ≡ false → (more ≡ []) × IsAtEnd after
