-- What is judged by a log that its source gave whole.
use Rattle.std.proofs.Common.{◌≡◌, ℕ, List, Option, Some, None, ◌⊎◌, inl, inr, subst, ◌∙◌}
use Rattle.std.specs.Io.KnownBytes.{Keeps}
use Rattle.si_text.specs.Devices.{Lent, Output, foretold}
use Rattle.si_evidence.specs.declared.judges.Judged.{Judged}
use Rattle.si_evidence.specs.Runs.{Answers, IsWhole}
use Rattle.si_cli.specs.Judges.{EndsJudged}

-- a file that keeps what its source gives was read whole where the source was
pub kept_whole : (file before after : Option (List ℕ)) (log : List ℕ) → Keeps file before → IsWhole (foretold before after) log → IsWhole (foretold file after) log
kept_whole file before None log kept whole = tt
kept_whole None before (Some rest) log kept whole = tt
kept_whole (Some f) None (Some rest) log kept whole = absurd kept
kept_whole (Some f) (Some b) (Some rest) log kept whole = whole ∙ kept

answers_held : (held answer old new : Option (List ℕ)) (log : List ℕ) (said : Judged) → IsWhole held log → Answers (Some log) answer old new said → Answers held answer old new said
answers_held None answer old new log said whole given = tt
answers_held (Some l) answer old new log said whole given = subst (λ b. Answers (Some b) answer old new said) whole given

-- what is judged by the bytes that were read is judged by the file
pub judged_held : (held answer : Option (List ℕ)) (log : List ℕ) (out err : Lent Output) (result : ℕ) → IsWhole held log → EndsJudged (Some log) answer out err result → EndsJudged held answer out err result
judged_held held answer log out err result whole ends = elim ends [
  | inl done ↦ inl (done.0, done.1, answers_held held answer out.before.written out.after.written log done.0 whole done.2, done.3)
  | inr f ↦ inr f
]
