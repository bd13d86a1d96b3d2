-- How often findings are somewhere. All of it is this project's choice.
use Rattle.std.specs.Prelude.{ℕ, nat_lt, unwrap_or, List}
use Rattle.std.specs.List.{filter}
use Rattle.std.specs.BTreeMap.{BTreeMap, get}
use Rattle.si_model.specs.declared.findings.Finding.{Finding}
use Rattle.si_model.specs.Order.{finding_cmp, in_order}
use Rattle.si_shard.specs.KeyNotes.{times_in}

-- how often counts tell that a finding is there
abbrev pub told_times : BTreeMap Finding ℕ → Finding → ℕ
told_times counts f = unwrap_or (get finding_cmp counts f) 0

-- what is among the first more often than among the others, in order and each once
abbrev pub more_often : List Finding → List Finding → List Finding
more_often found others = in_order finding_cmp (filter (λ f. nat_lt (times_in f others) (times_in f found)) found)
