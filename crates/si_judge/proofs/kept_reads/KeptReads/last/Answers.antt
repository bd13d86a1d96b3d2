use Rattle.std.proofs.Common.{◌∙◌, ◌-◌, ap, length, slice_get, sym}
use Rattle.std.specs.Map.{keys_of}
use Rattle.std.specs.Option.{option_map}
use Rattle.si_judge.specs.declared.reads.KeptRead.{KeptRead}
use Rattle.si_judge.proofs.OwnApart.{last_with_own}
use Rattle.si_judge.proofs.kept_reads.KeptReads.last.Goals as goal

pub returns : goal.returns
returns c =
    ap (option_map (λ (e : KeptRead × Unit {0}). e.0)) (sym c.in_ok-reader.was ∙ c.last.ensures)
    ∙ last_with_own c.self.inside.own c.self.inside.all ∙ ap (λ es. slice_get (keys_of es) (length es - 1)) c.self.view_is
