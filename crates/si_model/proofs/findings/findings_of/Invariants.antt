use Rattle.std.proofs.Common.{◌≡◌, ◌++◌, drop}
use Rattle.std.specs.List.{flat_map}
use Rattle.si_model.specs.Parts.{Present}
use Rattle.si_model.specs.Findings.{found_at}
use Rattle.si_model.proofs.findings.findings_of.Given as goal

abbrev pub invariant-loop-key : goal.invariant-loop-key
invariant-loop-key l =
    let P : Present = record { txns = l.txns; initial = l.fn.initial } in
    l.found.items ++ flat_map (found_at P) (drop l.key-index l.key-items) ≡ flat_map (found_at P) l.key-items
