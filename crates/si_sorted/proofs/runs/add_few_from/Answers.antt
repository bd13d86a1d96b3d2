use Rattle.std.proofs.Common.{◌≡◌, ◌∙◌, ◌+◌, ◌-◌, ◌++◌, drop, take, sym, ap, arith}
use Rattle.std.specs.BTreeMap.Range.{is_from_start}
use Rattle.std.specs.List.{filter_map}
use Rattle.std.proofs.lemmas.List.{drop-take}
use Rattle.si_sorted.proofs.Parts.{between_few}
use Rattle.si_sorted.proofs.runs.add_few_from.Goals as goal

pub returns : goal.returns
returns g c =
    let es = c.args.entries.now in
    let from = c.start_of-from.result in
    let to = c.in-Some.to in
    let ends = c.in-Some.ensures in
    let whole : from + (to - from) ≡ to = omega (arith, ends.onward) in
    let part = sym (drop-take from (to - from) es) ∙ ap (λ n. drop from (take n es)) whole
    ∙ between_few g.met.K.Ord.total es c.requires (is_from_start g.K.Ord.cmp c.args.low) c.args.high from to c.start_of-from.ensures ends in
    c.in_ok-add_told.ensures ∙ ap (λ l. c.args.out.now.items ++ filter_map (λ e. g.C.Choice.tells c.args.choice.now e.0 e.1) l) part
