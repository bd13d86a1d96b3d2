use Rattle.std.proofs.Common.{◌≡◌, ◌∙◌, ◌+◌, ◌-◌, drop, take, sym, ap, arith}
use Rattle.std.specs.BTreeMap.Range.{is_from_start, is_past_end}
use Rattle.std.proofs.lemmas.List.{drop-take}
use Rattle.si_sorted.proofs.Parts.{between_cuts, none_behind, none_between}
use Rattle.si_sorted.proofs.runs.part_of.Goals as goal

pub returns-then-from-entries : goal.returns-then-from-entries
returns-then-from-entries g c = none_behind (is_from_start g.K.Ord.cmp c.args.low) (is_past_end g.K.Ord.cmp c.args.high) c.args.entries.now c.start_of-from.result c.start_of-from.ensures c.if-from-entries.true

pub returns-then-from-to : goal.returns-then-from-to
returns-then-from-to g c =
    let es = c.args.entries.now in
    let from = c.start_of-from.result in
    let to = c.end_of-to.result in
    let less = c.if-from-to.true in
    let whole : from + (to - from) ≡ to = omega (arith, less) in
    sym (drop-take from (to - from) es) ∙ ap (λ n. drop from (take n es)) whole
    ∙ between_cuts (is_from_start g.K.Ord.cmp c.args.low) (is_past_end g.K.Ord.cmp c.args.high) es from to c.start_of-from.ensures c.end_of-to.ensures (omega (arith, less))

pub returns : goal.returns
returns g c =
    let more = c.if-from-to.false in
    none_between (is_from_start g.K.Ord.cmp c.args.low) (is_past_end g.K.Ord.cmp c.args.high) c.args.entries.now c.start_of-from.result c.end_of-to.result c.start_of-from.ensures c.end_of-to.ensures (omega (arith, more))
