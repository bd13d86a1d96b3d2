use Rattle.std.proofs.Common.{◌∙◌, ◌++◌, ap, ap₂, cond, if◌then◌else◌, Some, None}
use Rattle.std.specs.BTreeMap.Range.{entries_between}
use Rattle.std.specs.List.{filter_map}
use Rattle.std.specs.declared.ops.Bound.{Bound}
use Rattle.si_judge.specs.declared.reads.KeptRead.{KeptRead}
use Rattle.si_sorted.specs.Entries.{value_at}
use Rattle.si_judge.specs.KeptReads.{is_kept_read_of, kept_read_cmp, kept_reads_among}
use Rattle.si_judge.proofs.Ranges.{range_tells_all}
use Rattle.si_judge.proofs.kept_reads.KeptReads.add_few_to.Goals as goal

pub returns : goal.returns
returns c =
    let v = c.args.value in
    let after = c.args.after in
    let own = c.self.inside.own in
    let all = c.self.inside.all in
    let told = λ (lo hi : Bound KeptRead). filter_map (λ e. cond (is_kept_read_of v after e.0) (Some (e.0, value_at kept_read_cmp own e.0)) None) (entries_between kept_read_cmp lo hi all) in
    c.in_ok-few.ensures
    ∙ ap (λ l. if c.in_ok-few.few then c.args.reads.now.items ++ l else c.args.reads.now.items)
    (ap₂ told c.least_kept_read-least.ensures c.beyond-beyond.ensures
    ∙ range_tells_all v after own all ∙ ap (λ es. kept_reads_among es v after) c.self.view_is)
