use Rattle.std.proofs.Common.{◌∙◌, ap}
use Rattle.indexmap.proofs.CallerLemmas.{insert_entry-new}
use Rattle.si_model.specs.Operations.{same_key}
use Rattle.si_model.specs.Parts.{set_up_value}
use Rattle.si_accept.proofs.SetUpFinds.{set_up_found}
use Rattle.si_accept.proofs.set_ups.SetUps.add.Goals as goal

pub returns-clause-ok : goal.returns-clause-ok
returns-clause-ok c =
    let absent = set_up_found c.args.key c.self.inside.values.entries ∙ ap (set_up_value c.args.key) c.self.view_is ∙ c.requires in
    rw (← c.self.view_is) (c.in_ok-insert.ensures.entries ∙ insert_entry-new same_key c.self.inside.values c.args.key c.args.value absent)
