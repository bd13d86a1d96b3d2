use Rattle.std.proofs.Common.{List, ap, ◌∙◌, length, get_or, set, ◌-◌}
use Rattle.std.proofs.lemmas.Result.{on_ok_weaker}
use Rattle.si_model.specs.declared.parts.Part.{Part}
use Rattle.si_model.specs.declared.parts.Placed.{Placed}
use Rattle.si_chances.proofs.Regrouped.{set_last}
use Rattle.si_chances.proofs.regrouping.add_to_last.Goals as goal

pub returns : goal.returns
returns c =
    let ps = c.args.parts.now in
    let i = length ps - 1 in
    let d = c.index-parts-last.result in
    on_ok_weaker c.push.result
    (λ e. ap (λ (ys : List Placed). set ps i (let p : Part = record { id = (get_or ps i d).id; start = (get_or ps i d).start; status = (get_or ps i d).status; accesses = ys } in p)) e ∙ set_last c.args.placed ps d)
    c.push.ensures.ok
