use Rattle.std.proofs.Common.{◌≡◌, ◌∙◌, ◌++◌, ap, map, subst, sym}
use Rattle.std.specs.Map.{values_of}
use Rattle.std.proofs.lemmas.List.{map-append}
use Rattle.si_model.specs.declared.parts.OnKey.{OnKey}
use Rattle.si_model.specs.Findings.{finding_at, findings_on}
use Rattle.si_model.specs.Order.{finding_cmp, in_order}
use Rattle.si_model.proofs.FindingOrder.{exact_findings}
use Rattle.si_judge.specs.Kept.{Shows}
use Rattle.si_judge.proofs.Listed.{listed}
use Rattle.si_judge.proofs.key_findings.KeyFindings.findings.Goals as goal

pub put_in_order-requires : goal.put_in_order-requires
put_in_order-requires g c = record { exact = exact_findings }

pub returns : goal.returns
returns g c =
    let J = g.J.Judge.rules in
    let m = c.self.inside.judgements in
    let at = finding_at c.self.inside.key in
    let items = c.in_ok-add_to-2.ensures.added ∙ ap (λ l. l ++ map at (values_of m.overlaps)) (c.in_ok-add_to.ensures.added ∙ ap (λ l. l ++ map at (values_of m.reads)) c.new-found.ensures.items)
    ∙ sym (map-append at (values_of m.reads) (values_of m.overlaps)) in
    subst (λ s. (M : OnKey) → Shows J M s → c.put_in_order.new.items.items ≡ findings_on J s.key M) c.self.view_is (λ M shows.
    let all = listed J M shows.indexes.history m.reads m.overlaps shows.right.reads shows.right.overlaps c.in_ok-add_to.ensures.rising c.in_ok-add_to-2.ensures.rising c.self.inside.key in
    c.put_in_order.ensures ∙ ap (in_order finding_cmp) items ∙ all)
