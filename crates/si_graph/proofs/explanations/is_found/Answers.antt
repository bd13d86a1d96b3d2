use Rattle.std.proofs.Common.{◌≡◌, ◌∙◌, ◌↔◌, true, sym, ap, subst}
use Rattle.std.specs.List.{list_any}
use Rattle.std.specs.Ordering.{is_eq}
use Rattle.std.specs.Cmp.{Equal-is, tied_itself}
use Rattle.si_model.specs.declared.findings.Finding.{Finding}
use Rattle.si_model.specs.Parts.{Present}
use Rattle.si_model.specs.Order.{finding_cmp}
use Rattle.si_model.specs.Findings.{IsFinding, findings}
use Rattle.si_model.specs.History.{IsHistory}
use Rattle.si_model.specs.Laws.{FindingsAreExact, OrderIsStrict}
use Rattle.si_lists.proofs.Tests.{any_from, any_is}
use Rattle.si_graph.proofs.explanations.is_found.Goals as goal

-- the search finds what is a finding, and nothing else
found_decides : FindingsAreExact → OrderIsStrict → (P : Present) → IsHistory P → (f : Finding) → (list_any (λ g. is_eq (finding_cmp f g)) (findings P) ≡ true) ↔ IsFinding P f
found_decides exact order P h f = (
  λ e. (let r = any_is (λ g. is_eq (finding_cmp f g)) (findings P) e in subst (IsFinding P) (sym (order.1 f r.0 ((Equal-is (finding_cmp f r.0)).0 r.2))) ((exact P h).sound r.0 r.1)),
  λ is. any_from (λ g. is_eq (finding_cmp f g)) (findings P) f ((exact P h).complete f is) ((Equal-is (finding_cmp f f)).1 (tied_itself order.0 f)),
)

pub returns : goal.returns
returns c =
    let f = c.args.finding.now in
    let by = found_decides c.findings_are_exact.ensures c.order_is_strict.ensures (record { txns = c.args.txns.now; initial = c.args.initial.now }) c.requires f in
    let among = c.is_among.ensures ∙ ap (list_any (λ (g : Finding). is_eq (finding_cmp f g))) (c.deref.ensures.value ∙ c.in_ok-found.ensures) in
    (λ yes. by.0 (sym among ∙ yes), λ is. among ∙ by.1 is)
