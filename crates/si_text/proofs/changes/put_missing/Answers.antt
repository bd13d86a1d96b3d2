use Rattle.std.proofs.Common.{◌≡◌, ◌∙◌, ℕ, ◌+◌, ◌<◌, ◌++◌, ◌∷◌, [], Bool, true, false, not, cond, List, length, All, take, get_or, refl, sym, ap, subst, arith, rules, append_assoc, append-nil}
use Rattle.std.specs.List.{flat_map, list_any}
use Rattle.std.specs.declared.cmp.Ordering.TheVariants.{Less}
use Rattle.std.specs.Cmp.Rules.{comparing}
use Rattle.std.specs.Ordering.{eq_by_cmp}
use Rattle.std.proofs.lemmas.Grind.{common_steps, flat_map-append}
use Rattle.std.proofs.lemmas.List.Elements.{at_read, filter_more}
use Rattle.si_model.specs.declared.findings.Finding.{Finding}
use Rattle.si_model.specs.Order.{finding_cmp, finding_eq}
use Rattle.si_model.proofs.FindingOrder.{findings_order}
use Rattle.si_text.specs.declared.changes.Change.{Change}
use Rattle.si_text.specs.Printing.{change_text}
use Rattle.si_text.specs.Texts.{not_among}
use Rattle.si_text.proofs.Appended.{kept_on}
use Rattle.si_text.proofs.Walked.{is_there, passed_on}
use Rattle.si_text.proofs.changes.put_missing.Goals.{then-not-is_at+in_ok-put_change, else-not-is_at}
use Rattle.si_text.proofs.changes.put_missing.Goals as goal

-- findings are one exactly where neither comes before the other
ties : (f g : Finding) → finding_eq f g ≡ eq_by_cmp finding_cmp f g
ties = search (comparing, rules)

one : (change : Change) (f : Finding) (known : Bool) → flat_map (change_text change) (cond (not known) (f ∷ []) []) ≡ cond (not known) (change_text change f) []
one change f true = refl
one change f false = append-nil (change_text change f)

-- the text of one more finding
one_more : (change : Change) (others findings : List Finding) (i : ℕ) (f : Finding) (known : Bool) → i < length findings → f ≡ get_or findings i f → known ≡ list_any (finding_eq f) others
    → flat_map (change_text change) (not_among others (take (i + 1) findings)) ≡ flat_map (change_text change) (not_among others (take i findings)) ++ cond (not known) (change_text change f) []
one_more change others findings i f known below is known_is =
    let text = flat_map (change_text change) in
    let is_new : Finding → Bool = λ g. not (list_any (finding_eq g) others) in
    let last : cond (is_new (get_or findings i f)) (get_or findings i f ∷ []) [] ≡ cond (not known) (f ∷ []) [] =
    ap (λ g. cond (is_new g) (g ∷ []) []) (sym is) ∙ ap (λ b. cond (not b) (f ∷ []) []) (sym known_is) in
    ap text (filter_more is_new findings i f below) ∙ flat_map-append (change_text change) (not_among others (take i findings)) (cond (is_new (get_or findings i f)) (get_or findings i f ∷ []) [])
    ∙ ap (λ l. text (not_among others (take i findings)) ++ text l) last
    ∙ ap (λ l. text (not_among others (take i findings)) ++ l) (one change f known)

pub returns-in_err-put_change : goal.returns-in_err-put_change
returns-in_err-put_change c = record { whole = search rules; begins = grind (arith, common_steps, kept_on) }

pub loop-finding-preserved : goal.loop-finding-preserved
loop-finding-preserved c =
    let others = c.args.others.now in
    let findings = c.args.findings.now in
    let f = c.finding-item.result in
    let i = c.loop-finding.finding-index in
    let so_far = c.loop-finding.invariant in
    let before : All (λ x. finding_cmp x f ≡ Less) (take c.passed-place.result others) =
    c.passed-place.ensures.before (subst (λ g. All (λ x. finding_cmp x g ≡ Less) (take c.loop-finding.place others)) (sym c.finding-item.is) (so_far.before i f (omega arith) c.loop-finding-test.true)) in
    let known : c.is_at.result ≡ list_any (finding_eq f) others =
    c.is_at.ensures ∙ sym (is_there findings_order.0 {E = finding_eq} ties f c.passed-place.result others c.requires.others before c.passed-place.ensures.here) in
    let more = one_more c.args.change others findings i f c.is_at.result c.loop-finding-test.true c.finding-item.is known in
    let before_it = flat_map (change_text c.args.change) (not_among others (take i findings)) in
    record {
      within = c.passed-place.ensures.within;
      before = passed_on findings_order.0 {E = finding_eq} ties findings others i c.passed-place.result c.requires.findings c.loop-finding-test.true
          (at_read findings (λ g. All (λ x. finding_cmp x g ≡ Less) (take c.passed-place.result others)) i f c.loop-finding-test.true c.finding-item.is before);
      text = elim c.if-not-is_at.branch [
        | then-not-is_at+in_ok-put_change w ↦ ap (λ v. v.items) w.out-is ∙ w.in_ok-put_change.ensures.whole ∙ ap (λ l. l ++ change_text c.args.change f) so_far.text
            ∙ append_assoc c.args.out.now.items before_it (change_text c.args.change f)
            ∙ sym (ap (λ l. c.args.out.now.items ++ l) (more ∙ ap (λ b. before_it ++ cond (not b) (change_text c.args.change f) []) w.if-not-is_at.true))
        | else-not-is_at w ↦ ap (λ v. v.items) w.out-is ∙ so_far.text
            ∙ sym (ap (λ l. c.args.out.now.items ++ l) (more ∙ ap (λ b. before_it ++ cond (not b) (change_text c.args.change f) []) w.if-not-is_at.false ∙ append-nil before_it))
      ];
    }
