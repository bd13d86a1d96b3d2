use Rattle.std.proofs.Common.{◌≡◌, ◌∙◌, ◌++◌, ◌≤◌, ℕ, List, length, take, subst, sym, ap, ap₂, append_assoc}
use Rattle.std.specs.List.Sorted.{IsStrictlySortedBy}
use Rattle.si_model.specs.declared.edits.Edit.{Edit}
use Rattle.si_model.specs.declared.findings.Finding.{Finding}
use Rattle.si_model.specs.Findings.{findings}
use Rattle.si_model.specs.Journals.{present}
use Rattle.si_model.specs.Order.{finding_cmp}
use Rattle.si_text.specs.Texts.{changes_text, not_among, summary_text, verdict_of, violations_of}
use Rattle.si_run.specs.declared.tolds.Told.{Told}
use Rattle.si_run.specs.Engines.{EngineState}
use Rattle.si_run.specs.Outputs.{changes_at, summary_at, violations_at}
use Rattle.si_run.specs.Tolds.{IsChange, IsTold, IsToldIn, found_then}
use Rattle.si_run.proofs.Differences.{came_sorted, changes_alike, found_sorted, told_now, told_state, turned, violations_change}
use Rattle.si_run.proofs.engines.Engine.tell_changes.Goals as goal

-- two texts, one behind the other
both : (old mid new a b x y : List ℕ) → mid ≡ old ++ a → new ≡ mid ++ b → a ≡ x → b ≡ y → new ≡ old ++ (x ++ y)
both old mid new a b x y first second a_is b_is =
    second ∙ ap (λ t. t ++ b) first ∙ append_assoc old a b ∙ ap (λ t. old ++ (t ++ b)) a_is ∙ ap (λ t. old ++ (x ++ t)) b_is

-- what came and what went since a place of the journal
change_in : (J : List Edit) (n : ℕ) (more less : List Finding) → more ≡ not_among (found_then J n) (findings (present J)) → less ≡ not_among (findings (present J)) (found_then J n)
    → IsChange (found_then J n) (findings (present J)) more less
change_in J n more less came went = record { rose = found_sorted (take n J); rises = found_sorted J; came = came; went = went }

-- the same of the violations
violations_in : (J : List Edit) (n : ℕ) (more less more_left less_left : List Finding) → IsChange (found_then J n) (findings (present J)) more less → more_left ≡ violations_of more → less_left ≡ violations_of less
    → IsChange (violations_of (found_then J n)) (violations_of (findings (present J))) more_left less_left
violations_in J n more less more_left less_left change came went =
    let left = violations_change (found_then J n) (findings (present J)) more less change in
    record { rose = left.rose; rises = left.rises; came = came ∙ left.came; went = went ∙ left.went }

pub changed-requires : goal.changed-requires
changed-requires g c = subst (λ (l : List Edit). c.self.inside.told.at ≤ length l) (ap (λ (s : EngineState). s.progress.journal) c.self.view_is) c.self.invariant.told.within

pub after-requires : goal.after-requires
after-requires g c =
    let J = c.args.self.now.progress.journal in
    let at = c.self.inside.told.at in
    let journal = ap (λ (s : EngineState). s.progress.journal) c.self.view_is in (
      found_then J at,
      findings (present J),
      change_in J at _ _ c.in_ok-number.ensures.came c.in_ok-number.ensures.went,
      subst (λ (l : List Edit). IsTold (found_then l at) c.self.inside.told) journal c.self.invariant.told.told,
    )

pub print_changes-requires-clause-told : goal.print_changes-requires-clause-told
print_changes-requires-clause-told g c =
    let J = c.args.self.now.progress.journal in
    let at = c.self.inside.told.at in
    let left = violations_in J at _ _ _ _ (change_in J at _ _ c.in_ok-number.ensures.came c.in_ok-number.ensures.went) c.in_ok-now.ensures.came c.in_ok-now.ensures.went in
    subst (IsStrictlySortedBy finding_cmp) (sym c.deref.ensures.value)
    (came_sorted (violations_of (findings (present J))) (violations_of (found_then J at)) _ _ (turned (violations_of (found_then J at)) (violations_of (findings (present J))) _ _ left))

pub print_changes-requires-clause-found : goal.print_changes-requires-clause-found
print_changes-requires-clause-found g c =
    let J = c.args.self.now.progress.journal in
    let at = c.self.inside.told.at in
    let left = violations_in J at _ _ _ _ (change_in J at _ _ c.in_ok-number.ensures.came c.in_ok-number.ensures.went) c.in_ok-now.ensures.came c.in_ok-now.ensures.went in
    subst (IsStrictlySortedBy finding_cmp) (sym c.deref-2.ensures.value) (came_sorted (violations_of (found_then J at)) (violations_of (findings (present J))) _ _ left)

-- what is told now is counted
now_told : (J : List Edit) (before now : Told) (more less : List Finding) → IsTold (found_then J before.at) before → IsChange (found_then J before.at) (findings (present J)) more less
    → ((was is : List Finding) → IsChange was is more less → IsTold was before → IsTold is now) → IsTold (findings (present J)) now
now_told J before now more less was change after = after (found_then J before.at) (findings (present J)) change was

pub invariant_of-self : goal.invariant_of-self
invariant_of-self g c =
    let J = c.args.self.now.progress.journal in
    let before = c.self.inside.told in
    let journal = ap (λ (s : EngineState). s.progress.journal) c.self.view_is in
    let journal_now = ap (λ (s : EngineState). s.progress.journal) (c.self-2.view_is ∙ c.changed.ensures.state) in
    let was = subst (λ (l : List Edit). IsTold (found_then l before.at) before) journal c.self.invariant.told.told in
    let told = now_told J before c.in_ok-now.now _ _ was (change_in J before.at _ _ c.in_ok-number.ensures.came c.in_ok-number.ensures.went) c.in_ok-now.ensures.told in
    let end = c.in_ok-now.ensures.at ∙ c.in_ok-number.ensures.number in
    let own = c.self-2.invariant in
    record {
      table = own.table;
      alone = own.alone;
      number = own.number;
      own = own.own;
      counts = own.counts;
      told = subst (λ (l : List Edit). IsToldIn l c.in_ok-now.now) (sym journal_now) (told_now J c.in_ok-now.now end told);
    }

pub returns-clause-ok : goal.returns-clause-ok
returns-clause-ok g c =
    told_state _ c.self-2.inside.pass.view c.self-2.inside.decided c.self-2.inside.refused c.self-2.inside.told c.in_ok-now.now c.args.self.now (c.self-2.view_is ∙ c.changed.ensures.state) (c.in_ok-now.ensures.at ∙ c.in_ok-number.ensures.number)

pub returns-clause-text : goal.returns-clause-text
unfolding changes_at summary_at
returns-clause-text g c =
    let p = c.args.self.now.progress in
    let J = p.journal in
    let before = c.self.inside.told in
    let found = findings (present J) in
    let journal = ap (λ (s : EngineState). s.progress.journal) c.self.view_is in
    let was = subst (λ (l : List Edit). IsTold (found_then l before.at) before) journal c.self.invariant.told.told in
    let change = change_in J before.at _ _ c.in_ok-number.ensures.came c.in_ok-number.ensures.went in
    let told = now_told J before c.in_ok-now.now _ _ was change c.in_ok-now.ensures.told in
    let left = violations_in J before.at _ _ _ _ change c.in_ok-now.ensures.came c.in_ok-now.ensures.went in
    let told_before : violations_of (found_then J before.at) ≡ p.told = ap (λ (l : List Edit). violations_of (found_then l before.at)) (sym journal) ∙ ap (λ (s : EngineState). s.progress.told) c.self.view_is in
    let explain = ap (λ (s : EngineState). s.terms.explain) (c.self-2.view_is ∙ c.changed.ensures.state) in
    let refused = ap (λ (s : EngineState). s.progress.refused) (c.self-2.view_is ∙ c.changed.ensures.state) in
    let changes : changes_text c.self-2.inside.explain c.deref.result.now c.deref-2.result.now ≡ changes_text c.args.self.now.terms.explain p.told (violations_at p) =
    ap₂ (λ l m. changes_text c.self-2.inside.explain l m) c.deref.ensures.value c.deref-2.ensures.value
    ∙ changes_alike c.self-2.inside.explain (violations_of (found_then J before.at)) (violations_of found) _ _ left
    ∙ ap₂ (λ b l. changes_text b l (violations_of found)) explain told_before in
    let summary : summary_text c.in_ok-number.field-0.transactions c.in_ok-now.now.found c.self-2.inside.refused c.verdict-verdict.result ≡ summary_text (length (present J).txns) (length found) p.refused (verdict_of found) =
    ap₂ (λ m n. summary_text m n c.self-2.inside.refused c.verdict-verdict.result) c.in_ok-number.ensures.count told.found
    ∙ ap₂ (λ n v. summary_text (length (present J).txns) (length found) n v) refused (c.verdict-verdict.ensures found told) in
    both c.args.text.now.items c.print_changes.new.out.items c.print_summary.new.out.items _ _ _ _ c.in_ok-print_changes.ensures.ok c.in_ok-print_summary.ensures.ok changes summary
