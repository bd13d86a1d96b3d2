-- What the exit status says.
use Rattle.std.proofs.Common.{◌≡◌, ◌⊎◌, inl, inr, ℕ, ◌+◌, ◌≤◌, ◌==◌, ◌&&◌, ◌||◌, Bool, true, false, not, nat_lt, length, List, [], ◌∷◌, ◌++◌, Option, Some, None, refl, sym, ap, ap₂, subst, ◌∙◌, append_assoc, arith}
use Rattle.std.specs.Prelude.{◌↔◌, Result, Ok, Err, if◌then◌else◌, nat_le, is_none}
use Rattle.std.specs.List.{flat_map, list_any}
use Rattle.std.proofs.lemmas.Bool.{eqb-true, ltb-false, ltb-true}
use Rattle.std.proofs.lemmas.List.{nil_from_length}
use Rattle.si_lists.proofs.Tests.{any_from, any_is}
use Rattle.si_model.specs.declared.edits.Edit.{Edit}
use Rattle.si_model.specs.declared.refusals.Refusal.{Refusal}
use Rattle.si_model.specs.declared.refusals.Refusal.TheVariants as refusal
use Rattle.si_model.specs.declared.transactions.Txn.{Txn}
use Rattle.si_model.specs.declared.findings.Finding.{Finding}
use Rattle.si_model.specs.Edits.{IsAcceptable, refusal_on}
use Rattle.si_model.specs.declared.chances.Chances.{Chances}
use Rattle.si_model.specs.Chances.{chances}
use Rattle.si_model.specs.Findings.{findings}
use Rattle.si_model.specs.Parts.{Present}
use Rattle.si_model.specs.Journals.{IsAccepted, present, refusal_after}
use Rattle.si_model.specs.Laws.{AcceptedGrows, PresentIsHistory}
use Rattle.si_graph.specs.SnapshotLaws.{SnapshotsAreClean}
use Rattle.si_graph.specs.Snapshots.{IsSnapshot}
use Rattle.si_accept.specs.Statuses.{committed_among, doubtful_among}
use Rattle.si_text.specs.declared.faults.LineFault.{LineFault}
use Rattle.si_text.specs.declared.reasons.Reason.{Reason}
use Rattle.si_text.specs.declared.verdicts.Verdict.{Verdict}
use Rattle.si_text.specs.declared.verdicts.Verdict.TheVariants as verdict
use Rattle.si_text.specs.declared.endings.ExpectedPlaces.{ExpectedPlaces}
use Rattle.si_text.specs.Texts.{are_few, few_lines, finding_lines, is_few, is_violation, told_chances, verdict_of}
use Rattle.si_run.specs.declared.statuses.ExitStatus.TheVariants as exit
use Rattle.si_run.specs.Outputs.{Progress, SourcedItem, Terms, behind_report, counted, decided_after, ending_lines, falls_short, is_due, is_short_of, item_text, items_text, journal_after, journal_with, output_of, progress_after, progress_through, reason_after, report_at, short_line, start, status_at, status_by, status_of, summary_at, violations_at, whole_report_at, changes_at}
use Rattle.si_run.specs.Laws.{accepted_after, refused_among}
use Rattle.si_run.specs.GateLaws.{AreEnough, ExpectAdds, GateIsExact, HasEnough, IsEnough, ViolationIsExact, unasked}

-- ---- what the decisions come to

module _ (terms : Terms) where
  behind_journal : (p : Progress) → (behind_report terms p).journal ≡ p.journal
  unfolding behind_report
  behind_journal p = by (is_due terms.every p.decided && terms.only_new)
    where
      by : (b : Bool) → (if b then record p { told = violations_at p } else p).journal ≡ p.journal
      by true = refl
      by false = refl

  behind_refused : (p : Progress) → (behind_report terms p).refused ≡ p.refused
  unfolding behind_report
  behind_refused p = by (is_due terms.every p.decided && terms.only_new)
    where
      by : (b : Bool) → (if b then record p { told = violations_at p } else p).refused ≡ p.refused
      by true = refl
      by false = refl

  journals : (p : Progress) (items : List SourcedItem) → (progress_through terms p items).journal ≡ accepted_after terms.limit p.journal items
  unfolding progress_after decided_after
  journals p [] = refl
  journals p (item ∷ items) =
      journals (progress_after terms p item) items ∙ ap (λ J. accepted_after terms.limit J items) (behind_journal (decided_after terms p item))

  counted-plus : (n m : ℕ) (reason : Option Reason) → counted n reason + m ≡ n + counted m reason
  counted-plus n m None = refl
  counted-plus n m (Some reason) = omega arith

  counts : (p : Progress) (items : List SourcedItem) → (progress_through terms p items).refused ≡ p.refused + refused_among terms.limit p.journal items
  unfolding progress_after decided_after
  counts p [] = omega arith
  counts p (item ∷ items) =
      counts (progress_after terms p item) items
      ∙ ap₂ (λ n J. n + refused_among terms.limit J items) (behind_refused (decided_after terms p item)) (behind_journal (decided_after terms p item))
      ∙ counted-plus p.refused (refused_among terms.limit (journal_after terms.limit p.journal item.1.1) items) (reason_after terms.limit p.journal item.1.1)

-- ---- what is accepted is an accepted journal

acceptable : (limit : ℕ) (J : List Edit) (e : Edit) → refusal_after limit J e ≡ None → IsAcceptable (present J) e
unfolding refusal_after
acceptable limit J e none = by (nat_le limit (length J)) none
  where
    by : (b : Bool) → (if b then Some refusal.Full else refusal_on (present J) e) ≡ None → IsAcceptable (present J) e
    by true is = cc
    by false is = is

none_accepted : IsAccepted []
none_accepted [] e rest is = cc
none_accepted (x ∷ before) e rest is = cc

module _ (grows : AcceptedGrows) (limit : ℕ) where
  one_more : (J : List Edit) → IsAccepted J → (r : Result Edit LineFault) → IsAccepted (journal_after limit J r)
  one_more J a (Err fault) = a
  one_more J a (Ok e) = by (refusal_after limit J e) refl
    where
      by : (o : Option Refusal) → refusal_after limit J e ≡ o → IsAccepted (journal_with J e (is_none o))
      by None is = (grows J e).1 (a, acceptable limit J e is)
      by (Some reason) is = a

  all_accepted : (J : List Edit) → IsAccepted J → (items : List SourcedItem) → IsAccepted (accepted_after limit J items)
  all_accepted J a [] = a
  all_accepted J a (item ∷ items) = all_accepted (journal_after limit J item.1.1) (one_more J a item.1.1) items

-- ---- the status

clean_verdict : (fs : List Finding) → verdict_of fs ≡ verdict.Clean → fs ≡ []
clean_verdict [] e = refl
clean_verdict (f ∷ fs) e = by (list_any (λ (finding : Finding). is_violation finding.kind) (f ∷ fs)) e
  where
    by : (b : Bool) → (if b then verdict.Violation else verdict.Open) ≡ verdict.Clean → f ∷ fs ≡ []
    by true e = cc
    by false e = cc

status_clean : (v : Verdict) (n : ℕ) (short : Bool) → status_by v n short ≡ exit.Clean → (v ≡ verdict.Clean) × (n ≡ 0) × (short ≡ false)
status_clean verdict.Violation n short e = cc
status_clean verdict.Open n short e = cc
status_clean verdict.Clean n short e = by (n == 0) refl short e
  where
    by : (b : Bool) → (n == 0) ≡ b → (s : Bool) → (if b && not s then exit.Clean else exit.Open) ≡ exit.Clean → (verdict.Clean ≡ verdict.Clean) × (n ≡ 0) × (s ≡ false)
    by true is false e = (refl, eqb-true n 0 is, refl)
    by true is true e = cc
    by false is false e = cc
    by false is true e = cc

short_test : (a b : Bool) → (a || not b) ≡ false → (a ≡ false) × (b ≡ true)
short_test true true e = cc
short_test true false e = cc
short_test false true e = (refl, refl)
short_test false false e = cc

not_short : (a b : Bool) → a ≡ false → b ≡ true → (a || not b) ≡ false
not_short a b p q = cc

enough : (expected : Option ℕ) (txns : List Txn) → (is_short_of expected txns ≡ false) ↔ IsEnough expected txns
enough None txns = (λ e. tt, λ e. refl)
enough (Some n) txns = (
  λ e. (
      let both = short_test (nat_lt (committed_among txns) n) (length (doubtful_among txns) == 0) e in (
        ltb-false (committed_among txns) n both.0,
        nil_from_length (doubtful_among txns) (eqb-true (length (doubtful_among txns)) 0 both.1),
      )
      ),
  λ is. not_short (nat_lt (committed_among txns) n) (length (doubtful_among txns) == 0) (few (nat_lt (committed_among txns) n) refl is.0) (ap (λ l. length l == 0) is.1),
)
  where
    few : (b : Bool) → nat_lt (committed_among txns) n ≡ b → n ≤ committed_among txns → b ≡ false
    few true is most = absurd (let less = ltb-true (committed_among txns) n is in omega (arith, less, most))
    few false is most = refl

-- ---- places

few_is : (places : ℕ) (expected : Option ℕ) → (is_few places expected ≡ false) ↔ HasEnough places expected
few_is places None = (λ e. tt, λ e. refl)
few_is places (Some n) = (ltb-false places n, λ most. by (nat_lt places n) refl most)
  where
    by : (b : Bool) → nat_lt places n ≡ b → n ≤ places → b ≡ false
    by true is most = absurd (let less = ltb-true places n is in omega (arith, less, most))
    by false is most = refl

no_or : (a b : Bool) → (a || b) ≡ false → (a ≡ false) × (b ≡ false)
no_or true b e = cc
no_or false b e = (refl, e)

neither : (a b : Bool) → a ≡ false → b ≡ false → (a || b) ≡ false
neither a b p q = cc

few_are : (e : ExpectedPlaces) (c : Chances) → (are_few e c ≡ false) ↔ AreEnough e c
few_are e c = (to, from)
  where
    to : are_few e c ≡ false → AreEnough e c
    to none =
        let a = no_or _ (is_few c.overlap.places e.overlap) none in
        let b = no_or _ (is_few c.stale.places e.stale) a.0 in
        let d = no_or _ (is_few c.future.places e.future) b.0 in
        let f = no_or _ (is_few c.intermediate.places e.intermediate) d.0 in
        let g = no_or (is_few c.own.places e.own) (is_few c.aborted.places e.aborted) f.0 in
        record {
          own = (few_is c.own.places e.own).0 g.0;
          aborted = (few_is c.aborted.places e.aborted).0 g.1;
          intermediate = (few_is c.intermediate.places e.intermediate).0 f.1;
          future = (few_is c.future.places e.future).0 d.1;
          stale = (few_is c.stale.places e.stale).0 b.1;
          overlap = (few_is c.overlap.places e.overlap).0 a.1;
        }

    from : AreEnough e c → are_few e c ≡ false
    from all =
        let own = (few_is c.own.places e.own).1 all.own in
        let aborted = neither _ _ own ((few_is c.aborted.places e.aborted).1 all.aborted) in
        let intermediate = neither _ _ aborted ((few_is c.intermediate.places e.intermediate).1 all.intermediate) in
        let future = neither _ _ intermediate ((few_is c.future.places e.future).1 all.future) in
        let stale = neither _ _ future ((few_is c.stale.places e.stale).1 all.stale) in
        neither _ _ stale ((few_is c.overlap.places e.overlap).1 all.overlap)

-- nothing is short exactly where transactions and places are enough
whole : (terms : Terms) (P : Present) → (falls_short terms P ≡ false) ↔ (IsEnough terms.expected P.txns × AreEnough terms.asked.expected (chances P))
whole terms P = (
  λ e. (let both = no_or (is_short_of terms.expected P.txns) (are_few terms.asked.expected (chances P)) e in
      ((enough terms.expected P.txns).0 both.0, (few_are terms.asked.expected (chances P)).0 both.1)),
  λ is. neither _ _ ((enough terms.expected P.txns).1 is.0) ((few_are terms.asked.expected (chances P)).1 is.1),
)

module _ (clean : SnapshotsAreClean) (history : PresentIsHistory) (grows : AcceptedGrows) where
  pub gate_exact : GateIsExact
  unfolding status_of status_at
  gate_exact terms items = (to, from)
    where
      p : Progress
      p = progress_through terms start items

      J : List Edit
      J = accepted_after terms.limit [] items

      journal : p.journal ≡ J
      journal = journals terms start items

      refused : p.refused ≡ refused_among terms.limit [] items
      refused = omega (arith, counts terms start items)

      exact : (findings (present J) ≡ []) ↔ IsSnapshot (present J)
      exact = clean (present J) (history J (all_accepted grows terms.limit [] none_accepted items))

      to : status_of terms items ≡ exit.Clean
          → (refused_among terms.limit [] items ≡ 0) × IsSnapshot (present J) × IsEnough terms.expected (present J).txns × AreEnough terms.asked.expected (chances (present J))
      to e =
          let s = status_clean (verdict_of (findings (present p.journal))) p.refused (falls_short terms (present p.journal)) e in
          let none = clean_verdict (findings (present p.journal)) s.0 in
          let enough = (whole terms (present J)).0 (subst (λ K. falls_short terms (present K) ≡ false) journal s.2) in (
            sym refused ∙ s.1,
            exact.0 (subst (λ K. findings (present K) ≡ []) journal none),
            enough.0,
            enough.1,
          )

      from : (refused_among terms.limit [] items ≡ 0) × IsSnapshot (present J) × IsEnough terms.expected (present J).txns × AreEnough terms.asked.expected (chances (present J))
          → status_of terms items ≡ exit.Clean
      from is =
          let none = subst (λ K. findings (present K) ≡ []) (sym journal) (exact.1 is.1) in
          let nothing = subst (λ K. falls_short terms (present K) ≡ false) (sym journal) ((whole terms (present J)).1 (is.2, is.3)) in
          let verdict_is : verdict_of (findings (present p.journal)) ≡ verdict.Clean = ap verdict_of none in
          let refused_is : p.refused ≡ 0 = refused ∙ is.0 in
          ap (λ v. status_by v p.refused (falls_short terms (present p.journal))) verdict_is
          ∙ ap₂ (λ (n : ℕ) (s : Bool). status_by verdict.Clean n s) refused_is nothing

violation_found : (fs : List Finding) → verdict_of fs ≡ verdict.Violation → list_any (λ (finding : Finding). is_violation finding.kind) fs ≡ true
violation_found [] e = cc
violation_found (f ∷ fs) e = by (list_any (λ (finding : Finding). is_violation finding.kind) (f ∷ fs)) e
  where
    by : (b : Bool) → (if b then verdict.Violation else verdict.Open) ≡ verdict.Violation → b ≡ true
    by true e = refl
    by false e = cc

found_violation : (fs : List Finding) → list_any (λ (finding : Finding). is_violation finding.kind) fs ≡ true → verdict_of fs ≡ verdict.Violation
found_violation [] e = cc
found_violation (f ∷ fs) e = ap (λ (b : Bool). if b then verdict.Violation else verdict.Open) e

status_violation : (v : Verdict) (n : ℕ) (short : Bool) → status_by v n short ≡ exit.Violation → v ≡ verdict.Violation
status_violation verdict.Violation n short e = refl
status_violation verdict.Open n short e = cc
status_violation verdict.Clean n short e = by (n == 0 && not short) e
  where
    by : (b : Bool) → (if b then exit.Clean else exit.Open) ≡ exit.Violation → verdict.Clean ≡ verdict.Violation
    by true e = cc
    by false e = cc

pub violation_exact : ViolationIsExact
unfolding status_of status_at
violation_exact terms items = (
  λ e. (
      let v = status_violation (verdict_of (findings (present p.journal))) p.refused (falls_short terms (present p.journal)) e in
      let found = violation_found (findings (present p.journal)) v in
      any_is (λ (f : Finding). is_violation f.kind) (findings (present J)) (subst (λ K. list_any (λ (f : Finding). is_violation f.kind) (findings (present K)) ≡ true) journal found)
      ),
  λ f. (
      let found = any_from (λ (f : Finding). is_violation f.kind) (findings (present J)) f.0 f.1 f.2 in
      let v = found_violation (findings (present p.journal)) (subst (λ K. list_any (λ (f : Finding). is_violation f.kind) (findings (present K)) ≡ true) (sym journal) found) in
      ap (λ w. status_by w p.refused (falls_short terms (present p.journal))) v
      ),
)
  where
    p : Progress
    p = progress_through terms start items

    J : List Edit
    J = accepted_after terms.limit [] items

    journal : p.journal ≡ J
    journal = journals terms start items

-- ---- what is expected

module _ (terms : Terms) where
  through : (p : Progress) (items : List SourcedItem) → progress_through (unasked terms) p items ≡ progress_through terms p items
  unfolding progress_after decided_after behind_report
  through p [] = refl
  through p (item ∷ items) = through (progress_after terms p item) items

  texts : (p : Progress) (items : List SourcedItem) → items_text (unasked terms) p items ≡ items_text terms p items
  unfolding item_text progress_after decided_after behind_report whole_report_at changes_at summary_at
  texts p [] = refl
  texts p (item ∷ items) = ap (λ (l : List ℕ). item_text terms p item ++ l) (texts (progress_after terms p item) items)

short_status : (v : Verdict) (n : ℕ) (short : Bool) → (status_by v n short ≡ status_by v n false) ⊎ ((status_by v n false ≡ exit.Clean) × (status_by v n short ≡ exit.Open))
short_status verdict.Violation n short = inl refl
short_status verdict.Open n short = inl refl
short_status verdict.Clean n short = by (n == 0) short
  where
    by : (b s : Bool) → ((if b && not s then exit.Clean else exit.Open) ≡ (if b && not false then exit.Clean else exit.Open))
        ⊎ (((if b && not false then exit.Clean else exit.Open) ≡ exit.Clean) × ((if b && not s then exit.Clean else exit.Open) ≡ exit.Open))
    by true true = inr (refl, refl)
    by true false = inl refl
    by false true = inl refl
    by false false = inl refl

regroup : (before found told short last : List ℕ) → before ++ (found ++ ((told ++ short) ++ last)) ≡ (before ++ (found ++ told)) ++ (short ++ last)
regroup before found told short last =
    ap (λ l. before ++ (found ++ l)) (append_assoc told short last) ∙ ap (λ l. before ++ l) (sym (append_assoc found told (short ++ last)))
    ∙ sym (append_assoc before (found ++ told) (short ++ last))

pub expect_adds : ExpectAdds
unfolding status_of status_at output_of report_at
expect_adds terms items = (
  subst (λ (q : Progress). (status_at terms p ≡ status_at (unasked terms) q) ⊎ ((status_at (unasked terms) q ≡ exit.Clean) × (status_at terms p ≡ exit.Open))) (sym same)
      (short_status (verdict_of (findings (present p.journal))) p.refused (falls_short terms (present p.journal))),
  (
    items_text terms start items ++ (found ++ told),
    summary_at p,
    ap₂ (λ (l : List ℕ) (q : Progress). l ++ report_at (unasked terms) q) (texts terms start items) same
        ∙ regroup (items_text terms start items) found told [] (summary_at p),
    regroup (items_text terms start items) found told (short p.journal) (summary_at p)
        ∙ ap (λ (J : List Edit). (items_text terms start items ++ (found ++ told)) ++ (short J ++ summary_at p)) journal,
  ),
)
  where
    p : Progress
    p = progress_through terms start items

    same : progress_through (unasked terms) start items ≡ p
    same = through terms start items

    found : List ℕ
    found = flat_map (finding_lines terms.explain) (findings (present p.journal))

    told : List ℕ
    told = told_chances terms.asked.tells (chances (present p.journal))

    short : List Edit → List ℕ
    short J = short_line terms.expected (present J).txns ++ few_lines terms.asked.expected (chances (present J))

    journal : p.journal ≡ accepted_after terms.limit [] items
    journal = journals terms start items
