-- What the output is where no reports on the way are asked for.
use Rattle.std.proofs.Common.{◌≡◌, ◌+◌, ℕ, Bool, List, [], ◌∷◌, ◌++◌, None, Option, Some, refl, ap₂, ◌∙◌, append-nil, arith}
use Rattle.si_model.specs.Journals.{present}
use Rattle.si_text.specs.declared.endings.Asked.{Asked}
use Rattle.si_text.specs.declared.reasons.Reason.{Reason}
use Rattle.si_run.specs.Outputs.{SourcedItem, Terms, Progress, behind_report, counted, decided_after, items_text, item_text, journal_after, output_of, progress_after, progress_through, reason_after, refusal_line, report_at, start, summary_at}
use Rattle.si_run.specs.Laws.{PlainOutputIsExact, accepted_after, refusal_lines, refused_among, whole_report}

abbrev plain : ℕ → Bool → Bool → Option ℕ → Asked → Bool → Terms
plain limit only_new explain expected asked shows =
    record { limit = limit; every = None; only_new = only_new; explain = explain; expected = expected; asked = asked; shows = shows }

module _ (limit : ℕ) (only_new explain : Bool) (expected : Option ℕ) (asked : Asked) (shows : Bool) where
  abbrev terms : Terms
  terms = plain limit only_new explain expected asked shows

  texts : (p : Progress) (items : List SourcedItem) → items_text terms p items ≡ refusal_lines limit p.journal items
  unfolding item_text progress_after decided_after behind_report
  texts p [] = refl
  texts p (item ∷ items) =
      let line = refusal_line item.0 item.1.0 (reason_after limit p.journal item.1.1) in
      ap₂ (λ (a b : List ℕ). a ++ b) (append-nil line) (texts (progress_after terms p item) items)

  journals : (p : Progress) (items : List SourcedItem) → (progress_through terms p items).journal ≡ accepted_after limit p.journal items
  unfolding progress_after decided_after behind_report
  journals p [] = refl
  journals p (item ∷ items) = journals (progress_after terms p item) items

  counted-plus : (n m : ℕ) (reason : Option Reason) → counted n reason + m ≡ n + counted m reason
  counted-plus n m None = refl
  counted-plus n m (Some reason) = omega arith

  counts : (p : Progress) (items : List SourcedItem) → (progress_through terms p items).refused ≡ p.refused + refused_among limit p.journal items
  unfolding progress_after decided_after behind_report
  counts p [] = omega arith
  counts p (item ∷ items) =
      counts (progress_after terms p item) items
      ∙ counted-plus p.refused (refused_among limit (journal_after limit p.journal item.1.1) items) (reason_after limit p.journal item.1.1)

pub plain_output : PlainOutputIsExact
unfolding output_of report_at summary_at
plain_output limit only_new explain expected asked shows items =
    let refused : (progress_through (plain limit only_new explain expected asked shows) start items).refused ≡ refused_among limit [] items = omega (arith, counts limit only_new explain expected asked shows start items) in
    ap₂ (λ (a b : List ℕ). a ++ b) (texts limit only_new explain expected asked shows start items)
    (ap₂ (λ journal n. whole_report explain expected asked (present journal) n) (journals limit only_new explain expected asked shows start items) refused)
