-- What the program writes for the items of its inputs, and its exit status.
use Rattle.std.specs.Prelude.{ℕ, ◌+◌, ◌%◌, Bool, false, not, ◌&&◌, ◌||◌, ◌==◌, nat_lt, if◌then◌else◌, List, [], ◌∷◌, ◌++◌, length, map, Option, Some, None, is_none, Result, Ok, Err}
use Rattle.std.specs.Option.{option_map}
use Rattle.std.specs.List.{flat_map}
use Rattle.std.specs.declared.cmp.Ordering.{Ordering}
use Rattle.std.specs.Ordering.{nat_cmp, on}
use Rattle.si_model.specs.declared.edits.Edit.{Edit}
use Rattle.si_model.specs.declared.findings.Finding.{Finding}
use Rattle.si_model.specs.declared.numbers.TxnId.{TxnId}
use Rattle.si_model.specs.declared.transactions.Txn.{Txn}
use Rattle.si_model.specs.Chances.{chances}
use Rattle.si_model.specs.Findings.{findings}
use Rattle.si_model.specs.Journals.{present, refusal_after}
use Rattle.si_model.specs.Order.{in_order}
use Rattle.si_model.specs.Parts.{Present}
use Rattle.si_accept.specs.Statuses.{committed_among, doubtful_among}
use Rattle.si_text.specs.declared.endings.Asked.{Asked}
use Rattle.si_text.specs.declared.faults.LineFault.{LineFault}
use Rattle.si_text.specs.declared.reasons.Reason.{Reason}
use Rattle.si_text.specs.declared.reasons.Reason.TheVariants.{Malformed, Refused}
use Rattle.si_text.specs.declared.verdicts.Verdict.{Verdict}
use Rattle.si_text.specs.declared.verdicts.Verdict.TheVariants as verdict
use Rattle.si_text.specs.Inputs.{Item}
use Rattle.si_text.specs.Texts.{are_few, changes_text, few_lines, finding_lines, refused_text, report_text, short_text, summary_text, told_chances, verdict_of, violations_of}
use Rattle.si_run.specs.declared.engines.Decision.{Decision}
use Rattle.si_run.specs.declared.engines.Decision.TheVariants as decision
use Rattle.si_run.specs.declared.statuses.ExitStatus.{ExitStatus}
use Rattle.si_run.specs.declared.statuses.ExitStatus.TheVariants as exit

-- an item with the number of its source, counted from 0
abbrev pub SourcedItem : Type 0
SourcedItem = ℕ × Item

-- the item comes from that source
abbrev pub sourced : ℕ → Item → SourcedItem
sourced source item = (source, item)

-- the items of one source
abbrev pub from_source : ℕ → List Item → List SourcedItem
from_source source items = map (sourced source) items

-- the most edits that a journal may have, after how many decided items each report comes, if any do on the way, whether these tell
-- only what changed, whether evidence follows the findings, how many committed transactions are expected at the end, if any number is, what is
-- asked of what could have been found, and whether lines of progress are shown on the error device, which changes nothing of the text
pub record Terms : Type 0 where
  pub limit : ℕ
  pub every : Option ℕ
  pub only_new : Bool
  pub explain : Bool
  pub expected : Option ℕ
  pub asked : Asked
  pub shows : Bool

-- how far the decisions are: the accepted edits, how many items were decided and how many of them refused, and, where reports on the way
-- tell only what changed, the violations that there were at the one before
pub record Progress : Type 0 where
  pub journal : List Edit
  pub decided : ℕ
  pub refused : ℕ
  pub told : List Finding

-- nothing is decided
abbrev pub start : Progress
start = record { journal = []; decided = 0; refused = 0; told = [] }

-- why an item is refused after these edits, if it is
abbrev pub reason_after : ℕ → List Edit → Result Edit LineFault → Option Reason
reason_after limit journal (Ok e) = option_map Refused (refusal_after limit journal e)
reason_after limit journal (Err fault) = Some (Malformed fault)

-- the accepted edits with this one, if nothing stands against it
abbrev pub journal_with : List Edit → Edit → Bool → List Edit
journal_with journal e accepted = if accepted then journal ++ e ∷ [] else journal

-- the accepted edits after an item
abbrev pub journal_after : ℕ → List Edit → Result Edit LineFault → List Edit
journal_after limit journal (Ok e) = journal_with journal e (is_none (refusal_after limit journal e))
journal_after limit journal (Err fault) = journal

-- one more, if there is a reason
abbrev pub counted : ℕ → Option Reason → ℕ
counted refused None = refused
counted refused (Some reason) = refused + 1

-- what becomes of an item that was decided, for this reason against it or for none
abbrev pub decision_by : Option Reason → Decision
decision_by None = decision.Accepted
decision_by (Some reason) = decision.Refused

-- whether a report comes after so many decided items
abbrev pub is_due : Option ℕ → ℕ → Bool
is_due None decided = false
is_due (Some n) decided = decided % n == 0

-- how far the decisions are once one more item is decided, before the report behind it
unfoldable pub decided_after : Terms → Progress → SourcedItem → Progress
decided_after terms p item = record p {
  journal = journal_after terms.limit p.journal item.1.1;
  decided = p.decided + 1;
  refused = counted p.refused (reason_after terms.limit p.journal item.1.1);
}

-- the violations at this moment
abbrev pub violations_at : Progress → List Finding
violations_at p = violations_of (findings (present p.journal))

-- how far they are behind the report that may be due: one that tells only what changed is what the next one is held against
unfoldable pub behind_report : Terms → Progress → Progress
behind_report terms p = if is_due terms.every p.decided && terms.only_new then record p { told = violations_at p } else p

-- how far the decisions are after one more item
unfoldable pub progress_after : Terms → Progress → SourcedItem → Progress
progress_after terms p item = behind_report terms (decided_after terms p item)

-- how far they are after these items
abbrev pub progress_through : Terms → Progress → List SourcedItem → Progress
progress_through terms p [] = p
progress_through terms p (item ∷ items) = progress_through terms (progress_after terms p item) items

-- ---- what is expected at the end

-- ids are in the order of their numbers
abbrev pub id_cmp : TxnId → TxnId → Ordering
id_cmp = on (λ id. id.0) nat_cmp

-- fewer of the transactions are committed than were expected, or some are in doubt
abbrev pub is_short : ℕ → List Txn → Bool
is_short expected txns = nat_lt (committed_among txns) expected || not (length (doubtful_among txns) == 0)

-- the same where a number is expected
abbrev pub is_short_of : Option ℕ → List Txn → Bool
is_short_of None txns = false
is_short_of (Some expected) txns = is_short expected txns

-- the line of a run that is short of so many
abbrev pub short_line_of : ℕ → List Txn → List ℕ
short_line_of expected txns = short_text (committed_among txns) expected (in_order id_cmp (doubtful_among txns))

-- the line of a run that is short
abbrev pub short_line : Option ℕ → List Txn → List ℕ
short_line None txns = []
short_line (Some expected) txns = if is_short expected txns then short_line_of expected txns else []

-- whether it is short of transactions, or of places at which something could have been found
abbrev pub falls_short : Terms → Present → Bool
falls_short terms P = is_short_of terms.expected P.txns || are_few terms.asked.expected (chances P)

-- what the last report tells right before its summary: what could have been found, where that is told, and what the run is short of
abbrev pub ending_lines : Terms → Present → List ℕ
ending_lines terms P = told_chances terms.asked.tells (chances P) ++ (short_line terms.expected P.txns ++ few_lines terms.asked.expected (chances P))

-- ---- reports

-- the report of all that is found
unfoldable pub whole_report_at : Terms → Progress → List ℕ
whole_report_at terms p = report_text terms.explain (length (present p.journal).txns) (findings (present p.journal)) p.refused

-- the summary line
unfoldable pub summary_at : Progress → List ℕ
summary_at p =
    summary_text (length (present p.journal).txns) (length (findings (present p.journal))) p.refused (verdict_of (findings (present p.journal)))

-- the report of the violations that came or went since the one before
unfoldable pub changes_at : Terms → Progress → List ℕ
changes_at terms p = changes_text terms.explain p.told (violations_at p) ++ summary_at p

-- the report on the way
abbrev pub report_on_the_way : Terms → Progress → List ℕ
report_on_the_way terms p = if terms.only_new then changes_at terms p else whole_report_at terms p

-- the last report, which tells all that is found, what could have been, where that is told, and what the run is short of
unfoldable pub report_at : Terms → Progress → List ℕ
report_at terms p =
    flat_map (finding_lines terms.explain) (findings (present p.journal)) ++ (ending_lines terms (present p.journal) ++ summary_at p)

-- the line of a refused item
abbrev pub refusal_line : ℕ → ℕ → Option Reason → List ℕ
refusal_line source line None = []
refusal_line source line (Some reason) = refused_text source line reason

-- the report on the way, where it is due
abbrev pub report_due : Terms → Progress → List ℕ
report_due terms p = if is_due terms.every p.decided then report_on_the_way terms p else []

-- what is written for one item
unfoldable pub item_text : Terms → Progress → SourcedItem → List ℕ
item_text terms p item = refusal_line item.0 item.1.0 (reason_after terms.limit p.journal item.1.1) ++ report_due terms (decided_after terms p item)

-- what is written for items, the last report aside
abbrev pub items_text : Terms → Progress → List SourcedItem → List ℕ
items_text terms p [] = []
items_text terms p (item ∷ items) = item_text terms p item ++ items_text terms (progress_after terms p item) items

-- the whole text
unfoldable pub output_of : Terms → List SourcedItem → List ℕ
output_of terms items = items_text terms start items ++ report_at terms (progress_through terms start items)

-- the exit status by the last verdict, by how many items were refused, and by whether the run is short of what was expected
abbrev pub status_by : Verdict → ℕ → Bool → ExitStatus
status_by verdict.Violation refused short = exit.Violation
status_by verdict.Open refused short = exit.Open
status_by verdict.Clean refused short = if refused == 0 && not short then exit.Clean else exit.Open

unfoldable pub status_at : Terms → Progress → ExitStatus
status_at terms p =
    let P = present p.journal in
    status_by (verdict_of (findings P)) p.refused (falls_short terms P)

-- the exit status
unfoldable pub status_of : Terms → List SourcedItem → ExitStatus
status_of terms items = status_at terms (progress_through terms start items)

-- the number that the process ends with
abbrev pub exit_code : ExitStatus → ℕ
exit_code exit.Clean = 0
exit_code exit.Open = 10
exit_code exit.Violation = 20
