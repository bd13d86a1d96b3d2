-- What calls with a pass promise. All of it is this project's choice.
use Rattle.std.specs.Prelude.{◌≡◌, ℕ, ◌<◌, ◌≤◌, All, List, [], ◌∷◌, ◌++◌, None, length, max, slice_index, slice_set, Option, Some}
use Rattle.si_model.specs.declared.edits.Edit.{Edit}
use Rattle.si_model.specs.Journals.{IsAccepted, refusal_after}
use Rattle.si_words.specs.declared.views.Entry.{Entry}
use Rattle.si_words.specs.declared.views.PassView.{PassView}
use Rattle.si_checker.specs.declared.reports.ReportFault.{ReportFault}
use Rattle.si_checker.specs.declared.reports.ReportFault.TheVariants as fault
use Rattle.si_words.specs.Entries.{IsBeginning, edits_of, entry, made_by}
use Rattle.si_words.specs.Seats.{Board, Seated}
use Rattle.si_words.specs.Views.{with_mine, with_seen}

-- the pass sees this journal, which is accepted and begins with all that it had seen
pub record SeesJournal (board : Board) (journal : List Entry) (old new : Seated PassView) : Type 0 where
  -- nothing else of the pass changes
  pub sees : new ≡ record old { view = with_seen journal old.view }
  pub begins : IsBeginning old.view.seen journal
  -- it is no shorter than the pass had counted, and no shard was known to have applied more
  pub counted : old.view.count ≤ length journal
  pub marks : (k : ℕ) → k < board.shards → slice_index old.view.marks k ≤ length journal
  pub accepted : IsAccepted (edits_of journal)
  -- the edits in it that bear the pass are the pass's own, and each bears a pass of the checker
  pub made : new.view.mine ≡ made_by new.view.number journal
  pub bearers : All (λ e. e.by < board.passes) journal

-- the pass as it was, with one more edit of its own
abbrev pub issuing : Edit → Seated PassView → Seated PassView
issuing e pass = record pass { view = with_mine (entry pass.view.number e) pass.view }

-- the pass has seen the edit as its own, the last of a journal that began with all it had seen and was no shorter than it had counted, and
-- after which nothing is against the edit
pub record IsSubmitted (limit : ℕ) (e : Edit) (old new : PassView) : Type 0 where
  pub before : List Entry
  pub last : new.seen ≡ before ++ entry old.number e ∷ []
  pub begins : IsBeginning old.seen before
  pub counted : old.count ≤ length before
  pub free : refusal_after limit (edits_of before) e ≡ None

-- the pass as it was, but that it has seen this list, counts no less than that has, and knows that the shard k has applied so many
abbrev pub learning : List Entry → ℕ → ℕ → PassView → PassView
learning seen k position old = record old { seen = seen; count = max old.count (length seen); marks = slice_set old.marks k position }

-- the number of a report's fault, if it has one
abbrev pub report_fault_code : ReportFault → Option ℕ
report_fault_code (fault.Spoiled k) = Some 41
report_fault_code fault.OutOfMemory = None
