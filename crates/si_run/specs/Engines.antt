-- What an engine stands for, and what it keeps. All of it is this project's choice.
use Rattle.std.specs.Prelude.{◌≡◌, ℕ, ◌≤◌}
use Rattle.si_text.specs.Texts.{violations_of}
use Rattle.si_words.specs.declared.views.PassView.{PassView}
use Rattle.si_words.specs.Entries.{edits_of}
use Rattle.si_words.specs.Seats.{Board, Seated}
use Rattle.si_run.specs.declared.tolds.Told.{Told}
use Rattle.si_run.specs.Outputs.{Terms, Progress}
use Rattle.si_run.specs.Tolds.{IsToldIn, found_then}

-- the terms that an engine decides by, and how far its decisions are
pub record EngineState : Type 0 where
  pub terms : Terms
  pub progress : Progress

-- what it stands for with these terms, when its pass knows this, so many items were decided and refused, and violations were told last then
abbrev pub engine_state : Terms → PassView → ℕ → ℕ → Told → EngineState
engine_state terms pass decided refused told = record {
  terms = terms;
  progress = record { journal = edits_of pass.seen; decided = decided; refused = refused; told = violations_of (found_then (edits_of pass.seen) told.at) };
}

-- its pass is the checker's only one, so that what it has seen of the journal is its own; what was told is counted
pub record IsEngine (board : Board) (pass : Seated PassView) (decided refused : ℕ) (t : Told) : Type 0 where
  pub table : pass.table ≡ board.table
  pub alone : board.passes ≡ 1
  pub number : pass.view.number ≡ 0
  pub own : pass.view.mine ≡ pass.view.seen
  pub counts : refused ≤ decided
  pub told : IsToldIn (edits_of pass.view.seen) t
