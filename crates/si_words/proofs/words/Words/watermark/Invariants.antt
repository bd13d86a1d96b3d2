use Rattle.std.proofs.Common.{◌≡◌, ℕ, ◌<◌, ◌≤◌, length}
use Rattle.std.specs.Prelude.{slice_index}
use Rattle.si_model.specs.declared.edits.TheConstants.{MOST_EDITS}
use Rattle.si_words.specs.Views.{with_marks}
use Rattle.si_words.proofs.words.Words.watermark.Given as goal

abbrev pub invariant-loop-k : goal.invariant-loop-k
invariant-loop-k l =
    (l.pass ≡ record l.fn.pass { view = with_marks l.pass.view.marks l.fn.pass.view })
    × (length l.pass.view.marks ≡ l.self.shards)
    × ((j : ℕ) → j < l.self.shards → slice_index l.fn.pass.view.marks j ≤ slice_index l.pass.view.marks j)
    × ((j : ℕ) → j < l.k → l.least ≤ slice_index l.pass.view.marks j)
    × ((j : ℕ) × (j < l.k) × (slice_index l.pass.view.marks j ≡ l.least))
    × (l.least ≤ MOST_EDITS)
