use Rattle.std.proofs.Common.{◌≡◌, ℕ, ◌<◌, ◌≤◌}
use Rattle.std.specs.Prelude.{slice_index}
use Rattle.si_words.specs.Views.{with_count, with_marks}
use Rattle.si_checker.proofs.checkers.Checker.await_workers.Given as goal

abbrev pub invariant-loop-look : goal.invariant-loop-look
invariant-loop-look g l =
    (l.pass ≡ record l.fn.pass { view = with_marks l.pass.view.marks (with_count l.pass.view.count l.fn.pass.view) })
    × (l.fn.pass.view.count ≤ l.pass.view.count)
    × ((k : ℕ) → k < g.N.Name.board.shards → slice_index l.fn.pass.view.marks k ≤ slice_index l.pass.view.marks k)
