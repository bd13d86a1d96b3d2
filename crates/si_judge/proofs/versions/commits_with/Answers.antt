use Rattle.std.proofs.Common.{◌≡◌, Some, subst, sym}
use Rattle.std.specs.Option.{MatchOption}
use Rattle.std.specs.Prelude.{⊤, List}
use Rattle.si_sorted.specs.Entries.{Sets}
use Rattle.si_timeline.specs.Timelines.{Adds, Dated}
use Rattle.si_timeline.specs.declared.versions.Version.{Version}
use Rattle.si_judge.specs.Commits.{AreCommitsOf}
use Rattle.si_judge.specs.Values.{value_cmp}
use Rattle.si_judge.proofs.Commits.{grown}
use Rattle.si_judge.proofs.PartLists.{added_are}
use Rattle.si_judge.proofs.versions.commits_with.Goals as goal

pub returns-in_ok-insert-in-Some : goal.returns-in_ok-insert-in-Some
returns-in_ok-insert-in-Some c =
    let came = subst (λ o. MatchOption o ⊤ (λ b. (few : List Dated) × (version : Version) × AreCommitsOf few b.value × (version.value ≡ c.args.value) × Adds c.args.commit version few c.args.timeline.now))
    c.in-Some.is c.requires.came in
    grown came.0 c.args.timeline.now (c.args.commit, came.1) (added_are c.args.commit came.1 came.0 c.args.timeline.now came.4) c.in-Some.commits.value c.insert.new.self c.requires.once came.2
    (subst (λ v. Sets value_cmp v (Some c.args.commit) c.in-Some.commits.value c.insert.new.self) (sym came.3)
    (subst (λ m. Sets value_cmp c.args.value (Some c.args.commit) m c.insert.new.self) c.deref_mut.ensures.value c.in_ok-insert-in-Some.ensures.sets))
