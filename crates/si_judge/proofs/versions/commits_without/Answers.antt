use Rattle.std.proofs.Common.{None, subst, sym}
use Rattle.std.specs.Option.{MatchOption}
use Rattle.std.specs.Prelude.{⊤}
use Rattle.si_sorted.specs.Entries.{Sets}
use Rattle.si_judge.specs.Commits.{AreCommitsOf}
use Rattle.si_judge.specs.Values.{value_cmp}
use Rattle.si_judge.proofs.Commits.{shrunk}
use Rattle.si_judge.proofs.PartLists.{added_are}
use Rattle.si_judge.proofs.versions.commits_without.Goals as goal

pub returns-in-Some : goal.returns-in-Some
returns-in-Some c = λ few more commit version adds lacks same is.
    shrunk few more (commit, version) (added_are commit version few more adds) c.in-Some.commits.value c.remove.new.self lacks
    (subst (λ o. MatchOption o ⊤ (λ b. AreCommitsOf more b.value)) c.in-Some.is is)
    (subst (λ v. Sets value_cmp v None c.in-Some.commits.value c.remove.new.self) (sym same) (subst (λ m. Sets value_cmp c.args.value None m c.remove.new.self) c.deref_mut.ensures.value c.remove.ensures.sets))
