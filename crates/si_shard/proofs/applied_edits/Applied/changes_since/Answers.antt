use Rattle.std.proofs.Common.{◌≡◌, ◌∙◌, ap, arith, length, refl, subst, sym, take}
use Rattle.std.proofs.lemmas.List.{take_all}
use Rattle.si_lists.proofs.Members.{same_some}
use Rattle.si_shard.specs.AppliedEdits.{AreNotedSince, found_after, found_first}
use Rattle.si_shard.specs.KeyNotes.{times_in}
use Rattle.si_shard.proofs.AppliedEach.{settled_noted}
use Rattle.si_shard.proofs.Beginnings.{beginning_accepted}
use Rattle.si_shard.proofs.Noted.{begun_now, difference}
use Rattle.si_shard.proofs.ShardFindings.{counted_now, found_rises}
use Rattle.si_shard.proofs.applied_edits.Applied.changes_since.Goals as goal

pub returns-clause-settled : goal.returns-clause-settled
returns-clause-settled c =
    let id = c.args.id in
    let edits = c.args.edits.now in
    let a = c.noted_since.new.self in
    settled_noted id edits a _ refl
    (λ n is.
    (let end : length edits ≡ n = same_some is in
    subst (λ m. AreNotedSince id edits m a.keys) end (record {
      within = omega arith;
      found = begun_now (found_first id edits (length edits)) a.keys c.in_ok-changes.ensures.begun (λ f. ap (λ l. times_in f (found_after id l)) (take_all (length edits) edits (omega arith)) ∙ counted_now id edits a c.requires.accepted c.noted_since.ensures.settled f);
    })))
    c.noted_since.ensures.settled

pub returns-clause-came : goal.returns-clause-came
returns-clause-came c =
    let id = c.args.id in
    let edits = c.args.edits.now in
    let r = c.in_ok-changes.changes in
    c.in_ok-keep_apart.ensures.came ∙ difference (found_first id edits c.args.since) (found_after id edits) r.came.items r.went.items
    (found_rises id (take c.args.since edits) (beginning_accepted edits c.args.since c.requires.accepted)) (found_rises id edits c.requires.accepted) c.in_ok-changes.ensures.changed

pub returns-clause-went : goal.returns-clause-went
returns-clause-went c =
    let id = c.args.id in
    let edits = c.args.edits.now in
    let r = c.in_ok-changes.changes in
    c.in_ok-keep_apart.ensures.went ∙ difference (found_after id edits) (found_first id edits c.args.since) r.went.items r.came.items
    (found_rises id edits c.requires.accepted) (found_rises id (take c.args.since edits) (beginning_accepted edits c.args.since c.requires.accepted)) (λ f. sym (c.in_ok-changes.ensures.changed f))
