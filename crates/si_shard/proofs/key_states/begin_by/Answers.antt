use Rattle.std.proofs.Common.{rules, ◌≡◌, ◌↔◌, true, None, Some, subst}
use Rattle.std.specs.HashMap.{Updates}
use Rattle.si_model.specs.Operations.{same_key}
use Rattle.si_shard.proofs.Noted.{from_fresh, keeps_all}
use Rattle.si_judge.proofs.Waitings.{would_show}
use Rattle.si_model.specs.Findings.{cases}
use Rattle.si_shard.specs.KeyChanges.{IsChanged}
use Rattle.si_shard.specs.KeyStates.{HasFinding, IsLeft, ShowsAt}
use Rattle.si_shard.proofs.key_states.begin_by.Goals as goal

pub change_of-requires : goal.change_of-requires
change_of-requires c = let can = c.requires.can in (can.0, would_show cases can.0 c.new-kept.result (c.new-kept.ensures.shows can.0 can.1.0 can.1.1), can.2)

pub returns-in_ok-insert-in-Ok-clause-changed : goal.returns-in_ok-insert-in-Ok-clause-changed
returns-in_ok-insert-in-Ok-clause-changed c =
    let left = c.in-Ok.left in
    let made : IsChanged c.args.change.now c.new-kept.result c.change_of.new.kept × IsLeft left.is_bare left.has_findings left.is_marked c.change_of.new.kept = c.in-Ok.ensures.changed in
    record {
      kept = c.change_of.new.kept;
      key = search rules;
      shows = λ Q on can. (let bare = subst (λ o. ShowsAt c.args.key.now o Q) c.requires.none on in made.0.shows Q (would_show cases Q c.new-kept.result (c.new-kept.ensures.shows Q bare.0 bare.1)) can);
      left = made.1;
      states = search rules;
    }

pub returns-in_ok-insert-in-Ok-clause-had : goal.returns-in_ok-insert-in-Ok-clause-had
returns-in_ok-insert-in-Ok-clause-had c = λ Q bare.
    let key : c.new-kept.result.key ≡ c.args.key.now = search rules in
    subst (λ y. (c.in-Ok.left.had_findings ≡ true) ↔ HasFinding y Q) key (c.in-Ok.ensures.had Q (c.new-kept.ensures.shows Q bare.0 bare.1))

pub returns-in_ok-insert-in-Ok-clause-was : goal.returns-in_ok-insert-in-Ok-clause-was
returns-in_ok-insert-in-Ok-clause-was c = c.in-Ok.ensures.was.1 c.new-kept.ensures.marks

pub returns-in_ok-insert-in-Ok-clause-noted : goal.returns-in_ok-insert-in-Ok-clause-noted
returns-in_ok-insert-in-Ok-clause-noted c =
    let x = c.args.key.now in
    let k = c.change_of.new.kept in
    let updates : Updates same_key c.args.states.now c.insert.new.self x (Some k) = search rules in
    keeps_all x None (Some k) c.args.notes.now c.change_of.new.notes c.args.states.now c.insert.new.self c.requires.none updates.0
    (from_fresh x c.new-kept.result (Some k) c.args.notes.now c.change_of.new.notes c.new-kept.ensures.nothing c.in-Ok.ensures.noted)
