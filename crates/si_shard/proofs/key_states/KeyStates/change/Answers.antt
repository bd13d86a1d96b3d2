use Rattle.std.proofs.Common.{◌∙◌, None, Some, ap, cond, refl}
use Rattle.std.specs.HashMap.{get}
use Rattle.si_model.specs.Operations.{same_key}
use Rattle.si_model.proofs.Equalities.{same_key_from}
use Rattle.si_judge.proofs.FoundTimes.{bare_times}
use Rattle.si_shard.specs.KeyChanges.{changed_on}
use Rattle.si_shard.proofs.Noted.{keeps_all, keeps_without}
use Rattle.si_shard.proofs.OnKeys.{changed_dropped, changed_kept}
use Rattle.si_shard.proofs.key_states.KeyStates.change.Goals as goal

pub change_in-requires : goal.change_in-requires
change_in-requires c = (c.requires.0, c.requires.1.shows, c.requires.2)

pub tell-requires : goal.tell-requires
tell-requires c = λ none.
    let Q = c.requires.0 in
    let unmarked = c.in_ok-left.ensures.was.0 none in
    let had = c.in_ok-left.ensures.had Q c.requires.1.shows unmarked in
    let told = c.requires.1.found unmarked in
    ((λ e. told.1 (had.0 e)), (λ e. had.1 (told.0 e)))

pub returns-then-left-clause-changed : goal.returns-then-left-clause-changed
returns-then-left-clause-changed c =
    let left = c.in_ok-left.left in
    changed_dropped c.args.key.now c.args.change.now c.args.self.now _ left.is_bare left.has_findings left.is_marked left.was_marked c.in_ok-left.ensures.was c.in_ok-tell.ensures c.change_in.new.states
    c.in_ok-left.ensures.changed c.if-left.true c.forget.ensures.0

pub returns-else-left-clause-changed : goal.returns-else-left-clause-changed
returns-else-left-clause-changed c =
    let left = c.in_ok-left.left in
    changed_kept c.args.key.now c.args.change.now c.args.self.now _ left.is_bare left.has_findings left.is_marked left.was_marked c.in_ok-left.ensures.was c.in_ok-tell.ensures
    c.in_ok-left.ensures.changed c.if-left.false

pub returns-then-left-clause-noted : goal.returns-then-left-clause-noted
returns-then-left-clause-noted c = λ found were.
    let x = c.args.key.now in
    let Q = c.requires.0 in
    let made = c.in_ok-left.ensures.changed in
    let would = made.shows Q c.requires.1.shows c.requires.2 in
    let bare = (made.left.bare (changed_on c.args.change.now Q) would).0 c.if-left.true in
    let stands = made.states.0 x ∙ ap (λ b. cond b (Some made.kept) (get same_key c.args.self.now.states x)) (same_key_from x x refl) in
    keeps_all x (Some made.kept) None c.change_in.new.notes c.change_in.new.notes c.change_in.new.states c.forget.new.states stands c.forget.ensures.0
    (keeps_without x made.kept c.change_in.new.notes (bare_times (changed_on c.args.change.now Q) made.kept bare would)) found (c.in_ok-left.ensures.noted found were)
