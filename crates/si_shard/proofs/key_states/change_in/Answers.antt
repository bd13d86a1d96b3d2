use Rattle.std.proofs.Common.{rules, ◌≡◌, ◌∙◌, ℕ, List, None, OnOk, Some, slice_get, ap, subst, sym}
use Rattle.std.proofs.lemmas.Option.{slice_get-map}
use Rattle.std.specs.Option.{option_copied_mut, option_map}
use Rattle.std.specs.Cmp.Lexicographic.{nat_list_eq_equiv}
use Rattle.std.specs.HashMap.{Updates, get}
use Rattle.indexmap.specs.IndexMap.{IndexMap, values, with_value_at}
use Rattle.indexmap.proofs.CallerLemmas.{updates-with_value_at}
use Rattle.si_model.specs.Operations.{same_key}
use Rattle.si_lists.proofs.Members.{same_some}
use Rattle.si_judge.specs.Kept.{Kept}
use Rattle.si_shard.specs.KeyNotes.{KeepsNotes}
use Rattle.si_shard.specs.KeyStates.{IsUnmarked, ShowsAt}
use Rattle.si_shard.proofs.AppliedEach.{ok_then}
use Rattle.si_shard.proofs.Noted.{keeps_all}
use Rattle.si_shard.proofs.OnKeys.{changed_there, had_there, was_there, where_ok}
use Rattle.si_shard.proofs.key_states.change_in.Goals as goal

-- what is kept at a place is what the entry there keeps
there_kept : {S : Type 0} (x : List ℕ) (m : IndexMap (List ℕ) Kept S) (i : ℕ) (s t : Kept) → slice_get m.entries i ≡ Some (x, s) → Some t ≡ slice_get (values m) i → s ≡ t
there_kept x m i s t at is = same_some (sym (is ∙ slice_get-map (λ (e : List ℕ × Kept). e.1) m.entries i ∙ ap (option_map (λ (e : List ℕ × Kept). e.1)) at))

pub returns-then-is_at-clause-changed : goal.returns-then-is_at-clause-changed
returns-then-is_at-clause-changed c =
    let x = c.args.key.now in
    let m = c.args.states.now in
    let k = c.is_at.ensures c.if-is_at.true in
    let s = c.unwrap-kept.result.now in
    let same = there_kept x m c.args.near k.0 s k.1 (ap option_copied_mut (sym c.unwrap-kept.ensures) ∙ c.get_index_mut.ensures.value) in
    let there = k.2 ∙ ap Some same in
    let shown = subst (λ o. ShowsAt x o c.requires.0) there c.requires.1 in
    where_ok _ _ c.change_of.result c.change_of.ensures.changed (λ left made.
    changed_there x c.args.change.now left.is_bare left.has_findings left.is_marked s c.change_of.new.kept m _ there shown.0 made.0 made.1
    (updates-with_value_at m c.args.near c.change_of.new.kept nat_list_eq_equiv c.get_index_mut.ensures.unique x s (k.1 ∙ ap (λ t. Some (x, t)) same)))

pub returns-then-is_at-clause-had : goal.returns-then-is_at-clause-had
returns-then-is_at-clause-had c =
    let x = c.args.key.now in
    let m = c.args.states.now in
    let k = c.is_at.ensures c.if-is_at.true in
    let s = c.unwrap-kept.result.now in
    let there = k.2 ∙ ap Some (there_kept x m c.args.near k.0 s k.1 (ap option_copied_mut (sym c.unwrap-kept.ensures) ∙ c.get_index_mut.ensures.value)) in
    where_ok _ _ c.change_of.result c.change_of.ensures.had (λ left had Q on none. had_there x s _ Q left.had_findings there on none (had Q))

pub returns-then-is_at-clause-was : goal.returns-then-is_at-clause-was
returns-then-is_at-clause-was c =
    let x = c.args.key.now in
    let m = c.args.states.now in
    let k = c.is_at.ensures c.if-is_at.true in
    let s = c.unwrap-kept.result.now in
    let there = k.2 ∙ ap Some (there_kept x m c.args.near k.0 s k.1 (ap option_copied_mut (sym c.unwrap-kept.ensures) ∙ c.get_index_mut.ensures.value)) in
    where_ok _ _ c.change_of.result c.change_of.ensures.was (λ left was. was_there s _ left.was_marked there was)

pub returns-in-Some-clause-had : goal.returns-in-Some-clause-had
returns-in-Some-clause-had c =
    let x = c.args.key.now in
    let s = c.in-Some.kept.now in
    let there : get same_key c.args.states.now x ≡ Some s = search rules in
    where_ok _ _ c.change_of-in-Some.result c.change_of-in-Some.ensures.had (λ left had Q on none. had_there x s _ Q left.had_findings there on none (had Q))

pub returns-in-Some-clause-was : goal.returns-in-Some-clause-was
returns-in-Some-clause-was c =
    let x = c.args.key.now in
    let s = c.in-Some.kept.now in
    let there : get same_key c.args.states.now x ≡ Some s = search rules in
    where_ok _ _ c.change_of-in-Some.result c.change_of-in-Some.ensures.was (λ left was. was_there s _ left.was_marked there was)

pub returns-clause-had : goal.returns-clause-had
returns-clause-had c =
    let x = c.args.key.now in
    let none : get same_key c.args.states.now x ≡ None = search rules in
    where_ok _ _ c.begin_by.result c.begin_by.ensures.had (λ left had Q on unmarked. had Q (subst (λ o. ShowsAt x o Q) none on))

pub returns-clause-was : goal.returns-clause-was
returns-clause-was c =
    let x = c.args.key.now in
    let none : get same_key c.args.states.now x ≡ None = search rules in
    where_ok _ _ c.begin_by.result c.begin_by.ensures.was (λ left was. ((λ e. subst IsUnmarked (sym none) tt), (λ u. was)))

pub returns-then-is_at-clause-noted : goal.returns-then-is_at-clause-noted
returns-then-is_at-clause-noted c =
    let x = c.args.key.now in
    let m = c.args.states.now in
    let k = c.is_at.ensures c.if-is_at.true in
    let s = c.unwrap-kept.result.now in
    let same = there_kept x m c.args.near k.0 s k.1 (ap option_copied_mut (sym c.unwrap-kept.ensures) ∙ c.get_index_mut.ensures.value) in
    let there = k.2 ∙ ap Some same in
    let updates = updates-with_value_at m c.args.near c.change_of.new.kept nat_list_eq_equiv c.get_index_mut.ensures.unique x s (k.1 ∙ ap (λ t. Some (x, t)) same) in
    ok_then c.change_of.result c.change_of.ensures.noted (keeps_all x (Some s) (Some c.change_of.new.kept) c.args.notes.now c.change_of.new.notes m (with_value_at m c.args.near c.change_of.new.kept) there updates.0)

pub returns-in-Some-clause-noted : goal.returns-in-Some-clause-noted
returns-in-Some-clause-noted c =
    let x = c.args.key.now in
    let s = c.in-Some.kept.now in
    let k = c.change_of-in-Some.new.kept in
    let there : get same_key c.args.states.now x ≡ Some s = search rules in
    let updates : Updates same_key c.args.states.now (c.get_mut.follows.lender k) x (Some k) = search rules in
    ok_then c.change_of-in-Some.result c.change_of-in-Some.ensures.noted (keeps_all x (Some s) (Some k) c.args.notes.now c.change_of-in-Some.new.notes c.args.states.now (c.get_mut.follows.lender k) there updates.0)

pub returns-clause-noted : goal.returns-clause-noted
returns-clause-noted c =
    let same : c.get_mut.follows.lender-at-none ≡ c.args.states.now = search rules in
    subst (λ m. OnOk c.begin_by.result (KeepsNotes c.args.notes.now c.begin_by.new.notes (get same_key m) (get same_key c.begin_by.new.states))) same c.begin_by.ensures.noted
