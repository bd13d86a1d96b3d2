use Rattle.std.proofs.Common.{◌≡◌, arith, ap, refl, subst, sym}
use Rattle.si_shard.specs.declared.applied_edits.Applied.{Applied}
use Rattle.si_shard.specs.AppliedEdits.{found_after, found_first}
use Rattle.si_shard.specs.KeyNotes.{IsChangedTo, times_in}
use Rattle.si_shard.proofs.AppliedEach.{settled_unnoted, where_both}
use Rattle.si_shard.proofs.ShardFindings.{counted_now}
use Rattle.si_shard.proofs.applied_edits.Applied.noted_since.Goals as goal

pub compare-requires-clause-settled : goal.compare-requires-clause-settled
compare-requires-clause-settled c = settled_unnoted c.args.id c.args.edits.now c.args.self.now _ refl refl c.requires.settled

pub returns-then-is_noted-clause-settled : goal.returns-then-is_noted-clause-settled
returns-then-is_noted-clause-settled c = settled_unnoted c.args.id c.args.edits.now c.args.self.now _ refl c.take_notes.ensures.others c.requires.settled

pub returns-then-is_noted-clause-begun : goal.returns-then-is_noted-clause-begun
returns-then-is_noted-clause-begun c = c.take_notes.ensures.begun (c.requires.settled.applied.noted c.args.since (c.is_since-is_noted.ensures c.if-is_noted.true)).found.blank

pub returns-then-is_noted-clause-changed : goal.returns-then-is_noted-clause-changed
returns-then-is_noted-clause-changed c = λ f.
    let id = c.args.id in
    let edits = c.args.edits.now in
    let are = c.requires.settled.applied.noted c.args.since (c.is_since-is_noted.ensures c.if-is_noted.true) in
    subst (λ r. IsChangedTo r f (times_in f (found_first id edits c.args.since)) (times_in f (found_after id edits))) (sym c.take_notes.ensures.taken)
    (subst (λ n. IsChangedTo c.args.self.now.keys.notes.changes f (times_in f (found_first id edits c.args.since)) n) (sym (counted_now id edits c.args.self.now c.requires.accepted c.requires.settled f)) (are.found.each f))

pub returns-clause-settled : goal.returns-clause-settled
returns-clause-settled c = settled_unnoted c.args.id c.args.edits.now c.args.self.now c.compare.new.self (ap (λ (a : Applied). a.noted) c.compare.ensures.others) (ap (λ (a : Applied). a.keys) c.compare.ensures.others) c.requires.settled

pub returns-clause-none : goal.returns-clause-none
returns-clause-none c = ap (λ (a : Applied). a.noted) c.compare.ensures.others

pub returns-clause-changed : goal.returns-clause-changed
returns-clause-changed c = where_both c.compare.result c.compare.ensures.came c.compare.ensures.went (λ r came went f.
    (let now : times_in f r.came.items ≡ times_in f (found_after c.args.id c.args.edits.now) = ap (times_in f) came in
    let was : times_in f r.went.items ≡ times_in f (found_first c.args.id c.args.edits.now c.args.since) = ap (times_in f) went in
    omega (arith, now, was)))
