use Rattle.std.proofs.Common.{◌≡◌, ◌∙◌, ℕ, arith, ap, subst, take}
use Rattle.si_model.specs.Journals.{IsAccepted, present}
use Rattle.si_shard.specs.Laws.{changes_below}
use Rattle.si_words.specs.declared.views.BookView.{BookView}
use Rattle.si_words.specs.Entries.{edits_of}
use Rattle.si_checker.proofs.Storing.{taken_accepted}
use Rattle.si_checker.proofs.checkers.Checker.settle_changes.Goals as goal

pub returns-clause-came : goal.returns-clause-came
returns-clause-came g c =
    let shards = g.N.Name.board.shards in
    let J = edits_of c.args.locked_book.now.journal in
    let before = present (take c.args.since J) in
    let all : c.loop-k.k ≡ shards = (let e = c.loop-k.auto.k-end in let t = c.loop-k-test.false in let l = c.len-k-end.ensures in let b = c.args.self.now.locked_shards_are in omega arith) in
    let accepted : IsAccepted J = subst (λ (b : BookView). IsAccepted (edits_of b.journal)) c.loop-k.invariant.0 c.journal-accepted.ensures.accepted in
    c.put_changes_in_order.ensures shards before (present J) c.args.self.now.some (c.present_is_history.ensures J accepted)
    (c.loop-k.invariant.1 ∙ ap (λ (n : ℕ). changes_below n shards before (present J)) all)

pub returns-clause-went : goal.returns-clause-went
returns-clause-went g c =
    let shards = g.N.Name.board.shards in
    let J = edits_of c.args.locked_book.now.journal in
    let first = take c.args.since J in
    let all : c.loop-k.k ≡ shards = (let e = c.loop-k.auto.k-end in let t = c.loop-k-test.false in let l = c.len-k-end.ensures in let b = c.args.self.now.locked_shards_are in omega arith) in
    let accepted : IsAccepted J = subst (λ (b : BookView). IsAccepted (edits_of b.journal)) c.loop-k.invariant.0 c.journal-accepted.ensures.accepted in
    let begins : IsAccepted first = taken_accepted c.accepted_begins.ensures J c.args.since accepted in
    c.put_changes_in_order-2.ensures shards (present J) (present first) c.args.self.now.some (c.present_is_history.ensures first begins)
    (c.loop-k.invariant.2 ∙ ap (λ (n : ℕ). changes_below n shards (present J) (present first)) all)
