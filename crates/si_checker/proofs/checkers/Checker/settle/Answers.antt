use Rattle.std.proofs.Common.{◌≡◌, ◌∙◌, ℕ, arith, sym, ap, subst}
use Rattle.si_model.specs.Journals.{IsAccepted, present}
use Rattle.si_shard.specs.Laws.{findings_below}
use Rattle.si_words.specs.declared.views.BookView.{BookView}
use Rattle.si_words.specs.Entries.{edits_of}
use Rattle.si_checker.proofs.checkers.Checker.settle.Goals as goal

pub returns-clause-found : goal.returns-clause-found
returns-clause-found g c =
    let shards = g.N.Name.board.shards in
    let J = edits_of c.args.locked_book.now.journal in
    let all : c.loop-k.k ≡ shards = (let e = c.loop-k.auto.k-end in let t = c.loop-k-test.false in let l = c.len-k-end.ensures in let b = c.args.self.now.locked_shards_are in omega arith) in
    let accepted : IsAccepted J = subst (λ (b : BookView). IsAccepted (edits_of b.journal)) c.loop-k.invariant.0 c.journal-accepted.ensures.accepted in
    c.put_all_in_order.ensures shards (present J) c.args.self.now.some (c.present_is_history.ensures J accepted)
    (c.loop-k.invariant.1 ∙ ap (λ (n : ℕ). findings_below n shards (present J)) all)

pub returns-clause-empty : goal.returns-clause-empty
returns-clause-empty g c =
    let J = edits_of c.args.locked_book.now.journal in
    let accepted : IsAccepted J = subst (λ (b : BookView). IsAccepted (edits_of b.journal)) c.loop-k.invariant.0 c.journal-accepted.ensures.accepted in
    let exact = c.emptiness_is_exact.ensures (present J) (c.present_is_history.ensures J accepted) in
    let found = returns-clause-found g c in
    ((λ e. exact.0 (sym found ∙ e)), (λ w. found ∙ exact.1 w))

pub returns-clause-snapshot : goal.returns-clause-snapshot
returns-clause-snapshot g c =
    let J = edits_of c.args.locked_book.now.journal in
    let accepted : IsAccepted J = subst (λ (b : BookView). IsAccepted (edits_of b.journal)) c.loop-k.invariant.0 c.journal-accepted.ensures.accepted in
    let exact = c.snapshots_are_clean.ensures (present J) (c.present_is_history.ensures J accepted) in
    let found = returns-clause-found g c in
    ((λ e. exact.0 (sym found ∙ e)), (λ w. found ∙ exact.1 w))
