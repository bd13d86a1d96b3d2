use Rattle.std.proofs.Common.{◌≡◌, true, false, cond, ap, sym, ◌∙◌, nat_lt, inl, inr, rules}
use Rattle.std.proofs.lemmas.Bool.{lt-ltb, le-ltb}
use Rattle.si_model.specs.declared.transactions.Status.{Status}
use Rattle.si_model.specs.Chances.{commits_after}
use Rattle.si_chances.specs.OnKeys.{has_beside}
use Rattle.si_chances.specs.Summaries.{free_reads}
use Rattle.si_chances.proofs.Beside.{beside_number, none_beside}
use Rattle.si_chances.proofs.on_keys.reads_of.Goals as goal

pub returns-then-how_many_beside-itself : goal.returns-then-how_many_beside-itself
returns-then-how_many_beside-itself c = λ parts h t k.
    let T = c.args.part.now in
    let own : c.from-itself.result ≡ cond (nat_lt c.args.places c.summary_of-summary.result.writes) 1 0 = search rules in
    let is : true ≡ has_beside c.args.places parts T =
    sym (lt-ltb c.from-itself.result c.how_many_beside.result c.if-how_many_beside-itself.true)
    ∙ beside_number parts c.args.places T c.in-Committed.commit c.args.spans.now _ _ _ h t c.in-Committed.is k c.summary_of-summary.ensures.writes own c.how_many_beside.ensures in
    c.summary_of-summary.ensures.free ∙ ap (λ b. cond b (free_reads T) 0) is

pub returns-else-how_many_beside-itself : goal.returns-else-how_many_beside-itself
returns-else-how_many_beside-itself c = λ parts h t k.
    let T = c.args.part.now in
    let own : c.from-itself.result ≡ cond (nat_lt c.args.places c.summary_of-summary.result.writes) 1 0 = search rules in
    let is : false ≡ has_beside c.args.places parts T =
    sym (le-ltb c.from-itself.result c.how_many_beside.result c.if-how_many_beside-itself.false)
    ∙ beside_number parts c.args.places T c.in-Committed.commit c.args.spans.now _ _ _ h t c.in-Committed.is k c.summary_of-summary.ensures.writes own c.how_many_beside.ensures in
    ap (λ b. cond b (free_reads T) 0) is

pub returns-in-Aborted : goal.returns-in-Aborted
returns-in-Aborted c = λ parts h t k.
    let T = c.args.part.now in
    ap (λ b. cond b (free_reads T) 0) (sym (none_beside parts c.args.places T (λ s. elim c.in-Aborted.is [ inl e ↦ ap (λ (x : Status). commits_after s x) e | inr e ↦ ap (λ (x : Status). commits_after s x) e ])))
