use Rattle.std.proofs.Common.{◌≡◌, ◌<◌, ◌∷◌, ◌++◌, length, All, sym, ap, ◌∙◌, subst, append-nil}
use Rattle.std.proofs.lemmas.List.{nil_from_length}
use Rattle.si_intake.specs.Ends.{all_put}
use Rattle.si_intake.specs.Views.{accepter_view}
use Rattle.si_intake.specs.Interleavings.{IsInterleaving}
use Rattle.si_intake.proofs.Rules.{merges, learns}
use Rattle.si_intake.proofs.Gathered.{next_of, gathers}
use Rattle.si_intake.proofs.gatherings.gather.Goals as goal

pub absorb-requires-clause-rule : goal.absorb-requires-clause-rule
absorb-requires-clause-rule c =
    let mine = c.loop-end.invariant.3 in
    let theirs = c.end.invariant.1 in
    let left = c.next.new.self.rest.items in
    let rest : c.loop-end.end-iterator.rest.items ≡ c.in-Some.end ∷ left = cc (c.in-Some.ensures.steps.0) in
    let parts = c.loop-end.invariant.0 ∙ ap (λ l. c.loop-end.yielded ++ l) rest in
    let next = next_of c.args.accepter _ _ _ _ c.requires.ends parts in
    merges _ _ _ _ (ap (λ v. v.gets) mine) (ap (λ v. v.sends) mine) (ap (λ v. v.sends) theirs) (ap (λ v. v.from) theirs ∙ ap (λ e. e.source) c.end.view_is ∙ next ∙ sym (ap (λ v. length v.known) mine))

pub learn_as-requires-clause-rule : goal.learn_as-requires-clause-rule
learn_as-requires-clause-rule c = learns _ _ (ap (λ v. v.gets) c.loop-end.invariant.3)

pub returns-clause-interleaving : goal.returns-clause-interleaving
returns-clause-interleaving c =
    let none = nil_from_length _ (sym c.loop-end.end-iterator.rest.ok.0 ∙ c.in-None.ensures.steps.0) in
    let all = sym (c.loop-end.invariant.0 ∙ ap (λ l. c.loop-end.yielded ++ l) none ∙ append-nil c.loop-end.yielded) in
    let is = c.loop-end.invariant.3 ∙ ap (λ l. accepter_view c.args.accepter.sources c.args.accepter.taken (all_put l)) all in
    let below = subst (λ a. All (λ item. item.source < a.sources) a.taken) c.accepter.view_is c.accepter.invariant.3 in
    gathers _ _ _ _ is c.requires.ends c.requires.ended below c.learn_as.ensures.rule.1

pub invariant_of-result : goal.invariant_of-result
invariant_of-result c =
    let none = nil_from_length _ (sym c.loop-end.end-iterator.rest.ok.0 ∙ c.in-None.ensures.steps.0) in
    let all = sym (c.loop-end.invariant.0 ∙ ap (λ l. c.loop-end.yielded ++ l) none ∙ append-nil c.loop-end.yielded) in
    let is = c.loop-end.invariant.3 ∙ ap (λ l. accepter_view c.args.accepter.sources c.args.accepter.taken (all_put l)) all in
    let same = c.learn_as.ensures.queue.1 ∙ is in
    let below = subst (λ a. All (λ item. item.source < a.sources) a.taken) c.accepter.view_is c.accepter.invariant.3 in
    subst (λ v. IsInterleaving v.got v.known) (sym same) (gathers _ _ _ _ is c.requires.ends c.requires.ended below c.learn_as.ensures.rule.1)
