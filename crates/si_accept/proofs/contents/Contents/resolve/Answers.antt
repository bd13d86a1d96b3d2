use Rattle.std.proofs.Common.{◌≡◌, ◌∙◌, ap, sym, subst, true, map, Some, ◌++◌, ◌∷◌, []}
use Rattle.std.specs.Option.{option_copied}
use Rattle.si_model.specs.declared.edits.Edit.TheVariants as edit
use Rattle.si_model.specs.Parts.{Present, writes_some}
use Rattle.si_model.specs.Versions.{commit_of}
use Rattle.si_model.specs.Edits.{with_id, resolution_refusal, resolved}
use Rattle.si_accept.specs.Indexes.{SetsStamp}
use Rattle.si_accept.proofs.Resolutions.{doubtful, found_copy, indexed_resolved}
use Rattle.si_accept.proofs.contents.Contents.resolve.Goals as goal

pub resolve-requires-clause-there : goal.resolve-requires-clause-there
resolve-requires-clause-there c = (found_copy c.reserve.new.self.txns c.args.id c.unwrap.result.now c.in_ok-copy.copy (sym c.get.ensures ∙ ap option_copied c.unwrap.ensures) c.in_ok-copy.ensures).2

found : (c : goal.After-resolve) → (c.in_ok-copy.copy.id ≡ c.args.id) × (with_id c.reserve.new.self.txns c.args.id ≡ Some c.in_ok-copy.copy) × (with_id c.reserve.new.self.txns c.in_ok-copy.copy.id ≡ Some c.in_ok-copy.copy)
found c = found_copy c.reserve.new.self.txns c.args.id c.unwrap.result.now c.in_ok-copy.copy (sym c.get.ensures ∙ ap option_copied c.unwrap.ensures) c.in_ok-copy.ensures

now : (c : goal.After-resolve) → c.resolve.new.self.txns ≡ map (resolved c.args.id c.args.outcome) c.self.inside.arrivals.txns
now c =
    c.resolve.ensures.txns
    ∙ ap (λ u. map (resolved u c.args.outcome) c.reserve.new.self.txns) (found c).0
    ∙ ap (λ K. map (resolved c.args.id c.args.outcome) K.txns) c.reserve.ensures.same

pub invariant_of-self-2 : goal.invariant_of-self-2
invariant_of-self-2 c =
    let txns = c.self.inside.arrivals.txns in
    let index = c.self.inside.index in
    let id = c.args.id in
    let T = c.in_ok-copy.copy in
    let there = ap (λ K. with_id K.txns id) (sym c.reserve.ensures.same) ∙ (found c).1 in
    let d = doubtful txns id c.args.outcome T there (ap (λ R. resolution_refusal R.present.txns c.args.outcome (with_id R.present.txns id)) c.self.view_is ∙ c.requires) in
    let commit = c.commit.ensures ∙ ap commit_of c.status.ensures in
    let s = subst (λ b. SetsStamp b c.commit.result id true index c.add_commit.new.self) c.writes.ensures c.in_ok-add_commit.ensures.commit in
    let t = subst (λ o. SetsStamp (writes_some T) o id true index c.add_commit.new.self) commit s in
    rw (now c) (indexed_resolved txns index c.add_commit.new.self id c.args.outcome T c.self.invariant d t c.in_ok-add_commit.ensures.rest)

pub returns-clause-journal : goal.returns-clause-journal
returns-clause-journal c =
    c.resolve.ensures.edits
    ∙ ap (λ u. c.reserve.new.self.edits ++ edit.Resolve u c.args.outcome ∷ []) (found c).0
    ∙ ap (λ K. K.edits ++ edit.Resolve c.args.id c.args.outcome ∷ []) c.reserve.ensures.same
    ∙ ap (λ R. R.journal ++ edit.Resolve c.args.id c.args.outcome ∷ []) c.self.view_is

pub returns-clause-present : goal.returns-clause-present
returns-clause-present c =
    ap (λ Q. let P : Present = record { txns = Q; initial = c.self.inside.initial } in P) (now c)
    ∙ ap (λ R. let P : Present = record { txns = map (resolved c.args.id c.args.outcome) R.present.txns; initial = R.present.initial } in P) c.self.view_is
