use Rattle.std.proofs.Common.{◌≡◌, ◌∙◌, inl, inr, Some, arith, slice_get, sym, ap}
use Rattle.std.proofs.lemmas.Bool.{cases_eq}
use Rattle.std.proofs.lemmas.Option.{slice_get-get_or, slice_get_within}
use Rattle.si_lists.proofs.Members.{contains_get, same_some}
use Rattle.si_shard.specs.declared.journal_shards.JournalShard.{JournalShard}
use Rattle.si_core.proofs.worlds.first_spoiled.Goals as goal

pub returns-then-is_spoiled : goal.returns-then-is_spoiled
returns-then-is_spoiled c =
    let shards = c.args.shards.now in
    let i = c.loop-number.number in
    let s = c.index-shards-number.result in
    let at : slice_get shards i ≡ Some s = slice_get-get_or shards i s c.loop-number-test.true ∙ ap Some (sym c.index-shards-number.is) in
    (s, at, sym c.is_spoiled.ensures ∙ c.if-is_spoiled.true, c.loop-number.invariant)

pub loop-number-preserved : goal.loop-number-preserved
loop-number-preserved c = λ j t lt e.
    let shards = c.args.shards.now in
    let i = c.loop-number.number in
    let s = c.index-shards-number.result in
    let at : slice_get shards i ≡ Some s = slice_get-get_or shards i s c.loop-number-test.true ∙ ap Some (sym c.index-shards-number.is) in
    elim (cases_eq j i) [
      | inl same ↦
          let is : s ≡ t = same_some (sym at ∙ ap (slice_get shards) (sym same) ∙ e) in
          ap (λ (w : JournalShard). w.spoiled) (sym is) ∙ sym c.is_spoiled.ensures ∙ c.if-is_spoiled.false
      | inr other ↦ c.loop-number.invariant j t (omega arith) e
    ]

pub returns : goal.returns
returns c = λ s k.
    let shards = c.args.shards.now in
    let g = contains_get shards s k in
    let lt = slice_get_within shards g.0 s g.1 in
    let far = c.loop-number-test.false in
    c.loop-number.invariant g.0 s (omega arith) g.1
