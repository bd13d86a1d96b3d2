use Rattle.std.proofs.Common.{◌≡◌, ◌∙◌, ◌<◌, Some, arith, length, OnOk, slice_get, slice_set, sym, ap, subst}
use Rattle.std.proofs.lemmas.Option.{slice_get-get_or}
use Rattle.std.proofs.lemmas.List.{length-map}
use Rattle.si_model.specs.Journals.{IsAccepted}
use Rattle.si_shard.specs.JournalShards.{Follows}
use Rattle.si_core.specs.Machine.{IsRebuilt, Machine}
use Rattle.si_core.specs.Worlds.{machine_of, progress_of}
use Rattle.si_core.proofs.Progressing.{rebuilt, rebuilt_world}
use Rattle.si_core.proofs.worlds.World.rebuild.Goals as goal

-- the shard that stands there
standing : (c : goal.After-self-1) → slice_get c.self.inside.shards.items c.args.shard ≡ Some c.index_mut.result.now
standing c =
    let shards = c.self.inside.shards.items in
    let count = length-map shards progress_of in
    let view = ap (λ (M : Machine). length M.shards) c.self.view_is in
    let asked = c.requires in
    let within : c.args.shard < length shards = omega arith in
    slice_get-get_or shards c.args.shard c.index_mut.result.now within ∙ ap Some (sym c.index_mut.ensures.value)

pub rebuild-requires-clause-accepted : goal.rebuild-requires-clause-accepted
rebuild-requires-clause-accepted c = subst IsAccepted (sym c.journal.ensures.journal) c.journal.ensures.accepted

pub rebuild-requires-clause-follows : goal.rebuild-requires-clause-follows
rebuild-requires-clause-follows c =
    let s = c.index_mut.result.now in
    let shards = c.self.inside.shards.items in
    let count = length-map shards progress_of in
    let view = ap (λ (M : Machine). length M.shards) c.self.view_is in
    let asked = c.requires in
    let within : c.args.shard < length shards = omega arith in
    let at : slice_get shards c.args.shard ≡ Some s = slice_get-get_or shards c.args.shard s within ∙ ap Some (sym c.index_mut.ensures.value) in
    subst (λ J. Follows J s) (sym c.journal.ensures.journal) (c.self.invariant.each c.args.shard s at).follows

pub invariant_of-self : goal.invariant_of-self
invariant_of-self c =
    rebuilt_world c.self.inside.book c.self.inside.shards.items c.args.shard c.index_mut.result.now c.rebuild.new.self (standing c) c.rebuild.result c.rebuild.ensures.ok c.rebuild.ensures.err (subst (λ J. Follows J c.rebuild.new.self) c.journal.ensures.journal c.rebuild.ensures.follows) c.self.invariant

pub returns-clause-ok : goal.returns-clause-ok
returns-clause-ok c =
    subst (λ M. OnOk c.rebuild.result (IsRebuilt M c.args.shard (machine_of c.self.inside.book (slice_set c.self.inside.shards.items c.args.shard c.rebuild.new.self)))) c.self.view_is
    (rebuilt c.self.inside.book c.self.inside.shards.items c.args.shard c.index_mut.result.now c.rebuild.new.self (standing c) c.rebuild.result c.rebuild.ensures.ok)
