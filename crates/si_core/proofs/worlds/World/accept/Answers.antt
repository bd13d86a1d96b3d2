use Rattle.std.proofs.Common.{◌≡◌, ◌∙◌, sym, ap, subst}
use Rattle.si_model.specs.declared.edits.Edit.{Edit}
use Rattle.si_model.specs.Journals.{refusal_after}
use Rattle.si_accept.specs.Books.{BookState}
use Rattle.si_accept.specs.Faults.{IsFaultOf}
use Rattle.si_core.specs.declared.steps.Reply.{Reply}
use Rattle.si_core.specs.declared.steps.Reply.TheVariants as reply
use Rattle.si_core.specs.Machine.{IsAccept, Machine}
use Rattle.si_core.specs.Worlds.{machine_of}
use Rattle.si_core.proofs.Progressing.{accepts, lacks_memory, refuses, world_after, world_noted}
use Rattle.si_core.proofs.worlds.World.accept.Goals as goal
use Rattle.si_core.proofs.worlds.World.accept.Goals.{in-Err-OutOfMemory, in-Err-Refused, in-Ok}

pub invariant_of-self : goal.invariant_of-self
invariant_of-self c =
    let shards = c.self.inside.shards.items in
    world_after c.forget.new.self c.accept.new.self c.args.edit shards c.accept.result c.accept.ensures.ok c.accept.ensures.err
    (world_noted c.self.inside.book c.forget.new.self shards (ap (λ (b : BookState). b.journal) c.forget.ensures.others) c.self.invariant)

told : (M L N : Machine) (e : Edit) (r s : Reply) → L ≡ M → r ≡ s → IsAccept L e s N → IsAccept M e r N
told M L N e r s same is a = subst (λ K. IsAccept K e r N) same (subst (λ q. IsAccept L e q N) (sym is) a)

pub returns : goal.returns
returns c =
    let book = c.forget.new.self in
    let new = c.accept.new.self in
    let shards = c.self.inside.shards.items in
    let is : machine_of book shards ≡ c.args.self.now = ap (λ (b : BookState). machine_of b shards) c.forget.ensures.others ∙ c.self.view_is in
    let e = c.args.edit in
    let first = refusal_after book.limit book.journal e in
    elim c.match-accept.branch [
      | in-Ok w ↦ told c.args.self.now (machine_of book shards) (machine_of new shards) e c.match-accept.result (reply.Accepted w.in-Ok.number) is w.result-is
          (accepts book new shards e w.in-Ok.number w.in-Ok.ensures.acceptable w.in-Ok.ensures.ok w.in-Ok.ensures.number)
      | in-Err-Refused w ↦ told c.args.self.now (machine_of book shards) (machine_of new shards) e c.match-accept.result (reply.Refused w.in-Err-Refused.refusal) is w.result-is
          (refuses book new shards e w.in-Err-Refused.refusal (subst (IsFaultOf first) w.in-Err-Refused.field-0-is w.in-Err-Refused.ensures.fault) w.in-Err-Refused.ensures.err)
      | in-Err-OutOfMemory w ↦ told c.args.self.now (machine_of book shards) (machine_of new shards) e c.match-accept.result reply.NoMemory is w.result-is
          (lacks_memory book new shards e (subst (IsFaultOf first) w.in-Err-OutOfMemory.field-0-is w.in-Err-OutOfMemory.ensures.fault) w.in-Err-OutOfMemory.ensures.err)
    ]
