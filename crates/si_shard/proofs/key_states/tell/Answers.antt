use Rattle.si_shard.proofs.AppliedEach.{ok_then}
use Rattle.si_shard.proofs.OnKeys.{told_unmarked}
use Rattle.si_shard.proofs.key_states.tell.Goals as goal

pub returns-then-left-2 : goal.returns-then-left-2
returns-then-left-2 c =
    let left = c.args.left in
    ok_then c.set_found.result c.set_found.ensures
    (told_unmarked c.args.key.now left.is_bare left.has_findings left.is_marked left.was_marked c.args.marked.now.items c.args.found.now c.set_found.new.found c.if-left.false)

pub returns : goal.returns
returns c =
    let left = c.args.left in
    ok_then c.keep_found.result c.keep_found.ensures
    (told_unmarked c.args.key.now left.is_bare left.has_findings left.is_marked left.was_marked c.args.marked.now.items c.args.found.now c.keep_found.new.found c.if-left.false)
