use Rattle.std.proofs.Common.{◌≡◌, ◌+◌, arith, length, sym, subst, take}
use Rattle.std.proofs.lemmas.Bool.{ltb-false}
use Rattle.si_shard.specs.AppliedEdits.{AreSettled}
use Rattle.si_shard.proofs.journal_shards.JournalShard.apply_first.Goals as goal

pub returns-clause-follows : goal.returns-clause-follows
returns-clause-follows c = λ J accepted follows told.
    let s = c.args.self.now in
    let n = c.apply_and_settle-applied.result in
    let many = c.apply_and_settle-applied.ensures.within in record {
      shard = follows.shard;
      within = (let w = told.within in omega arith);
      whole = λ e.
          (let left = ltb-false n (length c.args.edits.now) e in
          let all : n ≡ length c.args.edits.now = omega arith in
          subst (λ m. AreSettled s.id (take (s.position + m) J) c.apply_and_settle-applied.new.self) (sym all) (c.apply_and_settle-applied.ensures.whole all J s.position accepted told (follows.whole c.if-self.false).applied));
    }
