use Rattle.std.proofs.Common.{◌∙◌, false, refl, sym, true≢false}
use Rattle.std.specs.BTreeSet.{contains}
use Rattle.std.specs.Cmp.Lexicographic.{slice_cmp}
use Rattle.std.specs.Ordering.{nat_cmp}
use Rattle.si_shard.proofs.OnKeys.{nothing_told}
use Rattle.si_shard.proofs.key_states.list.Goals as goal

pub returns-in_ok-set_found : goal.returns-in_ok-set_found
returns-in_ok-set_found c = record {
  kept = c.in_ok-enlist.ensures.kept;
  listed = λ e. c.in_ok-enlist.ensures.listed;
  told = false;
  is = c.in_ok-set_found.ensures;
  unmarked = λ e. absurd (true≢false (sym c.requires ∙ e));
  bare = λ e b. refl;
}

pub returns-else-left : goal.returns-else-left
returns-else-left c = record {
  kept = c.in_ok-enlist.ensures.kept;
  listed = λ e. c.in_ok-enlist.ensures.listed;
  told = contains (slice_cmp nat_cmp) c.args.found.now c.args.key.now;
  is = nothing_told c.args.key.now c.args.found.now;
  unmarked = λ e. absurd (true≢false (sym c.requires ∙ e));
  bare = λ e b. absurd (true≢false (sym b ∙ c.if-left.false));
}
