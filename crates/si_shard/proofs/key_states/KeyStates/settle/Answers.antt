use Rattle.std.proofs.Common.{inl, inr, subst, sym}
use Rattle.std.specs.List.{Contains}
use Rattle.si_shard.proofs.key_states.KeyStates.settle.Goals as goal

pub returns-clause-settled : goal.returns-clause-settled
returns-clause-settled c = record {
  stays = λ x Q on.
      (let done = c.in_ok-settle_all.ensures.settled.shows x Q on.shows on.found in record {
        shows = done.0;
        found = done.1;
        listed = inr (done.2 (elim on.listed [
          | inl there ↦ inl (subst (λ l. Contains l x) (sym c.deref.ensures.value) there)
          | inr none ↦ inr none
        ]));
        rising = c.in_ok-settle_all.ensures.settled.rising x on.rising;
      });
  none = c.clear.ensures.items;
}
