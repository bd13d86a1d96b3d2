-- What the accepter knows once an item was taken.
use Rattle.std.proofs.Common.{◌≡◌, ℕ, ◌+◌, ◌-◌, ◌<◌, ◌≤◌, true, false, List, [], ◌∷◌, ◌++◌, sym, ap, ◌∙◌, subst, arith, All}
use Rattle.std.proofs.lemmas.List.Elements.{All-push}
use Rattle.si_intake.specs.declared.items.Item.{Item}
use Rattle.si_intake.specs.declared.views.View.{View}
use Rattle.si_intake.specs.Items.{is_last}
use Rattle.si_intake.specs.Endings.{ended_below}
use Rattle.si_intake.specs.Views.{accepter_view, with_got}
use Rattle.si_intake.specs.Rule.{IsTakenFrom}
use Rattle.si_intake.proofs.Endings.{one_if, one_left, counts_taken}

module _ (n unended : ℕ) (v w : View) (x : Item) (is : v ≡ accepter_view n v.got []) (counted : unended + ended_below n v.got ≡ n) (below : All (λ item. item.source < n) v.got) (taken : IsTakenFrom v x w) where
  from_below : x.source < n
  from_below = subst (λ m. x.source < m) (ap (λ (u : View). u.made) is) taken.1

  got_after : w.got ≡ v.got ++ x ∷ []
  got_after = ap (λ (u : View). u.got) taken.0

  pub view_after : w ≡ accepter_view n w.got []
  view_after = taken.0 ∙ ap (with_got x) is ∙ ap (λ l. accepter_view n l []) (sym got_after)

  pub one_unended : 1 ≤ unended
  one_unended = let l = one_left n v.got x.source from_below taken.2 in omega arith

  count_after : ended_below n w.got ≡ ended_below n v.got + one_if (is_last x)
  count_after = ap (ended_below n) got_after ∙ counts_taken n v.got x from_below taken.2

  pub counted_last : is_last x ≡ true → unended - 1 + ended_below n w.got ≡ n
  counted_last last = let c = count_after in let z = ap one_if last in let o = one_unended in omega arith

  pub counted_line : is_last x ≡ false → unended + ended_below n w.got ≡ n
  counted_line line = let c = count_after in let z = ap one_if line in omega arith

  pub below_after : All (λ item. item.source < n) w.got
  below_after = subst (λ (l : List Item). All (λ item. item.source < n) l) (sym got_after) (All-push (λ item. item.source < n) v.got x below from_below)
