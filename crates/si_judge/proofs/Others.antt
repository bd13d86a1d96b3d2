-- Putting in, and taking out, those of some writes that installed no version, one after the other.
use Rattle.std.proofs.Common.{◌≡◌, ◌∙◌, ℕ, ◌+◌, ◌<◌, ◌++◌, ◌∷◌, [], Bool, true, false, cond, List, Option, Some, None, length, take, get_or, sym, ap, subst}
use Rattle.std.specs.List.{fold}
use Rattle.std.specs.Map.{update, update_all}
use Rattle.std.specs.Ordering.{eq_by_cmp}
use Rattle.std.proofs.lemmas.List.{append-nil, take_more}
use Rattle.std.proofs.lemmas.List.Elements.{filter-append}
use Rattle.si_lists.proofs.Pushes.{fold_push}
use Rattle.si_model.specs.declared.numbers.Value.{Value}
use Rattle.si_judge.specs.declared.reads.Write.{Write}
use Rattle.si_judge.specs.Indexes.{is_other, others_among}
use Rattle.si_judge.specs.Maps.{AreInserted, AreTakenOut}
use Rattle.si_judge.specs.Values.{value_cmp}

next_others : (ws : List (Value × Write)) (i : ℕ) (e : Value × Write) → i < length ws → others_among (take (i + 1) ws) ≡ others_among (take i ws) ++ others_among (get_or ws i e ∷ [])
next_others ws i e within = ap others_among (take_more ws i e within) ∙ filter-append (λ w. is_other w.1.fate) (take i ws) (get_or ws i e ∷ [])

module _ (old mid new : Value → Option Write) (xs : List (Value × Write)) where
  in_behind : (b : Bool) (w : Value × Write) → AreInserted (eq_by_cmp value_cmp) old xs mid → AreInserted (eq_by_cmp value_cmp) mid (cond b (w ∷ []) []) new
      → AreInserted (eq_by_cmp value_cmp) old (xs ++ cond b (w ∷ []) []) new
  in_behind true w so_far next k = next k ∙ ap (cond (eq_by_cmp value_cmp w.0 k) (Some w.1)) (so_far k)
      ∙ ap (λ (f : Value → Option Write). f k) (sym (fold_push (λ g p. update (eq_by_cmp value_cmp) g p.0 (Some p.1)) old xs w))
  in_behind false w so_far next k = next k ∙ so_far k ∙ ap (λ l. update_all (eq_by_cmp value_cmp) old l k) (sym (append-nil xs))

  out_behind : (b : Bool) (w : Value × Write) → AreTakenOut (eq_by_cmp value_cmp) old xs mid → AreTakenOut (eq_by_cmp value_cmp) mid (cond b (w ∷ []) []) new
      → AreTakenOut (eq_by_cmp value_cmp) old (xs ++ cond b (w ∷ []) []) new
  out_behind true w so_far next k = next k ∙ ap (cond (eq_by_cmp value_cmp w.0 k) None) (so_far k)
      ∙ ap (λ (f : Value → Option Write). f k) (sym (fold_push (λ g p. update (eq_by_cmp value_cmp) g p.0 None) old xs w))
  out_behind false w so_far next k = next k ∙ so_far k ∙ ap (λ l. fold (λ f e. update (eq_by_cmp value_cmp) f e.0 None) old l k) (sym (append-nil xs))

pub one_more_in : (old mid new : Value → Option Write) (ws : List (Value × Write)) (i : ℕ) (e : Value × Write) → i < length ws → AreInserted (eq_by_cmp value_cmp) old (others_among (take i ws)) mid
    → AreInserted (eq_by_cmp value_cmp) mid (others_among (get_or ws i e ∷ [])) new → AreInserted (eq_by_cmp value_cmp) old (others_among (take (i + 1) ws)) new
one_more_in old mid new ws i e within so_far next = subst (λ l. AreInserted (eq_by_cmp value_cmp) old l new) (sym (next_others ws i e within))
    (in_behind old mid new (others_among (take i ws)) (is_other (get_or ws i e).1.fate) (get_or ws i e) so_far next)

pub one_more_out : (old mid new : Value → Option Write) (ws : List (Value × Write)) (i : ℕ) (e : Value × Write) → i < length ws → AreTakenOut (eq_by_cmp value_cmp) old (others_among (take i ws)) mid
    → AreTakenOut (eq_by_cmp value_cmp) mid (others_among (get_or ws i e ∷ [])) new → AreTakenOut (eq_by_cmp value_cmp) old (others_among (take (i + 1) ws)) new
one_more_out old mid new ws i e within so_far next = subst (λ l. AreTakenOut (eq_by_cmp value_cmp) old l new) (sym (next_others ws i e within))
    (out_behind old mid new (others_among (take i ws)) (is_other (get_or ws i e).1.fate) (get_or ws i e) so_far next)
