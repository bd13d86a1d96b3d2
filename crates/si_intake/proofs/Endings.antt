-- How many sources have ended, as items are taken.
use Rattle.std.proofs.Common.{◌≡◌, ◌≢◌, ⊎_elim, ℕ, zero, suc, ◌+◌, ◌<◌, ◌≤◌, Bool, true, false, ◌||◌, List, [], ◌∷◌, ◌++◌, refl, sym, ap, ◌∙◌, subst, arith, All}
use Rattle.std.specs.Prelude.{if◌then◌else◌}
use Rattle.si_intake.specs.declared.items.Item.{Item}
use Rattle.si_intake.specs.Items.{is_last, has_last, of_source, HaveAllEnded}
use Rattle.si_intake.specs.Endings.{ended_below}
use Rattle.si_intake.specs.declared.views.View.{View}
use Rattle.si_intake.specs.Views.{accepter_view}
use Rattle.si_intake.proofs.Sources.{same, or_nothing, own_added, other_added, lasts_append}

abbrev pub one_if : Bool → ℕ
one_if b = if b then 1 else 0

at_most_one : (b : Bool) → one_if b ≤ 1
at_most_one true = omega arith
at_most_one false = omega arith

pub none_ended : (n : ℕ) → ended_below n [] ≡ 0
none_ended zero = refl
none_ended (suc n) = let r = none_ended n in omega arith

pub ended_most : (n : ℕ) (items : List Item) → ended_below n items ≤ n
ended_most zero items = omega arith
ended_most (suc n) items = let r = ended_most n items in let o = at_most_one (has_last (of_source n items)) in omega arith

-- all of them have ended where as many have as there are
pub counted_all : (n : ℕ) (items : List Item) → ended_below n items ≡ n → HaveAllEnded n items
counted_all zero items e s below = absurd (omega arith)
counted_all (suc n) items e s below = ⊎_elim
    (λ (is : s ≡ n). ap (λ (k : ℕ). has_last (of_source k items)) is ∙ here (has_last (of_source n items)) refl)
    (λ (n' : s ≢ n). counted_all n items rest s (omega arith))
    (same s n)
  where
    rest : ended_below n items ≡ n
    rest = let r = ended_most n items in let o = at_most_one (has_last (of_source n items)) in omega arith

    here : (b : Bool) → has_last (of_source n items) ≡ b → has_last (of_source n items) ≡ true
    here true is = is
    here false is = absurd (let r = ended_most n items in let z = ap one_if is in omega arith)

-- one is left where one has not ended
pub one_left : (n : ℕ) (items : List Item) (s : ℕ) → s < n → has_last (of_source s items) ≡ false → ended_below n items < n
one_left zero items s below going = absurd (omega arith)
one_left (suc n) items s below going = ⊎_elim
    (λ (is : s ≡ n). let r = ended_most n items in let z = ap (λ (k : ℕ). one_if (has_last (of_source k items))) (sym is) ∙ ap one_if going in omega arith)
    (λ (n' : s ≢ n). let r = one_left n items s (omega arith) going in let o = at_most_one (has_last (of_source n items)) in omega arith)
    (same s n)

-- ---- an item is taken

-- of another source nothing changes
other_stays : (s : ℕ) (items : List Item) (x : Item) → x.source ≢ s → has_last (of_source s (items ++ x ∷ [])) ≡ has_last (of_source s items)
other_stays s items x n = ap has_last (other_added s items x n)

own_now : (s : ℕ) (items : List Item) (x : Item) → x.source ≡ s → has_last (of_source s items) ≡ false → has_last (of_source s (items ++ x ∷ [])) ≡ is_last x
own_now s items x e going = ap has_last (own_added s items x e) ∙ lasts_append (of_source s items) (x ∷ []) ∙ ap (λ b. b || (is_last x || false)) going ∙ or_nothing (is_last x)

-- beyond its source nothing changes
before : (n : ℕ) (items : List Item) (x : Item) → n ≤ x.source → ended_below n (items ++ x ∷ []) ≡ ended_below n items
before zero items x le = refl
before (suc n) items x le = let r = before n items x (omega arith) in let z = ap one_if (other_stays n items x (λ e. omega arith)) in omega arith

-- the count grows by one where the item is a last one
pub counts_taken : (n : ℕ) (items : List Item) (x : Item) → x.source < n → has_last (of_source x.source items) ≡ false → ended_below n (items ++ x ∷ []) ≡ ended_below n items + one_if (is_last x)
counts_taken zero items x below going = absurd (omega arith)
counts_taken (suc n) items x below going = ⊎_elim
    (λ (is : x.source ≡ n).
    let was = ap (λ (k : ℕ). has_last (of_source k items)) (sym is) ∙ going in
    let r = before n items x (omega arith) in let z = ap one_if was in let y = ap one_if (own_now n items x is was) in omega arith)
    (λ (n' : x.source ≢ n). let r = counts_taken n items x (omega arith) going in let z = ap one_if (other_stays n items x n') in omega arith)
    (same x.source n)

-- ---- at the opening

pub fresh : (n : ℕ) (v : View) → v ≡ accepter_view n [] [] → (v ≡ accepter_view n v.got []) × (n + ended_below n v.got ≡ n) × All (λ item. item.source < n) v.got
fresh n v is =
    let bare : v.got ≡ [] = ap (λ (u : View). u.got) is in (
      is ∙ ap (λ l. accepter_view n l []) (sym bare),
      (let c = ap (ended_below n) bare ∙ none_ended n in omega arith),
      subst (λ (l : List Item). All (λ item. item.source < n) l) (sym bare) (λ k d h. absurd (omega arith)),
    )
