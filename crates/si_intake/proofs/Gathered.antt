-- What is known once all ends are gathered.
use Rattle.std.proofs.Common.{◌≡◌, ◌≢◌, ⊎_elim, ℕ, ◌<◌, List, [], ◌∷◌, ◌++◌, length, refl, sym, ap, ◌∙◌, subst, append-nil, zero, suc, arith, slice_index_or, length-append, All}
use Rattle.std.proofs.lemmas.Option.{slice_get-get_or}
use Rattle.si_intake.specs.declared.items.Item.{Item}
use Rattle.si_intake.specs.declared.views.View.{View}
use Rattle.si_intake.specs.Items.{of_source, HaveAllEnded}
use Rattle.si_intake.specs.Rule.{EndsAtItsLast, IsOnItsWay}
use Rattle.si_intake.specs.Interleavings.{IsInterleaving}
use Rattle.atomic_table.specs.Seated.{TableId}
use Rattle.si_intake.specs.Ends.{Putting, Accepting, AreAllEndsOf, AllEnded, all_put, new_end, new_ends}
use Rattle.si_intake.specs.Views.{accepter_view}
use Rattle.si_intake.proofs.Sources.{same, nothing_behind, of_both, own_item}

-- nothing is on its way once the last item of each source was taken
pub interleaves : (v : View) (items : List Item) → IsOnItsWay v items → HaveAllEnded (length v.known) v.got → All (λ item. item.source < length v.known) v.got → IsInterleaving v.got v.known
interleaves v items way ended below = (below, whole)
  where
    whole : (source : ℕ) → source < length v.known → of_source source v.got ≡ slice_index_or v.known source []
    whole source within =
        let w = way source (slice_index_or v.known source []) (slice_get-get_or v.known source [] within) in
        let parts = of_both source v.got items in
        let none = nothing_behind (of_source source v.got) (of_source source items) (subst EndsAtItsLast (sym w.0 ∙ parts) w.1) (ended source within) in
        sym (append-nil (of_source source v.got)) ∙ ap (λ l. of_source source v.got ++ l) (sym none) ∙ sym parts ∙ w.0

at_first : (yielded : List Putting) (e : Putting) (rest : List Putting) → slice_index_or (yielded ++ e ∷ rest) (length yielded) e ≡ e
at_first [] e rest = refl
at_first (x ∷ xs) e rest = at_first xs e rest

pub so_many_put : (ends : List Putting) → length (all_put ends) ≡ length ends
so_many_put [] = refl
so_many_put (e ∷ ends) = ap suc (so_many_put ends)

-- the next end is of the next source
pub next_of : (accepter : Accepting) (ends yielded : List Putting) (e : Putting) (rest : List Putting) → AreAllEndsOf accepter ends → ends ≡ yielded ++ e ∷ rest → e.source ≡ length (all_put yielded)
next_of accepter ends yielded e rest all is =
    let within : length yielded < length ends = (let l = ap length is in omega (arith, length-append yielded (e ∷ rest))) in
    let here : slice_index_or ends (length yielded) e ≡ e = ap (λ l. slice_index_or l (length yielded) e) is ∙ at_first yielded e rest in
    sym (ap (λ (p : Putting). p.source) here) ∙ (all.1 (length yielded) e within).1 ∙ sym (so_many_put yielded)

-- with all ends, what was taken is an interleaving
pub gathers : (accepter : Accepting) (ends : List Putting) (v : View) (items : List Item) → v ≡ accepter_view accepter.sources accepter.taken (all_put ends) → AreAllEndsOf accepter ends → AllEnded accepter → All (λ item. item.source < accepter.sources) accepter.taken → IsOnItsWay v items
    → IsInterleaving accepter.taken (all_put ends)
gathers accepter ends v items is all ended below way =
    let many : accepter.sources ≡ length (all_put ends) = sym all.0 ∙ sym (so_many_put ends) in
    interleaves (accepter_view accepter.sources accepter.taken (all_put ends)) items (subst (λ (u : View). IsOnItsWay u items) is way) (subst (λ n. HaveAllEnded n accepter.taken) many ended)
    (subst (λ n. All (λ (item : Item). item.source < n) accepter.taken) many below)

all_of_one : (items : List Item) → All (λ item. item.source < 1) items → of_source 0 items ≡ items
all_of_one [] below = refl
all_of_one (x ∷ xs) below = own_item 0 x xs (let b = below 0 x (omega arith) in omega arith) ∙ ap (λ l. x ∷ l) (all_of_one xs (λ k d h. below (suc k) d (omega arith)))

pub lone_source : (taken own : List Item) → IsInterleaving taken (own ∷ []) → taken ≡ own
lone_source taken own h = sym (all_of_one taken h.0) ∙ h.1 0 (omega arith)

so_many : (intake : TableId) (n : ℕ) → length (new_ends intake n) ≡ n
so_many intake zero = refl
so_many intake (suc n) = let r = so_many intake n in omega (arith, length-append (new_ends intake n) (new_end intake n ∷ []))

-- one element behind a list of so many
last_at : (ends : List Putting) (e d : Putting) (k : ℕ) → k ≡ length ends → slice_index_or (ends ++ e ∷ []) k d ≡ e
last_at [] e d zero is = refl
last_at [] e d (suc k) is = absurd (omega arith)
last_at (x ∷ xs) e d zero is = absurd (omega arith)
last_at (x ∷ xs) e d (suc k) is = last_at xs e d k (omega arith)

before_last : (ends : List Putting) (e d : Putting) (k : ℕ) → k < length ends → slice_index_or (ends ++ e ∷ []) k d ≡ slice_index_or ends k d
before_last [] e d k within = absurd (omega arith)
before_last (x ∷ xs) e d zero within = refl
before_last (x ∷ xs) e d (suc k) within = before_last xs e d k (omega arith)

each_new : (intake : TableId) (n k : ℕ) (d : Putting) → k < n → slice_index_or (new_ends intake n) k d ≡ new_end intake k
each_new intake zero k d below = absurd (omega arith)
each_new intake (suc n) k d below = let many = so_many intake n in ⊎_elim
    (λ (e : k ≡ n). last_at (new_ends intake n) (new_end intake n) d k (omega arith) ∙ ap (new_end intake) (sym e))
    (λ (other : k ≢ n). before_last (new_ends intake n) (new_end intake n) d k (omega arith) ∙ each_new intake n k d (omega arith))
    (same k n)

pub all_new : (accepter : Accepting) → AreAllEndsOf accepter (new_ends accepter.intake accepter.sources)
all_new accepter = (
  so_many accepter.intake accepter.sources,
  λ k d within.
      let many = so_many accepter.intake accepter.sources in
      let new = each_new accepter.intake accepter.sources k d (omega arith) in (ap (λ (e : Putting). e.intake) new, ap (λ (e : Putting). e.source) new),
)
