-- Each step keeps the rule of the queue.
use Rattle.std.proofs.Common.{lt_of_not-le, ◌≡◌, ◌≢◌, ◌⊎◌, inl, inr, ⊎_elim, ℕ, zero, suc, ◌<◌, ◌≤◌, Bool, true, false, true≢false, List, [], ◌∷◌, ◌++◌, length, set, refl, sym, ap, ◌∙◌, subst, arith, append_assoc, length-append, eq-eqb, ne_eqb, slice_get, Some, is_some, unwrap_or}
use Rattle.std.specs.Prelude.{if◌then◌else◌, ◌==◌}
use mathlib.Core.Option.{Option, some, none, some-injective, some-ne-none}
use lib.ListN.{get_elem?}
use Rattle.crossbeam_queue.specs.Fifo.{Pushes, Pops, Forks, Merges, Learns}
use Rattle.crossbeam_queue.proofs.Lists.{at_set}
use Rattle.si_intake.specs.declared.items.Item.{Item}
use Rattle.si_intake.specs.declared.views.View.{View}
use Rattle.si_intake.specs.Items.{has_last, of_source}
use Rattle.si_intake.specs.Views.{accepter_view, spent_view, with_put, with_got, one_more, next_source, with_known}
use Rattle.si_intake.specs.Rule.{EndsAtItsLast, FitsSource, FitsAccepter, IsKept, IsTakenFrom, IsOnItsWay}
use Rattle.si_intake.proofs.Sources.{same, no_rest, own_item, of_both, own_added, other_added, open_before, one_behind, got_within, got_added}

-- ---- functions that change at one place

abbrev changed : {A : Type 0} → (ℕ → A) → ℕ → A → ℕ → A
changed f k a s = if s == k then a else f s

changed_here : {A : Type 0} (f : ℕ → A) (k : ℕ) (a : A) (s : ℕ) → s ≡ k → changed f k a s ≡ a
changed_here f k a s e = ap (λ (b : Bool). if b then a else f s) (eq-eqb s k e)

changed_else : {A : Type 0} (f : ℕ → A) (k : ℕ) (a : A) (s : ℕ) → s ≢ k → changed f k a s ≡ f s
changed_else f k a s n = ap (λ (b : Bool). if b then a else f s) (ne_eqb s k n)

-- ---- views

abbrev All : (ℕ → View → Type 0) → List View → Type 0
All F views = (pass : ℕ) (v : View) → get_elem? views pass ≡ some v → F pass v

abbrev Fits : ℕ → (ℕ → Option ℕ) → (ℕ → List Item) → List Item → ℕ → View → Type 0
Fits accepter seat put taken pass v = FitsSource seat put pass v × FitsAccepter accepter seat put taken pass v

all_set : (F : ℕ → View → Type 0) (views : List View) (pass : ℕ) (w : View) → F pass w → ((j : ℕ) (u : View) → j ≢ pass → get_elem? views j ≡ some u → F j u) → All F (set views pass w)
all_set F views pass w mine others j u e =
    ⊎_elim (λ (x : (j ≡ pass) × (w ≡ u)). subst (λ (y : ℕ × View). F y.0 y.1) (λ i. (sym x.0 i, x.1 i)) mine)
    (λ (x : (j ≢ pass) × (get_elem? views j ≡ some u)). others j u x.0 x.1) (at_set views pass j w u e)

at_end : (l : List View) (a b : View) (j : ℕ) → get_elem? (l ++ a ∷ []) j ≡ some b → (get_elem? l j ≡ some b) ⊎ ((j ≡ length l) × (a ≡ b))
at_end [] a b zero e = inr (refl, some-injective a b e)
at_end [] a b (suc j) e = absurd (some-ne-none b (sym e))
at_end (x ∷ xs) a b zero e = inl e
at_end (x ∷ xs) a b (suc j) e = ⊎_elim (λ l. inl l) (λ r. inr (ap suc r.0, r.1)) (at_end xs a b j e)

-- a source with no pass isn't one with a pass
apart : (seat : ℕ → Option ℕ) (s k pass : ℕ) → seat s ≡ none → seat k ≡ some pass → s ≢ k
apart seat s k pass bare is e = some-ne-none pass (sym is ∙ ap seat (sym e) ∙ bare)

-- sources with different passes are different
differ : (seat : ℕ → Option ℕ) (s k i j : ℕ) → seat s ≡ some i → seat k ≡ some j → i ≢ j → s ≢ k
differ seat s k i j is are n e = n (some-injective i j (sym is ∙ ap seat e ∙ are))

-- ---- the steps

pub begins : IsKept [] (accepter_view 0 [] [] ∷ [])
begins = (0, (λ _. none), (λ _. []), [], (λ s. (refl, tt)), all_set (Fits 0 (λ _. none) (λ _. []) []) (v ∷ []) 0 v mine (λ j u n e. absurd (n (only j u e))))
  where
    v : View
    v = accepter_view 0 [] []

    mine : Fits 0 (λ _. none) (λ _. []) [] 0 v
    mine = ((λ p. absurd (true≢false (sym p))), λ _. (refl, refl, (λ s _. (refl, refl)), (λ s own e. absurd (true≢false (sym (ap is_some e)))), omega arith))

    only : (j : ℕ) (u : View) → get_elem? (v ∷ []) j ≡ some u → j ≡ 0
    only zero u e = refl
    only (suc j) u e = absurd (some-ne-none u (sym e))

pub puts : (n pass : ℕ) (v : View) (x : Item) → v.sends ≡ true → v.gets ≡ false → x.source ≡ v.from → has_last v.put ≡ false → Pushes IsKept n pass v x (λ w. w ≡ with_put x v)
puts n pass v x sends gets own going items views room h at = (with_put x v, (accepter, seat, put', taken, kept, all_set (Fits accepter seat put' taken) views pass (with_put x v) mine others), refl)
  where
    accepter : ℕ
    accepter = h.0

    seat : ℕ → Option ℕ
    seat = h.1

    put : ℕ → List Item
    put = h.2

    taken : List Item
    taken = h.3

    was : FitsSource seat put pass v
    was = (h.5 pass v at).0

    put' : ℕ → List Item
    put' = changed put v.from (v.put ++ x ∷ [])

    grown : (s : ℕ) → s ≡ v.from → put' s ≡ put s ++ x ∷ []
    grown s e = changed_here put v.from (v.put ++ x ∷ []) s e ∙ ap (λ l. l ++ x ∷ []) ((was sends).1 ∙ ap put (sym e))

    stays : (s : ℕ) → s ≢ v.from → put' s ≡ put s
    stays s n = changed_else put v.from (v.put ++ x ∷ []) s n

    kept : (s : ℕ) → (of_source s (taken ++ (items ++ x ∷ [])) ≡ put' s) × EndsAtItsLast (put' s)
    kept s = let longer = ap (of_source s) (sym (append_assoc taken items (x ∷ []))) in ⊎_elim
        (λ (e : s ≡ v.from). (
          longer ∙ own_added s (taken ++ items) x (own ∙ sym e) ∙ ap (λ l. l ++ x ∷ []) (h.4 s).0 ∙ sym (grown s e),
          subst EndsAtItsLast (sym (grown s e)) (one_behind (put s) x (h.4 s).1 (subst (λ (l : List Item). has_last l ≡ false) ((was sends).1 ∙ ap put (sym e)) going)),
        ))
        (λ (n : s ≢ v.from). (
          longer ∙ other_added s (taken ++ items) x (λ e. n (sym e ∙ own)) ∙ (h.4 s).0 ∙ sym (stays s n),
          subst EndsAtItsLast (sym (stays s n)) (h.4 s).1,
        ))
        (same s v.from)

    mine : Fits accepter seat put' taken pass (with_put x v)
    mine = ((λ _. ((was sends).0, sym (changed_here put v.from (v.put ++ x ∷ []) v.from refl))), λ p. absurd (true≢false (sym p ∙ gets)))

    others : (j : ℕ) (u : View) → j ≢ pass → get_elem? views j ≡ some u → Fits accepter seat put' taken j u
    others j u n e = let f = h.5 j u e in (
      (λ p. let g = f.0 p in (g.0, g.1 ∙ sym (stays u.from (differ seat u.from v.from j pass g.0 (was sends).0 n)))),
      (λ p. let g = f.1 p in (
        g.0,
        g.1,
        (λ s le. let k = g.2 s le in (k.0, stays s (apart seat s v.from pass k.0 (was sends).0) ∙ k.1)),
        (λ s l is. let k = g.3 s l is in (k.0, k.1 ∙ sym (stays s (apart seat s v.from pass k.0 (was sends).0)))),
        g.4,
      )),
    )

pub takes : (pass : ℕ) (v : View) → v.gets ≡ true → v.sends ≡ false → Pops IsKept pass v (IsTakenFrom v)
takes pass v gets sends x items views h at = (
  with_got x v,
  (accepter, seat, put, taken ++ x ∷ [], kept, all_set (Fits accepter seat put (taken ++ x ∷ [])) views pass (with_got x v) mine others),
  (refl, below, subst (λ (l : List Item). has_last (of_source x.source l) ≡ false) (sym was.1) (open_before (of_source x.source taken) x (of_source x.source items) parted)),
)
  where
    accepter : ℕ
    accepter = h.0

    seat : ℕ → Option ℕ
    seat = h.1

    put : ℕ → List Item
    put = h.2

    taken : List Item
    taken = h.3

    was : (pass ≡ accepter) × (v.got ≡ taken) × ((s : ℕ) → v.made ≤ s → (seat s ≡ none) × (put s ≡ [])) × ((s : ℕ) (own : List Item) → slice_get v.known s ≡ Some own → (seat s ≡ none) × (own ≡ put s)) × (length v.known ≤ v.made)
    was = (h.5 pass v at).1 gets

    kept : (s : ℕ) → (of_source s ((taken ++ x ∷ []) ++ items) ≡ put s) × EndsAtItsLast (put s)
    kept s = (ap (of_source s) (append_assoc taken (x ∷ []) items) ∙ (h.4 s).0, (h.4 s).1)

    -- what was taken of its source, then the item, and then what the queue holds of it
    parts : of_source x.source (taken ++ x ∷ items) ≡ of_source x.source taken ++ x ∷ of_source x.source items
    parts = of_both x.source taken (x ∷ items) ∙ ap (λ l. of_source x.source taken ++ l) (own_item x.source x items refl)

    parted : EndsAtItsLast (of_source x.source taken ++ x ∷ of_source x.source items)
    parted = subst EndsAtItsLast (sym (h.4 x.source).0 ∙ parts) (h.4 x.source).1

    beyond : v.made ≤ x.source → length (x ∷ of_source x.source items) ≡ 0
    beyond le = ap length (no_rest (of_source x.source taken) (x ∷ of_source x.source items) (sym parts ∙ (h.4 x.source).0 ∙ (was.2 x.source le).1))

    below : x.source < v.made
    below = lt_of_not-le (λ le. let l = beyond le in omega arith)

    mine : Fits accepter seat put (taken ++ x ∷ []) pass (with_got x v)
    mine = ((λ p. absurd (true≢false (sym p ∙ sends))), λ _. (was.0, ap (λ l. l ++ x ∷ []) was.1, was.2, was.3, was.4))

    others : (j : ℕ) (u : View) → j ≢ pass → get_elem? views j ≡ some u → Fits accepter seat put (taken ++ x ∷ []) j u
    others j u n e = ((h.5 j u e).0, λ p. absurd (n (((h.5 j u e).1 p).0 ∙ sym was.0)))

pub forks : (pass : ℕ) (v : View) → v.gets ≡ true → v.sends ≡ false → Forks IsKept pass v (one_more v) (next_source v)
forks pass v gets sends items views h at = (accepter, seat', put, taken, h.4, all)
  where
    accepter : ℕ
    accepter = h.0

    seat : ℕ → Option ℕ
    seat = h.1

    put : ℕ → List Item
    put = h.2

    taken : List Item
    taken = h.3

    was : (pass ≡ accepter) × (v.got ≡ taken) × ((s : ℕ) → v.made ≤ s → (seat s ≡ none) × (put s ≡ [])) × ((s : ℕ) (own : List Item) → slice_get v.known s ≡ Some own → (seat s ≡ none) × (own ≡ put s)) × (length v.known ≤ v.made)
    was = (h.5 pass v at).1 gets

    vs : List View
    vs = set views pass (one_more v)

    new : (seat v.made ≡ none) × (put v.made ≡ [])
    new = was.2 v.made (omega arith)

    seat' : ℕ → Option ℕ
    seat' = changed seat v.made (some (length vs))

    mine : Fits accepter seat' put taken pass (one_more v)
    mine = (
      (λ p. absurd (true≢false (sym p ∙ sends))),
      λ _. (
        was.0,
        was.1,
        (λ s le. let k = was.2 s (omega arith) in (changed_else seat v.made (some (length vs)) s (λ e. omega arith) ∙ k.0, k.1)),
        (λ s own is. let k = was.3 s own is in let b = got_within v.known s own is in let m = was.4 in (changed_else seat v.made (some (length vs)) s (λ e. omega arith) ∙ k.0, k.1)),
        (let m = was.4 in omega arith),
      ),
    )

    others : (j : ℕ) (u : View) → j ≢ pass → get_elem? views j ≡ some u → Fits accepter seat' put taken j u
    others j u n e = let f = h.5 j u e in (
      (λ p. let g = f.0 p in (changed_else seat v.made (some (length vs)) u.from (λ is. apart seat v.made u.from j new.0 g.0 (sym is)) ∙ g.0, g.1)),
      λ p. absurd (n ((f.1 p).0 ∙ sym was.0)),
    )

    last : Fits accepter seat' put taken (length vs) (next_source v)
    last = ((λ _. (changed_here seat v.made (some (length vs)) v.made refl, sym new.1)), λ p. absurd (true≢false (sym p)))

    all : All (Fits accepter seat' put taken) (vs ++ next_source v ∷ [])
    all j u e = ⊎_elim (λ x. all_set (Fits accepter seat' put taken) views pass (one_more v) mine others j u x)
        (λ (x : (j ≡ length vs) × (next_source v ≡ u)). subst (λ (y : ℕ × View). Fits accepter seat' put taken y.0 y.1) (λ i. (sym x.0 i, x.1 i)) last) (at_end vs (next_source v) u j e)

pub merges : (pass : ℕ) (v : View) (other : ℕ) (u : View) → v.gets ≡ true → v.sends ≡ false → u.sends ≡ true → u.from ≡ length v.known → Merges IsKept pass v other u (with_known u.put v) spent_view
merges pass v other u gets sends puts next items views h at two at' = (accepter, seat', put, taken, h.4, all_set (Fits accepter seat' put taken) vs other spent_view spent (λ j y n e. now j y e n))
  where
    accepter : ℕ
    accepter = h.0

    seat : ℕ → Option ℕ
    seat = h.1

    put : ℕ → List Item
    put = h.2

    taken : List Item
    taken = h.3

    both : View
    both = with_known u.put v

    vs : List View
    vs = set views pass both

    was : (pass ≡ accepter) × (v.got ≡ taken) × ((s : ℕ) → v.made ≤ s → (seat s ≡ none) × (put s ≡ [])) × ((s : ℕ) (own : List Item) → slice_get v.known s ≡ Some own → (seat s ≡ none) × (own ≡ put s)) × (length v.known ≤ v.made)
    was = (h.5 pass v at).1 gets

    theirs : (seat u.from ≡ some other) × (u.put ≡ put u.from)
    theirs = (h.5 other u (⊎_elim (λ x. absurd (two x.0)) (λ x. x.1) (at_set views pass other both u at'))).0 puts

    seat' : ℕ → Option ℕ
    seat' = changed seat u.from none

    gone : (s : ℕ) → seat s ≡ none → seat' s ≡ none
    gone s bare = ⊎_elim (λ (e : s ≡ u.from). changed_here seat u.from none s e) (λ (n : s ≢ u.from). changed_else seat u.from none s n ∙ bare) (same s u.from)

    below : length v.known < v.made
    below = lt_of_not-le (λ le. some-ne-none other (sym theirs.0 ∙ (was.2 u.from (omega arith)).0))

    knows : (s : ℕ) (own : List Item) → slice_get (v.known ++ u.put ∷ []) s ≡ Some own → (seat' s ≡ none) × (own ≡ put s)
    knows s own is = ⊎_elim (λ (e : slice_get v.known s ≡ Some own). let k = was.3 s own e in (gone s k.0, k.1))
        (λ (x : (s ≡ length v.known) × (Some u.put ≡ Some own)). (
          changed_here seat u.from none s (x.0 ∙ sym next),
          ap (λ o. unwrap_or o []) (sym x.1) ∙ theirs.1 ∙ ap put (next ∙ sym x.0),
        )) (got_added v.known s u.put own is)

    mine : Fits accepter seat' put taken pass both
    mine = (
      (λ p. absurd (true≢false (sym p ∙ sends))),
      λ _. (
        was.0,
        was.1,
        (λ s le. let k = was.2 s le in (gone s k.0, k.1)),
        knows,
        (let b = below in omega (arith, length-append v.known (u.put ∷ []))),
      ),
    )

    spent : Fits accepter seat' put taken other spent_view
    spent = ((λ p. absurd (true≢false (sym p))), λ p. absurd (true≢false (sym p)))

    Now : ℕ → View → Type 0
    Now j y = j ≢ other → Fits accepter seat' put taken j y

    now : All Now vs
    now = all_set Now views pass both (λ _. mine) (λ j y n e apart_from. let f = h.5 j y e in (
      (λ p. let g = f.0 p in (changed_else seat u.from none y.from (differ seat y.from u.from j other g.0 theirs.0 apart_from) ∙ g.0, g.1)),
      λ p. absurd (n ((f.1 p).0 ∙ sym was.0)),
    ))

pub learns : (pass : ℕ) (v : View) → v.gets ≡ true → Learns IsKept pass v (IsOnItsWay v)
learns pass v gets items views h at source own is =
    let was = (h.5 pass v at).1 gets in let k = was.3 source own is in let put = h.4 source in
    (ap (λ l. of_source source (l ++ items)) was.1 ∙ put.0 ∙ sym k.1, subst EndsAtItsLast (sym k.1) put.1)
