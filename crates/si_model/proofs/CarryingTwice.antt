-- Carrying over two horizons is carrying over the greater one.
use Rattle.std.proofs.Common.{◌≡◌, inl, inr, ℕ, ◌<◌, ◌≤◌, Bool, true, false, List, [], ◌∷◌, ◌++◌, map, Option, Some, None, refl, sym, ap, subst, ◌∙◌, rules, arith, cond}
use Rattle.std.specs.List.{Contains, filter, filter_map, flat_map, cons_option}
use Rattle.std.specs.List.Sorted.{IsStrictlySortedBy}
use Rattle.std.specs.Option.{option_map}
use Rattle.std.specs.declared.cmp.Ordering.{Ordering}
use Rattle.std.specs.declared.cmp.Ordering.TheVariants.{Less}
use Rattle.std.specs.Ordering.{nat_cmp, on}
use Rattle.std.specs.Cmp.{IsTotalOrder}
use Rattle.std.specs.Cmp.Rules.{comparing}
use Rattle.std.specs.Cmp.Lexicographic.{slice_cmp}
use Rattle.std.proofs.lemmas.Bool.{cases_lt}
use Rattle.si_model.specs.declared.numbers.Stamp.{Stamp}
use Rattle.si_model.specs.declared.numbers.Value.{Value}
use Rattle.si_model.specs.declared.transactions.Status.TheVariants as status
use Rattle.si_model.specs.declared.transactions.Txn.{Txn}
use Rattle.si_model.specs.Operations.{is_write}
use Rattle.si_model.specs.Parts.{Present}
use Rattle.si_model.specs.Findings.{keys_in}
use Rattle.si_model.specs.History.{IsHistory}
use Rattle.si_model.specs.Horizons.{IsGone, IsSpanning, IsRest, WritesKey, IsInitialOver, writes_alone, rest, commits_below, value_after, keys_after, initial_after, carried}
use Rattle.si_model.specs.HorizonLaws.{CarryingTwice}
use Rattle.si_lists.proofs.Members.{Contains-from_filter_map, at_each, from_each}
use Rattle.si_lists.proofs.Tests.{no_value, mapped_some}
use Rattle.si_model.proofs.InOrder.{below_rest, rest_sorted, sorted-cons, sorted-nil, sorted-in_order, same_sorted}
use Rattle.si_model.proofs.Rests.{rest_exact, some_rest, spans, Carries, carries_rest, last_write_to, last_write_from}
use Rattle.si_model.proofs.Carrying.{keys_total, some_below, carried_exact, carried_history, Came, came, kept_over, past_over, once_in}

-- ---- transactions

filter_twice : {X : Type 0} (p : X → Bool) (xs : List X) → filter p (filter p xs) ≡ filter p xs
filter_twice p [] = refl
filter_twice p (x ∷ xs) = by (p x) refl (filter_twice p xs)
  where
    by : (b : Bool) → p x ≡ b → filter p (filter p xs) ≡ filter p xs → filter p (cond b (x ∷ filter p xs) (filter p xs)) ≡ cond b (x ∷ filter p xs) (filter p xs)
    by true e same = ap (λ b. cond b (x ∷ filter p (filter p xs)) (filter p (filter p xs))) e ∙ ap (λ ys. x ∷ ys) same
    by false e same = same

-- two walks are one that gives what both give
walks_twice : {X Y Z : Type 0} (f : X → Option Y) (g : Y → Option Z) (h : X → Option Z) → ((x : X) → f x ≡ None → h x ≡ None) → ((x : X) (y : Y) → f x ≡ Some y → g y ≡ h x)
    → (xs : List X) → filter_map g (filter_map f xs) ≡ filter_map h xs
walks_twice f g h none some [] = refl
walks_twice {Y = Y} f g h none some (x ∷ xs) = by (f x) refl (walks_twice f g h none some xs)
  where
    by : (o : Option Y) → f x ≡ o → filter_map g (filter_map f xs) ≡ filter_map h xs → filter_map g (cons_option o (filter_map f xs)) ≡ cons_option (h x) (filter_map h xs)
    by None e same = same ∙ ap (λ o. cons_option o (filter_map h xs)) (sym (none x e))
    by (Some y) e same = ap (cons_option (g y)) same ∙ ap (λ o. cons_option o (filter_map h xs)) (some x y e)

module _ (H K : Stamp) (le : H.0 ≤ K.0) where
  pub gone_still : (T : Txn) → IsGone H T → IsGone K T
  gone_still T (inl g) = inl (g.0, g.1, (let less = g.2 in omega arith))
  gone_still T (inr g) = inr (g.0, (let less = g.1 in omega arith))

  none_still : (T : Txn) → rest H T ≡ None → rest K T ≡ None
  none_still T e = no_value (rest K T) (λ U f.
      let stays = ((rest_exact K T U).0 f).0 in
      let some = some_rest H T (λ g. stays (gone_still T g)) in
      let wrong = sym e ∙ some.1 in cc)

  gone_to : (T U : Txn) → Carries T U → IsGone K T → IsGone K U
  gone_to T U c (inl g) = inl (g.0, c.status ∙ g.1, g.2)
  gone_to T U c (inr g) = inr (c.status ∙ g.0, subst (λ s. s.0 < K.0) (sym c.start) g.1)

  gone_back : (T U : Txn) → Carries T U → IsGone K U → IsGone K T
  gone_back T U c (inl g) = inl (g.0, sym c.status ∙ g.1, g.2)
  gone_back T U c (inr g) = inr (sym c.status ∙ g.0, subst (λ s. s.0 < K.0) c.start g.1)

  spans_to : (T U : Txn) → Carries T U → IsSpanning K T → IsSpanning K U
  spans_to T U c n = (n.0, c.status ∙ n.1, subst (λ s. s.0 < K.0) (sym c.start) n.2, n.3)

  spans_back : (T U : Txn) → Carries T U → IsSpanning K U → IsSpanning K T
  spans_back T U c n = (n.0, sym c.status ∙ n.1, subst (λ s. s.0 < K.0) c.start n.2, n.3)

  -- what spans the one horizon and isn't gone at the other spans that one too
  spans_still : (T : Txn) → (IsGone K T → ⊥) → IsSpanning H T → IsSpanning K T
  spans_still T stays n = elim (cases_lt n.0.0 K.0) [
    | inl less ↦ absurd (stays (inl (n.0, n.1, less)))
    | inr past ↦ (n.0, n.1, (let less = n.2 in omega arith), past)
  ]

  alone_again : (T U : Txn) → IsRest H T U → writes_alone T ≡ writes_alone U
  alone_again T U is = elim (spans H T) [
    | inl n ↦ (let same = is.writes n in (λ i. record T { ops = sym (filter_twice is_write T.ops) i }) ∙ ap writes_alone (sym same))
    | inr n ↦ ap writes_alone (sym (is.whole n))
  ]

  rest_again : (T U V : Txn) → rest H T ≡ Some U → rest K T ≡ Some V → IsRest K U V
  rest_again T U V e f =
      let c = carries_rest H T U e in
      let here = (rest_exact H T U).0 e in
      let there = (rest_exact K T V).0 f in
      record {
        writes = λ n. there.1.writes (spans_back T U c n) ∙ alone_again T U here.1;
        whole = λ n. there.1.whole (λ m. n (spans_to T U c m)) ∙ sym (here.1.whole (λ m. n (spans_to T U c (spans_still T there.0 m))));
      }

  some_again : (T U : Txn) → rest H T ≡ Some U → rest K U ≡ rest K T
  some_again T U e = by (rest K T) refl
    where
      by : (o : Option Txn) → rest K T ≡ o → rest K U ≡ o
      by None f = no_value (rest K U) (λ V g.
          let c = carries_rest H T U e in
          let some = some_rest K T (λ k. ((rest_exact K U V).0 g).0 (gone_to T U c k)) in
          let wrong = sym f ∙ some.1 in cc)
      by (Some V) f =
          let c = carries_rest H T U e in
          (rest_exact K U V).1 (λ k. ((rest_exact K T V).0 f).0 (gone_back T U c k), rest_again T U V e f)

  same_txns : (P : Present) → (carried K (carried H P)).txns ≡ (carried K P).txns
  unfolding carried
  same_txns P = walks_twice (rest H) (rest K) (rest K) none_still some_again P.txns

-- ---- set-ups

module _ (P : Present) (H K : Stamp) (h : IsHistory P) (le : H.0 ≤ K.0) where
  abbrev Q : Present
  Q = carried H P

  -- what committed at the first horizon or later is carried over
  kept : (T : Txn) (c : Stamp) → Contains P.txns T → T.status ≡ status.Committed c → H.0 ≤ c.0 → (U : Txn) × Contains Q.txns U × Carries T U
  kept T c at s past = let k = kept_over P H T c at s past in (k.0, k.1, carries_rest H T k.0 k.2)

  writes_to : (T U : Txn) (x : List ℕ) → Carries T U → WritesKey T x → WritesKey U x
  writes_to T U x c w = let f = c.to w.0 x w.1 w.2 in (f.0, w.1, f.1)

  writes_back : (T U : Txn) (x : List ℕ) → Carries T U → WritesKey U x → WritesKey T x
  writes_back T U x c w = let f = c.from w.0 x w.1 w.2 in (f.0, w.1, f.1)

  -- what is carried over committed at the first horizon or later
  past : (U : Txn) (t : Came P H U) (c : Stamp) → U.status ≡ status.Committed c → H.0 ≤ c.0
  past U t c s = past_over P H U t c s

  g : IsHistory Q
  g = carried_history P H h

  over_to : (x : List ℕ) (v : Value) → IsInitialOver Q K x v → IsInitialOver P K x v
  over_to x v (inl (U, b, f)) =
      let t = came P H U b.present in
      let more = past U t b.commit b.committed in
      inl (
        t.txn,
        record {
          present = t.at;
          commit = b.commit;
          committed = sym t.carries.status ∙ b.committed;
          below = b.below;
          writes = writes_back t.txn U x t.carries b.writes;
          last = λ V d at s less w. elim (cases_lt d.0 H.0) [
            | inl under ↦ omega arith
            | inr over ↦ (let k = kept V d at s over in b.last k.0 d k.1 (k.2.status ∙ s) less (writes_to V k.0 x k.2 w))
          ];
        },
        last_write_from t.txn U t.carries (once_in P h t.txn t.at) x v f,
      )
  over_to x v (inr (none, c)) = elim (((carried_exact P H h).initial x v).0 c) [
    | inl b ↦
        (let below = b.1 in
        inl (
          b.0,
          record {
            present = below.present;
            commit = below.commit;
            committed = below.committed;
            below = (let less = below.below in omega arith);
            writes = below.writes;
            last = λ V d at s less w. elim (cases_lt d.0 H.0) [
              | inl under ↦ below.last V d at s under w
              | inr over ↦ (let k = kept V d at s over in
                  let last = some_below Q K g x k.0 d k.1 (k.2.status ∙ s) less (writes_to V k.0 x k.2 w) in absurd (none last.0 last.1))
            ];
          },
          b.2,
        ))
    | inr n ↦ inr (
      λ T b. elim (cases_lt b.commit.0 H.0) [
        | inl under ↦ (let last = some_below P H h x T b.commit b.present b.committed under b.writes in n.0 last.0 last.1)
        | inr over ↦ (let k = kept T b.commit b.present b.committed over in
            let last = some_below Q K g x k.0 b.commit k.1 (k.2.status ∙ b.committed) b.below (writes_to T k.0 x k.2 b.writes) in none last.0 last.1)
      ],
      n.1,
    )
  ]

  over_back : (x : List ℕ) (v : Value) → IsInitialOver P K x v → IsInitialOver Q K x v
  over_back x v (inl (T, b, f)) = elim (cases_lt b.commit.0 H.0) [
    | inl under ↦ inr (
      λ U a.
          let t = came P H U a.present in
          let more = past U t a.commit a.committed in
          let most = b.last t.txn a.commit t.at (sym t.carries.status ∙ a.committed) a.below (writes_back t.txn U x t.carries a.writes) in
          omega arith,
      ((carried_exact P H h).initial x v).1 (inl (
        T,
        record {
          present = b.present;
          commit = b.commit;
          committed = b.committed;
          below = under;
          writes = b.writes;
          last = λ V d at s less w. b.last V d at s (omega arith) w;
        },
        f,
      )),
    )
    | inr over ↦
        (let k = kept T b.commit b.present b.committed over in
        inl (
          k.0,
          record {
            present = k.1;
            commit = b.commit;
            committed = k.2.status ∙ b.committed;
            below = b.below;
            writes = writes_to T k.0 x k.2 b.writes;
            last = λ W d at s less w. let t = came P H W at in b.last t.txn d t.at (sym t.carries.status ∙ s) less (writes_back t.txn W x t.carries w);
          },
          last_write_to T k.0 k.2 (once_in P h T b.present) x v f,
        ))
  ]
  over_back x v (inr (none, c)) = inr (
    λ U a.
        let t = came P H U a.present in
        let last = some_below P K h x t.txn a.commit t.at (sym t.carries.status ∙ a.committed) a.below (writes_back t.txn U x t.carries a.writes) in
        none last.0 last.1,
    ((carried_exact P H h).initial x v).1 (inr (
      λ T b. let last = some_below P K h x T b.commit b.present b.committed (let less = b.below in omega arith) b.writes in none last.0 last.1,
      c,
    )),
  )

-- what is set up is in the order of the keys
abbrev pair_cmp : List ℕ × Value → List ℕ × Value → Ordering
pair_cmp = on (λ p. p.0) (slice_cmp nat_cmp)

pairs_total : IsTotalOrder pair_cmp
pairs_total = search (comparing, rules)

pairs_sorted : (f : List ℕ → Option Value) (xs : List (List ℕ)) → IsStrictlySortedBy (slice_cmp nat_cmp) xs → IsStrictlySortedBy pair_cmp (filter_map (λ x. option_map (λ v. (x, v)) (f x)) xs)
pairs_sorted f [] s = sorted-nil pair_cmp
pairs_sorted f (x ∷ xs) s = by (f x) (pairs_sorted f xs (rest_sorted (slice_cmp nat_cmp) x xs s))
  where
    by : (o : Option Value) → IsStrictlySortedBy pair_cmp (filter_map (λ y. option_map (λ v. (y, v)) (f y)) xs)
        → IsStrictlySortedBy pair_cmp (cons_option (option_map (λ v. (x, v)) o) (filter_map (λ y. option_map (λ v. (y, v)) (f y)) xs))
    by None r = r
    by (Some v) r = sorted-cons pair_cmp (x, v) (filter_map (λ y. option_map (λ w. (y, w)) (f y)) xs)
        (from_each (λ p. pair_cmp (x, v) p ≡ Less) (filter_map (λ y. option_map (λ w. (y, w)) (f y)) xs) (λ p c.
        let m = Contains-from_filter_map (λ y. option_map (λ w. (y, w)) (f y)) xs p c in
        let k = mapped_some (λ w. (m.0, w)) (f m.0) p m.2 in
        let less = at_each (λ z. slice_cmp nat_cmp x z ≡ Less) xs m.0 (below_rest (slice_cmp nat_cmp) x xs s) m.1 in
        subst (λ y. slice_cmp nat_cmp x y ≡ Less) (ap (λ q. q.0) k.2) less))
        r

pub initial_sorted : (old : List Txn) (initial : List (List ℕ × Value)) → IsStrictlySortedBy pair_cmp (initial_after old initial)
unfolding initial_after
initial_sorted old initial = pairs_sorted (value_after old initial) (keys_after old initial) (sorted-in_order keys_total (flat_map keys_in old ++ map (λ p. p.0) initial))

carried_sorted : (H : Stamp) (P : Present) → IsStrictlySortedBy pair_cmp (carried H P).initial
unfolding carried
carried_sorted H P = initial_sorted (filter (commits_below H) P.txns) P.initial

same_initial : (P : Present) (H K : Stamp) → IsHistory P → H.0 ≤ K.0 → (carried K (carried H P)).initial ≡ (carried K P).initial
same_initial P H K h le =
    let Q = carried H P in
    let g = carried_history P H h in
    same_sorted pairs_total (carried K Q).initial (carried K P).initial (carried_sorted K Q) (carried_sorted K P)
    (λ p c. ((carried_exact P K h).initial p.0 p.1).1 (over_to P H K h le p.0 p.1 (((carried_exact Q K g).initial p.0 p.1).0 c)))
    (λ p c. ((carried_exact Q K g).initial p.0 p.1).1 (over_back P H K h le p.0 p.1 (((carried_exact P K h).initial p.0 p.1).0 c)))

pub twice : CarryingTwice
twice P H K h le = λ i. record { txns = same_txns H K le P i; initial = same_initial P H K h le i }
