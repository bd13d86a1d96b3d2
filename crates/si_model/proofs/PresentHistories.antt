-- An edit of a history is acceptable exactly where it asks rightly and leaves a history, so what is present after an accepted
-- journal is one.
use Rattle.std.proofs.Common.{◌≡◌, ◌≢◌, ◌⊎◌, inl, inr, ◌↔◌, ℕ, ◌<◌, ◌≤◌, Bool, true, false, List, [], ◌∷◌, ◌++◌, map, Option, Some, None, refl, sym, ap, subst, ◌∙◌, arith, cond, slice_get, append_assoc, append-nil}
use Rattle.std.specs.List.{Contains, AllPairs, filter}
use Rattle.std.specs.Option.{is_some}
use Rattle.std.proofs.lemmas.List.Kept.{AllPairs-filter}
use Rattle.si_model.specs.declared.numbers.TxnId.{TxnId}
use Rattle.si_model.specs.declared.numbers.Stamp.{Stamp}
use Rattle.si_model.specs.declared.numbers.Value.{Value}
use Rattle.si_model.specs.declared.operations.Op.TheVariants as op
use Rattle.si_model.specs.declared.transactions.Status.{Status}
use Rattle.si_model.specs.declared.transactions.Status.TheVariants as status
use Rattle.si_model.specs.declared.transactions.Outcome.{Outcome}
use Rattle.si_model.specs.declared.transactions.Txn.{Txn}
use Rattle.si_model.specs.declared.edits.Edit.{Edit}
use Rattle.si_model.specs.declared.edits.Edit.TheVariants as edit
use Rattle.si_model.specs.declared.refusals.Refusal.{Refusal}
use Rattle.si_model.specs.declared.refusals.Refusal.TheVariants as refusal
use Rattle.si_model.specs.Parts.{Present, writes_some, set_up_value}
use Rattle.si_model.specs.Versions.{commit_of}
use Rattle.si_model.specs.History.{WritesPairAt, WritesSome, IsHistory}
use Rattle.si_model.specs.Edits.{same_id, with_id, writer_of_pair, arrival_refusal, is_in_doubt, status_after, resolution_refusal_of, resolution_refusal, withdrawal_refusal, set_up_refusal, refusal_on, IsAcceptable, resolved, is_another, after, AsksRightly}
use Rattle.si_model.specs.Journals.{nothing, present, IsAccepted}
use Rattle.si_model.specs.Laws.{IsStrictHistory, IsStrictJournal}
use Rattle.si_lists.proofs.Members.{Contains-nil, Contains-map, Contains-from_map, Contains-from_filter}
use Rattle.si_lists.proofs.Names.{Differ, pairs_nil, pairs_push, pairs_last, names_map, same_named}
use Rattle.si_lists.proofs.Pushes.{push_cases, push_last, push_keeps}
use Rattle.si_lists.proofs.Tests.{find-Some, find-None, no_value, none_both, none_from, none_mapped, mapped_none}
use Rattle.si_model.proofs.Equalities.{same_id_is, same_id_from}
use Rattle.si_model.proofs.Histories.{key_in_pair, set_up_is, set_up_from, not_set_up, id_found}
use Rattle.si_model.proofs.Acceptance.{present_push, accepted_push}
use Rattle.si_model.proofs.Reasons.{some_written, IsForward, in_order, start_free, Clashes, commit_free, Once, once_is, unwritten, Untaken, untaken_is, Unset, unset_is}

-- an option that has to be none
absent : {X : Type 0} (o : Option X) (r : Refusal) → (cond (is_some o) (Some r) None ≡ None) ↔ (o ≡ None)
absent None r = (λ e. refl, λ e. refl)
absent (Some x) r = (λ e. cc, λ e. cc)

-- one that has to be there
there : {X : Type 0} (o : Option X) (r : Refusal) → (cond (is_some o) None (Some r) ≡ None) ↔ ((x : X) × (o ≡ Some x))
there None r = (λ e. cc, λ f. (let none = f.1 in cc))
there (Some x) r = (λ e. (x, refl), λ f. refl)

-- nobody has the id
nobody_has : (txns : List Txn) (u : TxnId) → (with_id txns u ≡ None) ↔ ((T : Txn) → Contains txns T → T.id ≢ u)
nobody_has txns u = (
  λ e T c s. (let none = find-None (λ U. same_id U.id u) txns e T c in let some = same_id_from T.id u s in cc),
  λ none. no_value (with_id txns u) (λ T e. let f = find-Some (λ U. same_id U.id u) txns T e in none T f.0 (same_id_is T.id u f.1)),
)

-- ---- an arrival

-- nothing stands against the arrival
record IsClear (P : Present) (T : Txn) : Type 0 where
  absent : (U : Txn) → Contains P.txns U → U.id ≢ T.id
  order : (c : Stamp) → commit_of T.status ≡ Some c → IsForward (writes_some T) T.start c
  start : (U : Txn) → Contains P.txns U → WritesSome U → commit_of U.status ≢ Some T.start
  commit : (c : Stamp) → commit_of T.status ≡ Some c → (U : Txn) → Contains P.txns U → Clashes (writes_some T) c U → ⊥
  once : Once T.ops
  untaken : Untaken P.txns T.ops
  unset : Unset P.initial T.ops

cleared : (P : Present) (T : Txn) → arrival_refusal P T ≡ None → IsClear P T
cleared P T e =
    let a = none_both _ _ e in
    let b = none_both _ _ a.1 in
    let c = none_both _ _ b.1 in
    let d = none_both _ _ c.1 in
    let f = none_both _ _ d.1 in
    let g = none_both _ _ f.1 in
    let k = none_both _ _ g.1 in
    record {
      absent = (nobody_has P.txns T.id).0 ((absent (with_id P.txns T.id) refusal.IdPresent).0 a.0);
      order = (in_order (writes_some T) T.start (commit_of T.status)).0 b.0;
      start = (start_free P.txns T.start).0 c.0;
      commit = (commit_free P.txns (writes_some T) (commit_of T.status)).0 d.0;
      once = (once_is T.ops).0 f.0;
      untaken = (untaken_is P.txns T.ops).0 g.0;
      unset = (unset_is P.initial T.ops).0 k.0;
    }

not_refused : (P : Present) (T : Txn) → IsClear P T → arrival_refusal P T ≡ None
not_refused P T k =
    none_from _ _ ((absent (with_id P.txns T.id) refusal.IdPresent).1 ((nobody_has P.txns T.id).1 k.absent))
    (none_from _ _ ((in_order (writes_some T) T.start (commit_of T.status)).1 k.order)
    (none_from _ _ ((start_free P.txns T.start).1 k.start)
    (none_from _ _ ((commit_free P.txns (writes_some T) (commit_of T.status)).1 k.commit)
    (none_from _ _ ((once_is T.ops).1 k.once)
    (none_from _ _ ((untaken_is P.txns T.ops).1 k.untaken)
    (none_from _ _ ((unset_is P.initial T.ops).1 k.unset) refl))))))

abbrev with_txn : Present → Txn → Present
with_txn P T = record P { txns = P.txns ++ T ∷ [] }

-- what a history says of two transactions
Apart : Txn → Txn → Type 0
Apart A B = (c : Stamp) → commit_of A.status ≡ Some c → WritesSome A → (c ≢ B.start) × (commit_of B.status ≢ Some c)

OnceOf : Txn → Txn → Type 0
OnceOf A B = (i j : ℕ) (x : List ℕ) (v : Value) → WritesPairAt A i x v → WritesPairAt B j x v → (A.id ≡ B.id) × (i ≡ j)

module _ (P : Present) (T : Txn) (h : IsHistory P) (k : IsClear P T) where
  apart_before : (A : Txn) → Contains P.txns A → Apart A T
  unfolding Apart
  apart_before A a = λ c e w. (λ s. k.start A a w (e ∙ ap Some s), λ f. k.commit c f A a (inl (w, e)))

  apart_after : (B : Txn) → Contains P.txns B → Apart T B
  unfolding Apart
  apart_after B b = λ c e w. (λ s. k.commit c e B b (inr ((some_written T).1 w, inl s)), λ f. k.commit c e B b (inr ((some_written T).1 w, inr f)))

  once_before : (A : Txn) → Contains P.txns A → OnceOf A T
  unfolding OnceOf
  once_before A a = λ i j x v s t. absurd (k.untaken j x v t A i a s)

  once_after : (B : Txn) → Contains P.txns B → OnceOf T B
  unfolding OnceOf
  once_after B b = λ i j x v s t. absurd (k.untaken i x v s B j b t)

  once_itself : OnceOf T T
  unfolding OnceOf
  once_itself = λ i j x v s t. (refl, k.once i j x v s t)

  arrived : IsHistory (with_txn P T)
  unfolding Apart OnceOf
  arrived = record {
    forward = λ A c a e. elim (push_cases P.txns T A a) [
      | inl b ↦ h.forward A c b e
      | inr s ↦ subst (λ U. U.start.0 ≤ c.0) s (k.order c (subst (λ U. commit_of U.status ≡ Some c) (sym s) e)).0
    ];
    apart = λ A c a e w. elim (push_cases P.txns T A a) [
      | inl b ↦ h.apart A c b e w
      | inr s ↦ subst (λ U. U.start.0 < c.0) s ((k.order c (subst (λ U. commit_of U.status ≡ Some c) (sym s) e)).1 ((some_written T).1 (subst WritesSome (sym s) w)))
    ];
    names = pairs_push (Differ (λ U. U.id)) P.txns T h.names (λ U c. k.absent U c);
    stamps = λ A B c a b differ e w. elim (push_cases P.txns T A a) [
      | inl p ↦ elim (push_cases P.txns T B b) [
        | inl q ↦ h.stamps A B c p q differ e w
        | inr t ↦ subst (λ U. Apart A U) t (apart_before A p) c e w
      ]
      | inr s ↦ elim (push_cases P.txns T B b) [
        | inl q ↦ subst (λ U. Apart U B) s (apart_after B q) c e w
        | inr t ↦ absurd (differ (ap (λ U. U.id) (sym s ∙ t)))
      ]
    ];
    writes = λ A B i j x v a b y z. elim (push_cases P.txns T A a) [
      | inl p ↦ elim (push_cases P.txns T B b) [
        | inl q ↦ h.writes A B i j x v p q y z
        | inr t ↦ subst (λ U. OnceOf A U) t (once_before A p) i j x v y z
      ]
      | inr s ↦ elim (push_cases P.txns T B b) [
        | inl q ↦ subst (λ U. OnceOf U B) s (once_after B q) i j x v y z
        | inr t ↦ subst (λ U. OnceOf U B) s (subst (λ U. OnceOf T U) t once_itself) i j x v y z
      ]
    ];
    keys = h.keys;
    initial = λ x v A i c a y. elim (push_cases P.txns T A a) [
      | inl p ↦ h.initial x v A i c p y
      | inr s ↦ k.unset i x v (subst (λ U. WritesPairAt U i x v) (sym s) y) (set_up_from x P.initial v h.keys c)
    ];
  }

-- and the other way round
module _ (P : Present) (T : Txn) (h : IsHistory (with_txn P T)) where
  mine : Contains (P.txns ++ T ∷ []) T
  mine = push_last P.txns T

  old : (U : Txn) → Contains P.txns U → Contains (P.txns ++ T ∷ []) U
  old U c = push_keeps P.txns T U c

  other : (U : Txn) → Contains P.txns U → U.id ≢ T.id
  other U c = pairs_last (Differ (λ V. V.id)) P.txns T U h.names c

  clears : IsClear P T
  clears = record {
    absent = other;
    order = λ c e. (h.forward T c mine e, λ w. h.apart T c mine e ((some_written T).0 w));
    start = λ U c w e. (h.stamps U T T.start (old U c) mine (other U c) e w).0 refl;
    commit = λ c e U at k. elim k [
      | inl f ↦ (h.stamps U T c (old U at) mine (other U at) f.1 f.0).1 e
      | inr f ↦ (let apart = h.stamps T U c mine (old U at) (λ s. other U at (sym s)) e ((some_written T).0 f.0) in elim f.1 [ inl s ↦ apart.0 s | inr s ↦ apart.1 s ])
    ];
    once = λ i j x v a b. (h.writes T T i j x v mine mine a b).1;
    untaken = λ i x v a U j c b. other U c (sym (h.writes T U i j x v mine (old U c) a b).0);
    unset = λ i x v a s. h.initial x v T i (set_up_is x P.initial v s) mine a;
  }

-- ---- a resolution

abbrev with_map : Present → TxnId → Outcome → Present
with_map P u o = record P { txns = map (resolved u o) P.txns }

-- what a resolution keeps, and what it gives
record Keeps (u : TxnId) (o : Outcome) (A B : Txn) : Type 0 where
  id : B.id ≡ A.id
  start : B.start ≡ A.start
  ops : B.ops ≡ A.ops
  status : ((A.id ≡ u) × (B.status ≡ status_after o)) ⊎ ((A.id ≢ u) × (B.status ≡ A.status))

keeps : (u : TxnId) (o : Outcome) (A : Txn) → Keeps u o A (resolved u o A)
keeps u o A = by (same_id A.id u) refl
  where
    by : (b : Bool) → same_id A.id u ≡ b → Keeps u o A (cond b (record A { status = status_after o }) A)
    by true e = record { id = refl; start = refl; ops = refl; status = inl (same_id_is A.id u e, refl) }
    by false e = record { id = refl; start = refl; ops = refl; status = inr (λ s. (let t = same_id_from A.id u s in cc), refl) }

writes_same : (A B : Txn) → B.ops ≡ A.ops → WritesSome B → WritesSome A
writes_same A B e w = (w.0, w.1, w.2, ap (λ ops. slice_get ops w.0) (sym e) ∙ w.3)

writes_at_same : (A B : Txn) (i : ℕ) (x : List ℕ) (v : Value) → B.ops ≡ A.ops → WritesPairAt B i x v → WritesPairAt A i x v
writes_at_same A B i x v e w = ap (λ ops. slice_get ops i) (sym e) ∙ w

-- nothing stands against the resolution of T
record IsResolvable (P : Present) (o : Outcome) (T : Txn) : Type 0 where
  doubt : is_in_doubt T.status ≡ true
  order : (c : Stamp) → commit_of (status_after o) ≡ Some c → IsForward (writes_some T) T.start c
  commit : (c : Stamp) → commit_of (status_after o) ≡ Some c → (U : Txn) → Contains P.txns U → Clashes (writes_some T) c U → ⊥

doubtful : (b : Bool) (r : Refusal) → (cond b None (Some r) ≡ None) ↔ (b ≡ true)
doubtful true r = (λ e. refl, λ e. refl)
doubtful false r = (λ e. cc, λ e. cc)

resolvable : (P : Present) (o : Outcome) (T : Txn) → resolution_refusal_of P.txns o T ≡ None → IsResolvable P o T
resolvable P o T e =
    let a = none_both _ _ e in
    let b = none_both _ _ a.1 in
    let c = none_both _ _ b.1 in
    record {
      doubt = (doubtful (is_in_doubt T.status) refusal.NotInDoubt).0 a.0;
      order = (in_order (writes_some T) T.start (commit_of (status_after o))).0 b.0;
      commit = (commit_free P.txns (writes_some T) (commit_of (status_after o))).0 c.0;
    }

may_resolve : (P : Present) (o : Outcome) (T : Txn) → IsResolvable P o T → resolution_refusal_of P.txns o T ≡ None
may_resolve P o T k =
    none_from _ _ ((doubtful (is_in_doubt T.status) refusal.NotInDoubt).1 k.doubt)
    (none_from _ _ ((in_order (writes_some T) T.start (commit_of (status_after o))).1 k.order)
    (none_from _ _ ((commit_free P.txns (writes_some T) (commit_of (status_after o))).1 k.commit) refl))

-- a transaction after the resolution was one before it
record Was (P : Present) (u : TxnId) (o : Outcome) (B : Txn) : Type 0 where
  txn : Txn
  at : Contains P.txns txn
  keeps : Keeps u o txn B

was : (P : Present) (u : TxnId) (o : Outcome) (B : Txn) → Contains (map (resolved u o) P.txns) B → Was P u o B
was P u o B c = let f = Contains-from_map (resolved u o) P.txns B c in record { txn = f.0; at = f.1; keeps = subst (Keeps u o f.0) f.2 (keeps u o f.0) }

module _ (P : Present) (u : TxnId) (o : Outcome) (T : Txn) (h : IsHistory P) (at : Contains P.txns T) (named : T.id ≡ u) (k : IsResolvable P o T) where
  -- the one that is resolved
  it : (A : Txn) → Contains P.txns A → A.id ≡ u → A ≡ T
  it A a e = same_named (λ U. U.id) P.txns h.names A T a at (e ∙ sym named)

  -- a commit after the resolution is the outcome's, of T, or was there before
  commit_cases : (B : Txn) (w : Was P u o B) (c : Stamp) → commit_of B.status ≡ Some c → ((w.txn ≡ T) × (commit_of (status_after o) ≡ Some c)) ⊎ (commit_of w.txn.status ≡ Some c)
  commit_cases B w c e = elim w.keeps.status [
    | inl s ↦ inl (it w.txn w.at s.0, ap commit_of (sym s.1) ∙ e)
    | inr s ↦ inr (ap commit_of (sym s.1) ∙ e)
  ]

  -- T's new commit is no stamp of another, where T or the other writes
  clear_of : (c : Stamp) → commit_of (status_after o) ≡ Some c → (U : Txn) → Contains P.txns U → WritesSome T → (c ≢ U.start) × (commit_of U.status ≢ Some c)
  clear_of c e U a w = (λ s. k.commit c e U a (inr ((some_written T).1 w, inl s)), λ s. k.commit c e U a (inr ((some_written T).1 w, inr s)))

  stamps_after : (A B : Txn) (v : Was P u o A) (w : Was P u o B) (c : Stamp) → A.id ≢ B.id → commit_of A.status ≡ Some c → WritesSome A → (c ≢ B.start) × (commit_of B.status ≢ Some c)
  stamps_after A B v w c differ e writes =
      let apart : v.txn.id ≢ w.txn.id = (λ s. differ (v.keeps.id ∙ s ∙ sym w.keeps.id)) in
      let wrote = writes_same v.txn A v.keeps.ops writes in
      elim (commit_cases A v c e) [
        | inl r ↦ (let free = clear_of c r.1 w.txn w.at (subst WritesSome r.0 wrote) in
            (λ s. free.0 (s ∙ w.keeps.start), λ f. elim (commit_cases B w c f) [ inl q ↦ apart (ap (λ U. U.id) (r.0 ∙ sym q.0)) | inr g ↦ free.1 g ]))
        | inr d ↦ (let free = h.stamps v.txn w.txn c v.at w.at apart d wrote in
            (λ s. free.0 (s ∙ w.keeps.start), λ f. elim (commit_cases B w c f) [ inl q ↦ k.commit c q.1 v.txn v.at (inl (wrote, d)) | inr g ↦ free.1 g ]))
      ]

  resolved_history : IsHistory (with_map P u o)
  resolved_history = record {
    forward = λ A c a e. (let w = was P u o A a in subst (λ s. s.0 ≤ c.0) (sym w.keeps.start) (elim (commit_cases A w c e) [
      | inl r ↦ subst (λ U. U.start.0 ≤ c.0) (sym r.0) (k.order c r.1).0
      | inr f ↦ h.forward w.txn c w.at f
    ]));
    apart = λ A c a e s. (let w = was P u o A a in let wrote = writes_same w.txn A w.keeps.ops s in
        subst (λ t. t.0 < c.0) (sym w.keeps.start) (elim (commit_cases A w c e) [
          | inl r ↦ subst (λ U. U.start.0 < c.0) (sym r.0) ((k.order c r.1).1 ((some_written T).1 (subst WritesSome r.0 wrote)))
          | inr f ↦ h.apart w.txn c w.at f wrote
        ]));
    names = names_map (λ U. U.id) (λ U. U.id) (resolved u o) (λ U. (keeps u o U).id) P.txns h.names;
    stamps = λ A B c a b differ e s. stamps_after A B (was P u o A a) (was P u o B b) c differ e s;
    writes = λ A B i j x v a b y z. (let w = was P u o A a in let t = was P u o B b in
        let once = h.writes w.txn t.txn i j x v w.at t.at (writes_at_same w.txn A i x v w.keeps.ops y) (writes_at_same t.txn B j x v t.keeps.ops z) in
        (w.keeps.id ∙ once.0 ∙ sym t.keeps.id, once.1));
    keys = h.keys;
    initial = λ x v A i c a y. (let w = was P u o A a in h.initial x v w.txn i c w.at (writes_at_same w.txn A i x v w.keeps.ops y));
  }

-- and the other way round
module _ (P : Present) (u : TxnId) (o : Outcome) (T : Txn) (g : IsHistory P) (h : IsHistory (with_map P u o)) (at : Contains P.txns T) (named : T.id ≡ u) (doubt : T.status ≡ status.InDoubt) where
  done : Txn
  done = record T { status = status_after o }

  is_done : resolved u o T ≡ record T { status = status_after o }
  is_done = ap (λ b. cond b (record T { status = status_after o }) T) (same_id_from T.id u named)

  there_now : Contains (map (resolved u o) P.txns) (record T { status = status_after o })
  there_now = subst (Contains (map (resolved u o) P.txns)) is_done (Contains-map (resolved u o) P.txns T at)

  -- another transaction is as it was
  stays : (U : Txn) → Contains P.txns U → U.id ≢ u → Contains (map (resolved u o) P.txns) U
  stays U c d = subst (Contains (map (resolved u o) P.txns)) same (Contains-map (resolved u o) P.txns U c)
    where
      same : resolved u o U ≡ U
      same = by (same_id U.id u) refl
        where
          by : (b : Bool) → same_id U.id u ≡ b → cond b (record U { status = status_after o }) U ≡ U
          by true e = absurd (d (same_id_is U.id u e))
          by false e = refl

  no_clash : (c : Stamp) → commit_of (status_after o) ≡ Some c → (U : Txn) → Contains P.txns U → Clashes (writes_some T) c U → ⊥
  no_clash c e U a k = by (same_id U.id u) refl
    where
      itself : U ≡ T → ⊥
      itself s =
          let none : commit_of U.status ≡ None = ap (λ V. commit_of V.status) s ∙ ap commit_of doubt in
          elim k [
            | inl f ↦ (let some = f.1 in cc)
            | inr f ↦ elim f.1 [
              | inl t ↦ (let less = h.apart (record T { status = status_after o }) c there_now e ((some_written T).0 f.0) in let same = ap (λ d. d.0) (t ∙ ap (λ V. V.start) s) in omega (arith, less, same))
              | inr t ↦ cc
            ]
          ]

      another : U.id ≢ u → ⊥
      another d =
          let differ : U.id ≢ T.id = λ s. d (s ∙ named) in
          elim k [
            | inl f ↦ (h.stamps U (record T { status = status_after o }) c (stays U a d) there_now differ f.1 f.0).1 e
            | inr f ↦ (let apart = h.stamps (record T { status = status_after o }) U c there_now (stays U a d) (λ s. differ (sym s)) e ((some_written T).0 f.0) in elim f.1 [ inl t ↦ apart.0 t | inr t ↦ apart.1 t ])
          ]

      by : (b : Bool) → same_id U.id u ≡ b → ⊥
      by true e = itself (same_named (λ V. V.id) P.txns g.names U T a at (same_id_is U.id u e ∙ sym named))
      by false e = another (λ s. let t = same_id_from U.id u s in cc)

  resolves : IsResolvable P o T
  resolves = record {
    doubt = ap is_in_doubt doubt;
    order = λ c e. (h.forward (record T { status = status_after o }) c there_now e, λ w. h.apart (record T { status = status_after o }) c there_now e ((some_written T).0 w));
    commit = no_clash;
  }

in_doubt : (s : Status) → is_in_doubt s ≡ true → s ≡ status.InDoubt
in_doubt (status.Committed c) e = cc
in_doubt status.Aborted e = cc
in_doubt status.InDoubt e = refl

resolution_exact : (P : Present) (u : TxnId) (o : Outcome) → IsHistory P → (resolution_refusal P.txns o (with_id P.txns u) ≡ None) ↔ (((T : Txn) × Contains P.txns T × (T.id ≡ u) × (T.status ≡ status.InDoubt)) × IsHistory (with_map P u o))
resolution_exact P u o h = (λ e. accepts (with_id P.txns u) refl e, λ f. back f.0.0 f.0.1 f.0.2 f.0.3 f.1)
  where
    accepts : (found : Option Txn) → with_id P.txns u ≡ found → resolution_refusal P.txns o found ≡ None → ((T : Txn) × Contains P.txns T × (T.id ≡ u) × (T.status ≡ status.InDoubt)) × IsHistory (with_map P u o)
    accepts None s e = cc
    accepts (Some T) s e =
        let f = (id_found P u T h).0 s in
        let k = resolvable P o T e in
        ((T, f.0, f.1, in_doubt T.status k.doubt), resolved_history P u o T h f.0 f.1 k)

    back : (T : Txn) → Contains P.txns T → T.id ≡ u → T.status ≡ status.InDoubt → IsHistory (with_map P u o) → resolution_refusal P.txns o (with_id P.txns u) ≡ None
    back T at named doubt later = ap (resolution_refusal P.txns o) ((id_found P u T h).1 (at, named)) ∙ may_resolve P o T (resolves P u o T h later at named doubt)

-- ---- a withdrawal

withdrawn : (P : Present) (u : TxnId) → IsHistory P → IsHistory (record P { txns = filter (is_another u) P.txns })
withdrawn P u h =
    let in_all : (A : Txn) → Contains (filter (is_another u) P.txns) A → Contains P.txns A = λ A a. (Contains-from_filter (is_another u) P.txns A a).0 in
    record {
      forward = λ A c a e. h.forward A c (in_all A a) e;
      apart = λ A c a e w. h.apart A c (in_all A a) e w;
      names = AllPairs-filter (Differ (λ U. U.id)) (is_another u) P.txns h.names;
      stamps = λ A B c a b differ e w. h.stamps A B c (in_all A a) (in_all B b) differ e w;
      writes = λ A B i j x v a b y z. h.writes A B i j x v (in_all A a) (in_all B b) y z;
      keys = h.keys;
      initial = λ x v A i c a y. h.initial x v A i c (in_all A a) y;
    }

withdrawal_exact : (P : Present) (u : TxnId) → IsHistory P → (withdrawal_refusal P.txns u ≡ None) ↔ (((T : Txn) × Contains P.txns T × (T.id ≡ u)) × IsHistory (record P { txns = filter (is_another u) P.txns }))
withdrawal_exact P u h = (
  λ e. (let f = (there (with_id P.txns u) refusal.NoSuch).0 e in let g = (id_found P u f.0 h).0 f.1 in ((f.0, g.0, g.1), withdrawn P u h)),
  λ f. (there (with_id P.txns u) refusal.NoSuch).1 (f.0.0, (id_found P u f.0.0 h).1 (f.0.1, f.0.2)),
)

-- ---- a set-up

abbrev with_pair : Present → List ℕ → Value → Present
with_pair P x v = record P { initial = P.initial ++ (x, v) ∷ [] }

set_up_history : (P : Present) (x : List ℕ) (v : Value) → IsHistory P → set_up_value x P.initial ≡ None → writer_of_pair (op.Write x v) P.txns ≡ None → IsHistory (with_pair P x v)
set_up_history P x v h new free = record {
  forward = h.forward;
  apart = h.apart;
  names = h.names;
  stamps = h.stamps;
  writes = h.writes;
  keys = pairs_push (Differ key_in_pair) P.initial (x, v) h.keys (λ p c s. not_set_up x P.initial new p.1 (subst (λ y. Contains P.initial (y, p.1)) s c));
  initial = λ y w T i c a z. elim (push_cases P.initial (x, v) (y, w) c) [
    | inl d ↦ h.initial y w T i d a z
    | inr s ↦ (unwritten x v P.txns).0 free T i a (subst (λ (p : List ℕ × Value). WritesPairAt T i p.0 p.1) (sym s) z)
  ];
}

set_up_exact : (P : Present) (x : List ℕ) (v : Value) → IsHistory P → (set_up_refusal P x v ≡ None) ↔ (Unit {0} × IsHistory (with_pair P x v))
set_up_exact P x v h = (
  λ e.
      (let a = none_both _ _ e in
      let b = none_both _ _ a.1 in
      (tt, set_up_history P x v h ((absent (set_up_value x P.initial) refusal.SetUpTwice).0 a.0) (none_mapped refusal.SetUpTaken (writer_of_pair (op.Write x v) P.txns) b.0))),
  λ f.
      (let later = f.1 in
      none_from _ _ ((absent (set_up_value x P.initial) refusal.SetUpTwice).1 (no_value (set_up_value x P.initial) (λ w e. pairs_last (Differ key_in_pair) P.initial (x, v) (x, w) later.keys (set_up_is x P.initial w e) refl)))
      (none_from _ _ (mapped_none refusal.SetUpTaken (writer_of_pair (op.Write x v) P.txns) ((unwritten x v P.txns).1 (λ T i c w. later.initial x v T i (push_last P.initial (x, v)) c w))) refl)),
)

-- ---- any edit

pub acceptance_exact : (P : Present) (e : Edit) → IsHistory P → IsAcceptable P e ↔ (AsksRightly P e × IsHistory (after e P))
unfolding after refusal_on
acceptance_exact P (edit.Arrive T) h = (
  λ a. (let k = cleared P T a in (k.absent, arrived P T h k)),
  λ f. not_refused P T (clears P T f.1),
)
acceptance_exact P (edit.Resolve u o) h = resolution_exact P u o h
acceptance_exact P (edit.Withdraw u) h = withdrawal_exact P u h
acceptance_exact P (edit.SetUp x v) h = set_up_exact P x v h

-- ---- any accepted journal

nothing_is_history : IsHistory nothing
nothing_is_history = record {
  forward = λ A c a e. absurd (Contains-nil A a);
  apart = λ A c a e w. absurd (Contains-nil A a);
  names = pairs_nil (Differ (λ U. U.id));
  stamps = λ A B c a b differ e w. absurd (Contains-nil A a);
  writes = λ A B i j x v a b y z. absurd (Contains-nil A a);
  keys = pairs_nil (Differ key_in_pair);
  initial = λ x v T i c a y. absurd (Contains-nil T a);
}

pub nothing_present : present [] ≡ nothing
unfolding present
nothing_present = refl

present_from : (before rest : List Edit) → IsAccepted (before ++ rest) → IsHistory (present before) → IsHistory (present (before ++ rest))
present_from before [] accepted h = rw append-nil h
present_from before (e ∷ rest) accepted h =
    let one : IsHistory (present (before ++ e ∷ [])) = rw present_push ((acceptance_exact (present before) e h).0 (accepted before e rest refl)).1 in
    let regroup : (before ++ e ∷ []) ++ rest ≡ before ++ e ∷ rest = append_assoc before (e ∷ []) rest in
    subst (λ J. IsHistory (present J)) regroup (present_from (before ++ e ∷ []) rest (subst IsAccepted (sym regroup) accepted) one)

pub present_history : (edits : List Edit) → IsAccepted edits → IsHistory (present edits)
present_history edits accepted = present_from [] edits accepted (rw nothing_present nothing_is_history)

-- ---- journals of strict histories

strict_is_history : (P : Present) → IsStrictHistory P → IsHistory P
strict_is_history P h = record {
  forward = λ T c a e. let l = h.forward T c a e in omega arith;
  apart = λ T c a e w. h.forward T c a e;
  names = h.names;
  stamps = λ A B c a b differ e w. h.stamps A B c a b differ e;
  writes = h.writes;
  keys = subst (λ ps. AllPairs (Differ key_in_pair) ps) (sym h.unset) (pairs_nil (Differ key_in_pair));
  initial = λ x v T i c a y. absurd (Contains-nil (x, v) (subst (λ ps. Contains ps (x, v)) h.unset c));
}

strict_from : (before rest : List Edit) → IsStrictJournal (before ++ rest) → IsAccepted before → IsHistory (present before) → IsAccepted (before ++ rest)
strict_from before [] strict accepted h = rw append-nil accepted
strict_from before (e ∷ rest) strict accepted h =
    let step = strict before e rest refl in
    let later = strict_is_history (present (before ++ e ∷ [])) step.1 in
    let acceptable = (acceptance_exact (present before) e h).1 (step.0, subst IsHistory (present_push before e) later) in
    let grown = (accepted_push before e).1 (accepted, acceptable) in
    let regroup : (before ++ e ∷ []) ++ rest ≡ before ++ e ∷ rest = append_assoc before (e ∷ []) rest in
    subst IsAccepted regroup (strict_from (before ++ e ∷ []) rest (subst IsStrictJournal (sym regroup) strict) grown later)

pub none_accepted : IsAccepted []
none_accepted [] e rest s = cc
none_accepted (d ∷ before) e rest s = cc

pub strict_accepted : (edits : List Edit) → IsStrictJournal edits → IsAccepted edits
strict_accepted edits strict = strict_from [] edits strict none_accepted (rw nothing_present nothing_is_history)
