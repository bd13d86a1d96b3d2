-- Edits that come behind a horizon are the same on what is carried over it.
use Rattle.std.proofs.Common.{◌≡◌, ◌≢◌, ◌⊎◌, inl, inr, ◌<◌, ◌≤◌, Bool, true, false, not, List, [], ◌∷◌, ◌++◌, map, Option, Some, None, refl, sym, ap, subst, ◌∙◌, arith, cond, append_assoc, append-nil}
use Rattle.std.specs.List.{Contains, filter, filter_map, cons_option}
use Rattle.std.specs.Option.{option_map}
use Rattle.std.proofs.lemmas.Bool.{cases_lt}
use Rattle.std.proofs.lemmas.List.Elements.{filter_map-append, filter-append}
use Rattle.si_model.specs.declared.numbers.TxnId.{TxnId}
use Rattle.si_model.specs.declared.numbers.Stamp.{Stamp}
use Rattle.si_model.specs.declared.transactions.Status.TheVariants as status
use Rattle.si_model.specs.declared.transactions.Outcome.{Outcome}
use Rattle.si_model.specs.declared.transactions.Outcome.TheVariants as outcome
use Rattle.si_model.specs.declared.transactions.Txn.{Txn}
use Rattle.si_model.specs.declared.edits.Edit.{Edit}
use Rattle.si_model.specs.declared.edits.Edit.TheVariants as edit
use Rattle.si_model.specs.Parts.{Present}
use Rattle.si_model.specs.Versions.{commit_of}
use Rattle.si_model.specs.History.{IsHistory}
use Rattle.si_model.specs.Edits.{same_id, status_after, IsAcceptable, resolved, is_another, after, AsksRightly}
use Rattle.si_model.specs.Journals.{present, IsAccepted}
use Rattle.si_model.specs.Horizons.{IsGone, HasNoDoubtBelow, IsLate, rest, commits_below, initial_after, carried, making}
use Rattle.si_model.specs.HorizonLaws.{HasSettledBelow, EditCarries, LateEditsCarry, AreLate, LateJournalsCarry}
use Rattle.si_lists.proofs.Members.{here, there, Contains-map, Contains-from_map, Contains-from_filter}
use Rattle.si_lists.proofs.Names.{same_named}
use Rattle.si_lists.proofs.Pushes.{push_cases, push_last}
use Rattle.si_model.proofs.Equalities.{same_id_is, same_id_from}
use Rattle.si_model.proofs.Acceptance.{present_push, accepted_begins, accepted_push}
use Rattle.si_model.proofs.PresentHistories.{acceptance_exact, present_history}
use Rattle.si_model.proofs.Rests.{rest_exact, carries_rest}
use Rattle.si_model.proofs.Carrying.{below_is, came, went, carried_history}
use Rattle.si_model.proofs.Making.{made}

-- ---- lists

walk_of_map : {X : Type 0} (f : X → X) (r : X → Option X) (xs : List X) → ((x : X) → Contains xs x → r (f x) ≡ option_map f (r x)) → filter_map r (map f xs) ≡ map f (filter_map r xs)
walk_of_map f r [] same = refl
walk_of_map {X} f r (x ∷ xs) same = ap (λ o. cons_option o (filter_map r (map f xs))) (same x (here x xs)) ∙ by (r x) (walk_of_map f r xs (λ y c. same y (there x xs y c)))
  where
    by : (o : Option X) → filter_map r (map f xs) ≡ map f (filter_map r xs) → cons_option (option_map f o) (filter_map r (map f xs)) ≡ map f (cons_option o (filter_map r xs))
    by None e = e
    by (Some y) e = ap (λ ys. f y ∷ ys) e

walk_of_filter : {X : Type 0} (p : X → Bool) (r : X → Option X) (xs : List X) → ((x y : X) → r x ≡ Some y → p y ≡ p x) → filter_map r (filter p xs) ≡ filter p (filter_map r xs)
walk_of_filter p r [] same = refl
walk_of_filter {X} p r (x ∷ xs) same = by (p x) refl (r x) refl (walk_of_filter p r xs same)
  where
    by : (b : Bool) → p x ≡ b → (o : Option X) → r x ≡ o → filter_map r (filter p xs) ≡ filter p (filter_map r xs) → filter_map r (cond b (x ∷ filter p xs) (filter p xs)) ≡ filter p (cons_option o (filter_map r xs))
    by true t None s e = ap (λ o. cons_option o (filter_map r (filter p xs))) s ∙ e
    by true t (Some y) s e =
        ap (λ o. cons_option o (filter_map r (filter p xs))) s ∙ ap (λ ys. y ∷ ys) e
        ∙ ap (λ b. cond b (y ∷ filter p (filter_map r xs)) (filter p (filter_map r xs))) (sym (same x y s ∙ t))
    by false t None s e = e
    by false t (Some y) s e = e ∙ ap (λ b. cond b (y ∷ filter p (filter_map r xs)) (filter p (filter_map r xs))) (sym (same x y s ∙ t))

-- where what is changed doesn't pass before or after, the same pass
filter_of_map : {X : Type 0} (p : X → Bool) (f : X → X) (xs : List X) → ((x : X) → Contains xs x → (f x ≡ x) ⊎ ((p x ≡ false) × (p (f x) ≡ false))) → filter p (map f xs) ≡ filter p xs
filter_of_map p f [] same = refl
filter_of_map p f (x ∷ xs) same = by (same x (here x xs)) (filter_of_map p f xs (λ y c. same y (there x xs y c)))
  where
    by : (f x ≡ x) ⊎ ((p x ≡ false) × (p (f x) ≡ false)) → filter p (map f xs) ≡ filter p xs → filter p (f x ∷ map f xs) ≡ filter p (x ∷ xs)
    by (inl e) s = ap (λ y. filter p (y ∷ map f xs)) e ∙ ap (λ ys. cond (p x) (x ∷ ys) ys) s
    by (inr n) s = ap (λ b. cond b (f x ∷ filter p (map f xs)) (filter p (map f xs))) n.1 ∙ s ∙ ap (λ b. cond b (x ∷ filter p xs) (filter p xs)) (sym n.0)

-- and where what is left out wouldn't pass
filter_of_filter : {X : Type 0} (p q : X → Bool) (xs : List X) → ((x : X) → Contains xs x → q x ≡ false → p x ≡ false) → filter p (filter q xs) ≡ filter p xs
filter_of_filter p q [] out = refl
filter_of_filter p q (x ∷ xs) out = by (q x) refl (filter_of_filter p q xs (λ y c. out y (there x xs y c)))
  where
    by : (b : Bool) → q x ≡ b → filter p (filter q xs) ≡ filter p xs → filter p (cond b (x ∷ filter q xs) (filter q xs)) ≡ filter p (x ∷ xs)
    by true t e = ap (λ ys. cond (p x) (x ∷ ys) ys) e
    by false t e = e ∙ ap (λ b. cond b (x ∷ filter p xs) (filter p xs)) (sym (out x (here x xs) t))

-- ---- one transaction

module _ (H : Stamp) (T : Txn) (starts : H.0 ≤ T.start.0) (forward : (c : Stamp) → T.status ≡ status.Committed c → T.start.0 ≤ c.0) where
  not_gone : IsGone H T → ⊥
  not_gone (inl g) = let up = forward g.0 g.1 in let less = g.2 in omega arith
  not_gone (inr g) = let less = g.1 in omega arith

  -- what starts at the horizon or later is carried over whole
  pub rest_whole : rest H T ≡ Some T
  rest_whole = (rest_exact H T T).1 (not_gone, record { writes = λ n. (let less = n.2 in absurd (omega arith)); whole = λ n. refl })

  not_below : commits_below H T ≡ false
  not_below = by (commits_below H T) refl
    where
      by : (b : Bool) → commits_below H T ≡ b → b ≡ false
      by true e = absurd (not_gone (inl ((below_is H T).0 e)))
      by false e = refl

pub forward_in : (P : Present) → IsHistory P → (T : Txn) → Contains P.txns T → (c : Stamp) → T.status ≡ status.Committed c → T.start.0 ≤ c.0
forward_in P h T at c s = h.forward T c at (ap commit_of s)

pub resolved_cases : (u : TxnId) (o : Outcome) (T : Txn) → ((T.id ≡ u) × (resolved u o T ≡ record T { status = status_after o })) ⊎ ((T.id ≢ u) × (resolved u o T ≡ T))
resolved_cases u o T = by (same_id T.id u) refl
  where
    by : (b : Bool) → same_id T.id u ≡ b → ((T.id ≡ u) × (cond b (record T { status = status_after o }) T ≡ record T { status = status_after o })) ⊎ ((T.id ≢ u) × (cond b (record T { status = status_after o }) T ≡ T))
    by true t = inl (same_id_is T.id u t, refl)
    by false t = inr (λ e. (let same = same_id_from T.id u e in cc), refl)

no_doubt_after : (o : Outcome) → status_after o ≢ status.InDoubt
no_doubt_after (outcome.Committed c) e = cc
no_doubt_after outcome.Aborted e = cc

-- ---- one edit

module _ (P : Present) (H : Stamp) (S : List TxnId) (h : IsHistory P) (doubt : HasNoDoubtBelow H P) (settled : HasSettledBelow H S P) where
  -- carrying commutes where it does on the transactions and where the same committed below
  commuted : (txns rests : List Txn) → filter_map (rest H) txns ≡ rests → filter (commits_below H) txns ≡ filter (commits_below H) P.txns → carried H (record P { txns = txns }) ≡ record (carried H P) { txns = rests }
  unfolding carried
  commuted txns rests e f = λ i. record { txns = e i; initial = initial_after (f i) P.initial }

  -- ---- an arrival

  module _ (T : Txn) (late : H.0 ≤ T.start.0) (a : IsAcceptable P (edit.Arrive T)) where
    asked_arrival : AsksRightly P (edit.Arrive T) × IsHistory (after (edit.Arrive T) P)
    asked_arrival = (acceptance_exact P (edit.Arrive T) h).0 a

    arrival_forward : (c : Stamp) → T.status ≡ status.Committed c → T.start.0 ≤ c.0
    unfolding after
    arrival_forward c s = asked_arrival.1.forward T c (push_last P.txns T) (ap commit_of s)

    arrival_commutes : carried H (after (edit.Arrive T) P) ≡ after (edit.Arrive T) (carried H P)
    unfolding after carried
    arrival_commutes = commuted (P.txns ++ T ∷ []) (filter_map (rest H) P.txns ++ T ∷ [])
        (filter_map-append (rest H) P.txns (T ∷ []) ∙ ap (λ o. filter_map (rest H) P.txns ++ cons_option o []) (rest_whole H T late arrival_forward))
        (filter-append (commits_below H) P.txns (T ∷ []) ∙ ap (λ b. filter (commits_below H) P.txns ++ cond b (T ∷ []) []) (not_below H T late arrival_forward) ∙ append-nil (filter (commits_below H) P.txns))

    arrival_carries : EditCarries P H S (edit.Arrive T)
    unfolding after
    arrival_carries = record {
      acceptable = (acceptance_exact (carried H P) (edit.Arrive T) (carried_history P H h)).1 (
        λ U c e. (let t = came P H U c in asked_arrival.0 t.txn t.at (sym t.carries.id ∙ e)),
        subst IsHistory arrival_commutes (carried_history (after (edit.Arrive T) P) H asked_arrival.1),
      );
      commutes = arrival_commutes;
      doubt = λ U c less. elim (push_cases P.txns T U c) [
        | inl d ↦ doubt U d less
        | inr s ↦ (let starts = ap (λ V. V.start.0) s in absurd (omega arith))
      ];
      kept = λ U c less. elim (push_cases P.txns T U c) [
        | inl d ↦ settled U d less
        | inr s ↦ (let starts = ap (λ V. V.start.0) s in absurd (omega arith))
      ];
    }

  -- ---- a resolution

  module _ (u : TxnId) (o : Outcome) (a : IsAcceptable P (edit.Resolve u o)) where
    asked_resolution : AsksRightly P (edit.Resolve u o) × IsHistory (after (edit.Resolve u o) P)
    asked_resolution = (acceptance_exact P (edit.Resolve u o) h).0 a

    doubtful : Txn
    doubtful = asked_resolution.0.0

    doubtful_starts : H.0 ≤ doubtful.start.0
    unfolding doubtful
    doubtful_starts = elim (cases_lt doubtful.start.0 H.0) [
      | inl less ↦ absurd (doubt doubtful asked_resolution.0.1 less asked_resolution.0.3)
      | inr more ↦ more
    ]

    resolved_in : (T : Txn) → Contains P.txns T → Contains (after (edit.Resolve u o) P).txns (resolved u o T)
    unfolding after
    resolved_in T c = Contains-map (resolved u o) P.txns T c

    -- the one that is resolved starts at the horizon or later, and is carried over whole before and after
    it_is : (T : Txn) → Contains P.txns T → T.id ≡ u → T ≡ doubtful
    unfolding doubtful
    it_is T c e = same_named (λ U. U.id) P.txns h.names T doubtful c asked_resolution.0.1 (e ∙ sym asked_resolution.0.2)

    starts : (T : Txn) → Contains P.txns T → T.id ≡ u → H.0 ≤ T.start.0
    starts T c e = subst (λ U. H.0 ≤ U.start.0) (sym (it_is T c e)) doubtful_starts

    forward_after : (T : Txn) → Contains P.txns T → T.id ≡ u → (c : Stamp) → status_after o ≡ status.Committed c → T.start.0 ≤ c.0
    forward_after T at e c s = elim (resolved_cases u o T) [
      | inl r ↦ asked_resolution.1.forward (record T { status = status_after o }) c (subst (Contains (after (edit.Resolve u o) P).txns) r.1 (resolved_in T at)) (ap commit_of s)
      | inr r ↦ absurd (r.0 e)
    ]

    rest_after : (T : Txn) → Contains P.txns T → rest H (resolved u o T) ≡ option_map (resolved u o) (rest H T)
    rest_after T c = elim (resolved_cases u o T) [
      | inl r ↦
          (let before = rest_whole H T (starts T c r.0) (forward_in P h T c) in
          let later = rest_whole H (record T { status = status_after o }) (starts T c r.0) (forward_after T c r.0) in
          ap (rest H) r.1 ∙ later ∙ ap Some (sym r.1) ∙ ap (option_map (resolved u o)) (sym before))
      | inr r ↦ ap (rest H) r.1 ∙ unchanged (rest H T) refl r.0
    ]
      where
        unchanged : (p : Option Txn) → rest H T ≡ p → T.id ≢ u → p ≡ option_map (resolved u o) p
        unchanged None e other = refl
        unchanged (Some U) e other = elim (resolved_cases u o U) [
          | inl r ↦ absurd (other (sym (carries_rest H T U e).id ∙ r.0))
          | inr r ↦ ap Some (sym r.1)
        ]

    below_after : (T : Txn) → Contains P.txns T → (resolved u o T ≡ T) ⊎ ((commits_below H T ≡ false) × (commits_below H (resolved u o T) ≡ false))
    below_after T c = elim (resolved_cases u o T) [
      | inl r ↦ inr (
        not_below H T (starts T c r.0) (forward_in P h T c),
        ap (commits_below H) r.1 ∙ not_below H (record T { status = status_after o }) (starts T c r.0) (forward_after T c r.0),
      )
      | inr r ↦ inl r.1
    ]

    resolution_commutes : carried H (after (edit.Resolve u o) P) ≡ after (edit.Resolve u o) (carried H P)
    unfolding after carried
    resolution_commutes = commuted (map (resolved u o) P.txns) (map (resolved u o) (filter_map (rest H) P.txns))
        (walk_of_map (resolved u o) (rest H) P.txns rest_after) (filter_of_map (commits_below H) (resolved u o) P.txns below_after)

    resolution_carries : EditCarries P H S (edit.Resolve u o)
    unfolding after doubtful
    resolution_carries = record {
      acceptable = (acceptance_exact (carried H P) (edit.Resolve u o) (carried_history P H h)).1 (
        (let r = asked_resolution.0 in (doubtful, went P H doubtful doubtful r.1 (rest_whole H doubtful doubtful_starts (forward_in P h doubtful r.1)), r.2, r.3)),
        subst IsHistory resolution_commutes (carried_history (after (edit.Resolve u o) P) H asked_resolution.1),
      );
      commutes = resolution_commutes;
      doubt = λ U c less. (let m = Contains-from_map (resolved u o) P.txns U c in elim (resolved_cases u o m.0) [
        | inl r ↦ (λ d. no_doubt_after o (ap (λ V. V.status) (sym r.1 ∙ m.2) ∙ d))
        | inr r ↦ (let same = sym r.1 ∙ m.2 in subst (λ V. V.status ≢ status.InDoubt) same (doubt m.0 m.1 (subst (λ V. V.start.0 < H.0) (sym same) less)))
      ]);
      kept = λ U c less. (let m = Contains-from_map (resolved u o) P.txns U c in elim (resolved_cases u o m.0) [
        | inl r ↦ (let same = sym r.1 ∙ m.2 in subst (λ V. Contains S V.id) same (settled m.0 m.1 (subst (λ V. V.start.0 < H.0) (sym same) less)))
        | inr r ↦ (let same = sym r.1 ∙ m.2 in subst (λ V. Contains S V.id) same (settled m.0 m.1 (subst (λ V. V.start.0 < H.0) (sym same) less)))
      ]);
    }

  -- ---- a withdrawal

  module _ (u : TxnId) (late : Contains S u → ⊥) (a : IsAcceptable P (edit.Withdraw u)) where
    asked_withdrawal : AsksRightly P (edit.Withdraw u) × IsHistory (after (edit.Withdraw u) P)
    asked_withdrawal = (acceptance_exact P (edit.Withdraw u) h).0 a

    -- the one that is withdrawn starts at the horizon or later
    late_start : (T : Txn) → Contains P.txns T → T.id ≡ u → H.0 ≤ T.start.0
    late_start T c e = elim (cases_lt T.start.0 H.0) [
      | inl less ↦ absurd (late (subst (Contains S) e (settled T c less)))
      | inr more ↦ more
    ]

    same_test : (T U : Txn) → rest H T ≡ Some U → is_another u U ≡ is_another u T
    same_test T U e = ap (λ w. not (same_id w u)) (carries_rest H T U e).id

    none_below : (T : Txn) → Contains P.txns T → is_another u T ≡ false → commits_below H T ≡ false
    none_below T c e = not_below H T (late_start T c (by (same_id T.id u) refl e)) (forward_in P h T c)
      where
        by : (b : Bool) → same_id T.id u ≡ b → not b ≡ false → T.id ≡ u
        by true t f = same_id_is T.id u t
        by false t f = cc

    withdrawal_commutes : carried H (after (edit.Withdraw u) P) ≡ after (edit.Withdraw u) (carried H P)
    unfolding after carried
    withdrawal_commutes = commuted (filter (is_another u) P.txns) (filter (is_another u) (filter_map (rest H) P.txns))
        (walk_of_filter (is_another u) (rest H) P.txns same_test) (filter_of_filter (commits_below H) (is_another u) P.txns none_below)

    withdrawal_carries : EditCarries P H S (edit.Withdraw u)
    unfolding after
    withdrawal_carries = record {
      acceptable = (acceptance_exact (carried H P) (edit.Withdraw u) (carried_history P H h)).1 (
        (let r = asked_withdrawal.0 in (r.0, went P H r.0 r.0 r.1 (rest_whole H r.0 (late_start r.0 r.1 r.2) (forward_in P h r.0 r.1)), r.2)),
        subst IsHistory withdrawal_commutes (carried_history (after (edit.Withdraw u) P) H asked_withdrawal.1),
      );
      commutes = withdrawal_commutes;
      doubt = λ U c less. doubt U (Contains-from_filter (is_another u) P.txns U c).0 less;
      kept = λ U c less. settled U (Contains-from_filter (is_another u) P.txns U c).0 less;
    }

  edit_carries : (e : Edit) → IsLate H S e → IsAcceptable P e → EditCarries P H S e
  edit_carries (edit.Arrive T) late a = arrival_carries T late a
  edit_carries (edit.Resolve u o) late a = resolution_carries u o a
  edit_carries (edit.Withdraw u) late a = withdrawal_carries u late a
  edit_carries (edit.SetUp x v) late a = absurd late

pub late_edit : LateEditsCarry
late_edit P H S e h doubt settled late a = edit_carries P H S h doubt settled e late a

-- ---- edits that follow those of a journal

-- a journal of what is carried over, beside one of what is present
record Follows (J K : List Edit) (H : Stamp) (S : List TxnId) : Type 0 where
  accepted : IsAccepted K
  leaves : present K ≡ carried H (present J)
  doubt : HasNoDoubtBelow H (present J)
  settled : HasSettledBelow H S (present J)

follow : (J K more : List Edit) (H : Stamp) (S : List TxnId) → Follows J K H S → IsAccepted (J ++ more) → AreLate H S more → Follows (J ++ more) (K ++ more) H S
follow J K [] H S f a late = subst (λ L. Follows L (K ++ []) H S) (sym (append-nil J)) (subst (λ L. Follows J L H S) (sym (append-nil K)) f)
follow J K (e ∷ more) H S f a late =
    let h = present_history J (accepted_begins J (e ∷ more) a) in
    let step = late_edit (present J) H S e h f.doubt f.settled (late e (here e more)) (a J e more refl) in
    let split = append_assoc J (e ∷ []) more in
    let next : Follows (J ++ e ∷ []) (K ++ e ∷ []) H S = record {
      accepted = (accepted_push K e).1 (f.accepted, subst (λ R. IsAcceptable R e) (sym f.leaves) step.acceptable);
      leaves = present_push K e ∙ ap (after e) f.leaves ∙ sym step.commutes ∙ ap (carried H) (sym (present_push J e));
      doubt = subst (HasNoDoubtBelow H) (sym (present_push J e)) step.doubt;
      settled = subst (HasSettledBelow H S) (sym (present_push J e)) step.kept;
    } in
    let all = follow (J ++ e ∷ []) (K ++ e ∷ []) more H S next (subst IsAccepted (sym split) a) (λ d c. late d (there e more d c)) in
    subst (λ L. Follows (J ++ e ∷ more) L H S) (append_assoc K (e ∷ []) more) (subst (λ L. Follows L ((K ++ e ∷ []) ++ more) H S) split all)

pub late_journal : LateJournalsCarry
late_journal edits more H S a doubt listed late =
    let P = present edits in
    let h = present_history edits (accepted_begins edits more a) in
    let m = made (carried H P) (carried_history P H h) in
    let start : Follows edits (making (carried H P)) H S = record {
      accepted = m.0;
      leaves = m.1;
      doubt = doubt;
      settled = λ T c less. (listed T.id).1 (T, c, refl, doubt T c less);
    } in
    let all = follow edits (making (carried H P)) more H S start a late in
    record { accepted = all.accepted; leaves = all.leaves; doubt = all.doubt }
