-- The state of one key follows what is present.
use Rattle.std.proofs.Common.{◌≡◌, ◌≢◌, ◌∙◌, inl, inr, ◌↔◌, ℕ, Bool, true, false, cond, not, List, [], ◌∷◌, ◌++◌, map, Option, Some, None, refl, sym, ap, subst}
use Rattle.std.specs.List.{Contains, AllPairs, filter}
use Rattle.std.specs.Option.{is_some}
use Rattle.std.proofs.lemmas.List.Kept.{AllPairs-filter}
use Rattle.si_lists.proofs.Members.{Contains-nil, Contains-filter, Contains-filter_map, Contains-from_filter, Contains-from_map, Contains-map, here, there}
use Rattle.si_lists.proofs.Names.{Differ, names_map, pairs_last, pairs_nil, pairs_push, same_named}
use Rattle.si_lists.proofs.Pushes.{push_cases, push_keeps, push_last}
use Rattle.si_lists.proofs.Tests.{find-None, none_both}
use Rattle.si_model.specs.declared.numbers.TxnId.{TxnId}
use Rattle.si_model.specs.declared.numbers.Value.{Value}
use Rattle.si_model.specs.declared.transactions.Outcome.{Outcome}
use Rattle.si_model.specs.declared.transactions.Txn.{Txn}
use Rattle.si_model.specs.declared.parts.Part.{Part}
use Rattle.si_model.specs.declared.parts.OnKey.{OnKey}
use Rattle.si_model.specs.declared.edits.Edit.{Edit}
use Rattle.si_model.specs.declared.edits.Edit.TheVariants as edit
use Rattle.si_model.specs.declared.refusals.Refusal.TheVariants as refusal
use Rattle.si_model.specs.Operations.{same_key}
use Rattle.si_model.specs.Parts.{Present, part, set_up_value, on_key}
use Rattle.si_model.specs.History.{IsHistory, IsOfHistory}
use Rattle.si_model.specs.Edits.{IsAcceptable, after, refusal_on, same_id, status_after, with_id}
use Rattle.si_model.specs.Journals.{nothing}
use Rattle.si_model.specs.KeyEdits.{arrived_on, edited_on, is_another_part, perhaps_arrived_on, resolved_on, resolved_part, set_up_on, withdrawn_on}
use Rattle.si_model.proofs.Equalities.{same_id_from, same_id_is}
use Rattle.si_model.proofs.Histories.{key_of_history}
use Rattle.si_model.proofs.KeyEditing.{key_edits}
use Rattle.si_model.proofs.KeyParts.{part_is, part_some, parts_are}
use Rattle.si_model.proofs.PresentHistories.{acceptance_exact}
use Rattle.si_judge.specs.Following.{EditsFollow, IsStateOf, NothingIsOfHistory, OthersPass, SameIsSame, empty_key}
use Rattle.si_judge.specs.States.{AreSameOnKey, HasDoubt, HasPart, IsMended, State}

-- ---- the same on a key

pub same_itself : (Q : OnKey) → AreSameOnKey Q Q
same_itself Q = record { initial = refl; parts = λ X. ((λ c. c), (λ c. c)) }

pub same_back : (Q R : OnKey) → AreSameOnKey Q R → AreSameOnKey R Q
same_back Q R s = record { initial = sym s.initial; parts = λ X. ((s.parts X).1, (s.parts X).0) }

pub same_on : (Q R S : OnKey) → AreSameOnKey Q R → AreSameOnKey R S → AreSameOnKey Q S
same_on Q R S s t = record { initial = s.initial ∙ t.initial; parts = λ X. ((λ c. (t.parts X).0 ((s.parts X).0 c)), (λ c. (s.parts X).1 ((t.parts X).1 c))) }

pub same_is_same : SameIsSame
same_is_same = record { reflexive = same_itself; symmetric = same_back; transitive = same_on }

-- what is the same as what is of a history is of one too, where ids are distinct there
of_history : (Q R : OnKey) → AreSameOnKey Q R → IsOfHistory Q → AllPairs (Differ (λ (T : Part). T.id)) R.parts → IsOfHistory R
of_history Q R s h names = record {
  forward = λ T c a e. h.forward T c ((s.parts T).1 a) e;
  apart = λ T c v a e w. h.apart T c v ((s.parts T).1 a) e w;
  names = names;
  stamps = λ A B c v a b differ e w. h.stamps A B c v ((s.parts A).1 a) ((s.parts B).1 b) differ e w;
  writes = λ A B i j v a b x y. h.writes A B i j v ((s.parts A).1 a) ((s.parts B).1 b) x y;
  initial = λ v T e a w. h.initial v T (s.initial ∙ e) ((s.parts T).1 a) w;
  places = λ T a. h.places T ((s.parts T).1 a);
}

-- ---- what each edit makes of the same

arrived_same : (T : Part) (Q R : OnKey) → AreSameOnKey Q R → AreSameOnKey (arrived_on T Q) (arrived_on T R)
arrived_same T Q R s = record { initial = s.initial; parts = λ X. (one_more Q R (λ Y. (s.parts Y).0) X, one_more R Q (λ Y. (s.parts Y).1) X) }
  where
    one_more : (A B : OnKey) → ((Y : Part) → Contains A.parts Y → Contains B.parts Y) → (X : Part) → Contains (A.parts ++ T ∷ []) X → Contains (B.parts ++ T ∷ []) X
    one_more A B to X c = elim (push_cases A.parts T X c) [
      | inl o ↦ push_keeps B.parts T X (to X o)
      | inr e ↦ subst (Contains (B.parts ++ T ∷ [])) e (push_last B.parts T)
    ]

resolved_same : (u : TxnId) (o : Outcome) (Q R : OnKey) → AreSameOnKey Q R → AreSameOnKey (resolved_on u o Q) (resolved_on u o R)
resolved_same u o Q R s = record { initial = s.initial; parts = λ X. (mapped Q R (λ Y. (s.parts Y).0) X, mapped R Q (λ Y. (s.parts Y).1) X) }
  where
    mapped : (A B : OnKey) → ((Y : Part) → Contains A.parts Y → Contains B.parts Y) → (X : Part) → Contains (map (resolved_part u o) A.parts) X → Contains (map (resolved_part u o) B.parts) X
    mapped A B to X c =
        let y = Contains-from_map (resolved_part u o) A.parts X c in
        subst (Contains (map (resolved_part u o) B.parts)) y.2 (Contains-map (resolved_part u o) B.parts y.0 (to y.0 y.1))

withdrawn_same : (u : TxnId) (Q R : OnKey) → AreSameOnKey Q R → AreSameOnKey (withdrawn_on u Q) (withdrawn_on u R)
withdrawn_same u Q R s = record { initial = s.initial; parts = λ X. (kept Q R (λ Y. (s.parts Y).0) X, kept R Q (λ Y. (s.parts Y).1) X) }
  where
    kept : (A B : OnKey) → ((Y : Part) → Contains A.parts Y → Contains B.parts Y) → (X : Part) → Contains (filter (is_another_part u) A.parts) X → Contains (filter (is_another_part u) B.parts) X
    kept A B to X c = let f = Contains-from_filter (is_another_part u) A.parts X c in Contains-filter (is_another_part u) B.parts X (to X f.0) f.1

-- ---- ids stay distinct

-- what an edit made of Q is of a history, and Q and R are the same: what it makes of R is of a history too
FollowsTo : OnKey → OnKey → Type 0
FollowsTo edited_Q edited_R = IsOfHistory edited_R × AreSameOnKey edited_Q edited_R

arrival_follows : (T : Option Part) (Q R : OnKey) → AreSameOnKey Q R → IsOfHistory R → IsOfHistory (perhaps_arrived_on T Q) → FollowsTo (perhaps_arrived_on T Q) (perhaps_arrived_on T R)
unfolding FollowsTo
arrival_follows None Q R s h after = (h, s)
arrival_follows (Some T) Q R s h after =
    let same = arrived_same T Q R s in (
      of_history (arrived_on T Q) (arrived_on T R) same after
          (pairs_push (Differ (λ (X : Part). X.id)) R.parts T h.names (λ X c. pairs_last (Differ (λ (Y : Part). Y.id)) Q.parts T X after.names ((s.parts X).1 c))),
      same,
    )

keeps_id : (u : TxnId) (o : Outcome) (X : Part) → (resolved_part u o X).id ≡ X.id
keeps_id u o X = by (same_id X.id u)
  where
    by : (b : Bool) → (cond b (record X { status = status_after o }) X).id ≡ X.id
    by true = refl
    by false = refl

resolution_follows : (u : TxnId) (o : Outcome) (Q R : OnKey) → AreSameOnKey Q R → IsOfHistory R → IsOfHistory (resolved_on u o Q) → FollowsTo (resolved_on u o Q) (resolved_on u o R)
unfolding FollowsTo
resolution_follows u o Q R s h after =
    let same = resolved_same u o Q R s in
    (of_history (resolved_on u o Q) (resolved_on u o R) same after (names_map (λ (X : Part). X.id) (λ (X : Part). X.id) (resolved_part u o) (keeps_id u o) R.parts h.names), same)

withdrawal_follows : (u : TxnId) (Q R : OnKey) → AreSameOnKey Q R → IsOfHistory R → IsOfHistory (withdrawn_on u Q) → FollowsTo (withdrawn_on u Q) (withdrawn_on u R)
unfolding FollowsTo
withdrawal_follows u Q R s h after =
    let same = withdrawn_same u Q R s in
    (of_history (withdrawn_on u Q) (withdrawn_on u R) same after (AllPairs-filter (Differ (λ (X : Part). X.id)) (is_another_part u) R.parts h.names), same)

set_up_follows : (b : Bool) (v : Value) (Q R : OnKey) → AreSameOnKey Q R → IsOfHistory R → IsOfHistory (cond b (set_up_on v Q) Q) → FollowsTo (cond b (set_up_on v Q) Q) (cond b (set_up_on v R) R)
unfolding FollowsTo
set_up_follows false v Q R s h after = (h, s)
set_up_follows true v Q R s h after =
    let same : AreSameOnKey (set_up_on v Q) (set_up_on v R) = record { initial = refl; parts = s.parts } in
    (of_history (set_up_on v Q) (set_up_on v R) same after h.names, same)

edit_follows : (e : Edit) (x : List ℕ) (Q R : OnKey) → AreSameOnKey Q R → IsOfHistory R → IsOfHistory (edited_on x e Q) → FollowsTo (edited_on x e Q) (edited_on x e R)
unfolding edited_on
edit_follows (edit.Arrive T) x Q R s h after = arrival_follows (part x T) Q R s h after
edit_follows (edit.Resolve u o) x Q R s h after = resolution_follows u o Q R s h after
edit_follows (edit.Withdraw u) x Q R s h after = withdrawal_follows u Q R s h after
edit_follows (edit.SetUp y v) x Q R s h after = set_up_follows (same_key y x) v Q R s h after

pub edits_follow : EditsFollow
unfolding FollowsTo
edits_follow P e x Q h acceptable same is =
    let edited = key_edits P e x acceptable in
    let later = key_of_history (after e P) x ((acceptance_exact P e h).0 acceptable).1 in
    let follows = edit_follows e x (on_key x P) Q same is (subst IsOfHistory edited later) in
    (follows.0, subst (λ K. AreSameOnKey K (edited_on x e Q)) (sym edited) follows.1)

-- ---- transactions that aren't on the key

module _ (u : TxnId) where
  all_stay : (o : Outcome) (parts : List Part) → ((X : Part) → Contains parts X → X.id ≢ u) → map (resolved_part u o) parts ≡ parts
  all_stay o [] others = refl
  all_stay o (X ∷ parts) others =
      ap (λ Y. Y ∷ map (resolved_part u o) parts) (by (same_id X.id u) refl) ∙ ap (λ ps. X ∷ ps) (all_stay o parts (λ Y c. others Y (there X parts Y c)))
    where
      by : (b : Bool) → same_id X.id u ≡ b → cond b (record X { status = status_after o }) X ≡ X
      by true e = absurd (others X (here X parts) (same_id_is X.id u e))
      by false e = refl

  all_kept : (parts : List Part) → ((X : Part) → Contains parts X → X.id ≢ u) → filter (is_another_part u) parts ≡ parts
  all_kept [] others = refl
  all_kept (X ∷ parts) others = by (same_id X.id u) refl ∙ ap (λ ps. X ∷ ps) (all_kept parts (λ Y c. others Y (there X parts Y c)))
    where
      by : (b : Bool) → same_id X.id u ≡ b → cond (not b) (X ∷ filter (is_another_part u) parts) (filter (is_another_part u) parts) ≡ X ∷ filter (is_another_part u) parts
      by true e = absurd (others X (here X parts) (same_id_is X.id u e))
      by false e = refl

pub others_pass : OthersPass
others_pass = record {
  resolution = λ u o Q none. ap (λ ps. record Q { parts = ps }) (all_stay u o Q.parts (λ X c e. none (X, c, e)));
  withdrawal = λ u Q none. ap (λ ps. record Q { parts = ps }) (all_kept u Q.parts (λ X c e. none (X, c, e)));
}

-- ---- what an edit asks of a key

pub parts_had : (P : Present) (x : List ℕ) (T : Txn) (R : Part) (Q : OnKey) → AreSameOnKey (on_key x P) Q → Contains P.txns T → part x T ≡ Some R → HasPart Q T.id
parts_had P x T R Q same c e = (R, (same.parts R).0 (Contains-filter_map (part x) P.txns T R c e), (part_is x T R e).id)

pub others_not_had : (P : Present) (x : List ℕ) (T : Txn) (Q : OnKey) → IsHistory P → AreSameOnKey (on_key x P) Q → Contains P.txns T → part x T ≡ None → HasPart Q T.id → ⊥
others_not_had P x T Q h same c e had =
    let f = (parts_are x P.txns had.0).0 ((same.parts had.0).1 had.1) in
    let one = same_named (λ (U : Txn). U.id) P.txns h.names f.0 T f.1 c (sym f.2.id ∙ had.2) in
    (let some = part_some x f.0 had.0 f.2 in let none = ap (part x) one ∙ e in cc)

pub resolutions_follow : (P : Present) (u : TxnId) (o : Outcome) (x : List ℕ) (Q : OnKey) → IsHistory P → IsAcceptable P (edit.Resolve u o) → AreSameOnKey (on_key x P) Q → HasPart Q u → HasDoubt Q u
resolutions_follow P u o x Q h acceptable same had =
    let asked = ((acceptance_exact P (edit.Resolve u o) h).0 acceptable).0 in
    let f = (parts_are x P.txns had.0).0 ((same.parts had.0).1 had.1) in
    let one = same_named (λ (U : Txn). U.id) P.txns h.names f.0 asked.0 f.1 asked.1 (sym f.2.id ∙ had.2 ∙ sym asked.2) in
    (had.0, had.1, had.2, f.2.status ∙ ap (λ (U : Txn). U.status) one ∙ asked.3)

not_yet : (o : Option Value) → cond (is_some o) (Some refusal.SetUpTwice) None ≡ None → o ≡ None
not_yet None e = refl
not_yet (Some v) e = cc

pub set_ups_follow : (P : Present) (x : List ℕ) (v : Value) (Q : OnKey) → IsAcceptable P (edit.SetUp x v) → AreSameOnKey (on_key x P) Q → Q.initial ≡ None
unfolding refusal_on
set_ups_follow P x v Q acceptable same = sym same.initial ∙ not_yet (set_up_value x P.initial) (none_both (cond (is_some (set_up_value x P.initial)) (Some refusal.SetUpTwice) None) _ acceptable).0

-- ---- nothing

pub nothing_of_history : NothingIsOfHistory
unfolding set_up_value
nothing_of_history = record {
  present = record {
    forward = λ A c a e. absurd (Contains-nil A a);
    apart = λ A c a e w. absurd (Contains-nil A a);
    names = pairs_nil (λ A B. A.id ≢ B.id);
    stamps = λ A B c a b differ e w. absurd (Contains-nil A a);
    writes = λ A B i j x v a b y z. absurd (Contains-nil A a);
    keys = pairs_nil (λ p q. p.0 ≢ q.0);
    initial = λ x v T i c a y. absurd (Contains-nil T a);
  };
  on_key = λ x. refl;
  of_history = record {
    forward = λ A c a e. absurd (Contains-nil A a);
    apart = λ A c v a e w. absurd (Contains-nil A a);
    names = pairs_nil (λ A B. A.id ≢ B.id);
    stamps = λ A B c v a b differ e w. absurd (Contains-nil A a);
    writes = λ A B i j v a b y z. absurd (Contains-nil A a);
    initial = λ v T e a w. absurd (Contains-nil T a);
    places = λ T a. absurd (Contains-nil T a);
  };
}

-- ---- the state of a key

pub edited_state : (P : Present) (e : Edit) (x : List ℕ) (IsTouchedRead : TxnId × ℕ → Type 0) (old new : State) → IsHistory P → IsAcceptable P e → IsStateOf P x old
    → IsMended IsTouchedRead (edited_on x e old.present) old new → IsStateOf (after e P) x new
edited_state P e x IsTouchedRead old new h acceptable is mended =
    let f = edits_follow P e x old.present h acceptable is.same is.history in
    record {
      key = mended.key ∙ is.key;
      same = same_on (on_key x (after e P)) (edited_on x e old.present) new.present f.1 mended.present;
      history = mended.history;
      whole = mended.whole;
    }

pub same_state : (P : Present) (e : Edit) (x : List ℕ) (s : State) → IsHistory P → IsAcceptable P e → IsStateOf P x s → edited_on x e s.present ≡ s.present → IsStateOf (after e P) x s
same_state P e x s h acceptable is same =
    let f = edits_follow P e x s.present h acceptable is.same is.history in
    record { key = is.key; same = subst (AreSameOnKey (on_key x (after e P))) same f.1; history = is.history; whole = is.whole }

pub edited_history : (P : Present) (e : Edit) (x : List ℕ) (s : State) → IsHistory P → IsAcceptable P e → IsStateOf P x s → IsOfHistory (edited_on x e s.present)
edited_history P e x s h acceptable is = (edits_follow P e x s.present h acceptable is.same is.history).0

pub arrival_is : (x : List ℕ) (T : Txn) (Q : OnKey) (o : Option Part) → part x T ≡ o → edited_on x (edit.Arrive T) Q ≡ perhaps_arrived_on o Q
unfolding edited_on
arrival_is x T Q o e = ap (λ p. perhaps_arrived_on p Q) e

pub resolution_is : (x : List ℕ) (u : TxnId) (o : Outcome) (Q : OnKey) → edited_on x (edit.Resolve u o) Q ≡ resolved_on u o Q
unfolding edited_on
resolution_is x u o Q = refl

pub withdrawal_is : (x : List ℕ) (u : TxnId) (Q : OnKey) → edited_on x (edit.Withdraw u) Q ≡ withdrawn_on u Q
unfolding edited_on
withdrawal_is x u Q = refl

pub set_up_is : (x y : List ℕ) (v : Value) (Q : OnKey) → edited_on x (edit.SetUp y v) Q ≡ cond (same_key y x) (set_up_on v Q) Q
unfolding edited_on
set_up_is x y v Q = refl

-- what is on the one is on the other
pub part_moved : (Q R : OnKey) (u : TxnId) → AreSameOnKey Q R → HasPart Q u → HasPart R u
part_moved Q R u s had = (had.0, (s.parts had.0).0 had.1, had.2)

-- a transaction is on the key where it does something there
pub part_or_none : (P : Present) (x : List ℕ) (T : Txn) (o : Option Part) → IsHistory P → Contains P.txns T → part x T ≡ o → (is_some o ≡ true) ↔ HasPart (on_key x P) T.id
part_or_none P x T None h c e = (λ t. cc, λ had. absurd (others_not_had P x T (on_key x P) h (same_itself (on_key x P)) c e had))
part_or_none P x T (Some R) h c e = (λ t. parts_had P x T R (on_key x P) (same_itself (on_key x P)) c e, λ had. refl)

-- the state of a key on which nothing is
pub nothing_state : (P : Present) (x : List ℕ) (s : State) → P ≡ nothing → s.key ≡ x → s.present ≡ empty_key → s.spoiled ≡ false → IsHistory P × IsStateOf P x s
unfolding set_up_value
nothing_state P x s e key present whole =
    let of : AreSameOnKey (on_key x nothing) s.present = subst (AreSameOnKey (on_key x nothing)) (sym present) (same_itself empty_key) in (
      subst IsHistory (sym e) nothing_of_history.present,
      record {
        key = key;
        same = subst (λ R. AreSameOnKey (on_key x R) s.present) (sym e) of;
        history = subst IsOfHistory (sym present) nothing_of_history.of_history;
        whole = whole;
      },
    )

-- where no transaction has the id, none with it is on a key
pub none_on : (P : Present) (x : List ℕ) (u : TxnId) → with_id P.txns u ≡ None → HasPart (on_key x P) u → ⊥
none_on P x u e had =
    let f = (parts_are x P.txns had.0).0 had.1 in
    (let none = find-None (λ U. same_id U.id u) P.txns e f.0 f.1 in let some = same_id_from f.0.id u (sym f.2.id ∙ had.2) in cc)
