-- The tests decide whether what is present is a history.
use Rattle.std.proofs.Common.{◌≡◌, ◌≢◌, ◌⊎◌, inl, inr, ◌↔◌, ℕ, ◌<◌, Bool, true, not, List, [], ◌∷◌, Option, Some, None, zero, suc, refl, sym, ap, subst, ◌∙◌, arith, slice_get}
use Rattle.std.specs.List.{Contains, AllPairs, list_all, list_any}
use Rattle.std.proofs.lemmas.Bool.{and_parts, and_from, not-true, not_from_false, false_from_ne_true}
use Rattle.si_model.specs.declared.numbers.Stamp.{Stamp}
use Rattle.si_model.specs.declared.numbers.Value.{Value}
use Rattle.si_model.specs.declared.operations.Op.{Op}
use Rattle.si_model.specs.declared.operations.Op.TheVariants as op
use Rattle.si_model.specs.declared.transactions.Txn.{Txn}
use Rattle.si_model.specs.Operations.{same_key, same_write}
use Rattle.si_model.specs.Parts.{Present, writes_pair_of, writes_some}
use Rattle.si_model.specs.Versions.{commit_of}
use Rattle.si_model.specs.History.{WritesPairAt, WritesSome, IsHistory}
use Rattle.si_model.specs.Edits.{same_id, install_stamp, has_stamp}
use Rattle.si_model.specs.HistoryTests.{goes_forward, pairwise, ops_apart, stamp_apart, apart_from_all, txns_apart, is_sound, keys_apart, is_unwritten, is_consistent}
use Rattle.si_lists.proofs.Members.{same_some, Contains-nil, here, there, Contains-cons_cases, get_contains, contains_get}
use Rattle.si_lists.proofs.Names.{Differ, pairs_nil, pairs_head, pairs_tail, pairs_cons}
use Rattle.si_lists.proofs.Tests.{all_at, all_from, any_is, any_from}
use Rattle.si_model.proofs.Equalities.{same_id_is, same_id_from, same_key_is, same_key_from, same_write_is, same_write_itself}
use Rattle.si_model.proofs.Histories.{key_in_pair}
use Rattle.si_model.proofs.Reasons.{some_written, pair_written, IsForward, forward_is, install_stamp_is, stamp_of_is, places_equal}

is_not : (a : Bool) → (a ≡ true → ⊥) → not a ≡ true
is_not a f = not_from_false a (false_from_ne_true a f)

-- ---- pairs of elements of a list

-- a test of pairs that says that names differ
module _ {X N : Type 0} (name : X → N) (apart : X → X → Bool) (says : (x y : X) → apart x y ≡ true → name x ≢ name y) where
  names_apart : (xs : List X) → pairwise apart xs ≡ true → AllPairs (Differ name) xs
  names_apart [] e = pairs_nil (Differ name)
  names_apart (x ∷ xs) e = let both = and_parts (list_all (apart x) xs) (pairwise apart xs) e in
      pairs_cons (Differ name) x xs (λ y c. says x y (all_at (apart x) xs y both.0 c)) (names_apart xs both.1)

-- and one that passes where names differ
module _ {X N : Type 0} (name : X → N) (apart : X → X → Bool) (all : List X) (passes : (x y : X) → Contains all x → Contains all y → name x ≢ name y → apart x y ≡ true) where
  pairs_pass : (xs : List X) → ((x : X) → Contains xs x → Contains all x) → AllPairs (Differ name) xs → pairwise apart xs ≡ true
  pairs_pass [] in_all p = refl
  pairs_pass (x ∷ xs) in_all p = and_from (list_all (apart x) xs) (pairwise apart xs)
      (all_from (apart x) xs (λ y c. passes x y (in_all x (here x xs)) (in_all y (there x xs y c)) (pairs_head (Differ name) x xs p y c)))
      (pairs_pass xs (λ y c. in_all y (there x xs y c)) (pairs_tail (Differ name) x xs p))

-- ---- the operations of a transaction

apart_at : (ops : List Op) (i j : ℕ) (p q : Op) → pairwise ops_apart ops ≡ true → i < j → slice_get ops i ≡ Some p → slice_get ops j ≡ Some q → ops_apart p q ≡ true
apart_at [] i j p q e l a b = cc
apart_at (o ∷ ops) zero zero p q e l a b = absurd (omega arith)
apart_at (o ∷ ops) zero (suc j) p q e l a b =
    subst (λ w. ops_apart w q ≡ true) (same_some a) (all_at (ops_apart o) ops q (and_parts (list_all (ops_apart o) ops) (pairwise ops_apart ops) e).0 (get_contains ops j q b))
apart_at (o ∷ ops) (suc i) zero p q e l a b = absurd (omega arith)
apart_at (o ∷ ops) (suc i) (suc j) p q e l a b = apart_at ops i j p q (and_parts (list_all (ops_apart o) ops) (pairwise ops_apart ops) e).1 (omega arith) a b

apart_from : (ops : List Op) → ((i j : ℕ) (p q : Op) → i < j → slice_get ops i ≡ Some p → slice_get ops j ≡ Some q → ops_apart p q ≡ true) → pairwise ops_apart ops ≡ true
apart_from [] f = refl
apart_from (o ∷ ops) f = and_from (list_all (ops_apart o) ops) (pairwise ops_apart ops)
    (all_from (ops_apart o) ops (λ q c. let r = contains_get ops q c in f 0 (suc r.0) o q (omega arith) refl r.1))
    (apart_from ops (λ i j p q l a b. f (suc i) (suc j) p q (omega arith) a b))

-- two writes of one pair aren't apart
not_apart : (x : List ℕ) (v : Value) → ops_apart (op.Write x v) (op.Write x v) ≡ true → ⊥
not_apart x v e = let same = same_write_itself x v in let other = not-true (same_write (op.Write x v) (op.Write x v)) e in cc

own_once : (T : Txn) (i j : ℕ) (x : List ℕ) (v : Value) → pairwise ops_apart T.ops ≡ true → WritesPairAt T i x v → WritesPairAt T j x v → i ≡ j
own_once T i j x v e a b = places_equal i j
    (λ l. not_apart x v (apart_at T.ops i j (op.Write x v) (op.Write x v) e l a b))
    (λ l. not_apart x v (apart_at T.ops j i (op.Write x v) (op.Write x v) e l b a))

-- ---- one transaction

forward_at : (writes : Bool) (s : Stamp) (o : Option Stamp) → (goes_forward writes s o ≡ true) ↔ ((c : Stamp) → o ≡ Some c → IsForward writes s c)
forward_at writes s None = (λ e c f. cc, λ f. refl)
forward_at writes s (Some c) = (λ e d f. subst (IsForward writes s) (same_some f) ((forward_is writes s c).0 e), λ f. (forward_is writes s c).1 (f c refl))

-- ---- two transactions

apart_is : (o : Option Stamp) (T : Txn) → (stamp_apart o T ≡ true) ↔ ((c : Stamp) → o ≡ Some c → (c ≢ T.start) × (commit_of T.status ≢ Some c))
apart_is None T = (λ e c f. cc, λ f. refl)
apart_is (Some d) T = (
  λ e c f. subst (λ s. (s ≢ T.start) × (commit_of T.status ≢ Some s)) (same_some f) (λ s. clash e ((stamp_of_is d T).1 (inl s)), λ s. clash e ((stamp_of_is d T).1 (inr s))),
  λ f. is_not (has_stamp d T) (λ e. elim ((stamp_of_is d T).0 e) [ inl s ↦ (f d refl).0 s | inr s ↦ (f d refl).1 s ]),
)
  where
    clash : not (has_stamp d T) ≡ true → has_stamp d T ≡ true → ⊥
    clash e t = (let other = not-true (has_stamp d T) e in cc)

-- what the test of two transactions says
record AreApart (A B : Txn) : Type 0 where
  differ : A.id ≢ B.id
  first : (c : Stamp) → commit_of A.status ≡ Some c → WritesSome A → (c ≢ B.start) × (commit_of B.status ≢ Some c)
  second : (c : Stamp) → commit_of B.status ≡ Some c → WritesSome B → (c ≢ A.start) × (commit_of A.status ≢ Some c)
  writes : (i j : ℕ) (x : List ℕ) (v : Value) → WritesPairAt A i x v → WritesPairAt B j x v → ⊥

apart_by : (A B : Txn) → (txns_apart A B ≡ true) ↔ AreApart A B
apart_by A B = (
  λ e.
      (let f = and_parts (not (same_id A.id B.id)) _ e in
      let g = and_parts (stamp_apart (install_stamp A) B) _ f.1 in
      let h = and_parts (stamp_apart (install_stamp B) A) _ g.1 in
      record {
        differ = λ s. (let same = same_id_from A.id B.id s in let other = not-true (same_id A.id B.id) f.0 in cc);
        first = λ c s w. (apart_is (install_stamp A) B).0 g.0 c ((install_stamp_is A c).1 (w, s));
        second = λ c s w. (apart_is (install_stamp B) A).0 h.0 c ((install_stamp_is B c).1 (w, s));
        writes = λ i j x v a b. not_apart x v (all_at (ops_apart (op.Write x v)) B.ops (op.Write x v) (all_at (apart_from_all B.ops) A.ops (op.Write x v) h.1 (get_contains A.ops i (op.Write x v) a)) (get_contains B.ops j (op.Write x v) b));
      }),
  λ k.
      and_from (not (same_id A.id B.id)) _ (is_not (same_id A.id B.id) (λ e. k.differ (same_id_is A.id B.id e)))
      (and_from (stamp_apart (install_stamp A) B) _ ((apart_is (install_stamp A) B).1 (λ c e. let f = (install_stamp_is A c).0 e in k.first c f.1 f.0))
      (and_from (stamp_apart (install_stamp B) A) _ ((apart_is (install_stamp B) A).1 (λ c e. let f = (install_stamp_is B c).0 e in k.second c f.1 f.0))
      (all_from (apart_from_all B.ops) A.ops (λ p c. all_from (ops_apart p) B.ops (λ q d. is_not (same_write p q) (λ e.
      let s = same_write_is p q e in
      let i = contains_get A.ops p c in
      let j = contains_get B.ops q d in
      k.writes i.0 j.0 s.0 s.1 (i.1 ∙ ap Some s.2) (j.1 ∙ ap Some s.3))))))),
)

-- ---- all transactions

-- two of them are one, or apart in either order
pair_cases : (txns : List Txn) → pairwise txns_apart txns ≡ true → (A B : Txn) → Contains txns A → Contains txns B → (A ≡ B) ⊎ (AreApart A B ⊎ AreApart B A)
pair_cases [] e A B a b = absurd (Contains-nil A a)
pair_cases (T ∷ txns) e A B a b =
    let both = and_parts (list_all (txns_apart T) txns) (pairwise txns_apart txns) e in
    elim (Contains-cons_cases T txns A a) [
      | inl s ↦ elim (Contains-cons_cases T txns B b) [
        | inl t ↦ inl (sym s ∙ t)
        | inr d ↦ inr (inl (subst (λ U. AreApart U B) s ((apart_by T B).0 (all_at (txns_apart T) txns B both.0 d))))
      ]
      | inr c ↦ elim (Contains-cons_cases T txns B b) [
        | inl t ↦ inr (inr (subst (λ U. AreApart U A) t ((apart_by T A).0 (all_at (txns_apart T) txns A both.0 c))))
        | inr d ↦ pair_cases txns both.1 A B c d
      ]
    ]

-- ---- set-up values

keys_apart_is : (p q : List ℕ × Value) → (keys_apart p q ≡ true) ↔ (p.0 ≢ q.0)
keys_apart_is p q = (
  λ e s. (let same = same_key_from p.0 q.0 s in let other = not-true (same_key p.0 q.0) e in cc),
  λ f. is_not (same_key p.0 q.0) (λ e. f (same_key_is p.0 q.0 e)),
)

unwritten_is : (txns : List Txn) (p : List ℕ × Value) → (is_unwritten txns p ≡ true) ↔ ((T : Txn) (i : ℕ) → Contains txns T → WritesPairAt T i p.0 p.1 → ⊥)
unwritten_is txns p = (
  λ e T i c w. (let some = any_from (writes_pair_of (op.Write p.0 p.1)) txns T c ((pair_written p.0 p.1 T).1 (i, w)) in let none = not-true (list_any (writes_pair_of (op.Write p.0 p.1)) txns) e in cc),
  λ f. is_not (list_any (writes_pair_of (op.Write p.0 p.1)) txns) (λ e. let g = any_is (writes_pair_of (op.Write p.0 p.1)) txns e in let w = (pair_written p.0 p.1 g.0).0 g.2 in f g.0 w.0 g.1 w.1),
)

-- ---- what is present

decided : (P : Present) → is_consistent P ≡ true → IsHistory P
decided P e =
    let f = and_parts (list_all is_sound P.txns) _ e in
    let g = and_parts (pairwise txns_apart P.txns) _ f.1 in
    let h = and_parts (pairwise keys_apart P.initial) _ g.1 in
    let one : (T : Txn) → Contains P.txns T → (goes_forward (writes_some T) T.start (commit_of T.status) ≡ true) × (pairwise ops_apart T.ops ≡ true) =
    λ T c. and_parts (goes_forward (writes_some T) T.start (commit_of T.status)) (pairwise ops_apart T.ops) (all_at is_sound P.txns T f.0 c) in
    record {
      forward = λ T c a s. ((forward_at (writes_some T) T.start (commit_of T.status)).0 (one T a).0 c s).0;
      apart = λ T c a s w. ((forward_at (writes_some T) T.start (commit_of T.status)).0 (one T a).0 c s).1 ((some_written T).1 w);
      names = names_apart (λ T. T.id) txns_apart (λ A B t. ((apart_by A B).0 t).differ) P.txns g.0;
      stamps = λ A B c a b differ s w. elim (pair_cases P.txns g.0 A B a b) [
        | inl t ↦ absurd (differ (ap (λ U. U.id) t))
        | inr r ↦ elim r [ inl k ↦ k.first c s w | inr k ↦ k.second c s w ]
      ];
      writes = λ A B i j x v a b y z. elim (pair_cases P.txns g.0 A B a b) [
        | inl t ↦ (ap (λ U. U.id) t, own_once A i j x v (one A a).1 y (subst (λ U. WritesPairAt U j x v) (sym t) z))
        | inr r ↦ elim r [ inl k ↦ absurd (k.writes i j x v y z) | inr k ↦ absurd (k.writes j i x v z y) ]
      ];
      keys = names_apart key_in_pair keys_apart (λ p q t. (keys_apart_is p q).0 t) P.initial h.0;
      initial = λ x v T i c a y. (unwritten_is P.txns (x, v)).0 (all_at (is_unwritten P.txns) P.initial (x, v) h.1 c) T i a y;
    }

passed : (P : Present) → IsHistory P → is_consistent P ≡ true
passed P h =
    and_from (list_all is_sound P.txns) _
    (all_from is_sound P.txns (λ T c. and_from (goes_forward (writes_some T) T.start (commit_of T.status)) (pairwise ops_apart T.ops)
    ((forward_at (writes_some T) T.start (commit_of T.status)).1 (λ d e. (h.forward T d c e, λ w. h.apart T d c e ((some_written T).0 w))))
    (apart_from T.ops (λ i j p q l a b. is_not (same_write p q) (λ e.
    let s = same_write_is p q e in
    let w = h.writes T T i j s.0 s.1 c c (a ∙ ap Some s.2) (b ∙ ap Some s.3) in
    let place = w.1 in
    omega arith)))))
    (and_from (pairwise txns_apart P.txns) _
    (pairs_pass (λ T. T.id) txns_apart P.txns (λ A B a b differ. (apart_by A B).1 (record {
      differ = differ;
      first = λ c e w. h.stamps A B c a b differ e w;
      second = λ c e w. h.stamps B A c b a (λ s. differ (sym s)) e w;
      writes = λ i j x v y z. differ (h.writes A B i j x v a b y z).0;
    })) P.txns (λ T c. c) h.names)
    (and_from (pairwise keys_apart P.initial) _
    (pairs_pass key_in_pair keys_apart P.initial (λ p q a b differ. (keys_apart_is p q).1 differ) P.initial (λ p c. c) h.keys)
    (all_from (is_unwritten P.txns) P.initial (λ p c. (unwritten_is P.txns p).1 (λ T i a w. h.initial p.0 p.1 T i c a w)))))

pub history_decided : (P : Present) → (is_consistent P ≡ true) ↔ IsHistory P
history_decided P = (decided P, passed P)
