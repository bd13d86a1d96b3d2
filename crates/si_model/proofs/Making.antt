-- A history is made out of nothing by its set-ups and then its arrivals.
use Rattle.std.proofs.Common.{◌≡◌, ℕ, List, [], ◌∷◌, ◌++◌, map, sym, ap, subst, ◌∙◌, append_assoc, append-nil}
use Rattle.std.specs.List.{Contains, AllPairs}
use Rattle.std.proofs.lemmas.List.Elements.{Contains-append_left}
use Rattle.si_model.specs.declared.numbers.Value.{Value}
use Rattle.si_model.specs.declared.transactions.Txn.{Txn}
use Rattle.si_model.specs.declared.edits.Edit.{Edit}
use Rattle.si_model.specs.declared.edits.Edit.TheVariants as edit
use Rattle.si_model.specs.Parts.{Present}
use Rattle.si_model.specs.History.{IsHistory}
use Rattle.si_model.specs.Edits.{IsAcceptable, after, AsksRightly}
use Rattle.si_model.specs.Journals.{nothing, present, IsAccepted}
use Rattle.si_model.specs.Horizons.{making}
use Rattle.si_model.specs.HorizonLaws.{HistoriesAreMade}
use Rattle.si_lists.proofs.Names.{Differ, pairs_nil, pairs_cons, pairs_head, pairs_tail, pairs_last}
use Rattle.si_model.proofs.Histories.{key_in_pair}
use Rattle.si_model.proofs.Acceptance.{present_push, accepted_push}
use Rattle.si_model.proofs.PresentHistories.{acceptance_exact, nothing_present, none_accepted}

-- a part of a list has what holds of each two
pairs_part : {X : Type 0} (R : X → X → Type 0) (xs ys : List X) → AllPairs R (xs ++ ys) → AllPairs R xs
pairs_part R [] ys a = pairs_nil R
pairs_part R (x ∷ xs) ys a = pairs_cons R x xs (λ y c. pairs_head R x (xs ++ ys) a y (Contains-append_left xs ys y c)) (pairs_part R xs ys (pairs_tail R x (xs ++ ys) a))

-- fewer transactions are a history too
fewer_txns : (Q : Present) (xs ys : List Txn) → IsHistory (record Q { txns = xs ++ ys }) → IsHistory (record Q { txns = xs })
fewer_txns Q xs ys h = record {
  forward = λ T c a e. h.forward T c (more T a) e;
  apart = λ T c a e w. h.apart T c (more T a) e w;
  names = pairs_part (Differ (λ T. T.id)) xs ys h.names;
  stamps = λ A B c a b differ e w. h.stamps A B c (more A a) (more B b) differ e w;
  writes = λ A B i j x v a b s t. h.writes A B i j x v (more A a) (more B b) s t;
  keys = h.keys;
  initial = λ x v T i c a w. h.initial x v T i c (more T a) w;
}
  where
    more : (T : Txn) → Contains xs T → Contains (xs ++ ys) T
    more T c = Contains-append_left xs ys T c

-- and fewer set-ups
fewer_initial : (Q : Present) (xs ys : List (List ℕ × Value)) → IsHistory (record Q { initial = xs ++ ys }) → IsHistory (record Q { initial = xs })
fewer_initial Q xs ys h = record {
  forward = h.forward;
  apart = h.apart;
  names = h.names;
  stamps = h.stamps;
  writes = h.writes;
  keys = pairs_part (Differ key_in_pair) xs ys h.keys;
  initial = λ x v T i c a w. h.initial x v T i (Contains-append_left xs ys (x, v) c) a w;
}

-- a journal that is accepted and leaves P
record Makes (J : List Edit) (P : Present) : Type 0 where
  accepted : IsAccepted J
  leaves : present J ≡ P

-- one more edit
made_push : (J : List Edit) (P : Present) (e : Edit) → Makes J P → IsHistory P → AsksRightly P e → IsHistory (after e P) → Makes (J ++ e ∷ []) (after e P)
made_push J P e m h asks later = record {
  accepted = (accepted_push J e).1 (m.accepted, subst (λ R. IsAcceptable R e) (sym m.leaves) ((acceptance_exact P e h).1 (asks, later)));
  leaves = present_push J e ∙ ap (after e) m.leaves;
}

arrive_all : (J : List Edit) (P : Present) (rest : List Txn) → Makes J P → IsHistory (record P { txns = P.txns ++ rest }) → Makes (J ++ map edit.Arrive rest) (record P { txns = P.txns ++ rest })
unfolding after
arrive_all J P [] m h = subst (λ K. Makes K (record P { txns = P.txns ++ [] })) (sym (append-nil J)) (subst (λ ts. Makes J (record P { txns = ts })) (sym (append-nil P.txns)) m)
arrive_all J P (T ∷ rest) m h =
    let R : Present = record P { txns = P.txns ++ T ∷ [] } in
    let regroup : (P.txns ++ T ∷ []) ++ rest ≡ P.txns ++ T ∷ rest = append_assoc P.txns (T ∷ []) rest in
    let all : IsHistory (record R { txns = (P.txns ++ T ∷ []) ++ rest }) = subst (λ ts. IsHistory (record P { txns = ts })) (sym regroup) h in
    let later : IsHistory R = fewer_txns R (P.txns ++ T ∷ []) rest all in
    let now : IsHistory P = fewer_txns P P.txns (T ∷ []) later in
    let one = made_push J P (edit.Arrive T) m now (λ U c. pairs_last (Differ (λ V. V.id)) P.txns T U later.names c) later in
    let whole = arrive_all (J ++ edit.Arrive T ∷ []) R rest one all in
    subst (λ ts. Makes (J ++ edit.Arrive T ∷ map edit.Arrive rest) (record P { txns = ts })) regroup
    (subst (λ K. Makes K (record P { txns = (P.txns ++ T ∷ []) ++ rest })) (append_assoc J (edit.Arrive T ∷ []) (map edit.Arrive rest)) whole)

abbrev set_up : List ℕ × Value → Edit
set_up p = edit.SetUp p.0 p.1

set_up_all : (J : List Edit) (P : Present) (rest : List (List ℕ × Value)) → Makes J P → IsHistory (record P { initial = P.initial ++ rest }) → Makes (J ++ map set_up rest) (record P { initial = P.initial ++ rest })
unfolding after
set_up_all J P [] m h = subst (λ K. Makes K (record P { initial = P.initial ++ [] })) (sym (append-nil J)) (subst (λ ps. Makes J (record P { initial = ps })) (sym (append-nil P.initial)) m)
set_up_all J P (p ∷ rest) m h =
    let R : Present = record P { initial = P.initial ++ p ∷ [] } in
    let regroup : (P.initial ++ p ∷ []) ++ rest ≡ P.initial ++ p ∷ rest = append_assoc P.initial (p ∷ []) rest in
    let all : IsHistory (record R { initial = (P.initial ++ p ∷ []) ++ rest }) = subst (λ ps. IsHistory (record P { initial = ps })) (sym regroup) h in
    let later : IsHistory R = fewer_initial R (P.initial ++ p ∷ []) rest all in
    let now : IsHistory P = fewer_initial P P.initial (p ∷ []) later in
    let one = made_push J P (set_up p) m now tt later in
    let whole = set_up_all (J ++ set_up p ∷ []) R rest one all in
    subst (λ ps. Makes (J ++ set_up p ∷ map set_up rest) (record P { initial = ps })) regroup
    (subst (λ K. Makes K (record P { initial = (P.initial ++ p ∷ []) ++ rest })) (append_assoc J (set_up p ∷ []) (map set_up rest)) whole)

pub made : HistoriesAreMade
unfolding making
made Q h =
    let start : Makes [] nothing = record { accepted = none_accepted; leaves = nothing_present } in
    let set = set_up_all [] nothing Q.initial start (fewer_txns Q [] Q.txns h) in
    let all = arrive_all (map set_up Q.initial) (record nothing { initial = Q.initial }) Q.txns set h in
    (all.accepted, all.leaves)
