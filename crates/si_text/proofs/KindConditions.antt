-- An object is read as the edit of its kind, or ends with the fault of least number.
use Rattle.std.proofs.Common.{◌≡◌, ◌<◌, ◌+◌, ℕ, List, length, codes, true, false, nat_lt, Option, Some, None, option_and_then, Result, Ok, Err, refl, sym, ap, subst, ◌∙◌, arith, inl, inr, ◌⊎◌}
use Rattle.std.specs.Str.{bytes_eq}
use Rattle.std.proofs.lemmas.Bool.{ltb-true, ltb-false}
use Rattle.std.proofs.lemmas.Slice.Eq.{bytes_eq-Decides}
use Rattle.serde_json.specs.Data.{Data, Items}
use Rattle.serde_json.specs.Find.{get, as_str, as_array}
use Rattle.si_model.specs.declared.edits.Edit.{Edit}
use Rattle.si_model.specs.declared.operations.Op.{Op}
use Rattle.si_model.specs.declared.operations.TheConstants.{MOST_OPS}
use Rattle.si_model.specs.declared.transactions.Outcome.{Outcome}
use Rattle.si_model.specs.declared.transactions.Status.{Status}
use Rattle.si_model.specs.declared.transactions.Status.TheVariants.{Committed, Aborted, InDoubt}
use Rattle.si_text.specs.Conditions.{Not, HasText, HasArray, IsOf, IsLacking, IsOutcomeWord, IsStatusWord, HasBadStatus, IsFirstNoOp, Applies, IsLeastFault}
use Rattle.si_text.specs.Lines.{◌>>=◌, or_fault, value_of, list_of, number_at, text_at, status_named, status_at, outcome_of, ops_in, ops_from, number_in, key_in, arrival_of, resolution_of, withdrawal_of, set_up_of}
use Rattle.si_text.specs.declared.faults.Field.TheVariants as fields
use Rattle.si_text.specs.declared.faults.LineFault.{LineFault}
use Rattle.si_text.specs.declared.faults.LineFault.TheVariants.{BadField, BadStatus, TooManyOps, BadOp}
use Rattle.si_text.proofs.StepwiseLines.{step, choice, some_same, number_back, no_number, text_back, no_text, array_back, no_array, key_back, no_key}
use Rattle.si_text.proofs.OpConditions.{OpsRight, ops_right}
use Rattle.si_text.proofs.Ruled.{NoneBelow, lacks_none, has_status, few_ops, has_ops, has_none, NoLackBelow, no_lack_yet, no_lack_past, no_lack, lacking}

-- what a line is read as is right
abbrev pub Right : List ℕ → Result Edit LineFault → Type 0
Right line (Ok edit) = (fault : LineFault) → Not (Applies line fault)
Right line (Err fault) = IsLeastFault line fault

-- ---- words that differ

pub same_text : (d : Data) (name a b : List ℕ) → HasText d name a → HasText d name b → a ≡ b
same_text d name a b p q = some_same a b (ap (option_and_then as_str) (sym p ∙ q))

pub apart_words : (a b : List ℕ) → bytes_eq a b ≡ false → a ≡ b → ⊥
apart_words a b differ same = let equal : bytes_eq a b ≡ true = (bytes_eq-Decides a b).1 same in cc

pub apart : (d : Data) (name a b : List ℕ) → bytes_eq a b ≡ false → HasText d name a → HasText d name b → ⊥
apart d name a b differ p q = apart_words a b differ (same_text d name a b p q)

-- of a kind that has no status
no_status : (d : Data) (kind : List ℕ) → bytes_eq kind (codes "txn") ≡ false → bytes_eq kind (codes "resolve") ≡ false → IsOf d kind → IsOf d (codes "txn") ⊎ IsOf d (codes "resolve") → ⊥
no_status d kind t r is (inl h) = apart d (codes "do") kind (codes "txn") t is h
no_status d kind t r is (inr h) = apart d (codes "do") kind (codes "resolve") r is h

-- ---- statuses

-- what a word says
Told : List ℕ → Option Status → Type 0
Told word None = Not (IsStatusWord word)
Told word (Some (Committed commit)) = word ≡ codes "committed"
Told word (Some Aborted) = word ≡ codes "aborted"
Told word (Some InDoubt) = word ≡ codes "indoubt"

told_none : (word : List ℕ) (named : Option Status) → Told word named → named ≡ None → Not (IsStatusWord word)
unfolding Told
told_none word None told e = told
told_none word (Some status) told e = cc

told_some : (word : List ℕ) (named : Option Status) (status : Status) → Told word named → named ≡ Some status → IsStatusWord word
unfolding Told
told_some word None status told e = cc
told_some word (Some (Committed commit)) status told e = inl (inl told)
told_some word (Some Aborted) status told e = inl (inr told)
told_some word (Some InDoubt) status told e = inr told

in_doubt : (word : List ℕ) → word ≡ codes "indoubt" → IsOutcomeWord word → ⊥
in_doubt word is (inl h) = apart_words (codes "indoubt") (codes "committed") refl (sym is ∙ h)
in_doubt word is (inr h) = apart_words (codes "indoubt") (codes "aborted") refl (sym is ∙ h)

no_outcome : (word : List ℕ) (named : Option Status) → Told word named → option_and_then outcome_of named ≡ None → Not (IsOutcomeWord word)
unfolding Told
no_outcome word None told e = λ h. told (inl h)
no_outcome word (Some (Committed commit)) told e = cc
no_outcome word (Some Aborted) told e = cc
no_outcome word (Some InDoubt) told e = in_doubt word told

an_outcome : (word : List ℕ) (named : Option Status) (outcome : Outcome) → Told word named → option_and_then outcome_of named ≡ Some outcome → IsOutcomeWord word
unfolding Told
an_outcome word None outcome told e = cc
an_outcome word (Some (Committed commit)) outcome told e = inl told
an_outcome word (Some Aborted) outcome told e = inr told
an_outcome word (Some InDoubt) outcome told e = cc

no_word : (word : List ℕ) → bytes_eq word (codes "committed") ≡ false → bytes_eq word (codes "aborted") ≡ false → bytes_eq word (codes "indoubt") ≡ false → IsStatusWord word → ⊥
no_word word c a i (inl (inl h)) = apart_words word (codes "committed") c h
no_word word c a i (inl (inr h)) = apart_words word (codes "aborted") a h
no_word word c a i (inr h) = apart_words word (codes "indoubt") i h

not_asked : (d : Data) (word : List ℕ) → HasText d (codes "status") word → bytes_eq word (codes "committed") ≡ false → IsLacking d fields.Commit → ⊥
not_asked d word is differ lacks = apart d (codes "status") word (codes "committed") differ is lacks.0.1

status_right : (P : Result Edit LineFault → Type 0) (d : Data) (next : Option Status → Result Edit LineFault)
    → (option_and_then as_str (get (codes "status") d) ≡ None → P (Err (BadField fields.Status)))
    → (HasText d (codes "status") (codes "committed") → option_and_then number_in (get (codes "commit") d) ≡ None → P (Err (BadField fields.Commit)))
    → ((word : List ℕ) (named : Option Status) → HasText d (codes "status") word → Told word named → Not (IsLacking d fields.Commit) → P (next named))
    → P (status_at d >>= next)
unfolding status_at text_at status_named number_at Told
status_right P d next none bare found =
    step (λ r. P (r >>= next)) (BadField fields.Status) (option_and_then as_str (get (codes "status") d)) (λ word. status_named word d) none (λ word is.
    let there = text_back (get (codes "status") d) word is in
    choice (λ r. P (r >>= next)) (bytes_eq word (codes "committed")) _ _
    (λ yes.
    let same = (bytes_eq-Decides word (codes "committed")).0 yes in
    step (λ r. P (r >>= next)) (BadField fields.Commit) (option_and_then number_in (get (codes "commit") d)) _
    (λ bad. bare (subst (HasText d (codes "status")) same there) bad)
    (λ commit at. found word (Some (Committed (record { 0 = commit }))) there same (λ lacks. lacks.1 (commit, number_back (get (codes "commit") d) commit at))))
    (λ c. choice (λ r. P (r >>= next)) (bytes_eq word (codes "aborted")) _ _
    (λ yes. found word (Some Aborted) there ((bytes_eq-Decides word (codes "aborted")).0 yes) (not_asked d word there c))
    (λ a. choice (λ r. P (r >>= next)) (bytes_eq word (codes "indoubt")) _ _
    (λ yes. found word (Some InDoubt) there ((bytes_eq-Decides word (codes "indoubt")).0 yes) (not_asked d word there c))
    (λ i. found word None there (no_word word c a i) (not_asked d word there c)))))

-- ---- a transaction that arrives

bad_status : (d : Data) (word : List ℕ) → IsOf d (codes "txn") → HasText d (codes "status") word → IsStatusWord word → Not (HasBadStatus d)
bad_status d word kind is good (other, at, inl h) = h.1 (subst IsStatusWord (same_text d (codes "status") word other is at) good)
bad_status d word kind is good (other, at, inr h) = apart d (codes "do") (codes "txn") (codes "resolve") refl kind h.0

pub same_items : (d : Data) (a b : Items) → HasArray d (codes "ops") a → HasArray d (codes "ops") b → a ≡ b
same_items d a b p q = some_same a b (ap (option_and_then as_array) (sym p ∙ q))

ops_done : (line : List ℕ) (d : Data) (items : Items) (next : List Op → Edit) → value_of line ≡ Some d → IsOf d (codes "txn") → HasArray d (codes "ops") items → NoneBelow 8 line
    → (r : Result (List Op) LineFault) → OpsRight 0 items r → Right line (r >>= (λ ops. Ok (next ops)))
unfolding OpsRight
ops_done line d items next is kind at below (Err fault) h =
    let zero_less : 0 + h.0 ≡ h.0 = omega arith in
    let here : fault ≡ BadOp h.0 = h.1 ∙ ap (λ i. BadOp i) zero_less in
    subst (λ f. Right line (Err f)) (sym here) ((d, is, (items, (kind, at), h.2)), below)
ops_done line d items next is kind at below (Ok ops) all =
    has_none line (has_ops line d is below (λ index bad.
    let same = same_items d bad.0 items bad.1.1 at in
    let first = subst (λ v. IsFirstNoOp v index) same bad.2 in
    let op = all index first.0.0 first.0.1 in
    first.0.2 op.0 op.1))

arrival_rest : (line : List ℕ) (d : Data) (word : List ℕ) (named : Option Status) (next : Status → List Op → Edit) → value_of line ≡ Some d → NoneBelow 5 line → IsOf d (codes "txn") → NoLackBelow 4 d
    → HasText d (codes "status") word → Told word named
    → Right line (or_fault (BadField fields.Ops) (option_and_then as_array (get (codes "ops") d)) >>= (λ items. or_fault BadStatus named >>= (λ status. ops_in (list_of items) >>= (λ ops. Ok (next status ops)))))
unfolding ops_in
arrival_rest line d word named next is below kind before at told =
    step (Right line) (BadField fields.Ops) (option_and_then as_array (get (codes "ops") d)) _
    (λ none. lacking line d fields.Ops is below before (kind, no_array (get (codes "ops") d) none))
    (λ items items_is.
    let there = array_back (get (codes "ops") d) items items_is in
    let five = no_lack_past d fields.Ops before (λ lacks. lacks.1 (items, there)) in
    let six = no_lack_past d fields.Key five (λ lacks. apart d (codes "do") (codes "txn") (codes "setup") refl kind lacks.0) in
    let all = no_lack_past d fields.Value six (λ lacks. apart d (codes "do") (codes "txn") (codes "setup") refl kind lacks.0) in
    let below6 = lacks_none line d is below (no_lack d all) in
    step (Right line) BadStatus named _
    (λ none. ((d, is, (word, at, inl (kind, told_none word named told none))), below6))
    (λ status status_is.
    let below7 = has_status line d is below6 (bad_status d word kind at (told_some word named status told status_is)) in
    choice (λ r. Right line (r >>= (λ ops. Ok (next status ops)))) (nat_lt MOST_OPS (length (list_of items))) (Err TooManyOps) (ops_from 0 (list_of items))
    (λ yes. ((d, is, (items, (kind, there), ltb-true MOST_OPS (length (list_of items)) yes)), below7))
    (λ few.
    let below8 = few_ops line d is below7 (λ bad.
    let within = ltb-false MOST_OPS (length (list_of items)) few in
    let more = subst (λ v. MOST_OPS < length (list_of v)) (same_items d bad.0 items bad.1.1 there) bad.2 in
    omega (arith, within, more)) in
    ops_done line d items (next status) is kind there below8 (ops_from 0 (list_of items)) (ops_right 0 items))))

pub arrival_right : (line : List ℕ) (d : Data) → value_of line ≡ Some d → NoneBelow 5 line → IsOf d (codes "txn") → Right line (arrival_of d)
unfolding arrival_of number_at
arrival_right line d is below kind =
    step (Right line) (BadField fields.Id) (option_and_then number_in (get (codes "id") d)) _
    (λ none. lacking line d fields.Id is below (no_lack_yet d) (inl kind, no_number (get (codes "id") d) none))
    (λ id id_is.
    let one = no_lack_past d fields.Id (no_lack_yet d) (λ lacks. lacks.1 (id, number_back (get (codes "id") d) id id_is)) in
    step (Right line) (BadField fields.Start) (option_and_then number_in (get (codes "start") d)) _
    (λ none. lacking line d fields.Start is below one (kind, no_number (get (codes "start") d) none))
    (λ start start_is.
    let two = no_lack_past d fields.Start one (λ lacks. lacks.1 (start, number_back (get (codes "start") d) start start_is)) in
    status_right (Right line) d _
    (λ none. lacking line d fields.Status is below two (inl kind, no_text (get (codes "status") d) none))
    (λ at none. lacking line d fields.Commit is below (no_lack_past d fields.Status two (λ lacks. lacks.1 (codes "committed", at))) ((inl kind, at), no_number (get (codes "commit") d) none))
    (λ word named at told commit.
    arrival_rest line d word named _ is below kind (no_lack_past d fields.Commit (no_lack_past d fields.Status two (λ lacks. lacks.1 (word, at))) commit) at told)))

-- ---- the other kinds

-- a line of another kind has no fault of operations
no_ops : (line : List ℕ) (d : Data) (kind : List ℕ) → value_of line ≡ Some d → bytes_eq kind (codes "txn") ≡ false → IsOf d kind → NoneBelow 7 line → (fault : LineFault) → Not (Applies line fault)
no_ops line d kind is differ of below =
    has_none line (has_ops line d is (few_ops line d is below (λ bad. apart d (codes "do") kind (codes "txn") differ of bad.1.0)) (λ index bad. apart d (codes "do") kind (codes "txn") differ of bad.1.0))

-- what isn't asked of a resolution
resolution_all : (d : Data) → IsOf d (codes "resolve") → NoLackBelow 4 d → NoLackBelow 7 d
resolution_all d kind before =
    let five = no_lack_past d fields.Ops before (λ lacks. apart d (codes "do") (codes "resolve") (codes "txn") refl kind lacks.0) in
    let six = no_lack_past d fields.Key five (λ lacks. apart d (codes "do") (codes "resolve") (codes "setup") refl kind lacks.0) in
    no_lack_past d fields.Value six (λ lacks. apart d (codes "do") (codes "resolve") (codes "setup") refl kind lacks.0)

bad_outcome : (d : Data) (word : List ℕ) → IsOf d (codes "resolve") → HasText d (codes "status") word → IsOutcomeWord word → Not (HasBadStatus d)
bad_outcome d word kind is good (other, at, inl h) = apart d (codes "do") (codes "resolve") (codes "txn") refl kind h.0
bad_outcome d word kind is good (other, at, inr h) = h.1 (subst IsOutcomeWord (same_text d (codes "status") word other is at) good)

pub resolution_right : (line : List ℕ) (d : Data) → value_of line ≡ Some d → NoneBelow 5 line → IsOf d (codes "resolve") → Right line (resolution_of d)
unfolding resolution_of number_at
resolution_right line d is below kind =
    step (Right line) (BadField fields.Id) (option_and_then number_in (get (codes "id") d)) _
    (λ none. lacking line d fields.Id is below (no_lack_yet d) (inr (inl kind), no_number (get (codes "id") d) none))
    (λ id id_is.
    let one = no_lack_past d fields.Id (no_lack_yet d) (λ lacks. lacks.1 (id, number_back (get (codes "id") d) id id_is)) in
    let two = no_lack_past d fields.Start one (λ lacks. apart d (codes "do") (codes "resolve") (codes "txn") refl kind lacks.0) in
    status_right (Right line) d _
    (λ none. lacking line d fields.Status is below two (inr kind, no_text (get (codes "status") d) none))
    (λ at none. lacking line d fields.Commit is below (no_lack_past d fields.Status two (λ lacks. lacks.1 (codes "committed", at))) ((inr kind, at), no_number (get (codes "commit") d) none))
    (λ word named at told commit.
    let four = no_lack_past d fields.Commit (no_lack_past d fields.Status two (λ lacks. lacks.1 (word, at))) commit in
    let below6 = lacks_none line d is below (no_lack d (resolution_all d kind four)) in
    step (Right line) BadStatus (option_and_then outcome_of named) _
    (λ none. ((d, is, (word, at, inr (kind, no_outcome word named told none))), below6))
    (λ outcome outcome_is.
    no_ops line d (codes "resolve") is refl kind (has_status line d is below6 (bad_outcome d word kind at (an_outcome word named outcome told outcome_is))))))

-- a kind that has no status has no bad one
quiet : (d : Data) (kind : List ℕ) → bytes_eq kind (codes "txn") ≡ false → bytes_eq kind (codes "resolve") ≡ false → IsOf d kind → Not (HasBadStatus d)
quiet d kind t r of (other, at, inl h) = apart d (codes "do") kind (codes "txn") t of h.0
quiet d kind t r of (other, at, inr h) = apart d (codes "do") kind (codes "resolve") r of h.0

-- what isn't asked of a withdrawal or a set-up
middle : (d : Data) (kind : List ℕ) → bytes_eq kind (codes "txn") ≡ false → bytes_eq kind (codes "resolve") ≡ false → IsOf d kind → NoLackBelow 1 d → NoLackBelow 5 d
middle d kind t r of one =
    let two = no_lack_past d fields.Start one (λ lacks. apart d (codes "do") kind (codes "txn") t of lacks.0) in
    let three = no_lack_past d fields.Status two (λ lacks. no_status d kind t r of lacks.0) in
    let four = no_lack_past d fields.Commit three (λ lacks. no_status d kind t r of lacks.0.0) in
    no_lack_past d fields.Ops four (λ lacks. apart d (codes "do") kind (codes "txn") t of lacks.0)

pub withdrawal_right : (line : List ℕ) (d : Data) → value_of line ≡ Some d → NoneBelow 5 line → IsOf d (codes "withdraw") → Right line (withdrawal_of d)
unfolding withdrawal_of number_at
withdrawal_right line d is below kind =
    step (Right line) (BadField fields.Id) (option_and_then number_in (get (codes "id") d)) _
    (λ none. lacking line d fields.Id is below (no_lack_yet d) (inr (inr kind), no_number (get (codes "id") d) none))
    (λ id id_is.
    let one = no_lack_past d fields.Id (no_lack_yet d) (λ lacks. lacks.1 (id, number_back (get (codes "id") d) id id_is)) in
    let five = middle d (codes "withdraw") refl refl kind one in
    let six = no_lack_past d fields.Key five (λ lacks. apart d (codes "do") (codes "withdraw") (codes "setup") refl kind lacks.0) in
    let all = no_lack_past d fields.Value six (λ lacks. apart d (codes "do") (codes "withdraw") (codes "setup") refl kind lacks.0) in
    no_ops line d (codes "withdraw") is refl kind (has_status line d is (lacks_none line d is below (no_lack d all)) (quiet d (codes "withdraw") refl refl kind)))

no_id : (d : Data) → IsOf d (codes "setup") → IsOf d (codes "txn") ⊎ (IsOf d (codes "resolve") ⊎ IsOf d (codes "withdraw")) → ⊥
no_id d kind (inl h) = apart d (codes "do") (codes "setup") (codes "txn") refl kind h
no_id d kind (inr (inl h)) = apart d (codes "do") (codes "setup") (codes "resolve") refl kind h
no_id d kind (inr (inr h)) = apart d (codes "do") (codes "setup") (codes "withdraw") refl kind h

pub set_up_right : (line : List ℕ) (d : Data) → value_of line ≡ Some d → NoneBelow 5 line → IsOf d (codes "setup") → Right line (set_up_of d)
unfolding set_up_of number_at
set_up_right line d is below kind =
    let five = middle d (codes "setup") refl refl kind (no_lack_past d fields.Id (no_lack_yet d) (λ lacks. no_id d kind lacks.0)) in
    step (Right line) (BadField fields.Key) (option_and_then key_in (get (codes "key") d)) _
    (λ none. lacking line d fields.Key is below five (kind, λ has. no_key (get (codes "key") d) has.0 has.1 none has.2))
    (λ key key_is.
    let there = key_back (get (codes "key") d) key key_is in
    let six = no_lack_past d fields.Key five (λ lacks. lacks.1 (key, there.1, there.0)) in
    step (Right line) (BadField fields.Value) (option_and_then number_in (get (codes "value") d)) _
    (λ none. lacking line d fields.Value is below six (kind, no_number (get (codes "value") d) none))
    (λ value value_is.
    let all = no_lack_past d fields.Value six (λ lacks. lacks.1 (value, number_back (get (codes "value") d) value value_is)) in
    no_ops line d (codes "setup") is refl kind (has_status line d is (lacks_none line d is below (no_lack d all)) (quiet d (codes "setup") refl refl kind))))
