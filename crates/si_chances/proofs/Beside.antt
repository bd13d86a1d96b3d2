-- How many others are concurrent with a transaction: those that started before its commit, less those that committed by its start, and
-- less itself.
use Rattle.std.proofs.Common.{◌≡◌, ◌≢◌, ℕ, ◌+◌, ◌-◌, ◌<◌, ◌≤◌, Bool, true, false, not, ◌&&◌, cond, List, [], ◌∷◌, ap, refl, sym, subst, ◌∙◌, inl, inr, arith, nat_lt, nat_le}
use Rattle.std.specs.List.{Contains, AllPairs, count_by}
use Rattle.std.proofs.lemmas.Bool.{and_parts, cases_lt, ltb-true, lt-ltb, ltb-false, le-ltb, le-leb, lt-leb}
use Rattle.std.proofs.lemmas.List.Sums.{sum_by-cons}
use Rattle.si_model.specs.declared.numbers.Stamp.{Stamp}
use Rattle.si_model.specs.declared.numbers.Value.{Value}
use Rattle.si_model.specs.declared.transactions.Status.{Status}
use Rattle.si_model.specs.declared.transactions.Status.TheVariants as status
use Rattle.si_model.specs.declared.parts.Access.{Access}
use Rattle.si_model.specs.declared.parts.Access.TheVariants as access
use Rattle.si_model.specs.declared.parts.Part.{Part}
use Rattle.si_model.specs.Versions.{Writes, commit_of}
use Rattle.si_model.specs.History.{IsOfHistory}
use Rattle.si_model.specs.Edits.{same_id}
use Rattle.si_model.specs.Chances.{commits_after, is_committed, is_write_access, runs_beside}
use Rattle.si_model.proofs.Equalities.{same_id_is, same_id_from}
use Rattle.si_lists.proofs.Members.{Contains-nil, Contains-cons_cases, here, there}
use Rattle.si_lists.proofs.Names.{pairs_head, pairs_tail}
use Rattle.si_lists.proofs.Tests.{any_is}
use Rattle.si_chances.specs.Summaries.{write_count}
use Rattle.si_chances.specs.Spans.{CountSpans, below, up_to, installs_at, starts_below, commits_by, committed_by}
use Rattle.si_chances.specs.OnKeys.{on, has_beside}
use Rattle.si_chances.specs.declared.spans.Spans.{Spans}
use Rattle.si_chances.proofs.Walking.{any_counted, any_none}
use Rattle.si_chances.proofs.Sums.{sums_add}

-- who writes at all, writes something
pub written_by : (U : Part) → 0 < write_count U → (v : Value) × Writes U v
written_by U l =
    let f = any_is (λ a. is_write_access a.access) U.accesses (any_counted (λ a. is_write_access a.access) U.accesses ∙ lt-ltb 0 (write_count U) l) in
    (let w = write_of f.0.access f.2 in (w.0, (f.0.place, subst (λ b. Contains U.accesses (record { place = f.0.place; access = b })) w.1 f.1)))
  where
    write_of : (a : Access) → is_write_access a ≡ true → (v : Value) × (a ≡ access.Write v)
    write_of (access.Read v) e = cc
    write_of (access.Write v) e = (v, refl)

-- of those with one id only one is counted
pub count_one : (p : Part → Bool) (T : Part) (parts : List Part) → AllPairs (λ A B. A.id ≢ B.id) parts → Contains parts T → count_by (λ U. p U && same_id U.id T.id) parts ≡ cond (p T) 1 0
count_one p T [] names c = absurd (Contains-nil T c)
count_one p T (U ∷ parts) names c = sum_by-cons (λ V. cond (p V && same_id V.id T.id) 1 0) U parts ∙ elim (Contains-cons_cases U parts T c) [
  | inl s ↦
      (let itself = subst (λ V. (p V && same_id V.id T.id) ≡ p T) (sym s) (ap (λ b. p T && b) (same_id_from T.id T.id refl) ∙ and_true (p T)) in
      let others = none_of p T parts (λ V d. subst (λ W. V.id ≢ W.id) s (λ e. pairs_head (λ A B. A.id ≢ B.id) U parts names V d (sym e))) in
      let here_is = ap {B = ℕ} (λ b. cond b 1 0) itself in
      omega (arith, here_is, others))
  | inr d ↦
      (let differs = pairs_head (λ A B. A.id ≢ B.id) U parts names T d in
      let none = ap {B = ℕ} (λ b. cond b 1 0) (apart (p U) (same_id U.id T.id) (λ e. differs (same_id_is U.id T.id e))) in
      let rest = count_one p T parts (pairs_tail (λ A B. A.id ≢ B.id) U parts names) d in
      omega (arith, none, rest))
]
  where
    and_true : (b : Bool) → (b && true) ≡ b
    and_true true = refl
    and_true false = refl

    apart : (b s : Bool) → (s ≡ true → ⊥) → (b && s) ≡ false
    apart b true never = absurd (never refl)
    apart true false never = refl
    apart false false never = refl

    none_of : (q : Part → Bool) (V : Part) (ps : List Part) → ((W : Part) → Contains ps W → W.id ≢ V.id) → count_by (λ W. q W && same_id W.id V.id) ps ≡ 0
    none_of q V [] differ = refl
    none_of q V (W ∷ ps) differ =
        let head = ap {B = ℕ} (λ b. cond b 1 0) (apart (q W) (same_id W.id V.id) (λ e. differ W (here W ps) (same_id_is W.id V.id e))) in
        let tail = none_of q V ps (λ Y d. differ Y (there W ps Y d)) in
        omega (arith, sum_by-cons (λ Y. cond (q Y && same_id Y.id V.id) 1 0) W ps, head, tail)

-- the others that are concurrent with T, and T itself if it is counted
abbrev pub beside : ℕ → Part → Part → Bool
beside places T U = runs_beside T U && nat_lt places (write_count U)

abbrev pub itself : ℕ → Part → Stamp → Part → Bool
itself places T c U = (installs_at places U && (nat_lt U.start.0 c.0 && commits_after T.start U.status)) && same_id U.id T.id

-- those that started before a commit are those that committed by a start, the others beside and the transaction itself
table : (w l b n : Bool) → (w ≡ true → b ≡ false → l ≡ true) → cond (w && not b) 1 0 + (cond ((not n && (b && l)) && w) 1 0 + cond ((w && (l && b)) && n) 1 0) ≡ cond (w && l) 1 0
table true true true true h = refl
table true true true false h = refl
table true true false true h = refl
table true true false false h = refl
table true false true true h = refl
table true false true false h = refl
table true false false n h = absurd (let e = h refl refl in cc)
table false true true true h = refl
table false true true false h = refl
table false true false true h = refl
table false true false false h = refl
table false false true true h = refl
table false false true false h = refl
table false false false true h = refl
table false false false false h = refl

not_after : (m n : ℕ) → nat_le m n ≡ not (nat_lt n m)
not_after m n = elim (cases_lt n m) [ inl l ↦ lt-leb m n l ∙ ap not (sym (lt-ltb n m l)) | inr l ↦ le-leb m n l ∙ ap not (sym (le-ltb n m l)) ]

pub one_beside : (parts : List Part) (places : ℕ) (T : Part) (c : Stamp) (U : Part) → IsOfHistory (on parts) → Contains parts T → T.status ≡ status.Committed c → Contains parts U
    → cond (commits_by places T.start.0 U) 1 0 + (cond (beside places T U) 1 0 + cond (itself places T c U) 1 0) ≡ cond (starts_below places c.0 U) 1 0
one_beside parts places T c U h t e u =
    ap (λ s. cond (commits_by places T.start.0 U) 1 0 + (cond ((not (same_id U.id T.id) && (commits_after T.start U.status && commits_after U.start s)) && nat_lt places (write_count U)) 1 0 + cond (itself places T c U) 1 0)) e
    ∙ by_status U.status refl
  where
    forward : T.start.0 ≤ c.0
    forward = h.forward T c t (ap commit_of e)

    none : (n w : Bool) → 0 + (cond ((n && false) && w) 1 0 + 0) ≡ 0
    none true w = refl
    none false w = refl

    by_status : (s : Status) → U.status ≡ s
        → cond ((is_committed s && nat_lt places (write_count U)) && committed_by T.start.0 s) 1 0
        + (cond ((not (same_id U.id T.id) && (commits_after T.start s && nat_lt U.start.0 c.0)) && nat_lt places (write_count U)) 1 0
        + cond (((is_committed s && nat_lt places (write_count U)) && (nat_lt U.start.0 c.0 && commits_after T.start s)) && same_id U.id T.id) 1 0)
        ≡ cond ((is_committed s && nat_lt places (write_count U)) && nat_lt U.start.0 c.0) 1 0
    by_status (status.Committed d) is =
        ap (λ b. cond (nat_lt places (write_count U) && b) 1 0
        + (cond ((not (same_id U.id T.id) && (nat_lt T.start.0 d.0 && nat_lt U.start.0 c.0)) && nat_lt places (write_count U)) 1 0
        + cond ((nat_lt places (write_count U) && (nat_lt U.start.0 c.0 && nat_lt T.start.0 d.0)) && same_id U.id T.id) 1 0)) (not_after d.0 T.start.0)
        ∙ table (nat_lt places (write_count U)) (nat_lt U.start.0 c.0) (nat_lt T.start.0 d.0) (same_id U.id T.id) (λ w b.
        (let more = ltb-true places (write_count U) w in
        let v = written_by U (omega arith) in
        let before = h.apart U d v.0 u (ap commit_of is) v.1 in
        let by = ltb-false T.start.0 d.0 b in
        lt-ltb U.start.0 c.0 (omega (arith, forward))))
    by_status status.Aborted is = none (not (same_id U.id T.id)) (nat_lt places (write_count U))
    by_status status.InDoubt is = none (not (same_id U.id T.id)) (nat_lt places (write_count U))

-- the number tells whether there is another one
pub beside_is : (parts : List Part) (places : ℕ) (T : Part) (c : Stamp) (s : Spans) → IsOfHistory (on parts) → Contains parts T → T.status ≡ status.Committed c → CountSpans places parts s
    → nat_lt (cond (nat_lt places (write_count T)) 1 0) (below s.starts.items c.0 - up_to s.commits.items T.start.0) ≡ has_beside places parts T
beside_is parts places T c s h t e k =
    let total = sums_add (λ U. cond (commits_by places T.start.0 U) 1 0) (λ U. cond (beside places T U) 1 0 + cond (itself places T c U) 1 0) (λ U. cond (starts_below places c.0 U) 1 0) parts
    (λ U u. one_beside parts places T c U h t e u) in
    let both = sums_add (λ U. cond (beside places T U) 1 0) (λ U. cond (itself places T c U) 1 0) (λ U. cond (beside places T U) 1 0 + cond (itself places T c U) 1 0) parts (λ U u. refl) in
    let own = count_one (λ U. installs_at places U && (nat_lt U.start.0 c.0 && commits_after T.start U.status)) T parts h.names t ∙ ap {B = ℕ} (λ b. cond b 1 0) is_itself in
    let starts = k.starts c.0 in
    let commits = k.commits T.start.0 in
    let less : below s.starts.items c.0 - up_to s.commits.items T.start.0 ≡ count_by (beside places T) parts + cond (nat_lt places (write_count T)) 1 0 = omega (arith, total, both, own, starts, commits) in
    ap (nat_lt (cond (nat_lt places (write_count T)) 1 0)) less ∙ past (cond (nat_lt places (write_count T)) 1 0) (count_by (beside places T) parts) ∙ sym (any_counted (beside places T) parts)
  where
    past : (n m : ℕ) → nat_lt n (m + n) ≡ nat_lt 0 m
    past n m = elim (cases_lt 0 m) [ inl l ↦ lt-ltb n (m + n) (omega arith) ∙ sym (lt-ltb 0 m l) | inr l ↦ le-ltb n (m + n) (omega arith) ∙ sym (le-ltb 0 m l) ]

    inside : (w : Bool) → nat_lt places (write_count T) ≡ w → (w && (nat_lt T.start.0 c.0 && nat_lt T.start.0 c.0)) ≡ w
    inside false f = refl
    inside true f =
        let v = written_by T (let more = ltb-true places (write_count T) f in omega arith) in
        ap (λ b. b && b) (lt-ltb T.start.0 c.0 (h.apart T c v.0 t (ap commit_of e) v.1))

    is_itself : (installs_at places T && (nat_lt T.start.0 c.0 && commits_after T.start T.status)) ≡ nat_lt places (write_count T)
    is_itself = ap (λ x. (is_committed x && nat_lt places (write_count T)) && (nat_lt T.start.0 c.0 && commits_after T.start x)) e ∙ inside (nat_lt places (write_count T)) refl

-- beside one that didn't commit is none
pub none_beside : (parts : List Part) (places : ℕ) (T : Part) → ((s : Stamp) → commits_after s T.status ≡ false) → has_beside places parts T ≡ false
none_beside parts places T never = any_none (beside places T) parts (λ U u e.
    (let runs = and_parts (runs_beside T U) (nat_lt places (write_count U)) e in
    let times = and_parts (not (same_id U.id T.id)) (commits_after T.start U.status && commits_after U.start T.status) runs.0 in
    let no_commit = never U.start in
    let commit = (and_parts (commits_after T.start U.status) (commits_after U.start T.status) times.1).1 in cc))

-- the same of numbers that are those
pub beside_number : (parts : List Part) (places : ℕ) (T : Part) (c : Stamp) (s : Spans) (w n m : ℕ) → IsOfHistory (on parts) → Contains parts T → T.status ≡ status.Committed c → CountSpans places parts s
    → w ≡ write_count T → n ≡ cond (nat_lt places w) 1 0 → m ≡ below s.starts.items c.0 - up_to s.commits.items T.start.0 → nat_lt n m ≡ has_beside places parts T
beside_number parts places T c s w n m h t e k wrote is less =
    ap (λ x. nat_lt x m) (is ∙ ap (λ x. cond (nat_lt places x) 1 0) wrote) ∙ ap (nat_lt (cond (nat_lt places (write_count T)) 1 0)) less ∙ beside_is parts places T c s h t e k
