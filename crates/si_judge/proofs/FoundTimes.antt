-- How often a kind is found by what is kept of a key is how often it is among the findings there.
use Rattle.std.proofs.Common.{◌≡◌, ◌∙◌, inl, inr, ℕ, zero, suc, ◌<◌, ◌≤◌, Bool, true, false, cond, List, [], ◌∷◌, ◌++◌, Some, Option, IfSome, Ordering, refl, sym, ap, subst, arith, count_by, true≢false, rules}
use Rattle.std.specs.Cmp.{IsEquivalence, IsTotalOrder, eq_by_cmp_equiv}
use Rattle.std.specs.Cmp.Rules.{comparing}
use Rattle.std.specs.List.{Contains}
use Rattle.std.specs.List.Sorted.{IsStrictlySortedBy}
use Rattle.std.specs.Map.{keys_of, values_of}
use Rattle.std.specs.Ordering.{eq_by_cmp, is_eq}
use Rattle.std.specs.declared.cmp.Ordering.TheVariants.{Less, Equal, Greater}
use Rattle.std.proofs.lemmas.Cmp.{tied_itself}
use Rattle.std.proofs.lemmas.List.Sums.{sum_by-append}
use Rattle.std.proofs.lemmas.Map.Keys.{IsDistinct-from_sorted, sorted_head, sorted_tail}
use Rattle.std.proofs.lemmas.Map.Made.{Contains-from_values_of}
use Rattle.std.proofs.lemmas.Map.Views.{lookup-from_Contains}
use Rattle.si_lists.proofs.Members.{Contains-map, at_each, here, there}
use Rattle.si_model.specs.declared.findings.Finding.{Finding}
use Rattle.si_model.specs.declared.kinds.Kind.{Kind}
use Rattle.si_model.specs.declared.kinds.Kind.TheVariants as kind
use Rattle.si_model.specs.declared.numbers.Stamp.{Stamp}
use Rattle.si_model.specs.declared.numbers.TxnId.{TxnId}
use Rattle.si_model.specs.declared.numbers.Value.{Value}
use Rattle.si_model.specs.declared.parts.OnKey.{OnKey}
use Rattle.si_model.specs.declared.parts.Part.{Part}
use Rattle.si_model.specs.declared.transactions.Status.TheVariants as status
use Rattle.si_model.specs.Findings.{cases, finding_at, findings_on}
use Rattle.si_model.specs.History.{IsOfHistory}
use Rattle.si_model.specs.Order.{finding_cmp, finding_eq, kind_eq}
use Rattle.si_model.specs.Reads.{IsRead, sight_of}
use Rattle.si_model.proofs.Exact.{key_findings_exact}
use Rattle.si_model.proofs.FindingOrder.{exact_findings, findings_total}
use Rattle.si_model.proofs.Histories.{one_part}
use Rattle.si_judge.specs.declared.judgements.ReadId.{ReadId}
use Rattle.si_judge.specs.Judges.{NamesRead}
use Rattle.si_judge.specs.Kept.{IsBare, IsRising, Kept, Shows, WouldShow}
use Rattle.si_judge.specs.Mending.{IsPairKind, IsReadKind, read_cmp, stamp_cmp}
use Rattle.si_judge.specs.Notes.{times, times_found}
use Rattle.si_judge.proofs.Counted.{counted_cons, counted_once, counted_there, none_counted, one_if, same_counts, there_counted}
use Rattle.si_judge.proofs.Listed.{found_kept, kept_found, read_total, stamp_total}
use Rattle.si_judge.proofs.Bare.{no_installer, no_read}
use Rattle.si_judge.proofs.Naming.{kind_names}
use Rattle.si_judge.proofs.Orders.{read_decides, stamp_decides}
use Rattle.si_sorted.specs.Entries.{value_at}

-- ---- one finding is another exactly where the test says so

ties : (f g : Finding) → finding_eq f g ≡ eq_by_cmp finding_cmp f g
ties = search (comparing, rules)

pub equals : IsEquivalence finding_eq
equals = search (comparing, rules)

pub same_finding : (f g : Finding) → finding_eq f g ≡ true → f ≡ g
same_finding f g e = by (finding_cmp f g) refl (sym (ties f g) ∙ e)
  where
    by : (o : Ordering) → finding_cmp f g ≡ o → eq_by_cmp finding_cmp f g ≡ true → f ≡ g
    by Less is t = absurd (true≢false (sym t ∙ ap is_eq is))
    by Equal is t = exact_findings f g is
    by Greater is t = absurd (true≢false (sym t ∙ ap is_eq is))

pub finding_itself : (f : Finding) → finding_eq f f ≡ true
finding_itself f = equals.refl f

same_kind : (j k : Kind) → kind_eq j k ≡ true → j ≡ k
same_kind j k e = ap (λ (f : Finding). f.kind) (same_finding (finding_at [] j) (finding_at [] k) e)

kind_itself : (k : Kind) → kind_eq k k ≡ true
kind_itself k = finding_itself (finding_at [] k)

-- ---- a kind stands once under keys in order, where it stands under one alone

module _ {K : Type 0} {R : K → K → Ordering} (o : IsTotalOrder R) where
  once : (k : Kind) (es : List (K × Kind)) → IsStrictlySortedBy R (keys_of es) → ((a b : K) → Contains es (a, k) → Contains es (b, k) → a ≡ b) → times k (values_of es) ≤ 1
  once k [] s alone = omega arith
  once k (e ∷ es) s alone = by (kind_eq k e.1) refl (once k es (sorted_tail R e.0 (keys_of es) s) (λ a b c d. alone a b (there e es (a, k) c) (there e es (b, k) d)))
    where
      unequal : Less ≡ Equal → ⊥
      unequal e = cc

      key_in : (ds : List (K × Kind)) (a : K) → Contains ds (a, k) → Contains (keys_of ds) a
      key_in ds a c = Contains-map (λ (d : K × Kind). d.0) ds (a, k) c

      absent : kind_eq k e.1 ≡ true → Contains (values_of es) k → ⊥
      absent same c =
          let at = Contains-from_values_of es k c in
          let first : Contains (e ∷ es) (e.0, k) = subst (λ (j : Kind). Contains (e ∷ es) (e.0, j)) (sym (same_kind k e.1 same)) (here e es) in
          let key = alone e.0 at.0 first (there e es (at.0, k) at.1) in
          let less = at_each (λ q. R e.0 q ≡ Less) (keys_of es) at.0 (sorted_head R e.0 (keys_of es) s) (key_in es at.0 at.1) in
          unequal (sym less ∙ ap (R e.0) (sym key) ∙ tied_itself o e.0)

      by : (b : Bool) → kind_eq k e.1 ≡ b → times k (values_of es) ≤ 1 → times k (values_of (e ∷ es)) ≤ 1
      by true is rest =
          let n : one_if (kind_eq k e.1) ≡ 1 = ap one_if is in
          omega (arith, n, counted_cons same_kind kind_itself k e.1 (values_of es), none_counted same_kind kind_itself k (values_of es) (absent is))
      by false is rest =
          let n : one_if (kind_eq k e.1) ≡ 0 = ap one_if is in
          omega (arith, n, counted_cons same_kind kind_itself k e.1 (values_of es), rest)

  under : (es : List (K × Kind)) → IsStrictlySortedBy R (keys_of es) → (a : K) (k : Kind) → Contains es (a, k) → value_at R es a ≡ Some k
  under es s a k c = lookup-from_Contains (eq_by_cmp_equiv o) a k es (IsDistinct-from_sorted R (keys_of es) s) c

-- ---- a kind is of one read, or of one version

is_txn : (P : OnKey) (T : Part) (i : ℕ) (v : Option Value) → (sight_of P T i v).txn ≡ T.id
unfolding sight_of
is_txn P T i v = refl

is_op : (P : OnKey) (T : Part) (i : ℕ) (v : Option Value) → (sight_of P T i v).op ≡ i
unfolding sight_of
is_op P T i v = refl

read_named : (Q : OnKey) (o : ReadId) (k : Kind) → IsReadKind cases Q o k → NamesRead o.txn o.place k
read_named Q o k is =
    let s = sight_of Q is.0 o.place is.1 in
    let named = subst (λ r. IfSome r (NamesRead s.txn s.op)) is.4 (kind_names s) in
    subst (λ t. NamesRead t o.place k) (is_txn Q is.0 o.place is.1 ∙ is.3) (subst (λ i. NamesRead s.txn i k) (is_op Q is.0 o.place is.1) named)

named_one : (o p : ReadId) (k : Kind) → NamesRead o.txn o.place k → NamesRead p.txn p.place k → o ≡ p
named_one o p (kind.Unknown u j v) a b = λ i. record { txn = (sym a.0 ∙ b.0) i; place = (sym a.1 ∙ b.1) i }
named_one o p (kind.Doubt u j v w) a b = λ i. record { txn = (sym a.0 ∙ b.0) i; place = (sym a.1 ∙ b.1) i }
named_one o p (kind.Own u j v w) a b = λ i. record { txn = (sym a.0 ∙ b.0) i; place = (sym a.1 ∙ b.1) i }
named_one o p (kind.Aborted u j v w) a b = λ i. record { txn = (sym a.0 ∙ b.0) i; place = (sym a.1 ∙ b.1) i }
named_one o p (kind.Intermediate u j v w) a b = λ i. record { txn = (sym a.0 ∙ b.0) i; place = (sym a.1 ∙ b.1) i }
named_one o p (kind.Future u j v w) a b = λ i. record { txn = (sym a.0 ∙ b.0) i; place = (sym a.1 ∙ b.1) i }
named_one o p (kind.Stale u j v n) a b = λ i. record { txn = (sym a.0 ∙ b.0) i; place = (sym a.1 ∙ b.1) i }
named_one o p (kind.Overlap u w) a b = absurd a

abbrev first_of : Kind → TxnId
first_of (kind.Overlap u w) = u
first_of (kind.Unknown u j v) = u
first_of (kind.Doubt u j v w) = u
first_of (kind.Own u j v w) = u
first_of (kind.Aborted u j v w) = u
first_of (kind.Intermediate u j v w) = u
first_of (kind.Future u j v w) = u
first_of (kind.Stale u j v n) = u

committed_one : (c d : Stamp) → status.Committed c ≡ status.Committed d → c ≡ d
committed_one c d e = cc

pair_one : (Q : OnKey) → IsOfHistory Q → (c d : Stamp) (k : Kind) → IsPairKind cases Q c k → IsPairKind cases Q d k → c ≡ d
pair_one Q h c d k p q =
    let a = p.2 in
    let b = q.2 in
    let txn : p.0.txn ≡ q.0.txn = ap first_of (sym p.6 ∙ q.6) in
    let part = one_part Q h a.0 b.0 a.1 b.1 (sym a.2.txn ∙ txn ∙ b.2.txn) in
    sym p.3 ∙ committed_one p.0.commit q.0.commit (sym a.2.committed ∙ ap (λ (T : Part). T.status) part ∙ b.2.committed) ∙ q.3

-- no kind is both
apart : (Q : OnKey) (o : ReadId) (c : Stamp) (k : Kind) → NamesRead o.txn o.place k → IsPairKind cases Q c k → ⊥
apart Q o c k named p = subst (NamesRead o.txn o.place) p.6 named

-- ---- how often a kind is found

module _ (Q : OnKey) (s : Kept) (shows : Shows cases Q s) (rising : IsRising s) (k : Kind) where
  read_of : (o : ReadId) → Contains s.reads (o, k) → NamesRead o.txn o.place k
  read_of o c = read_named Q o k ((shows.right.reads o k).0 (under read_total s.reads rising.reads o k c))

  pair_of : (c : Stamp) → Contains s.overlaps (c, k) → IsPairKind cases Q c k
  pair_of c m = (shows.right.overlaps c k).0 (under stamp_total s.overlaps rising.overlaps c k m)

  reads_once : times k (values_of s.reads) ≤ 1
  reads_once = once read_total k s.reads rising.reads (λ o p c d. named_one o p k (read_of o c) (read_of p d))

  pairs_once : times k (values_of s.overlaps) ≤ 1
  pairs_once = once stamp_total k s.overlaps rising.overlaps (λ c d m n. pair_one Q shows.indexes.history c d k (pair_of c m) (pair_of d n))

  -- where it is of a read it is of no version
  not_both : 0 < times k (values_of s.reads) → 0 < times k (values_of s.overlaps) → ⊥
  not_both r v =
      let o = Contains-from_values_of s.reads k (counted_there same_kind kind_itself k (values_of s.reads) r) in
      let c = Contains-from_values_of s.overlaps k (counted_there same_kind kind_itself k (values_of s.overlaps) v) in
      apart Q o.0 c.0 k (read_of o.0 o.1) (pair_of c.0 c.1)

  most : (m n : ℕ) → times k (values_of s.reads) ≡ m → times k (values_of s.overlaps) ≡ n → times_found k s.reads s.overlaps ≤ 1
  most zero n e f = omega (arith, e, f, pairs_once)
  most (suc m) zero e f = omega (arith, e, f, reads_once)
  most (suc m) (suc n) e f = absurd (not_both (omega (arith, e)) (omega (arith, f)))

  abbrev all : List Kind
  all = values_of s.reads ++ values_of s.overlaps

  in_all : times_found k s.reads s.overlaps ≡ times k all
  in_all = sym (sum_by-append (λ j. cond (kind_eq k j) 1 0) (values_of s.reads) (values_of s.overlaps))

  pub found_times : (x : List ℕ) → times_found k s.reads s.overlaps ≡ count_by (finding_eq (finding_at x k)) (findings_on cases x Q)
  found_times x =
      let h = shows.indexes.history in
      let p = key_findings_exact cases Q h x in
      let f = finding_at x k in
      same_counts (times_found k s.reads s.overlaps) (count_by (finding_eq f) (findings_on cases x Q)) (most _ _ refl refl) (counted_once same_finding finding_itself findings_total f (findings_on cases x Q) p.ascends)
      (λ lt. there_counted same_finding finding_itself f (findings_on cases x Q)
      (p.complete f (refl, kept_found cases Q h s.reads s.overlaps shows.right.reads shows.right.overlaps rising.reads rising.overlaps k (counted_there same_kind kind_itself k all (omega (arith, lt, in_all))))))
      (λ lt. (let c = p.sound f (counted_there same_finding finding_itself f (findings_on cases x Q) lt) in
      omega (arith, in_all, there_counted same_kind kind_itself k all (found_kept cases Q h s.reads s.overlaps shows.right.reads shows.right.overlaps k c.1))))

-- ---- on a bare key nothing is found, also where reads are marked

unread : (Q : OnKey) → IsBare Q → (T : Part) (i : ℕ) (v : Option Value) → IsRead Q T i v → ⊥
unread Q bare = no_read Q bare

empty_reads : (Q : OnKey) (s : Kept) → IsBare Q → WouldShow cases Q s → (es : List (ReadId × Kind)) → s.reads ≡ es → es ≡ []
empty_reads Q s bare would [] e = refl
empty_reads Q s bare would (d ∷ es) e =
    let first : value_at read_cmp s.reads d.0 ≡ Some d.1 = ap (λ l. value_at read_cmp l d.0) e ∙ ap (λ b. cond b (Some d.1) (value_at read_cmp es d.0)) ((read_decides d.0 d.0).1 refl) in
    elim (would.reads d.0) [
      | inl m ↦ absurd (unread Q bare m.0 d.0.place m.1 m.2)
      | inr right ↦ (let is = (right d.1).0 first in absurd (unread Q bare is.0 d.0.place is.1 is.2))
    ]

empty_pairs : (Q : OnKey) (s : Kept) → IsBare Q → WouldShow cases Q s → (es : List (Stamp × Kind)) → s.overlaps ≡ es → es ≡ []
empty_pairs Q s bare would [] e = refl
empty_pairs Q s bare would (d ∷ es) e =
    let first : value_at stamp_cmp s.overlaps d.0 ≡ Some d.1 = ap (λ l. value_at stamp_cmp l d.0) e ∙ ap (λ b. cond b (Some d.1) (value_at stamp_cmp es d.0)) ((stamp_decides d.0 d.0).1 refl) in
    let is = (would.overlaps d.0 d.1).0 first in
    absurd (no_installer Q bare is.0 is.2)

pub bare_times : (Q : OnKey) (s : Kept) → IsBare Q → WouldShow cases Q s → (k : Kind) → times_found k s.reads s.overlaps ≡ 0
bare_times Q s bare would k =
    let reads : times k (values_of s.reads) ≡ 0 = ap (λ (l : List (ReadId × Kind)). times k (values_of l)) (empty_reads Q s bare would s.reads refl) in
    let pairs : times k (values_of s.overlaps) ≡ 0 = ap (λ (l : List (Stamp × Kind)). times k (values_of l)) (empty_pairs Q s bare would s.overlaps refl) in
    omega (arith, reads, pairs)
