-- The range of the readers of a value has them all.
use Rattle.std.proofs.Common.{Ordering}
use Rattle.std.proofs.Common.{◌≡◌, ◌∙◌, ℕ, ◌+◌, ◌-◌, ◌^◌, ◌≤◌, Bool, true, false, cond, ◌&&◌, not, nat_eq, List, [], ◌∷◌, Option, Some, None, refl, sym, ap, ap₂, subst, arith, true≢false}
use Rattle.std.specs.List.{filter_map}
use Rattle.std.specs.BTreeMap.Range.{entries_between, is_from_start, is_past_end, range_contains}
use Rattle.std.specs.Cmp.{ranked, nat_cmp_is}
use Rattle.std.specs.Option.{option_cmp, option_eq}
use Rattle.std.specs.Ordering.{is_le, nat_cmp, ordering_then}
use Rattle.std.specs.declared.cmp.Ordering.TheVariants.{Less, Equal, Greater}
use Rattle.std.specs.declared.ops.Bound.TheVariants.{Unbounded}
use Rattle.std.proofs.lemmas.Bool.{and_parts, ltb-true}
use Rattle.si_model.specs.declared.numbers.Stamp.{Stamp}
use Rattle.si_model.specs.declared.numbers.Value.{Value}
use Rattle.si_model.specs.Operations.{same_value}
use Rattle.si_model.proofs.Equalities.{read_is}
use Rattle.si_judge.specs.declared.reads.KeptRead.{KeptRead}
use Rattle.si_judge.specs.KeptReads.{beyond, is_later, is_kept_read_of, least_of, least_kept_read, kept_read_cmp, kept_reads_among, with_own}
use Rattle.si_judge.specs.Values.{value_cmp}
use Rattle.si_sorted.specs.Entries.{value_at}

-- ---- from the least reader on

from_zero : (n : ℕ) (o : Ordering) → is_le o ≡ true → is_le (ordering_then (nat_cmp 0 n) o) ≡ true
from_zero n o le = by (nat_cmp 0 n) refl
  where
    by : (r : Ordering) → nat_cmp 0 n ≡ r → is_le (ordering_then r o) ≡ true
    by Less e = refl
    by Equal e = le
    by Greater e = absurd (let lt = ranked 0 n Greater (sym e) in omega (arith, lt))

zero_le : (n : ℕ) → is_le (nat_cmp 0 n) ≡ true
zero_le n = by (nat_cmp 0 n) refl
  where
    by : (r : Ordering) → nat_cmp 0 n ≡ r → is_le r ≡ true
    by Less e = refl
    by Equal e = refl
    by Greater e = absurd (let lt = ranked 0 n Greater (sym e) in omega (arith, lt))

from_least : (c n : ℕ) (o : Ordering) → c ≤ n → is_le o ≡ true → is_le (ordering_then (nat_cmp c n) o) ≡ true
from_least c n o most le = by (nat_cmp c n) refl
  where
    by : (r : Ordering) → nat_cmp c n ≡ r → is_le (ordering_then r o) ≡ true
    by Less e = refl
    by Equal e = le
    by Greater e = absurd (let lt = ranked c n Greater (sym e) in omega (arith, lt, most))

tied_values : (v : Option Value) → option_cmp value_cmp v v ≡ Equal
tied_values None = refl
tied_values (Some v) = sym (nat_cmp_is v.0 v.0 Equal refl)

from_start : (c : ℕ) (r : KeptRead) → c ≤ r.start.0
    → is_le (kept_read_cmp (record { value = r.value; start = record { 0 = c }; txn = record { 0 = 0 }; place = 0 }) r) ≡ true
from_start c r most = ap (λ o. is_le (ordering_then o (ordering_then (nat_cmp c r.start.0) (ordering_then (nat_cmp 0 r.txn.0) (nat_cmp 0 r.place))))) (tied_values r.value)
    ∙ from_least c r.start.0 (ordering_then (nat_cmp 0 r.txn.0) (nat_cmp 0 r.place)) most (from_zero r.txn.0 (nat_cmp 0 r.place) (zero_le r.place))

from_its_least : (after : Option Stamp) (r : KeptRead) → is_later after r.start ≡ true → is_from_start kept_read_cmp (least_kept_read r.value after) r ≡ true
from_its_least None r later = from_start 0 r (omega arith)
from_its_least (Some c) r later = from_start c.0 r (let lt = ltb-true c.0 r.start.0 later in omega (arith, lt))

-- ---- up to the next value

past : (n : ℕ) (r : KeptRead) → option_cmp value_cmp (Some (record { 0 = n })) r.value ≡ Greater → is_past_end kept_read_cmp (least_of n) r ≡ false
past n r e = ap (λ o. is_le (ordering_then o (ordering_then (nat_cmp 0 r.start.0) (ordering_then (nat_cmp 0 r.txn.0) (nat_cmp 0 r.place))))) e

up_to_next : (v : Option Value) (r : KeptRead) → r.value ≡ v → is_past_end kept_read_cmp (beyond v) r ≡ false
up_to_next None r e = past 0 r (ap (option_cmp value_cmp (Some (record { 0 = 0 }))) e)
up_to_next (Some v) r e = by (nat_eq v.0 (2 ^ 64 - 1)) refl
  where
    next : (n : ℕ) → nat_cmp (n + 1) n ≡ Greater
    next n = sym (nat_cmp_is (n + 1) n Greater (omega arith))

    by : (b : Bool) → nat_eq v.0 (2 ^ 64 - 1) ≡ b → is_past_end kept_read_cmp (cond b Unbounded (least_of (v.0 + 1))) r ≡ false
    by true s = refl
    by false s = past (v.0 + 1) r (ap (option_cmp value_cmp (Some (record { 0 = v.0 + 1 }))) e ∙ next v.0)

in_range : (v : Option Value) (after : Option Stamp) (r : KeptRead) → is_kept_read_of v after r ≡ true → range_contains kept_read_cmp (least_kept_read v after) (beyond v) r ≡ true
in_range v after r e =
    let both = and_parts (option_eq same_value r.value v) (is_later after r.start) e in
    let value : r.value ≡ v = (read_is r.value v).0 both.0 in
    let from = subst (λ w. is_from_start kept_read_cmp (least_kept_read w after) r ≡ true) value (from_its_least after r both.1) in
    ap₂ (λ a b. a && not b) from (up_to_next v r value)

-- no reader of the value is outside, and each is told with its own value
pub range_tells_all : {X : Type 0} (v : Option Value) (after : Option Stamp) (own : List (KeptRead × Value)) (es : List (KeptRead × X))
    → filter_map (λ e. cond (is_kept_read_of v after e.0) (Some (e.0, value_at kept_read_cmp own e.0)) None) (entries_between kept_read_cmp (least_kept_read v after) (beyond v) es)
    ≡ kept_reads_among (with_own own es) v after
range_tells_all v after own [] = refl
range_tells_all {X} v after own (e ∷ es) = by (range_contains kept_read_cmp (least_kept_read v after) (beyond v) e.0) (is_kept_read_of v after e.0) refl refl (range_tells_all v after own es)
  where
    tells : KeptRead × X → Option (KeptRead × Option Value)
    tells d = cond (is_kept_read_of v after d.0) (Some (d.0, value_at kept_read_cmp own d.0)) None

    inside : List (KeptRead × X)
    inside = entries_between kept_read_cmp (least_kept_read v after) (beyond v) es

    by : (a b : Bool) → range_contains kept_read_cmp (least_kept_read v after) (beyond v) e.0 ≡ a → is_kept_read_of v after e.0 ≡ b
        → filter_map tells inside ≡ kept_reads_among (with_own own es) v after
        → filter_map tells (cond a (e ∷ inside) inside) ≡ cond b ((e.0, value_at kept_read_cmp own e.0) ∷ kept_reads_among (with_own own es) v after) (kept_reads_among (with_own own es) v after)
    by true true s g rest = rw g (ap (λ l. (e.0, value_at kept_read_cmp own e.0) ∷ l) rest)
    by true false s g rest = rw g rest
    by false true s g rest = absurd (true≢false (sym (in_range v after e.0 g) ∙ s))
    by false false s g rest = rest
