-- The order of findings, and the one list in order that has given things. All of it is this project's choice.
use Rattle.std.specs.Prelude.{ℕ, Bool, ◌&&◌, nat_eq, List, [], ◌∷◌, Some, None, Option}
use Rattle.std.specs.List.{Contains}
use Rattle.std.specs.List.Sorted.{IsStrictlySortedBy}
use Rattle.std.specs.declared.cmp.Ordering.{Ordering}
use Rattle.std.specs.declared.cmp.Ordering.TheVariants.{Less, Equal, Greater}
use Rattle.std.specs.Ordering.{nat_cmp, on, then_cmp}
use Rattle.std.specs.Cmp.Lexicographic.{slice_cmp, pointwise}
use Rattle.si_model.specs.declared.numbers.Value.{Value}
use Rattle.si_model.specs.declared.kinds.Kind.{Kind}
use Rattle.si_model.specs.declared.kinds.Kind.TheVariants as kind
use Rattle.si_model.specs.declared.findings.Finding.{Finding}

-- 1 where there is a value, and else 0
abbrev pub presence : Option Value → ℕ
presence None = 0
presence (Some v) = 1

-- the value, and 0 where there is none
abbrev pub value_or_zero : Option Value → ℕ
value_or_zero None = 0
value_or_zero (Some v) = v.0

-- the number of a kind: at most 3 where it concerns form and is no phenomenon, more than 2 where it is a violation
abbrev pub number : Kind → ℕ
number (kind.Unknown t i v) = 1
number (kind.Doubt t i v u) = 2
number (kind.Own t i v w) = 3
number (kind.Aborted t i v u) = 4
number (kind.Intermediate t i v u) = 5
number (kind.Future t i v u) = 6
number (kind.Stale t i v n) = 7
number (kind.Overlap a b) = 8

-- what a kind says beside its number: the first transaction, the place or the second transaction, and the rest
abbrev pub details : Kind → List ℕ
details (kind.Unknown t i v) = t.0 ∷ i ∷ presence v ∷ value_or_zero v ∷ 0 ∷ 0 ∷ []
details (kind.Doubt t i v u) = t.0 ∷ i ∷ presence v ∷ value_or_zero v ∷ u.0 ∷ 0 ∷ []
details (kind.Own t i v w) = t.0 ∷ i ∷ presence v ∷ value_or_zero v ∷ presence w ∷ value_or_zero w ∷ []
details (kind.Aborted t i v u) = t.0 ∷ i ∷ presence v ∷ value_or_zero v ∷ u.0 ∷ 0 ∷ []
details (kind.Intermediate t i v u) = t.0 ∷ i ∷ presence v ∷ value_or_zero v ∷ u.0 ∷ 0 ∷ []
details (kind.Future t i v u) = t.0 ∷ i ∷ presence v ∷ value_or_zero v ∷ u.0 ∷ 0 ∷ []
details (kind.Stale t i v n) = t.0 ∷ i ∷ presence v ∷ value_or_zero v ∷ n.0 ∷ 0 ∷ []
details (kind.Overlap a b) = a.0 ∷ b.0 ∷ 0 ∷ 0 ∷ 0 ∷ 0 ∷ []

-- all that a kind says, in the order that findings on one key are in
unfoldable pub fields : Kind → List ℕ
fields k = number k ∷ details k

-- by what the kinds say
abbrev pub kind_cmp : Kind → Kind → Ordering
kind_cmp = on fields (slice_cmp nat_cmp)

-- whether two kinds are one
abbrev pub kind_eq : Kind → Kind → Bool
kind_eq j k = pointwise nat_eq (fields j) (fields k)

-- by the bytes of the key, then by the kind
abbrev pub finding_cmp : Finding → Finding → Ordering
finding_cmp = then_cmp (on (λ f. f.key) (slice_cmp nat_cmp)) (on (λ f. fields f.kind) (slice_cmp nat_cmp))

-- whether two findings are one
abbrev pub finding_eq : Finding → Finding → Bool
finding_eq f g = pointwise nat_eq f.key g.key && pointwise nat_eq (fields f.kind) (fields g.kind)

-- a list in strict order that has what P holds of, and nothing else
pub record IsListOf {K : Type 0} (R : K → K → Ordering) (P : K → Type 0) (ks : List K) : Type 0 where
  pub ascends : IsStrictlySortedBy R ks
  pub sound : (k : K) → Contains ks k → P k
  pub complete : (k : K) → P k → Contains ks k

-- the first, second or third, as one thing is less than another, equal or greater
abbrev pub by_order : {A : Type 0} → Ordering → A → A → A → A
by_order Less a b c = a
by_order Equal a b c = b
by_order Greater a b c = c

-- the list with one more in its place, where it isn't there yet
abbrev pub with_one : {K : Type 0} → (K → K → Ordering) → K → List K → List K
with_one R k [] = k ∷ []
with_one R k (x ∷ xs) = by_order (R k x) (k ∷ x ∷ xs) (x ∷ xs) (x ∷ with_one R k xs)

-- the elements of a list in strict order, each once
unfoldable pub in_order : {K : Type 0} → (K → K → Ordering) → List K → List K
in_order R [] = []
in_order R (x ∷ xs) = with_one R x (in_order R xs)
