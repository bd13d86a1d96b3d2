-- The order of findings is total, and only equal findings tie.
use Rattle.std.proofs.Common.{◌≡◌, ℕ, ◌==◌, List, ◌∷◌, Option, Some, None, zero, suc, refl, sym, ap, ◌∙◌, rules, cond}
use Rattle.std.specs.declared.cmp.Ordering.{Ordering}
use Rattle.std.specs.declared.cmp.Ordering.TheVariants.{Less, Equal, Greater}
use Rattle.std.specs.Ordering.{ordering_then, nat_cmp}
use Rattle.std.specs.Cmp.{IsTotalOrder}
use Rattle.std.specs.Cmp.Rules.{comparing}
use Rattle.std.specs.Cmp.Lexicographic.{slice_cmp}
use Rattle.std.specs.FinMap.{slice_cmp-IsAntisymmetric, nat_cmp-IsAntisymmetric}
use Rattle.si_model.specs.declared.numbers.Value.{Value}
use Rattle.si_model.specs.declared.numbers.TxnId.{TxnId}
use Rattle.si_model.specs.declared.kinds.Kind.{Kind}
use Rattle.si_model.specs.declared.kinds.Kind.TheVariants as kind
use Rattle.si_model.specs.declared.findings.Finding.{Finding}
use Rattle.si_model.specs.Order.{presence, value_or_zero, fields, finding_cmp}

-- bytes that tie are equal
pub exact_bytes : (xs ys : List ℕ) → slice_cmp nat_cmp xs ys ≡ Equal → xs ≡ ys
exact_bytes = slice_cmp-IsAntisymmetric nat_cmp-IsAntisymmetric

-- the value again
value_from : ℕ → ℕ → Option Value
value_from zero v = None
value_from (suc n) v = Some (record { 0 = v })

value_again : (o : Option Value) → value_from (presence o) (value_or_zero o) ≡ o
unfolding value_from
value_again None = refl
value_again (Some v) = refl

id : ℕ → TxnId
id t = record { 0 = t }

numbered : ℕ → ℕ → ℕ → ℕ → ℕ → ℕ → ℕ → Kind
numbered n t i p v x y =
    cond (n == 1) (kind.Unknown (id t) i (value_from p v))
    (cond (n == 2) (kind.Doubt (id t) i (value_from p v) (id x))
    (cond (n == 3) (kind.Own (id t) i (value_from p v) (value_from x y))
    (cond (n == 4) (kind.Aborted (id t) i (value_from p v) (id x))
    (cond (n == 5) (kind.Intermediate (id t) i (value_from p v) (id x))
    (cond (n == 6) (kind.Future (id t) i (value_from p v) (id x))
    (cond (n == 7) (kind.Stale (id t) i (value_from p v) (id x))
    (kind.Overlap (id t) (id i))))))))

-- the kind again
kind_from : List ℕ → Kind
kind_from (n ∷ t ∷ i ∷ p ∷ v ∷ x ∷ y ∷ zs) = numbered n t i p v x y
kind_from _ = kind.Overlap (id 0) (id 0)

kind_again : (k : Kind) → kind_from (fields k) ≡ k
unfolding kind_from numbered id fields
kind_again (kind.Unknown t i v) = ap (kind.Unknown t i) (value_again v)
kind_again (kind.Doubt t i v u) = ap (λ o. kind.Doubt t i o u) (value_again v)
kind_again (kind.Own t i v w) = ap (λ o. kind.Own t i o (value_from (presence w) (value_or_zero w))) (value_again v) ∙ ap (kind.Own t i v) (value_again w)
kind_again (kind.Aborted t i v u) = ap (λ o. kind.Aborted t i o u) (value_again v)
kind_again (kind.Intermediate t i v u) = ap (λ o. kind.Intermediate t i o u) (value_again v)
kind_again (kind.Future t i v u) = ap (λ o. kind.Future t i o u) (value_again v)
kind_again (kind.Stale t i v u) = ap (λ o. kind.Stale t i o u) (value_again v)
kind_again (kind.Overlap a b) = refl

exact_kinds : (j k : Kind) → fields j ≡ fields k → j ≡ k
exact_kinds j k e = sym (kind_again j) ∙ ap kind_from e ∙ kind_again k

both_equal : (r s : Ordering) → ordering_then r s ≡ Equal → (r ≡ Equal) × (s ≡ Equal)
both_equal Less s e = cc
both_equal Equal s e = (refl, e)
both_equal Greater s e = cc

-- findings that tie are equal
pub exact_findings : (f g : Finding) → finding_cmp f g ≡ Equal → f ≡ g
exact_findings f g e =
    let both = both_equal (slice_cmp nat_cmp f.key g.key) (slice_cmp nat_cmp (fields f.kind) (fields g.kind)) e in
    let keys = exact_bytes f.key g.key both.0 in
    let kinds = exact_kinds f.kind g.kind (exact_bytes (fields f.kind) (fields g.kind) both.1) in
    λ i. record { key = keys i; kind = kinds i }

pub findings_total : IsTotalOrder finding_cmp
findings_total = search (comparing, rules)

pub findings_order : IsTotalOrder finding_cmp × ((f g : Finding) → finding_cmp f g ≡ Equal → f ≡ g)
findings_order = (findings_total, exact_findings)
