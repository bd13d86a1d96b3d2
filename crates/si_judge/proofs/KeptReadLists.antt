-- KeptReads in order, each with what stands beside it.
use Rattle.std.proofs.Common.{◌≡◌, ◌≢◌, ◌∙◌, Bool, true, false, cond, List, [], ◌∷◌, Option, Some, refl, sym, ap, true≢false, ◌⊎◌, inl, inr}
use Rattle.std.specs.BTreeMap.{is_at}
use Rattle.std.specs.List.{AllPairs, Contains}
use Rattle.si_lists.proofs.Members.{Contains-nil, Contains-cons_cases}
use Rattle.si_lists.proofs.Names.{pairs_head, pairs_tail}
use Rattle.si_model.specs.declared.numbers.Value.{Value}
use Rattle.si_judge.specs.declared.reads.KeptRead.{KeptRead}
use Rattle.si_judge.specs.KeptReads.{own_at, kept_read_cmp}
use Rattle.si_judge.proofs.Orders.{kept_read_decides}

-- beside a reader stands what stands beside it in the list, where each stands once
pub stands_beside : (es : List (KeptRead × Option Value)) → AllPairs (λ p q. p.0 ≢ q.0) es → (p : KeptRead × Option Value) → Contains es p → own_at es p.0 ≡ Some p.1
stands_beside [] apart p c = absurd (Contains-nil p c)
stands_beside (e ∷ es) apart p c = by (is_at (kept_read_cmp p.0) e.0) refl (stands_beside es (pairs_tail (λ p q. p.0 ≢ q.0) e es apart) p) (Contains-cons_cases e es p c)
  where
    by : (b : Bool) → is_at (kept_read_cmp p.0) e.0 ≡ b → (Contains es p → own_at es p.0 ≡ Some p.1) → (e ≡ p) ⊎ Contains es p → cond b (Some e.1) (own_at es p.0) ≡ Some p.1
    by true at later (inl same) = ap (λ (x : KeptRead × Option Value). Some x.1) same
    by true at later (inr rest) = absurd (pairs_head (λ p q. p.0 ≢ q.0) e es apart p rest (sym ((kept_read_decides p.0 e.0).0 at)))
    by false at later (inl same) = absurd (true≢false (sym ((kept_read_decides p.0 e.0).1 (ap (λ (x : KeptRead × Option Value). x.0) (sym same))) ∙ at))
    by false at later (inr rest) = later rest
