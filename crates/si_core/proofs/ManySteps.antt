-- Many applications of a shard are a run.
use Rattle.std.proofs.Common.{◌≡◌, ◌∙◌, ◌⊎◌, ◌≤◌, inl, inr, ℕ, zero, suc, ◌+◌, List, [], ◌∷◌, ◌++◌, length, replicate, refl, sym, ap, subst, arith, append_assoc}
use Rattle.std.proofs.lemmas.List.{length-append, replicate_more}
use Rattle.si_lists.proofs.Members.{Contains-nil, Contains-one, same_some}
use Rattle.si_core.specs.declared.steps.Step.TheVariants as step
use Rattle.si_core.specs.declared.steps.Reply.{Reply}
use Rattle.si_core.specs.declared.steps.Reply.TheVariants as reply
use Rattle.si_core.specs.Laws.{IsAnswerOf, ManyAreRun}
use Rattle.si_core.specs.Machine.{AreApplied, IsOther, IsRun, Machine, Progress, TellsPosition}
use Rattle.si_core.proofs.Applications.{one_more_step, told_position}

-- a run of so many steps to apply, of which the last tells how far it came, unless there is none
pub record HasRun (n : ℕ) (M : Machine) (k : ℕ) (N : Machine) : Type 0 where
  pub replies : List Reply
  pub many : length replies ≡ n
  pub run : IsRun M (replicate n (step.Apply k)) replies N
  pub last : (n ≡ 0) ⊎ ((before : List Reply) × (r : Reply) × (replies ≡ before ++ r ∷ []) × TellsPosition N k r)

applied_run : (n : ℕ) (M : Machine) (k : ℕ) (N : Machine) → AreApplied n M k N → HasRun n M k N
applied_run zero M k N e = record { replies = []; many = refl; run = e; last = inl refl }
applied_run (suc n) M k N (p, Q, first, rest) = (let more = applied_run n Q k N rest in record {
  replies = reply.Applied p ∷ more.replies;
  many = ap suc more.many;
  run = (Q, first, more.run);
  last = by more.replies more.many more.last;
})
  where
    by : (rs : List Reply) → length rs ≡ n → (n ≡ 0) ⊎ ((before : List Reply) × (r : Reply) × (rs ≡ before ++ r ∷ []) × TellsPosition N k r)
        → (suc n ≡ 0) ⊎ ((before : List Reply) × (r : Reply) × (reply.Applied p ∷ rs ≡ before ++ r ∷ []) × TellsPosition N k r)
    by [] long e = (let same : N ≡ Q = none n long rest in inr ([], reply.Applied p, refl, subst (λ P. TellsPosition P k (reply.Applied p)) (sym same) (told_position M Q k p first)))
      where
        none : (m : ℕ) → 0 ≡ m → AreApplied m Q k N → N ≡ Q
        none zero e a = a
        none (suc m) e a = absurd (omega (arith, e))
    by (s ∷ rs) long (inl e) = absurd (omega (arith, e, long))
    by (s ∷ rs) long (inr (before, r, is, tells)) = inr (reply.Applied p ∷ before, r, ap (λ l. reply.Applied p ∷ l) is, tells)

-- two replies that tell how far the same shard is are one
one_position : (M : Machine) (k : ℕ) (r s : Reply) → TellsPosition M k r → TellsPosition M k s → r ≡ s
one_position M k r s (p, at, is) (q, also, told) = is ∙ ap (λ (w : Progress). reply.Applied w.position) (same_some (sym at ∙ also)) ∙ sym told

pub many_are_run : ManyAreRun
many_are_run most M k r N some (n, Q, many, inl (all, same, tells)) = by has.last
  where
    has : HasRun n M k Q
    has = applied_run n M k Q many

    by : (n ≡ 0) ⊎ ((before : List Reply) × (s : Reply) × (has.replies ≡ before ++ s ∷ []) × TellsPosition Q k s)
        → (rs : List Reply) × (1 ≤ length rs) × (length rs ≤ most) × IsRun M (replicate (length rs) (step.Apply k)) rs N × IsAnswerOf rs r
    by (inl none) = absurd (omega (arith, none, all, some))
    by (inr (before, s, is, told)) = (
      has.replies,
      (let l = has.many in omega arith),
      (let l = has.many in omega arith),
      subst (λ P. IsRun M (replicate (length has.replies) (step.Apply k)) has.replies P) (sym same) (subst (λ m. IsRun M (replicate m (step.Apply k)) has.replies Q) (sym has.many) has.run),
      inr (tells.0.position, tells.2, before, [], is ∙ ap (λ t. before ++ t ∷ []) (one_position Q k s r told tells), λ t c. absurd (Contains-nil t c)),
    )
many_are_run most M k r N some (n, Q, many, inr (few, other, ends, next, answer)) = (
  rs,
  (let l = long in omega arith),
  (let l = long in omega arith),
  run,
  by has.last answer,
)
  where
    has : HasRun n M k Q
    has = applied_run n M k Q many

    rs : List Reply
    rs = has.replies ++ other ∷ []

    long : length rs ≡ n + 1
    long = let l = length-append has.replies (other ∷ []) in let m = has.many in omega arith

    run : IsRun M (replicate (length rs) (step.Apply k)) rs N
    run = subst (λ l. IsRun M l rs N) (replicate_more n (step.Apply k) ∙ ap (λ m. replicate m (step.Apply k)) (sym long))
        (one_more_step M Q N (replicate n (step.Apply k)) has.replies (step.Apply k) other has.run next)

    none_there : (l : List Reply) → length l ≡ 0 → l ++ other ∷ [] ≡ other ∷ []
    none_there [] e = refl
    none_there (s ∷ l) e = absurd (omega (arith, e))

    by : (n ≡ 0) ⊎ ((before : List Reply) × (s : Reply) × (has.replies ≡ before ++ s ∷ []) × TellsPosition Q k s)
        → ((n ≡ 0) × (r ≡ other)) ⊎ ((1 ≤ n) × TellsPosition Q k r) → IsAnswerOf rs r
    by last (inl (none, is)) = inl (subst IsOther (sym is) ends, none_there has.replies (has.many ∙ none) ∙ ap (λ s. s ∷ []) (sym is))
    by (inl none) (inr (more, tells)) = absurd (omega (arith, none, more))
    by (inr (before, s, is, told)) (inr (more, tells)) =
        inr (
          tells.0.position,
          tells.2,
          before,
          other ∷ [],
          ap (λ l. l ++ other ∷ []) (is ∙ ap (λ t. before ++ t ∷ []) (one_position Q k s r told tells)) ∙ append_assoc before (r ∷ []) (other ∷ []),
          λ t c. subst IsOther (Contains-one other t c) ends,
        )
