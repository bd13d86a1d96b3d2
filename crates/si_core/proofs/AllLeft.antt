-- One shard's application of all that is left, seen as steps of the machine.
use Rattle.std.proofs.Common.{◌≡◌, ◌∙◌, inl, inr, ℕ, zero, suc, ◌+◌, ◌-◌, ◌<◌, ◌≤◌, Bool, true, false, List, [], ◌∷◌, Some, length, slice_get, slice_set, refl, sym, ap, subst, arith}
use Rattle.si_accept.specs.Books.{BookState}
use Rattle.si_core.proofs.Replaced.{set_same}
use Rattle.si_shard.specs.JournalShards.{state_of}
use Rattle.si_shard.specs.declared.journal_shards.JournalShard.{JournalShard}
use Rattle.si_core.specs.declared.steps.Reply.{Reply}
use Rattle.si_core.specs.declared.steps.Reply.TheVariants as reply
use Rattle.si_core.specs.Machine.{AppliesUntil, AreApplied, IsOther, Machine, Progress, applied, nothing_left, spoiled_before, spoiled_now, with_progress}
use Rattle.si_core.specs.Worlds.{AppliesAll, AppliesTo, machine_of, progress_in, progress_of}
use Rattle.si_core.proofs.Progressing.{at_progress, progressed, set_again, so_told, unchanged}

-- what stands at k is what was put there last
pub set_twice : {X : Type 0} (xs : List X) (k : ℕ) (x y : X) → slice_set (slice_set xs k x) k y ≡ slice_set xs k y
set_twice [] k x y = refl
set_twice (z ∷ xs) zero x y = refl
set_twice (z ∷ xs) (suc k) x y = ap (λ l. z ∷ l) (set_twice xs k x y)

-- ---- so many applications

abbrev pub at_position : ℕ → Progress
at_position n = record { position = n; spoiled = false }

pub many : (n : ℕ) (M : Machine) (k : ℕ) (p : Progress) → slice_get M.shards k ≡ Some p → p.spoiled ≡ false → p.position + n ≤ length M.journal
    → AreApplied n M k (with_progress M k (at_position (p.position + n)))
many zero M k p at whole le =
    let none : p.position + 0 ≡ p.position = omega arith in
    let same : at_position (p.position + 0) ≡ p = ap at_position none ∙ ap (λ b. record { position = p.position; spoiled = b }) (sym whole) in
    ap (λ l. record M { shards = l }) (ap (slice_set M.shards k) same ∙ set_again M.shards k p at)
many (suc n) M k p at whole le =
    let next = at_position (p.position + 1) in
    let Q = with_progress M k next in
    let lt : p.position < length M.journal = omega arith in
    let more : p.position + 1 + n ≤ length M.journal = omega arith in
    let sum : p.position + 1 + n ≡ p.position + suc n = omega arith in
    let rest = many n Q k next (set_same M.shards k next p at) refl more in
    let end : with_progress Q k (at_position (p.position + 1 + n)) ≡ with_progress M k (at_position (p.position + suc n)) =
    ap (λ l. record M { shards = l }) (set_twice M.shards k next (at_position (p.position + 1 + n)) ∙ ap (λ m. slice_set M.shards k (at_position m)) sum) in (
      p.position + 1,
      Q,
      applied p (record { at = at; left = lt }) whole,
      subst (AreApplied n Q k) end rest,
    )

pub idle_is_other : (r : Reply) → r ≡ reply.Idle → IsOther r
idle_is_other r e p f = (let no : reply.Idle ≡ reply.Applied p = sym e ∙ f in cc)

spoiled_is_other : (r : Reply) (k : ℕ) → r ≡ reply.Spoiled k → IsOther r
spoiled_is_other r k e p f = (let no : reply.Spoiled k ≡ reply.Applied p = sym e ∙ f in cc)

-- ---- one shard

module _ (book : BookState) (shards : List JournalShard) (k : ℕ) (s t : JournalShard) (at : slice_get shards k ≡ Some s) (r : Reply) (step : AppliesAll book.journal k s r t) where
  abbrev M : Machine
  M = machine_of book shards

  abbrev N : Machine
  N = machine_of book (slice_set shards k t)

  pub applies_all : AppliesUntil (machine_of book shards) k r (machine_of book (slice_set shards k t))
  applies_all = elim step.1 [
    | inl idle ↦ (0, M, refl, so_told M N M k r reply.Idle idle.1 (unchanged book shards k s t at idle.2) (nothing_left (progress_of s) (at_progress book shards k s t at) idle.0), idle_is_other r idle.1)
    | inr left ↦ by s.spoiled refl left.0 left.1
  ]
    where
      by : (b : Bool) → s.spoiled ≡ b → s.position < length book.journal → AppliesTo (length book.journal) k (state_of s) b reply.Idle r (state_of t) → AppliesUntil M k r N
      by true is lt e = (
        0,
        M,
        refl,
        so_told M N M k r (reply.Spoiled k) e.0 (unchanged book shards k s t at e.1) (spoiled_before (progress_of s) (record { at = at_progress book shards k s t at; left = lt }) is),
        spoiled_is_other r k e.0,
      )
      by false is lt (inl e) =
          let J = book.journal in
          let n = length J - s.position in
          let all : s.position + n ≡ length J = omega arith in
          let within : s.position + n ≤ length J = omega arith in
          let end : N ≡ with_progress M k (at_position (s.position + n)) =
          progressed book shards k s t at (at_position (s.position + n)) (ap progress_in e.1 ∙ ap (λ m. record { position = m; spoiled = s.spoiled }) (sym all)
          ∙ ap (λ b. record { position = s.position + n; spoiled = b }) is) in
          let idle : length J ≤ s.position + n = omega arith in (
            n,
            N,
            subst (AreApplied n M k) (sym end) (many n M k (progress_of s) (at_progress book shards k s t at) is within),
            so_told N N N k r reply.Idle e.0 refl (nothing_left (at_position (s.position + n)) (ap (λ P. slice_get P.shards k) end ∙ set_same M.shards k (at_position (s.position + n)) (progress_of s) (at_progress book shards k s t at)) (subst (λ W. length W.journal ≤ s.position + n) (sym end) idle)),
            idle_is_other r e.0,
          )
      by false is lt (inr e) = (
        0,
        M,
        refl,
        so_told M N (with_progress M k (record { position = s.position; spoiled = true })) k r (reply.Spoiled k) e.0
            (progressed book shards k s t at (record { position = s.position; spoiled = true }) (ap progress_in e.1))
            (spoiled_now (progress_of s) (record { at = at_progress book shards k s t at; left = lt }) is),
        spoiled_is_other r k e.0,
      )
