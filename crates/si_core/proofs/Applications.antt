-- Applications of one shard, one after the other.
use Rattle.std.proofs.Common.{◌≡◌, ◌≢◌, ◌∙◌, inl, inr, ℕ, zero, suc, ◌+◌, ◌-◌, ◌<◌, true, false, List, [], ◌∷◌, ◌++◌, length, refl, sym, ap, subst, arith}
use Rattle.std.proofs.lemmas.List.{length-set}
use Rattle.si_core.proofs.Replaced.{set_same}
use Rattle.si_core.specs.declared.steps.Step.{Step}
use Rattle.si_core.specs.declared.steps.Reply.{Reply}
use Rattle.si_core.specs.declared.steps.Reply.TheVariants as reply
use Rattle.si_core.specs.Laws.{JournalStays}
use Rattle.si_core.specs.Machine.{AppliesUntil, AreApplied, IsApply, IsRun, IsStep, LeavesJournal, Machine, Progress, SettlesFrom, TellsPosition, applied, no_shard, nothing_left, out_of_memory, spoiled_before, spoiled_now, with_progress}

-- ---- what an application leaves

beside_itself : (M N : Machine) → N ≡ M → LeavesJournal M N
beside_itself M N e = record { limit = ap (λ P. P.limit) e; journal = ap (λ P. P.journal) e; shards = ap (λ P. length P.shards) e }

beside_progress : (M : Machine) (k : ℕ) (p : Progress) → LeavesJournal M (with_progress M k p)
beside_progress M k p = record { limit = refl; journal = refl; shards = length-set M.shards k p }

pub apply_beside : (M N : Machine) (k : ℕ) (r : Reply) → IsApply M k r N → LeavesJournal M N
apply_beside M N k r (no_shard at) = beside_itself M M refl
apply_beside M N k r (nothing_left p at all) = beside_itself M M refl
apply_beside M N k r (spoiled_before p has was) = beside_itself M M refl
apply_beside M N k r (applied p has whole) = beside_progress M k (record { position = p.position + 1; spoiled = false })
apply_beside M N k r (out_of_memory p has whole) = beside_itself M M refl
apply_beside M N k r (spoiled_now p has whole) = beside_progress M k (record { position = p.position; spoiled = true })

pub beside_both : (M N P : Machine) → LeavesJournal M N → LeavesJournal N P → LeavesJournal M P
beside_both M N P a b = record { limit = b.limit ∙ a.limit; journal = b.journal ∙ a.journal; shards = b.shards ∙ a.shards }

-- ---- many applications

pub one_more_applied : (n : ℕ) (M N P : Machine) (k p : ℕ) → AreApplied n M k N → IsApply N k (reply.Applied p) P → AreApplied (n + 1) M k P
one_more_applied n M N P k p done next = subst (λ m. AreApplied m M k P) (let s : suc n ≡ n + 1 = omega arith in s) (by n M done)
  where
    by : (m : ℕ) (Q : Machine) → AreApplied m Q k N → AreApplied (suc m) Q k P
    by zero Q e = (p, P, subst (λ R. IsApply R k (reply.Applied p) P) e next, refl)
    by (suc m) Q (q, R, first, rest) = (q, R, first, by m R rest)

-- ---- how far it came

-- the reply to an application tells how far the shard is after it
pub told_position : (M N : Machine) (k m : ℕ) → IsApply M k (reply.Applied m) N → TellsPosition N k (reply.Applied m)
told_position M N k m (applied p has whole) = (let new : Progress = record { position = p.position + 1; spoiled = false } in (new, set_same M.shards k new p has.at, refl))

-- ---- runs

pub one_more_step : (M N P : Machine) (ss : List Step) (rs : List Reply) (s : Step) (r : Reply) → IsRun M ss rs N → IsStep N s r P → IsRun M (ss ++ s ∷ []) (rs ++ r ∷ []) P
one_more_step M N P [] [] s r run next = (P, subst (λ Q. IsStep Q s r P) run next, refl)
one_more_step M N P [] (q ∷ rs) s r run next = absurd run
one_more_step M N P (t ∷ ss) [] s r run next = absurd run
one_more_step M N P (t ∷ ss) (q ∷ rs) s r (Q, first, rest) next = (Q, first, one_more_step Q N P ss rs s r rest next)

-- ---- settling

pub many_beside : (n : ℕ) (M N : Machine) (k : ℕ) → AreApplied n M k N → LeavesJournal M N
many_beside zero M N k e = beside_itself M N e
many_beside (suc n) M N k (p, Q, first, rest) = beside_both M Q N (apply_beside M Q k (reply.Applied p) first) (many_beside n Q N k rest)

pub until_beside : (M N : Machine) (k : ℕ) (r : Reply) → AppliesUntil M k r N → LeavesJournal M N
until_beside M N k r (n, Q, many, last, other) = beside_both M Q N (many_beside n M Q k many) (apply_beside Q N k r last)

-- what the shards from k on make of M settles K, of which those before k are settled
abbrev pub SettlesWith : ℕ → ℕ → Machine → Machine → Type 0
SettlesWith K k start M = (r : Reply) (N : Machine) → SettlesFrom (K - k) k M r N → SettlesFrom K 0 start r N

left_over : (K k : ℕ) → k < K → K - k ≡ suc (K - (k + 1))
left_over K k lt = omega arith

pub settles_next : (K k : ℕ) (start M Q : Machine) → k < K → SettlesWith K k start M → AppliesUntil M k reply.Idle Q → SettlesWith K (k + 1) start Q
settles_next K k start M Q lt with_ until r N rest = with_ r N (subst (λ n. SettlesFrom n k M r N) (sym (left_over K k lt)) (inl (Q, until, rest)))

pub settles_ended : (K k : ℕ) (start M N : Machine) (r : Reply) → k < K → SettlesWith K k start M → r ≢ reply.Idle → AppliesUntil M k r N → SettlesFrom K 0 start r N
settles_ended K k start M N r lt with_ other until = with_ r N (subst (λ n. SettlesFrom n k M r N) (sym (left_over K k lt)) (inr (other, until)))

pub settles_beside : (n k : ℕ) (M N : Machine) (r : Reply) → SettlesFrom n k M r N → LeavesJournal M N
settles_beside zero k M N r e = beside_itself M N e.1
settles_beside (suc n) k M N r (inl (Q, until, rest)) = beside_both M Q N (until_beside M Q k reply.Idle until) (settles_beside n (k + 1) Q N r rest)
settles_beside (suc n) k M N r (inr e) = until_beside M N k r e.1

-- ---- the law

pub journal_stays : JournalStays
journal_stays M r N = ((λ k e. apply_beside M N k r e), (λ e. settles_beside (length M.shards) 0 M N r e))
