-- What is so in every state that runs reach, and the joining of runs.
use Rattle.std.proofs.Common.{◌≡◌, ◌∙◌, ◌≢◌, ◌⊎◌, ◌<◌, ◌≤◌, inl, inr, ℕ, zero, suc, ◌+◌, Bool, true, false, true≢false, List, [], ◌∷◌, ◌++◌, Some, None, length, nat_le, if◌then◌else◌, replicate, slice_get, slice_set, refl, sym, ap, subst, arith, leb-false}
use Rattle.std.specs.List.{Contains}
use Rattle.std.proofs.lemmas.Bool.{cases_eq}
use Rattle.std.proofs.lemmas.List.{length-append, length-replicate}
use Rattle.si_lists.proofs.Members.{Contains-cons_cases, Contains-nil, contains_get, get_contains, same_some}
use Rattle.si_core.proofs.Replaced.{set_other, set_same}
use Rattle.si_model.specs.declared.edits.Edit.{Edit}
use Rattle.si_model.specs.declared.refusals.Refusal.TheVariants as refusal
use Rattle.si_model.specs.Edits.{IsAcceptable, refusal_on}
use Rattle.si_model.specs.Journals.{IsAccepted, present, refusal_after}
use Rattle.si_model.proofs.Acceptance.{accepted_push}
use Rattle.si_core.specs.declared.steps.Step.{Step}
use Rattle.si_core.specs.declared.steps.Step.TheVariants as step
use Rattle.si_core.specs.declared.steps.Reply.{Reply}
use Rattle.si_core.specs.declared.steps.Reply.TheVariants as reply
use Rattle.si_core.specs.Laws.{ReachedIsSound, RebuildKeepsSound, RunsJoin, RunsKeepSound}
use Rattle.si_core.specs.Machine.{AppliesUntil, AreApplied, IsAccept, IsApply, IsRun, IsSound, IsStep, Machine, Progress, SettlesFrom, applied, edit_accepted, edit_out_of_memory, edit_refused, no_shard, nothing_left, opened, out_of_memory, spoiled_before, spoiled_now, with_progress}
use Rattle.si_core.proofs.Applications.{apply_beside, settles_beside}

-- ---- one progress more

-- where one stood at k, those after another is put there are that one and some of those before
among_put : (xs : List Progress) (k : ℕ) (o p q : Progress) → slice_get xs k ≡ Some o → Contains (slice_set xs k p) q → (p ≡ q) ⊎ Contains xs q
among_put xs k o p q at c = (let g = contains_get (slice_set xs k p) q c in by g.0 g.1 (cases_eq g.0 k))
  where
    by : (j : ℕ) → slice_get (slice_set xs k p) j ≡ Some q → (j ≡ k) ⊎ (j ≢ k) → (p ≡ q) ⊎ Contains xs q
    by j e (inl same) = inl (same_some (sym (set_same xs k p o at) ∙ ap (slice_get (slice_set xs k p)) (sym same) ∙ e))
    by j e (inr other) = inr (get_contains xs j q (sym (set_other xs k j p other) ∙ e))

pub sound_put : (M : Machine) (k : ℕ) (o p : Progress) → slice_get M.shards k ≡ Some o → p.position ≤ length M.journal → (p.spoiled ≡ true → p.position < length M.journal)
    → IsSound M → IsSound (with_progress M k p)
sound_put M k o p at within left sound = record {
  accepted = sound.accepted;
  within = sound.within;
  positions = λ q c. positions q (among_put M.shards k o p q at c);
  left = λ q c. still q (among_put M.shards k o p q at c);
}
  where
    positions : (q : Progress) → (p ≡ q) ⊎ Contains M.shards q → q.position ≤ length M.journal
    positions q (inl e) = subst (λ (w : Progress). w.position ≤ length M.journal) e within
    positions q (inr c) = sound.positions q c

    still : (q : Progress) → (p ≡ q) ⊎ Contains M.shards q → q.spoiled ≡ true → q.position < length M.journal
    still q (inl e) = subst (λ (w : Progress). w.spoiled ≡ true → w.position < length M.journal) e left
    still q (inr c) = sound.left q c

-- ---- Accept

-- an edit that isn't refused has room and is acceptable
room_and_acceptable : (limit : ℕ) (J : List Edit) (e : Edit) → refusal_after limit J e ≡ None → (length J < limit) × IsAcceptable (present J) e
unfolding refusal_after
room_and_acceptable limit J e none = by (nat_le limit (length J)) refl none
  where
    by : (b : Bool) → nat_le limit (length J) ≡ b → (if b then Some refusal.Full else refusal_on (present J) e) ≡ None → (length J < limit) × IsAcceptable (present J) e
    by true is free = cc
    by false is free = (let lt = leb-false limit (length J) is in omega arith, free)

sound_accept : (M : Machine) (e : Edit) (r : Reply) (N : Machine) → IsAccept M e r N → IsSound M → IsSound N
sound_accept M e r N (edit_refused f is) sound = sound
sound_accept M e r N (edit_accepted none) sound =
    let can = room_and_acceptable M.limit M.journal e none in
    let long = length-append M.journal (e ∷ []) in
    let fits = can.0 in
    record {
      accepted = (accepted_push M.journal e).1 (sound.accepted, can.1);
      within = omega arith;
      positions = λ p c. (let w = sound.positions p c in omega arith);
      left = λ p c s. (let w = sound.left p c s in omega arith);
    }
sound_accept M e r N (edit_out_of_memory none) sound = sound

-- ---- Apply

sound_apply : (M : Machine) (k : ℕ) (r : Reply) (N : Machine) → IsApply M k r N → IsSound M → IsSound N
sound_apply M k r N (no_shard none) sound = sound
sound_apply M k r N (nothing_left p at all) sound = sound
sound_apply M k r N (spoiled_before p has was) sound = sound
sound_apply M k r N (applied p has whole) sound =
    let new : Progress = record { position = p.position + 1; spoiled = false } in
    let left = has.left in
    sound_put M k p new has.at (omega arith) (λ s. absurd (true≢false (sym s))) sound
sound_apply M k r N (out_of_memory p has whole) sound = sound
sound_apply M k r N (spoiled_now p has whole) sound =
    let new : Progress = record { position = p.position; spoiled = true } in
    let left = has.left in
    sound_put M k p new has.at (omega arith) (λ s. left) sound

-- ---- a rebuild

pub rebuild_keeps_sound : RebuildKeepsSound
rebuild_keeps_sound M k N (p, at, is) sound =
    let new : Progress = record p { spoiled = false } in
    subst IsSound (sym is) (sound_put M k p new at (sound.positions p (get_contains M.shards k p at)) (λ s. absurd (true≢false (sym s))) sound)

-- ---- Settle

sound_many : (n k : ℕ) (M N : Machine) → AreApplied n M k N → IsSound M → IsSound N
sound_many zero k M N e sound = subst IsSound (sym e) sound
sound_many (suc n) k M N (p, Q, first, rest) sound = sound_many n k Q N rest (sound_apply M k (reply.Applied p) Q first sound)

sound_until : (k : ℕ) (M : Machine) (r : Reply) (N : Machine) → AppliesUntil M k r N → IsSound M → IsSound N
sound_until k M r N (n, Q, many, last, other) sound = sound_apply Q k r N last (sound_many n k M Q many sound)

sound_settles : (n k : ℕ) (M : Machine) (r : Reply) (N : Machine) → SettlesFrom n k M r N → IsSound M → IsSound N
sound_settles zero k M r N e sound = subst IsSound (sym e.1) sound
sound_settles (suc n) k M r N (inl (Q, until, rest)) sound = sound_settles n (k + 1) Q r N rest (sound_until k M reply.Idle Q until sound)
sound_settles (suc n) k M r N (inr e) sound = sound_until k M r N e.1 sound

-- ---- steps and runs

sound_step : (M : Machine) (t : Step) (r : Reply) (N : Machine) → IsStep M t r N → IsSound M → IsSound N
sound_step M (step.Accept d) r N e sound = sound_accept M d r N e sound
sound_step M (step.Apply k) r N e sound = sound_apply M k r N e sound
sound_step M step.Settle r N e sound = sound_settles (length M.shards) 0 M r N e sound

pub runs_keep_sound : RunsKeepSound
runs_keep_sound M [] [] N e sound = subst IsSound (sym e) sound
runs_keep_sound M [] (r ∷ rs) N e sound = absurd e
runs_keep_sound M (t ∷ ts) [] N e sound = absurd e
runs_keep_sound M (t ∷ ts) (r ∷ rs) N (Q, first, rest) sound = runs_keep_sound Q ts rs N rest (sound_step M t r Q first sound)

-- the limit and how many shards there are stay
abbrev SizesStay : Machine → Machine → Type 0
SizesStay M N = (N.limit ≡ M.limit) × (length N.shards ≡ length M.shards)

accept_sizes : (M : Machine) (e : Edit) (r : Reply) (N : Machine) → IsAccept M e r N → SizesStay M N
accept_sizes M e r N (edit_refused f is) = (refl, refl)
accept_sizes M e r N (edit_accepted none) = (refl, refl)
accept_sizes M e r N (edit_out_of_memory none) = (refl, refl)

step_sizes : (M : Machine) (t : Step) (r : Reply) (N : Machine) → IsStep M t r N → SizesStay M N
step_sizes M (step.Accept d) r N e = accept_sizes M d r N e
step_sizes M (step.Apply k) r N e = (let b = apply_beside M N k r e in (b.limit, b.shards))
step_sizes M step.Settle r N e = (let b = settles_beside (length M.shards) 0 M N r e in (b.limit, b.shards))

run_sizes : (M : Machine) (ss : List Step) (rs : List Reply) (N : Machine) → IsRun M ss rs N → SizesStay M N
run_sizes M [] [] N e = (ap (λ P. P.limit) e, ap (λ P. length P.shards) e)
run_sizes M [] (r ∷ rs) N e = absurd e
run_sizes M (t ∷ ts) [] N e = absurd e
run_sizes M (t ∷ ts) (r ∷ rs) N (Q, first, rest) = (let a = step_sizes M t r Q first in let b = run_sizes Q ts rs N rest in (b.0 ∙ a.0, b.1 ∙ a.1))

-- ---- from the beginning

among_same : (n : ℕ) (p q : Progress) → Contains (replicate n p) q → p ≡ q
among_same zero p q c = absurd (Contains-nil q c)
among_same (suc n) p q c = elim (Contains-cons_cases p (replicate n p) q c) [ inl e ↦ e | inr more ↦ among_same n p q more ]

none_accepted : IsAccepted []
none_accepted [] e rest is = cc
none_accepted (b ∷ before) e rest is = cc

opened_sound : (shards limit : ℕ) → IsSound (opened shards limit)
opened_sound shards limit = record {
  accepted = none_accepted;
  within = omega arith;
  positions = λ p c. (let e = ap (λ (w : Progress). w.position) (among_same shards start p c) in omega arith);
  left = λ p c s. absurd (true≢false (sym s ∙ ap (λ (w : Progress). w.spoiled) (sym (among_same shards start p c))));
}
  where
    start : Progress
    start = record { position = 0; spoiled = false }

pub reached_is_sound : ReachedIsSound
reached_is_sound shards limit ss rs N run =
    let sizes = run_sizes (opened shards limit) ss rs N run in
    (runs_keep_sound (opened shards limit) ss rs N run (opened_sound shards limit), sizes.0, sizes.1 ∙ length-replicate shards _)

-- ---- joined runs

joined : (M N Q : Machine) (ss ts : List Step) (before after : List Reply) → IsRun M ss before Q → IsRun Q ts after N → IsRun M (ss ++ ts) (before ++ after) N
joined M N Q [] ts [] after e run = subst (λ P. IsRun P ts after N) e run
joined M N Q [] ts (r ∷ rs) after e run = absurd e
joined M N Q (s ∷ ss) ts [] after e run = absurd e
joined M N Q (s ∷ ss) ts (r ∷ rs) after (P, first, rest) run = (P, first, joined P N Q ss ts rs after rest run)

parted : (M N : Machine) (ss ts : List Step) (rs : List Reply) → IsRun M (ss ++ ts) rs N
    → (before after : List Reply) × (Q : Machine) × (rs ≡ before ++ after) × IsRun M ss before Q × IsRun Q ts after N
parted M N [] ts rs run = ([], rs, M, refl, refl, run)
parted M N (s ∷ ss) ts [] run = absurd run
parted M N (s ∷ ss) ts (r ∷ rs) (P, first, rest) =
    let more = parted P N ss ts rs rest in (r ∷ more.0, more.1, more.2, ap (λ l. r ∷ l) more.3, (P, first, more.4), more.5)

pub runs_join : RunsJoin
runs_join M N ss ts rs = (parted M N ss ts rs, λ w. subst (λ l. IsRun M (ss ++ ts) l N) (sym w.3) (joined M N w.2 ss ts w.0 w.1 w.4 w.5))
