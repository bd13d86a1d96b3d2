-- Every sound state is reached.
use Rattle.std.proofs.Common.{◌≡◌, ◌⊎◌, ◌∙◌, ◌<◌, ◌≤◌, inl, inr, ℕ, zero, suc, ◌+◌, Bool, true, false, List, [], ◌∷◌, ◌++◌, Some, None, length, nat_le, if◌then◌else◌, replicate, slice_get, slice_set, refl, sym, ap, subst, arith, append_assoc}
use Rattle.std.specs.List.{Contains}
use Rattle.std.proofs.lemmas.Bool.Decides.{nat_tests}
use Rattle.std.proofs.lemmas.List.{append-nil}
use Rattle.si_lists.proofs.Members.{Contains-cons_cases, Contains-nil, here, there}
use Rattle.si_core.proofs.Replaced.{set_same}
use Rattle.si_model.specs.declared.edits.Edit.{Edit}
use Rattle.si_model.specs.declared.refusals.Refusal.TheVariants as refusal
use Rattle.si_model.specs.Edits.{IsAcceptable, refusal_on}
use Rattle.si_model.specs.Journals.{IsAccepted, present, refusal_after}
use Rattle.si_core.specs.declared.steps.Step.{Step}
use Rattle.si_core.specs.declared.steps.Step.TheVariants as step
use Rattle.si_core.specs.declared.steps.Reply.{Reply}
use Rattle.si_core.specs.declared.steps.Reply.TheVariants as reply
use Rattle.si_core.specs.Laws.{ApplicationsAreRun, SoundIsReached}
use Rattle.si_core.specs.Machine.{AreApplied, IsRun, Machine, Progress, TellNoRefusedMemory, TellsNoRefusedMemory, edit_accepted, opened, spoiled_now, with_progress}
use Rattle.si_core.proofs.AllLeft.{at_position, many, set_twice}
use Rattle.si_core.proofs.Soundness.{runs_join}

-- ---- so many applications are a run

tells_none : (p : ℕ) → TellsNoRefusedMemory (reply.Applied p)
tells_none p = ((λ e. cc e), (λ k e. cc e))

applied_run : (n : ℕ) (M : Machine) (k : ℕ) (N : Machine) → AreApplied n M k N → (rs : List Reply) × TellNoRefusedMemory rs × IsRun M (replicate n (step.Apply k)) rs N
applied_run zero M k N e = ([], (λ r c. absurd (Contains-nil r c)), e)
applied_run (suc n) M k N (p, Q, first, rest) = (let more = applied_run n Q k N rest in (
  reply.Applied p ∷ more.0,
  (λ r c. by more.0 more.1 r (Contains-cons_cases (reply.Applied p) more.0 r c)),
  (Q, first, more.2),
))
  where
    by : (rs : List Reply) → TellNoRefusedMemory rs → (r : Reply) → (reply.Applied p ≡ r) ⊎ Contains rs r → TellsNoRefusedMemory r
    by rs none r (inl e) = subst TellsNoRefusedMemory e (tells_none p)
    by rs none r (inr c) = none r c

pub applications_are_run : ApplicationsAreRun
applications_are_run n M k p at whole le = applied_run n M k (with_progress M k (at_position (p.position + n))) (many n M k p at whole le)

-- ---- what leads where

abbrev Reaches : Machine → Machine → Type 0
Reaches M N = (steps : List Step) × (rs : List Reply) × IsRun M steps rs N

reaches_on : (M N P : Machine) → Reaches M N → Reaches N P → Reaches M P
reaches_on M N P (ss, rs, one) (ts, qs, two) = (ss ++ ts, rs ++ qs, (runs_join M P ss ts (rs ++ qs)).1 (rs, qs, N, refl, one, two))

reaches_itself : (M : Machine) → Reaches M M
reaches_itself M = ([], [], refl)

-- ---- the journal

abbrev machine : ℕ → List Edit → List Progress → Machine
machine limit J shards = record { limit = limit; journal = J; shards = shards }

not_refused : (limit : ℕ) (J : List Edit) (e : Edit) → length J < limit → IsAcceptable (present J) e → refusal_after limit J e ≡ None
unfolding refusal_after
not_refused limit J e room ok = by (nat_le limit (length J)) refl
  where
    by : (b : Bool) → nat_le limit (length J) ≡ b → (if b then Some refusal.Full else refusal_on (present J) e) ≡ None
    by true is = absurd (grind (arith, nat_tests))
    by false is = ok

accepts : (limit : ℕ) (shards : List Progress) (before rest : List Edit) → IsAccepted (before ++ rest) → length (before ++ rest) ≤ limit
    → Reaches (machine limit before shards) (machine limit (before ++ rest) shards)
accepts limit shards before [] accepted within = subst (λ J. Reaches (machine limit before shards) (machine limit J shards)) (sym (append-nil before)) (reaches_itself (machine limit before shards))
accepts limit shards before (e ∷ rest) accepted within =
    let next = before ++ e ∷ [] in
    let same : next ++ rest ≡ before ++ e ∷ rest = append_assoc before (e ∷ []) rest in
    let room : length before < limit = longer before in
    let none = not_refused limit before e room (accepted before e rest refl) in
    let one : Reaches (machine limit before shards) (machine limit next shards) =
    (step.Accept e ∷ [], reply.Accepted (record { 0 = length before + 1 }) ∷ [], (machine limit next shards, edit_accepted none, refl))
    in
    let more = accepts limit shards next rest (subst IsAccepted (sym same) accepted) (subst (λ (J : List Edit). length J ≤ limit) (sym same) within) in
    subst (λ J. Reaches (machine limit before shards) (machine limit J shards)) same
    (reaches_on (machine limit before shards) (machine limit next shards) (machine limit (next ++ rest) shards) one more)
  where
    past : (xs : List Edit) → length xs < length (xs ++ e ∷ rest)
    past [] = omega arith
    past (x ∷ xs) = let l = past xs in omega arith

    longer : (xs : List Edit) → length before < limit
    longer xs = let l = past before in omega arith

-- ---- one shard

abbrev start : Progress
start = at_position 0

-- what a shard of a sound state of that journal is
abbrev CanBe : List Edit → Progress → Type 0
CanBe J p = (p.position ≤ length J) × (p.spoiled ≡ true → p.position < length J)

applies : (M : Machine) (k : ℕ) (p : Progress) → slice_get M.shards k ≡ Some start → CanBe M.journal p → Reaches M (with_progress M k p)
applies M k p at can = by p.spoiled refl
  where
    Q : Machine
    Q = with_progress M k (at_position p.position)

    so_many : Reaches M Q
    so_many =
        let within : 0 + p.position ≤ length M.journal = (let l = can.0 in omega arith) in
        let r = applications_are_run p.position M k start at refl within in
        let none : 0 + p.position ≡ p.position = omega arith in
        (replicate p.position (step.Apply k), r.0, subst (λ n. IsRun M (replicate p.position (step.Apply k)) r.0 (with_progress M k (at_position n))) none r.2)

    by : (b : Bool) → p.spoiled ≡ b → Reaches M (with_progress M k p)
    by false is = subst (λ q. Reaches M (with_progress M k q)) (ap (λ b. record { position = p.position; spoiled = b }) (sym is)) so_many
    by true is =
        let spoiled : Progress = record { position = p.position; spoiled = true } in
        let here : slice_get Q.shards k ≡ Some (at_position p.position) = set_same M.shards k (at_position p.position) start at in
        let end : Machine = with_progress Q k spoiled in
        let one : Reaches Q end =
        (step.Apply k ∷ [], reply.Spoiled k ∷ [], (end, spoiled_now (at_position p.position) (record { at = here; left = can.1 is }) refl, refl)) in
        let last : end ≡ with_progress M k p =
        ap (λ l. record M { shards = l }) (set_twice M.shards k (at_position p.position) spoiled
        ∙ ap (λ b. slice_set M.shards k (record { position = p.position; spoiled = b })) (sym is)) in
        subst (Reaches M) last (reaches_on M Q end so_many one)

-- ---- all shards

at_end : (done : List Progress) (x : Progress) (rest : List Progress) → slice_get (done ++ x ∷ rest) (length done) ≡ Some x
at_end [] x rest = refl
at_end (y ∷ done) x rest = at_end done x rest

set_end : (done : List Progress) (x p : Progress) (rest : List Progress) → slice_set (done ++ x ∷ rest) (length done) p ≡ done ++ p ∷ rest
set_end [] x p rest = refl
set_end (y ∷ done) x p rest = ap (λ l. y ∷ l) (set_end done x p rest)

all_apply : (limit : ℕ) (J : List Edit) (done rest : List Progress) → ((p : Progress) → Contains rest p → CanBe J p)
    → Reaches (machine limit J (done ++ replicate (length rest) start)) (machine limit J (done ++ rest))
all_apply limit J done [] can = reaches_itself (machine limit J (done ++ []))
all_apply limit J done (p ∷ rest) can =
    let fresh = replicate (length rest) start in
    let M = machine limit J (done ++ start ∷ fresh) in
    let next = done ++ p ∷ [] in
    let one = applies M (length done) p (at_end done start fresh) (can p (here p rest)) in
    let set : slice_set (done ++ start ∷ fresh) (length done) p ≡ next ++ fresh = set_end done start p fresh ∙ sym (append_assoc done (p ∷ []) fresh) in
    let more = all_apply limit J next rest (λ q c. can q (there p rest q c)) in
    let N = machine limit J (next ++ fresh) in
    let P = machine limit J (next ++ rest) in
    let all : Reaches M P = reaches_on M N P (subst (λ l. Reaches M (machine limit J l)) set one) more in
    subst (λ l. Reaches M (machine limit J l)) (append_assoc done (p ∷ []) rest) all

pub sound_is_reached : SoundIsReached
sound_is_reached M sound =
    let n = length M.shards in
    let fresh = replicate n start in
    let journal = accepts M.limit fresh [] M.journal sound.accepted sound.within in
    let shards = all_apply M.limit M.journal [] M.shards (λ p c. (sound.positions p c, sound.left p c)) in
    reaches_on (opened n M.limit) (machine M.limit M.journal fresh) M journal shards
