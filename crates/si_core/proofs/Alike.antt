-- Where no memory was refused the machine is a function.
use Rattle.std.proofs.Common.{◌≡◌, ◌∙◌, ◌≤◌, inl, inr, ℕ, zero, suc, ◌+◌, false, [], ◌∷◌, Some, None, length, slice_get, refl, sym, ap, ap₂, subst, arith}
use Rattle.si_lists.proofs.Members.{here, same_some, there}
use Rattle.si_model.specs.declared.edits.Edit.{Edit}
use Rattle.si_core.specs.declared.steps.Step.{Step}
use Rattle.si_core.specs.declared.steps.Step.TheVariants as step
use Rattle.si_core.specs.declared.steps.Reply.{Reply}
use Rattle.si_core.specs.declared.steps.Reply.TheVariants as reply
use Rattle.si_core.specs.Laws.{RunIsFunction}
use Rattle.si_core.specs.Machine.{AppliesUntil, AreApplied, HasEditLeft, IsAccept, IsApply, IsOther, IsRun, IsStep, Machine, Progress, SettlesFrom, TellsNoRefusedMemory, applied, edit_accepted, edit_out_of_memory, edit_refused, no_shard, nothing_left, out_of_memory, spoiled_before, spoiled_now, with_progress}

-- the same reply and the same state
abbrev Alike : Reply → Reply → Machine → Machine → Type 0
Alike r s N P = (r ≡ s) × (N ≡ P)

applied_tells : (p : ℕ) → TellsNoRefusedMemory (reply.Applied p)
applied_tells p = ((λ e. cc), (λ k e. cc))

idle_tells : TellsNoRefusedMemory reply.Idle
idle_tells = ((λ e. cc), (λ k e. cc))

-- ---- Accept

accept_alike : (M : Machine) (e : Edit) (r s : Reply) (N P : Machine) → TellsNoRefusedMemory r → TellsNoRefusedMemory s → IsAccept M e r N → IsAccept M e s P → Alike r s N P
accept_alike M e r s N P x y (edit_refused f a) (edit_refused g b) = (ap (λ h. reply.Refused h) (same_some (sym a ∙ b)), refl)
accept_alike M e r s N P x y (edit_refused f a) (edit_accepted b) = (let no : Some f ≡ None = sym a ∙ b in cc)
accept_alike M e r s N P x y (edit_accepted a) (edit_refused g b) = (let no : Some g ≡ None = sym b ∙ a in cc)
accept_alike M e r s N P x y (edit_accepted a) (edit_accepted b) = (refl, refl)
accept_alike M e r s N P x y (edit_out_of_memory a) q = absurd (x.0 refl)
accept_alike M e r s N P x y p (edit_out_of_memory b) = absurd (y.0 refl)

-- ---- Apply

-- a shard with an edit left is one, and has not applied the whole journal
is_there : (M : Machine) (k : ℕ) (p : Progress) → HasEditLeft M k p → slice_get M.shards k ≡ None → ⊥
is_there M k p has none = let no : Some p ≡ None = sym has.at ∙ none in cc

same_progress : (M : Machine) (k : ℕ) (p q : Progress) → slice_get M.shards k ≡ Some p → slice_get M.shards k ≡ Some q → p ≡ q
same_progress M k p q at also = same_some (sym at ∙ also)

has_left : (M : Machine) (k : ℕ) (p q : Progress) → HasEditLeft M k p → slice_get M.shards k ≡ Some q → length M.journal ≤ q.position → ⊥
has_left M k p q has at all =
    let same : q.position ≡ p.position = ap (λ (w : Progress). w.position) (same_progress M k q p at has.at) in
    let left = has.left in
    omega arith

apply_alike : (M : Machine) (k : ℕ) (r s : Reply) (N P : Machine) → TellsNoRefusedMemory r → TellsNoRefusedMemory s → IsApply M k r N → IsApply M k s P → Alike r s N P
apply_alike M k r s N P x y (no_shard a) (no_shard b) = (refl, refl)
apply_alike M k r s N P x y (no_shard a) (nothing_left q b all) = (refl, refl)
apply_alike M k r s N P x y (no_shard a) (applied q b whole) = absurd (is_there M k q b a)
apply_alike M k r s N P x y (nothing_left p a all) (no_shard b) = (refl, refl)
apply_alike M k r s N P x y (nothing_left p a all) (nothing_left q b all_) = (refl, refl)
apply_alike M k r s N P x y (nothing_left p a all) (applied q b whole) = absurd (has_left M k q p b a all)
apply_alike M k r s N P x y (applied p a whole) (no_shard b) = absurd (is_there M k p a b)
apply_alike M k r s N P x y (applied p a whole) (nothing_left q b all) = absurd (has_left M k p q a b all)
apply_alike M k r s N P x y (applied p a whole) (applied q b whole_) =
    let same : p.position ≡ q.position = ap (λ (w : Progress). w.position) (same_progress M k p q a.at b.at) in
    (ap (λ n. reply.Applied (n + 1)) same, ap (λ n. with_progress M k (record { position = n + 1; spoiled = false })) same)
apply_alike M k r s N P x y (spoiled_before p a was) f = absurd (x.1 k refl)
apply_alike M k r s N P x y (out_of_memory p a whole) f = absurd (x.0 refl)
apply_alike M k r s N P x y (spoiled_now p a whole) f = absurd (x.1 k refl)
apply_alike M k r s N P x y e (spoiled_before q b was) = absurd (y.1 k refl)
apply_alike M k r s N P x y e (out_of_memory q b whole) = absurd (y.0 refl)
apply_alike M k r s N P x y e (spoiled_now q b whole) = absurd (y.1 k refl)

-- ---- Settle

many_alike : (n m k : ℕ) (M Q R : Machine) (r s : Reply) (N P : Machine) → TellsNoRefusedMemory r → TellsNoRefusedMemory s → IsOther r → IsOther s
    → AreApplied n M k Q → IsApply Q k r N → AreApplied m M k R → IsApply R k s P → Alike r s N P
many_alike zero zero k M Q R r s N P x y o u a e b f = apply_alike M k r s N P x y (subst (λ W. IsApply W k r N) a e) (subst (λ W. IsApply W k s P) b f)
many_alike zero (suc m) k M Q R r s N P x y o u a e (q, S, first, rest) f =
    absurd (o q (apply_alike M k r (reply.Applied q) N S x (applied_tells q) (subst (λ W. IsApply W k r N) a e) first).0)
many_alike (suc n) zero k M Q R r s N P x y o u (p, S, first, rest) e b f =
    absurd (u p (apply_alike M k s (reply.Applied p) P S y (applied_tells p) (subst (λ W. IsApply W k s P) b f) first).0)
many_alike (suc n) (suc m) k M Q R r s N P x y o u (p, S, first, rest) e (q, T, other, more) f =
    let same = (apply_alike M k (reply.Applied p) (reply.Applied q) S T (applied_tells p) (applied_tells q) first other).1 in
    many_alike n m k S Q R r s N P x y o u rest e (subst (λ W. AreApplied m W k R) (sym same) more) f

until_alike : (k : ℕ) (M : Machine) (r s : Reply) (N P : Machine) → TellsNoRefusedMemory r → TellsNoRefusedMemory s → AppliesUntil M k r N → AppliesUntil M k s P → Alike r s N P
until_alike k M r s N P x y (n, Q, a, e, o) (m, R, b, f, u) = many_alike n m k M Q R r s N P x y o u a e b f

settles_alike : (n k : ℕ) (M : Machine) (r s : Reply) (N P : Machine) → TellsNoRefusedMemory r → TellsNoRefusedMemory s → SettlesFrom n k M r N → SettlesFrom n k M s P → Alike r s N P
settles_alike zero k M r s N P x y e f = (e.0 ∙ sym f.0, e.1 ∙ sym f.1)
settles_alike (suc n) k M r s N P x y (inl (Q, until, rest)) (inl (R, also, more)) =
    let same = (until_alike k M reply.Idle reply.Idle Q R idle_tells idle_tells until also).1 in
    settles_alike n (k + 1) Q r s N P x y rest (subst (λ W. SettlesFrom n (k + 1) W s P) (sym same) more)
settles_alike (suc n) k M r s N P x y (inl (Q, until, rest)) (inr (other, also)) = absurd (other (sym (until_alike k M reply.Idle s Q P idle_tells y until also).0))
settles_alike (suc n) k M r s N P x y (inr (other, until)) (inl (R, also, more)) = absurd (other (until_alike k M r reply.Idle N R x idle_tells until also).0)
settles_alike (suc n) k M r s N P x y (inr e) (inr f) = until_alike k M r s N P x y e.1 f.1

-- ---- steps and runs

step_alike : (M : Machine) (t : Step) (r s : Reply) (N P : Machine) → TellsNoRefusedMemory r → TellsNoRefusedMemory s → IsStep M t r N → IsStep M t s P → Alike r s N P
step_alike M (step.Accept d) r s N P x y e f = accept_alike M d r s N P x y e f
step_alike M (step.Apply k) r s N P x y e f = apply_alike M k r s N P x y e f
step_alike M step.Settle r s N P x y e f = settles_alike (length M.shards) 0 M r s N P x y e f

pub run_is_function : RunIsFunction
run_is_function M [] [] [] N P e f x y = (refl, e ∙ sym f)
run_is_function M [] [] (s ∷ ss) N P e f x y = absurd f
run_is_function M [] (r ∷ rs) ss N P e f x y = absurd e
run_is_function M (t ∷ ts) [] ss N P e f x y = absurd e
run_is_function M (t ∷ ts) (r ∷ rs) [] N P e f x y = absurd f
run_is_function M (t ∷ ts) (r ∷ rs) (s ∷ ss) N P (Q, first, rest) (R, other, more) x y =
    let one = step_alike M t r s Q R (x r (here r rs)) (y s (here s ss)) first other in
    let all = run_is_function Q ts rs ss N P rest (subst (λ W. IsRun W ts ss P) (sym one.1) more) (λ w c. x w (there r rs w c)) (λ w c. y w (there s ss w c)) in
    (ap₂ (λ a b. a ∷ b) one.0 all.0, all.1)
