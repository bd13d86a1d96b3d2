-- One shard's application, seen as a step of the machine.
use Rattle.std.proofs.Common.{◌≡◌, ◌≢◌, ◌∙◌, ◌⊎◌, inl, inr, ℕ, zero, suc, ◌+◌, ◌<◌, ◌≤◌, Bool, true, false, List, ◌∷◌, ◌++◌, [], Some, None, length, map, slice_get, slice_set, refl, sym, ap, subst, Result, Ok, Err, OnOk, OnErr}
use Rattle.std.proofs.lemmas.Bool.{cases_eq}
use Rattle.std.proofs.lemmas.List.{length-append, length-set, map-set}
use Rattle.std.proofs.lemmas.Option.{slice_get-map, slice_get_past}
use Rattle.std.specs.Option.{option_map}
use Rattle.si_lists.proofs.Members.{same_some}
use Rattle.si_model.specs.declared.edits.Edit.{Edit}
use Rattle.si_model.specs.declared.numbers.Number.{Number}
use Rattle.si_model.specs.declared.refusals.Refusal.{Refusal}
use Rattle.si_model.specs.Journals.{refusal_after}
use Rattle.si_accept.specs.Books.{BookState}
use Rattle.si_core.proofs.Replaced.{set_other, set_same}
use Rattle.si_shard.specs.declared.journal_shards.JournalShard.{JournalShard}
use Rattle.si_shard.specs.JournalShards.{Follows, JournalState, state_of}
use Rattle.si_shard.proofs.Following.{follows_longer}
use Rattle.si_shard.specs.declared.shards.TheConstants.{MOST_SHARDS}
use Rattle.si_core.specs.declared.steps.Reply.{Reply}
use Rattle.si_core.specs.declared.steps.Reply.TheVariants as reply
use Rattle.si_core.specs.Machine.{IsAccept, IsApply, IsRebuilt, Machine, Progress, applied, edit_accepted, edit_out_of_memory, edit_refused, nothing_left, spoiled_before, spoiled_now, with_progress}
use Rattle.si_core.specs.Worlds.{AppliesNext, AppliesTo, IsShardOf, IsWorld, machine_of, progress_in, progress_of}

-- what stands at k put there again changes nothing
pub set_again : {X : Type 0} (xs : List X) (k : ℕ) (x : X) → slice_get xs k ≡ Some x → slice_set xs k x ≡ xs
set_again [] k x e = cc
set_again (y ∷ xs) zero x e = ap (λ w. w ∷ xs) (sym (same_some e))
set_again (y ∷ xs) (suc k) x e = ap (λ l. y ∷ l) (set_again xs k x e)

-- ---- another state of a shard

module _ (book : BookState) (shards : List JournalShard) (k : ℕ) (s t : JournalShard) (at : slice_get shards k ≡ Some s) where
  pub at_progress : slice_get (map progress_of shards) k ≡ Some (progress_of s)
  at_progress = slice_get-map progress_of shards k ∙ ap (option_map progress_of) at

  -- the machine changes in its progress alone
  pub progressed : (p : Progress) → progress_of t ≡ p → machine_of book (slice_set shards k t) ≡ with_progress (machine_of book shards) k p
  progressed p e = ap (λ l. record { limit = book.limit; journal = book.journal; shards = l }) (map-set progress_of shards k t ∙ ap (slice_set (map progress_of shards) k) e)

  -- nothing changes where that doesn't
  pub unchanged : state_of t ≡ state_of s → machine_of book (slice_set shards k t) ≡ machine_of book shards
  unchanged e = progressed (progress_of s) (ap progress_in e) ∙ ap (λ l. record { limit = book.limit; journal = book.journal; shards = l }) (set_again (map progress_of shards) k (progress_of s) at_progress)

  -- a world stays one where the other state has applied a beginning of the journal too
  pub world_put : IsShardOf book.journal (length shards) k t → IsWorld book shards → IsWorld book (slice_set shards k t)
  world_put is w = record {
    some = subst (λ m. 1 ≤ m) (sym (length-set shards k t)) w.some;
    most = subst (λ m. m ≤ MOST_SHARDS) (sym (length-set shards k t)) w.most;
    each = λ j u e. subst (λ m. IsShardOf book.journal m j u) (sym (length-set shards k t)) (by j u (cases_eq j k) e);
  }
    where
      by : (j : ℕ) (u : JournalShard) → (j ≡ k) ⊎ (j ≢ k) → slice_get (slice_set shards k t) j ≡ Some u → IsShardOf book.journal (length shards) j u
      by j u (inl same) e =
          let new : t ≡ u = same_some (sym (set_same shards k t s at) ∙ ap (slice_get (slice_set shards k t)) (sym same) ∙ e) in
          subst (λ i. IsShardOf book.journal (length shards) i u) (sym same) (subst (IsShardOf book.journal (length shards) k) new is)
      by j u (inr other) e = w.each j u (sym (set_other shards k j t other) ∙ e)

-- a number that no shard has
pub beyond_all : (book : BookState) (shards : List JournalShard) (k : ℕ) (M : Machine) → machine_of book shards ≡ M → length shards ≤ k → slice_get M.shards k ≡ None
beyond_all book shards k M is beyond =
    ap (λ N. slice_get N.shards k) (sym is) ∙ slice_get-map progress_of shards k ∙ ap (option_map progress_of) (slice_get_past shards k beyond)

-- ---- the machine after an application

-- a reply and a state that are those of a case
pub so_told : (M N P : Machine) (k : ℕ) (r s : Reply) → r ≡ s → N ≡ P → IsApply M k s P → IsApply M k r N
so_told M N P k r s told is a = subst (λ w. IsApply M k w N) (sym told) (subst (IsApply M k s) (sym is) a)

module _ (book : BookState) (shards : List JournalShard) (k : ℕ) (s t : JournalShard) (at : slice_get shards k ≡ Some s) (r : Reply) (step : AppliesNext book.journal k s r t) where
  pub applies : IsApply (machine_of book shards) k r (machine_of book (slice_set shards k t))
  applies = elim step.1 [
    | inl idle ↦ so_told M N M k r reply.Idle idle.1 (unchanged book shards k s t at idle.2) (nothing_left (progress_of s) (at_progress book shards k s t at) idle.0)
    | inr left ↦ by s.spoiled refl left.0 left.1
  ]
    where
      M : Machine
      M = machine_of book shards

      N : Machine
      N = machine_of book (slice_set shards k t)

      by : (b : Bool) → s.spoiled ≡ b → s.position < length book.journal → AppliesTo (s.position + 1) k (state_of s) b (reply.Applied (s.position + 1)) r (state_of t) → IsApply M k r N
      by true is lt e = so_told M N M k r (reply.Spoiled k) e.0 (unchanged book shards k s t at e.1) (spoiled_before (progress_of s) (record { at = at_progress book shards k s t at; left = lt }) is)
      by false is lt (inl e) =
          let next : Progress = record { position = s.position + 1; spoiled = false } in
          let same = progressed book shards k s t at next (ap progress_in e.1 ∙ ap (λ b. record { position = s.position + 1; spoiled = b }) is) in
          so_told M N (with_progress M k next) k r (reply.Applied (s.position + 1)) e.0 same (applied (progress_of s) (record { at = at_progress book shards k s t at; left = lt }) is)
      by false is lt (inr e) =
          let spoiled : Progress = record { position = s.position; spoiled = true } in
          so_told M N (with_progress M k spoiled) k r (reply.Spoiled k) e.0 (progressed book shards k s t at spoiled (ap progress_in e.1))
          (spoiled_now (progress_of s) (record { at = at_progress book shards k s t at; left = lt }) is)

-- a shard that stays the same one
pub world_still : (book : BookState) (shards : List JournalShard) (k : ℕ) (s t : JournalShard) → slice_get shards k ≡ Some s → IsShardOf book.journal s.id.shards k t → IsWorld book shards → IsWorld book (slice_set shards k t)
world_still book shards k s t at is w = world_put book shards k s t at (subst (λ m. IsShardOf book.journal m k t) (w.each k s at).count is) w

-- ---- a rebuild

module _ (book : BookState) (shards : List JournalShard) (k : ℕ) (s t : JournalShard) (at : slice_get shards k ≡ Some s) where
  pub rebuilt_world : {T E : Type 0} (r : Result T E) → OnOk r (state_of t ≡ record (state_of s) { spoiled = false }) → OnErr r (t ≡ s) → Follows book.journal t → IsWorld book shards → IsWorld book (slice_set shards k t)
  rebuilt_world (Ok u) ok err follows w =
      let is = w.each k s at in
      world_put book shards k s t at (record { number = ap (λ (x : JournalState). x.id.shard) ok ∙ is.number; count = ap (λ (x : JournalState). x.id.shards) ok ∙ is.count; follows = follows }) w
  rebuilt_world (Err f) ok err follows w = world_put book shards k s t at (subst (IsShardOf book.journal (length shards) k) (sym err) (w.each k s at)) w

  pub rebuilt : {T E : Type 0} (r : Result T E) → OnOk r (state_of t ≡ record (state_of s) { spoiled = false }) → OnOk r (IsRebuilt (machine_of book shards) k (machine_of book (slice_set shards k t)))
  rebuilt (Ok u) ok =
      let new : Progress = record { position = s.position; spoiled = false } in
      (progress_of s, at_progress book shards k s t at, progressed book shards k s t at new (ap progress_in ok))
  rebuilt (Err f) ok = ok

-- ---- one more edit in the journal

pub world_grown : (b c : BookState) (e : Edit) (shards : List JournalShard) → c.journal ≡ b.journal ++ e ∷ [] → IsWorld b shards → IsWorld c shards
world_grown b c e shards grown w = record {
  some = w.some;
  most = w.most;
  each = λ k s at. (let is = w.each k s at in record {
    number = is.number;
    count = is.count;
    follows = subst (λ J. Follows J s) (sym grown) (follows_longer b.journal (e ∷ []) s is.follows);
  });
}

-- a world is one whatever is noted
pub world_noted : (b c : BookState) (shards : List JournalShard) → c.journal ≡ b.journal → IsWorld b shards → IsWorld c shards
world_noted b c shards same w = record { some = w.some; most = w.most; each = λ k s at. subst (λ J. IsShardOf J (length shards) k s) (sym same) (w.each k s at) }

-- a shard knows how many there are
pub own_count : (J : List Edit) (n k : ℕ) (s : JournalShard) → IsShardOf J n k s → IsShardOf J s.id.shards k s
own_count J n k s is = record { number = is.number; count = refl; follows = is.follows }

pub world_after : {T E : Type 0} (b c : BookState) (e : Edit) (shards : List JournalShard) (r : Result T E) → OnOk r (c ≡ record b { journal = b.journal ++ e ∷ [] }) → OnErr r (c ≡ b)
    → IsWorld b shards → IsWorld c shards
world_after b c e shards (Ok n) ok err w = world_grown b c e shards (ap (λ x. x.journal) ok) w
world_after b c e shards (Err f) ok err w = subst (λ x. IsWorld x shards) (sym err) w

-- ---- the reply to an edit

module _ (book new : BookState) (shards : List JournalShard) (e : Edit) where
  pub accepts : (n : Number) → refusal_after book.limit book.journal e ≡ None → new ≡ record book { journal = book.journal ++ e ∷ [] } → n.0 ≡ length new.journal
      → IsAccept (machine_of book shards) e (reply.Accepted n) (machine_of new shards)
  accepts n none is number =
      let told : length book.journal + 1 ≡ n.0 = sym (length-append book.journal (e ∷ [])) ∙ ap (λ (b : BookState). length b.journal) (sym is) ∙ sym number in
      subst (λ k. IsAccept (machine_of book shards) e (reply.Accepted (record { 0 = k })) (machine_of new shards)) told
      (subst (λ b. IsAccept (machine_of book shards) e (reply.Accepted (record { 0 = length book.journal + 1 })) (machine_of b shards)) (sym is) (edit_accepted none))

  pub refuses : (f : Refusal) → refusal_after book.limit book.journal e ≡ Some f → new ≡ book → IsAccept (machine_of book shards) e (reply.Refused f) (machine_of new shards)
  refuses f first is = subst (λ b. IsAccept (machine_of book shards) e (reply.Refused f) (machine_of b shards)) (sym is) (edit_refused f first)

  pub lacks_memory : refusal_after book.limit book.journal e ≡ None → new ≡ book → IsAccept (machine_of book shards) e reply.NoMemory (machine_of new shards)
  lacks_memory none is = subst (λ b. IsAccept (machine_of book shards) e reply.NoMemory (machine_of b shards)) (sym is) (edit_out_of_memory none)
