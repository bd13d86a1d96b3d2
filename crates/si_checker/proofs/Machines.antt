-- The words are a state of the core's machine.
use Rattle.std.proofs.Common.{◌≡◌, ◌∙◌, ◌<◌, ◌≤◌, inl, inr, ℕ, zero, suc, Bool, true, List, [], ◌∷◌, ◌++◌, length, refl, sym, ap, subst, arith, length-append}
use Rattle.std.specs.List.{Contains}
use Rattle.atomic_table.specs.Table.{State}
use Rattle.std.proofs.lemmas.List.{length-map}
use Rattle.std.proofs.lemmas.List.Elements.{Contains-append_cases}
use Rattle.si_lists.proofs.Members.{Contains-nil, Contains-one}
use Rattle.si_core.specs.Laws.{SoundIsReached}
use Rattle.si_core.specs.Machine.{IsRun, IsSound, Machine, Progress, opened}
use Rattle.si_core.specs.declared.steps.Step.{Step}
use Rattle.si_core.specs.declared.steps.Reply.{Reply}
use Rattle.si_words.specs.declared.views.Entry.{Entry}
use Rattle.si_words.specs.declared.views.View.{View}
use Rattle.si_words.specs.Entries.{IsBeginning, edit_in, edits_of}
use Rattle.si_words.specs.Laws.{IsJournalOf, OneJournalForAll}
use Rattle.si_words.specs.Rule.{watermark}
use Rattle.si_checker.specs.Laws.{HasEditLeftBySeat, WordsAreMachine, machine_in, progress_below}

abbrev at : List ℕ → (ℕ → Bool) → ℕ → Progress
at words spoiled k = record { position = watermark words k; spoiled = spoiled k }

progress_of : (n : ℕ) (words : List ℕ) (spoiled : ℕ → Bool) (p : Progress) → Contains (progress_below n words spoiled) p → (k : ℕ) × (k < n) × (at words spoiled k ≡ p)
progress_of zero words spoiled p c = absurd (Contains-nil p c)
progress_of (suc n) words spoiled p c = elim (Contains-append_cases (progress_below n words spoiled) (at words spoiled n ∷ []) p c) [
  | inl d ↦ let r = progress_of n words spoiled p d in (r.0, (let l = r.1 in omega arith), r.2)
  | inr d ↦ (n, omega arith, Contains-one (at words spoiled n) p d)
]

so_many : (n : ℕ) (words : List ℕ) (spoiled : ℕ → Bool) → length (progress_below n words spoiled) ≡ n
so_many zero words spoiled = refl
so_many (suc n) words spoiled =
    let l = so_many n words spoiled in
    let m = length-append (progress_below n words spoiled) (at words spoiled n ∷ []) in
    omega arith

begins_within : (xs ys : List Entry) → IsBeginning xs ys → length xs ≤ length ys
begins_within xs ys b =
    let e : length ys ≡ length (xs ++ b.0) = ap (λ (l : List Entry). length l) b.1 in
    let l = length-append xs b.0 in
    omega arith

-- a shard to which an edit is left by what its seat knows has applied less than the whole journal
left_by_seat : (shards passes : ℕ) (table : State (Unit {0}) View) (journal : List Entry) (k : ℕ) → IsJournalOf shards passes table journal → HasEditLeftBySeat table k
    → watermark table.words k < length journal
left_by_seat shards passes table journal k one left =
    let s = left.1 in
    let far = one.applied left.0 s left.2 in
    let word : watermark table.words k ≡ s.done = ap (watermark table.words) (sym left.3) ∙ far.0 in
    let due = begins_within s.due journal (one.of_shard left.0 s left.2) in
    let less = left.4 in
    omega arith

pub words_machine : OneJournalForAll → SoundIsReached → WordsAreMachine
words_machine one reached shards passes limit table seat b spoiled kept knows accepted within have_left =
    let all = one shards passes table kept in
    let same : length b.journal ≡ length all.0 = ap (λ (l : List Entry). length l) (all.1.of_book seat b knows) in
    let long : length (edits_of b.journal) ≡ length b.journal = length-map b.journal edit_in in
    let M : Machine = machine_in limit shards (edits_of b.journal) table.words spoiled in
    let sound : IsSound M = record {
      accepted = accepted;
      within = omega arith;
      positions = λ p c. (
          let r = progress_of shards table.words spoiled p c in
          let l = all.1.watermarks r.0 r.1 in
          let far : watermark table.words r.0 ≤ length (edits_of b.journal) = omega arith in
          subst (λ (q : Progress). q.position ≤ length (edits_of b.journal)) r.2 far);
      left = λ p c s. (
          let r = progress_of shards table.words spoiled p c in
          let is : spoiled r.0 ≡ true = ap (λ (q : Progress). q.spoiled) r.2 ∙ s in
          let less = left_by_seat shards passes table all.0 r.0 all.1 (have_left r.0 r.1 is) in
          let far : watermark table.words r.0 < length (edits_of b.journal) = omega arith in
          subst (λ (q : Progress). q.position < length (edits_of b.journal)) r.2 far);
    } in (
      sound,
      subst (λ (n : ℕ). (steps : List Step) × (rs : List Reply) × IsRun (opened n limit) steps rs M) (so_many shards table.words spoiled) (reached M sound),
    )
