-- The findings of a settled machine.
use Rattle.std.proofs.Common.{◌≡◌, ◌∙◌, ◌<◌, ◌≤◌, ℕ, false, List, Option, Some, None, length, map, slice_get, take, refl, sym, ap, subst, arith}
use Rattle.std.specs.List.{Contains}
use Rattle.std.proofs.Math.Seq.{take-length}
use Rattle.std.proofs.lemmas.Option.{slice_get-map}
use Rattle.std.specs.Option.{option_map}
use Rattle.si_lists.proofs.Members.{Contains-from_map, Contains-map, contains_get, get_contains, same_some}
use Rattle.si_model.specs.Journals.{present}
use Rattle.si_accept.specs.Books.{BookState}
use Rattle.si_shard.specs.Shards.{findings_in}
use Rattle.si_shard.specs.declared.journal_shards.JournalShard.{JournalShard}
use Rattle.si_core.specs.Machine.{IsLeastPosition, IsLeastSpoiled, IsSettled, Progress}
use Rattle.si_shard.specs.Laws.{shard_id}
use Rattle.si_core.specs.Worlds.{AllFollow, AreFoundOf, IsFirstSpoiled, IsLeastOf, IsWorld, machine_of, progress_of}

module _ (book : BookState) (shards : List JournalShard) (world : IsWorld book shards) where
  pub all_follow : AllFollow book.journal shards
  all_follow s c = let g = contains_get shards s c in (world.each g.0 s g.1).follows

  -- where the least position is the end of the journal each shard has applied it whole
  applied_whole : (n : ℕ) → IsLeastOf shards n → length book.journal ≤ n → (k : ℕ) (s : JournalShard) → slice_get shards k ≡ Some s → s.position ≡ length book.journal
  applied_whole n least all k s at =
      let within = (world.each k s at).follows.within in
      let far = least.1 s (get_contains shards k s at) in
      omega arith

  pub is_settled : (n : ℕ) → IsLeastOf shards n → length book.journal ≤ n → ((s : JournalShard) → Contains shards s → s.spoiled ≡ false) → IsSettled (machine_of book shards)
  is_settled n least all whole p c =
      let m = Contains-from_map progress_of shards p c in
      let g = contains_get shards m.0 m.1 in
      let same = applied_whole n least all g.0 m.0 g.1 in
      (ap (λ (q : Progress). q.spoiled) (sym m.2) ∙ whole m.0 m.1, ap (λ (q : Progress). q.position) (sym m.2) ∙ same)

  -- and its findings are those of the whole journal on its keys
  pub found_of_journal : (n : ℕ) → IsLeastOf shards n → length book.journal ≤ n → AreFoundOf book.journal (present book.journal) shards
  found_of_journal n least all k s at =
      let is = world.each k s at in
      let own : s.id ≡ shard_id k (length shards) = ap (λ j. record { shard = j; shards = s.id.shards }) is.number ∙ ap (shard_id k) is.count in
      ap (λ J. findings_in s.id (present J)) (ap (λ m. take m book.journal) (applied_whole n least all k s at) ∙ take-length book.journal) ∙ ap (λ id. findings_in id (present book.journal)) own

-- ---- why it isn't settled

-- a progress that stands at k is that of the shard k
progress_at : (shards : List JournalShard) (j : ℕ) (p : Progress) → slice_get (map progress_of shards) j ≡ Some p → (t : JournalShard) × (slice_get shards j ≡ Some t) × (progress_of t ≡ p)
progress_at shards j p e = by (slice_get shards j) refl (sym (slice_get-map progress_of shards j) ∙ e)
  where
    by : (o : Option JournalShard) → slice_get shards j ≡ o → option_map progress_of (slice_get shards j) ≡ Some p → (t : JournalShard) × (slice_get shards j ≡ Some t) × (progress_of t ≡ p)
    by None at f = (let no : None ≡ Some p = sym (ap (option_map progress_of) at) ∙ f in cc)
    by (Some t) at f = (t, at, same_some (sym (ap (option_map progress_of) at) ∙ f))

pub least_spoiled : (book : BookState) (shards : List JournalShard) (k : ℕ) → IsFirstSpoiled shards (Some k) → IsLeastSpoiled (machine_of book shards) k
least_spoiled book shards k (s, at, spoiled, before) = record {
  progress = progress_of s;
  at = slice_get-map progress_of shards k ∙ ap (option_map progress_of) at;
  spoiled = spoiled;
  least = λ j p lt e. (let t = progress_at shards j p e in ap (λ (q : Progress). q.spoiled) (sym t.2) ∙ before j t.0 lt t.1);
}

pub least_unsettled : (book : BookState) (shards : List JournalShard) (n : ℕ) → ((s : JournalShard) → Contains shards s → s.spoiled ≡ false) → IsLeastOf shards n → n < length book.journal
    → IsLeastPosition (machine_of book shards) n
least_unsettled book shards n whole least left = record {
  whole = λ p c. (let m = Contains-from_map progress_of shards p c in ap (λ (q : Progress). q.spoiled) (sym m.2) ∙ whole m.0 m.1);
  progress = progress_of least.0.0;
  among = Contains-map progress_of shards least.0.0 least.0.1;
  is = least.0.2;
  least = λ p c. (let m = Contains-from_map progress_of shards p c in subst (λ (q : Progress). n ≤ q.position) m.2 (least.1 m.0 m.1));
  left = left;
}
