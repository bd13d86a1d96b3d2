-- The findings on the keys of a shard, put one after the other, are those of what is present there.
use Rattle.std.proofs.Common.{◌≡◌, ◌∙◌, inl, inr, ℕ, Bool, true, false, cond, List, [], ◌∷◌, ◌++◌, refl, sym, ap, subst}
use Rattle.std.specs.List.{Contains, filter, flat_map}
use Rattle.std.specs.List.Sorted.{IsStrictlySortedBy}
use Rattle.std.specs.BTreeMap.{is_at}
use Rattle.std.specs.BTreeSet.{IsOrdered, contains}
use Rattle.std.specs.HashMap.{get}
use Rattle.std.specs.Ordering.{nat_cmp, ordering_then}
use Rattle.std.specs.declared.cmp.Ordering.TheVariants.{Less}
use Rattle.std.specs.Cmp.Lexicographic.{slice_cmp, texts_ties}
use Rattle.std.proofs.lemmas.List.Elements.{Contains-append_cases}
use Rattle.std.proofs.lemmas.List.Kept.{IsStrictlySortedBy-filter}
use Rattle.std.proofs.lemmas.Map.Keys.{sorted_head, sorted_tail}
use Rattle.si_lists.proofs.Members.{Contains-filter, Contains-flat_map, Contains-from_filter, Contains-from_flat_map, at_each, from_each, here, there}
use Rattle.si_lists.proofs.Tests.{any_is}
use Rattle.si_model.specs.declared.parts.OnKey.{OnKey}
use Rattle.si_model.specs.declared.findings.Finding.{Finding}
use Rattle.si_model.specs.declared.edits.Edit.{Edit}
use Rattle.si_model.specs.Operations.{same_key}
use Rattle.si_model.specs.Parts.{on_key}
use Rattle.si_model.specs.Order.{finding_cmp, fields}
use Rattle.si_model.specs.Findings.{cases, findings, findings_on}
use Rattle.si_model.specs.History.{IsOfHistory}
use Rattle.si_model.specs.Journals.{IsAccepted, present}
use Rattle.si_model.proofs.Equalities.{same_key_from, same_key_is}
use Rattle.si_model.proofs.Exact.{findings_exact, key_findings_exact, keys_are_apart}
use Rattle.si_model.proofs.InOrder.{sorted-cons, sorted-nil}
use Rattle.si_model.proofs.Orderless.{unique_list}
use Rattle.si_model.proofs.PresentHistories.{present_history}
use Rattle.si_judge.specs.Following.{empty_key}
use Rattle.si_shard.specs.declared.shard_ids.ShardId.{ShardId}
use Rattle.si_shard.specs.declared.applied_edits.Applied.{Applied}
use Rattle.si_shard.specs.ShardIds.{is_ours}
use Rattle.si_shard.specs.AppliedEdits.{AreApplied, AreSettled}
use Rattle.si_shard.specs.KeyStates.{AreOn, IsOn, findings_at}
use Rattle.si_shard.specs.Shards.{findings_in}
use Rattle.si_model.proofs.FindingOrder.{findings_total}
use Rattle.si_judge.proofs.Counted.{counted_once, counted_there, same_counts, there_counted}
use Rattle.si_judge.proofs.FoundTimes.{finding_itself, same_finding}
use Rattle.si_shard.specs.KeyNotes.{times_in, times_kept}
use Rattle.si_shard.proofs.Noted.{kept_times}
use Rattle.si_shard.proofs.OnKeys.{none_empty, of_history, told_settled}

-- ---- lists of findings one after the other

sorted_append : (fs gs : List Finding) → IsStrictlySortedBy finding_cmp fs → IsStrictlySortedBy finding_cmp gs → ((f g : Finding) → Contains fs f → Contains gs g → finding_cmp f g ≡ Less)
    → IsStrictlySortedBy finding_cmp (fs ++ gs)
sorted_append [] gs s t less = t
sorted_append (f ∷ fs) gs s t less = sorted-cons finding_cmp f (fs ++ gs)
    (from_each (λ g. finding_cmp f g ≡ Less) (fs ++ gs) (λ g c. elim (Contains-append_cases fs gs g c) [
      | inl d ↦ at_each (λ h. finding_cmp f h ≡ Less) fs g (sorted_head finding_cmp f fs s) d
      | inr d ↦ less f g (here f fs) d
    ]))
    (sorted_append fs gs (sorted_tail finding_cmp f fs s) t (λ h g c d. less h g (there f fs h c) d))

flat_sorted : (F : List ℕ → List Finding) → ((x : List ℕ) (f : Finding) → Contains (F x) f → f.key ≡ x) → ((x : List ℕ) → IsStrictlySortedBy finding_cmp (F x))
    → (xs : List (List ℕ)) → IsStrictlySortedBy (slice_cmp nat_cmp) xs → IsStrictlySortedBy finding_cmp (flat_map F xs)
flat_sorted F keyed sorted [] s = sorted-nil finding_cmp
flat_sorted F keyed sorted (x ∷ xs) s = sorted_append (F x) (flat_map F xs) (sorted x) (flat_sorted F keyed sorted xs (sorted_tail (slice_cmp nat_cmp) x xs s))
    (λ f g c d.
    (let m = Contains-from_flat_map F xs g d in
    let less : slice_cmp nat_cmp x m.0 ≡ Less = at_each (λ y. slice_cmp nat_cmp x y ≡ Less) xs m.0 (sorted_head (slice_cmp nat_cmp) x xs s) m.1 in
    let keys : slice_cmp nat_cmp f.key g.key ≡ Less = ap (λ y. slice_cmp nat_cmp y g.key) (keyed x f c) ∙ ap (slice_cmp nat_cmp x) (keyed m.0 g m.2) ∙ less in
    ap (λ o. ordering_then o (slice_cmp nat_cmp (fields f.kind) (fields g.kind))) keys))

-- ---- the findings of a shard

pub found_rises : (id : ShardId) (edits : List Edit) → IsAccepted edits → IsStrictlySortedBy finding_cmp (findings_in id (present edits))
found_rises id edits accepted = IsStrictlySortedBy-filter finding_cmp (λ g. is_ours id g.key) (findings (present edits)) (findings_exact (present edits) (present_history edits accepted)).ascends

-- what is on the keys of the shard, and nothing on others
abbrev pub on_shard : ShardId → List Edit → List ℕ → OnKey
on_shard id edits x = cond (is_ours id x) (on_key x (present edits)) empty_key

pub shard_on : (id : ShardId) (edits : List Edit) (a : Applied) → AreApplied id edits a → AreOn a.keys (on_shard id edits)
shard_on id edits a sound x = by (is_ours id x) refl
  where
    by : (b : Bool) → is_ours id x ≡ b → IsOn a.keys x (cond (is_ours id x) (on_key x (present edits)) empty_key)
    by true e = subst (λ b. IsOn a.keys x (cond b (on_key x (present edits)) empty_key)) (sym e) (sound.ours x e)
    by false e = subst (λ b. IsOn a.keys x (cond b (on_key x (present edits)) empty_key)) (sym e) (sound.others x e)

module _ (id : ShardId) (edits : List Edit) (a : Applied) (accepted : IsAccepted edits) (sound : AreSettled id edits a) where
  abbrev At : List ℕ → List Finding
  At = findings_at (on_shard id edits)

  exact : (x : List ℕ) → IsOfHistory (on_shard id edits x)
  exact x = of_history x (get same_key a.keys.states x) (on_shard id edits x) (shard_on id edits a sound.applied x).shows

  at_key : (x : List ℕ) (f : Finding) → Contains (At x) f → f.key ≡ x
  at_key x f c = ((key_findings_exact cases (on_shard id edits x) (exact x) x).sound f c).0

  -- on a key of the shard they are those of what is present
  same_on_key : (x : List ℕ) → is_ours id x ≡ true → At x ≡ filter (λ f. same_key f.key x) (findings (present edits))
  same_on_key x ours = ap (λ b. findings_on cases x (cond b (on_key x (present edits)) empty_key)) ours ∙ sym (keys_are_apart (present edits) x)

  -- and there are none on another key
  not_else : (x : List ℕ) (f : Finding) → Contains (At x) f → (b : Bool) → is_ours id x ≡ b → is_ours id x ≡ true
  not_else x f c true e = e
  not_else x f c false e = absurd (none_empty x (f, subst (λ b. Contains (findings_on cases x (cond b (on_key x (present edits)) empty_key)) f) e c))

  -- a finding on its key is one of the shard, and the other way round
  at_in : (f : Finding) → Contains (At f.key) f → Contains (findings_in id (present edits)) f
  at_in f c =
      let ours = not_else f.key f c (is_ours id f.key) refl in
      let among = Contains-from_filter (λ g. same_key g.key f.key) (findings (present edits)) f (subst (λ fs. Contains fs f) (same_on_key f.key ours) c) in
      Contains-filter (λ g. is_ours id g.key) (findings (present edits)) f among.0 ours

  in_at : (f : Finding) → Contains (findings_in id (present edits)) f → Contains (At f.key) f
  in_at f c =
      let among = Contains-from_filter (λ g. is_ours id g.key) (findings (present edits)) f c in
      subst (λ fs. Contains fs f) (sym (same_on_key f.key among.1)) (Contains-filter (λ g. same_key g.key f.key) (findings (present edits)) f among.0 (same_key_from f.key f.key refl))

  -- it is there as often as what is kept of its key finds it
  pub counted_now : (f : Finding) → times_in f (findings_in id (present edits)) ≡ times_kept f.kind (get same_key a.keys.states f.key)
  counted_now f =
      let Q = on_shard id edits f.key in
      let p = key_findings_exact cases Q (exact f.key) f.key in
      same_counts (times_in f (findings_in id (present edits))) (times_in f (At f.key))
      (counted_once same_finding finding_itself findings_total f (findings_in id (present edits)) (found_rises id edits accepted))
      (counted_once same_finding finding_itself findings_total f (At f.key) p.ascends)
      (λ lt. there_counted same_finding finding_itself f (At f.key) (in_at f (counted_there same_finding finding_itself f (findings_in id (present edits)) lt)))
      (λ lt. there_counted same_finding finding_itself f (findings_in id (present edits)) (at_in f (counted_there same_finding finding_itself f (At f.key) lt)))
      ∙ sym (kept_times a.keys f.key Q f.kind sound.settled (shard_on id edits a sound.applied f.key))

  module _ (ordered : IsOrdered (slice_cmp nat_cmp) a.keys.found) where
    one_way : (f : Finding) → Contains (flat_map At a.keys.found.keys) f → Contains (findings_in id (present edits)) f
    one_way f c =
        let m = Contains-from_flat_map At a.keys.found.keys f c in
        let ours = not_else m.0 f m.2 (is_ours id m.0) refl in
        let among = Contains-from_filter (λ g. same_key g.key m.0) (findings (present edits)) f (subst (λ fs. Contains fs f) (same_on_key m.0 ours) m.2) in
        Contains-filter (λ g. is_ours id g.key) (findings (present edits)) f among.0 (ap (is_ours id) (at_key m.0 f m.2) ∙ ours)

    other_way : (f : Finding) → Contains (findings_in id (present edits)) f → Contains (flat_map At a.keys.found.keys) f
    other_way f c =
        let among = Contains-from_filter (λ g. is_ours id g.key) (findings (present edits)) f c in
        let here_is = Contains-filter (λ g. same_key g.key f.key) (findings (present edits)) f among.0 (same_key_from f.key f.key refl) in
        let at : Contains (At f.key) f = subst (λ fs. Contains fs f) (sym (same_on_key f.key among.1)) here_is in
        let found : contains (slice_cmp nat_cmp) a.keys.found f.key ≡ true = (told_settled a.keys f.key (on_shard id edits f.key) sound.settled (shard_on id edits a sound.applied f.key)).1 (f, at) in
        let k = any_is (is_at (slice_cmp nat_cmp f.key)) a.keys.found.keys found in
        let key : f.key ≡ k.0 = same_key_is f.key k.0 (texts_ties f.key k.0 ∙ k.2) in
        Contains-flat_map At a.keys.found.keys f.key f (subst (Contains a.keys.found.keys) (sym key) k.1) at

    pub shard_findings : flat_map (findings_at (on_shard id edits)) a.keys.found.keys ≡ findings_in id (present edits)
    shard_findings = unique_list (flat_map At a.keys.found.keys) (findings_in id (present edits))
        (flat_sorted At at_key (λ x. (key_findings_exact cases (on_shard id edits x) (exact x) x).ascends) a.keys.found.keys ordered)
        (IsStrictlySortedBy-filter finding_cmp (λ f. is_ours id f.key) (findings (present edits)) (findings_exact (present edits) (present_history edits accepted)).ascends)
        (λ f. (one_way f, other_way f))
