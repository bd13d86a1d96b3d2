-- The findings of all shards are the findings.
use Rattle.std.proofs.Common.{◌≡◌, ◌<◌, ◌≤◌, ℕ, zero, suc, true, not, subst, arith, refl, inl, inr, eq-eqb}
use mathlib.Core.Logic.{dite}
use native.Mathlib.Decide.{dec_le}
use Rattle.std.specs.List.{Contains, list_any}
use Rattle.std.proofs.Math.Nat.{mod-lt}
use Rattle.std.proofs.lemmas.List.Elements.{Contains-append_left, Contains-append_right, Contains-append_cases}
use Rattle.si_lists.proofs.Members.{Contains-filter, Contains-from_filter, Contains-nil}
use Rattle.si_model.specs.declared.findings.Finding.{Finding}
use Rattle.si_model.specs.Parts.{Present}
use Rattle.si_model.specs.Findings.{findings}
use Rattle.si_model.specs.KeyTexts.{shard_hash, shard_number}
use Rattle.std.proofs.lemmas.List.Kept.{IsStrictlySortedBy-filter}
use Rattle.si_model.specs.History.{IsHistory}
use Rattle.si_model.specs.Order.{finding_cmp, finding_eq, in_order}
use Rattle.si_model.proofs.Exact.{findings_exact}
use Rattle.si_model.proofs.FindingOrder.{exact_findings, findings_total}
use Rattle.si_model.proofs.InOrder.{Contains-from_in_order, Contains-in_order, sorted-in_order}
use Rattle.si_model.proofs.Orderless.{unique_list}
use Rattle.si_shard.specs.KeyNotes.{not_among}
use Rattle.si_shard.specs.Laws.{FindingsAreOfShards, changes_below, findings_below, shard_id}
use Rattle.si_shard.specs.ShardIds.{is_ours}
use Rattle.si_shard.specs.Shards.{findings_in}
use Rattle.si_shard.proofs.Noted.{in_not_among, not_in}

module _ (shards : ℕ) (P : Present) where
  -- what the first shards find is a finding
  found_below : (n : ℕ) (f : Finding) → Contains (findings_below n shards P) f → Contains (findings P) f
  found_below zero f c = absurd (Contains-nil f c)
  found_below (suc n) f c = elim (Contains-append_cases (findings_below n shards P) (findings_in (shard_id n shards) P) f c) [
    | inl d ↦ found_below n f d
    | inr d ↦ (Contains-from_filter (λ h. is_ours (shard_id n shards) h.key) (findings P) f d).0
  ]

  -- what one of them finds is among it
  below_found : (n k : ℕ) (f : Finding) → k < n → Contains (findings_in (shard_id k shards) P) f → Contains (findings_below n shards P) f
  below_found zero k f lt c = absurd (omega arith)
  below_found (suc n) k f lt c = dite (dec_le n k)
      (λ ge.
      let same : k ≡ n = omega arith in
      Contains-append_right (findings_below n shards P) (findings_in (shard_id n shards) P) f (subst (λ (j : ℕ). Contains (findings_in (shard_id j shards) P) f) same c))
      (λ not. Contains-append_left (findings_below n shards P) (findings_in (shard_id n shards) P) f (below_found n k f (omega arith) c))

  -- a finding is one of its key's shard
  of_its_shard : 1 ≤ shards → (f : Finding) → Contains (findings P) f → Contains (findings_below shards shards P) f
  of_its_shard some f c =
      let k = shard_number f.key shards in
      let within : k < shards = mod-lt (shard_hash f.key) some in
      let ours : is_ours (shard_id k shards) f.key ≡ true = eq-eqb (shard_number f.key shards) k refl in
      below_found shards k f within (Contains-filter (λ h. is_ours (shard_id k shards) h.key) (findings P) f c ours)

pub findings_of_shards : FindingsAreOfShards
findings_of_shards shards P some history =
    let all = findings_below shards shards P in
    unique_list (in_order finding_cmp all) (findings P) (sorted-in_order findings_total all) (findings_exact P history).ascends
    (λ f. (
      (λ c. found_below shards P shards f (Contains-from_in_order findings_total all f c)),
      (λ c. Contains-in_order findings_total exact_findings all f (of_its_shard shards P some f c)),
    ))

-- ---- what came on the keys of all shards

module _ (shards : ℕ) (before now : Present) where
  -- what came on the keys of the first shards is a finding that wasn't there
  came_below : (n : ℕ) (f : Finding) → Contains (changes_below n shards before now) f → Contains (findings now) f × (Contains (findings before) f → ⊥)
  came_below zero f c = absurd (Contains-nil f c)
  came_below (suc n) f c = elim (Contains-append_cases (changes_below n shards before now) (not_among (findings_in (shard_id n shards) before) (findings_in (shard_id n shards) now)) f c) [
    | inl d ↦ came_below n f d
    | inr d ↦ (let among = not_in f (findings_in (shard_id n shards) before) (findings_in (shard_id n shards) now) d in
        let ours = Contains-from_filter (λ h. is_ours (shard_id n shards) h.key) (findings now) f among.0 in
        (ours.0, λ was. among.1 (Contains-filter (λ h. is_ours (shard_id n shards) h.key) (findings before) f was ours.1)))
  ]

  below_came : (n k : ℕ) (f : Finding) → k < n → Contains (not_among (findings_in (shard_id k shards) before) (findings_in (shard_id k shards) now)) f → Contains (changes_below n shards before now) f
  below_came zero k f lt c = absurd (omega arith)
  below_came (suc n) k f lt c = dite (dec_le n k)
      (λ ge.
      let same : k ≡ n = omega arith in
      Contains-append_right (changes_below n shards before now) (not_among (findings_in (shard_id n shards) before) (findings_in (shard_id n shards) now)) f
      (subst (λ (j : ℕ). Contains (not_among (findings_in (shard_id j shards) before) (findings_in (shard_id j shards) now)) f) same c))
      (λ not. Contains-append_left (changes_below n shards before now) (not_among (findings_in (shard_id n shards) before) (findings_in (shard_id n shards) now)) f (below_came n k f (omega arith) c))

  of_its_change : 1 ≤ shards → (f : Finding) → Contains (findings now) f → (Contains (findings before) f → ⊥) → Contains (changes_below shards shards before now) f
  of_its_change some f c none =
      let k = shard_number f.key shards in
      let within : k < shards = mod-lt (shard_hash f.key) some in
      let ours : is_ours (shard_id k shards) f.key ≡ true = eq-eqb (shard_number f.key shards) k refl in
      below_came shards k f within (in_not_among f (findings_in (shard_id k shards) before) (findings_in (shard_id k shards) now)
      (Contains-filter (λ h. is_ours (shard_id k shards) h.key) (findings now) f c ours)
      (λ d. none (Contains-from_filter (λ h. is_ours (shard_id k shards) h.key) (findings before) f d).0))

  pub changes_of_shards : 1 ≤ shards → IsHistory now → in_order finding_cmp (changes_below shards shards before now) ≡ not_among (findings before) (findings now)
  changes_of_shards some history =
      let all = changes_below shards shards before now in
      unique_list (in_order finding_cmp all) (not_among (findings before) (findings now)) (sorted-in_order findings_total all)
      (IsStrictlySortedBy-filter finding_cmp (λ f. not (list_any (finding_eq f) (findings before))) (findings now) (findings_exact now history).ascends)
      (λ f. (
        (λ c. (let came = came_below shards f (Contains-from_in_order findings_total all f c) in in_not_among f (findings before) (findings now) came.0 came.1)),
        (λ c. (let among = not_in f (findings before) (findings now) c in Contains-in_order findings_total exact_findings all f (of_its_change some f among.0 among.1))),
      ))
