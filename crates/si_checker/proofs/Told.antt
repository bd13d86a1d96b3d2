-- What a call with a pass tells of one shard, by what the shard's locked_shard told.
use Rattle.std.proofs.Common.{◌≡◌, ◌∙◌, ◌≤◌, ℕ, true, List, length, take, sym, ap, subst, arith}
use Rattle.std.proofs.lemmas.List.{map-append, take-append-le, length-map}
use Rattle.std.specs.Prelude.{Result, Ok, Err, IfOk, OnOk, IfErr}
use Rattle.si_model.specs.Journals.{IsAccepted, present}
use Rattle.si_shard.specs.Laws.{shard_id}
use Rattle.si_shard.specs.Shards.{findings_in}
use Rattle.si_words.specs.declared.views.Entry.{Entry}
use Rattle.si_words.specs.Entries.{IsBeginning, edit_in, edits_of}
use Rattle.si_checker.specs.LockedShards.{LockedShardState, applied_by}
use Rattle.si_checker.specs.declared.reports.ReportFault.{ReportFault}
use Rattle.si_checker.specs.declared.reports.ReportFault.TheVariants as fault
use Rattle.si_checker.specs.declared.reports.ShardReport.{ShardReport}

-- a shard that is told as spoiled is the one that was asked
pub fault_names : {A : Type 0} (r : Result A ReportFault) (j k : ℕ) (b : LockedShardState) → b.seat.number ≡ k
    → IfErr r (λ f. f ≡ fault.Spoiled j → (j ≡ b.seat.number) × (b.spoiled ≡ true)) → IfErr r (λ f. f ≡ fault.Spoiled j → j ≡ k)
fault_names (Ok a) j k b number told = tt
fault_names (Err f) j k b number told = λ is. (told is).0 ∙ number

-- what begins a list has the same first edits
begun_takes : (xs ys : List Entry) (n : ℕ) → IsBeginning xs ys → n ≤ length xs → take n (edits_of ys) ≡ take n (edits_of xs)
begun_takes xs ys n begins within =
    let long = length-map xs edit_in in
    ap (λ (l : List Entry). take n (edits_of l)) begins.1 ∙ ap (take n) (map-append edit_in xs begins.0) ∙ take-append-le n (edits_of xs) (edits_of begins.0) (omega arith)

-- the first edits of what the pass has seen, as many as were told, are what the shard has applied
module _ (b : LockedShardState) (seen : List Entry) where
  applied_seen : (position : ℕ) → position ≡ b.seat.done → IsBeginning b.seat.due seen → b.seat.done ≤ length b.seat.due → applied_by b.seat ≡ take position (edits_of seen)
  applied_seen position is begins within = sym (begun_takes b.seat.due seen b.seat.done begins within) ∙ ap (λ (n : ℕ). take n (edits_of seen)) (sym is)

  pub accepted_seen : (r : Result ShardReport ReportFault) → IfOk r (λ x. x.position ≡ b.seat.done) → OnOk r (IsBeginning b.seat.due seen) → b.seat.done ≤ length b.seat.due
      → IsAccepted (applied_by b.seat) → IfOk r (λ x. IsAccepted (take x.position (edits_of seen)))
  accepted_seen (Ok x) is begins within accepted = subst IsAccepted (applied_seen x.position is begins within) accepted
  accepted_seen (Err f) is begins within accepted = tt

  pub found_seen : (r : Result ShardReport ReportFault) (k shards : ℕ) → b.seat.number ≡ k → IfOk r (λ x. x.position ≡ b.seat.done) → OnOk r (IsBeginning b.seat.due seen) → b.seat.done ≤ length b.seat.due
      → IfOk r (λ x. x.findings.items ≡ findings_in (shard_id b.seat.number shards) (present (applied_by b.seat)))
      → IfOk r (λ x. x.findings.items ≡ findings_in (shard_id k shards) (present (take x.position (edits_of seen))))
  found_seen (Ok x) k shards number is begins within found =
      found ∙ ap (λ (n : ℕ). findings_in (shard_id n shards) (present (applied_by b.seat))) number
      ∙ ap (λ l. findings_in (shard_id k shards) (present l)) (applied_seen x.position is begins within)
  found_seen (Err f) k shards number is begins within found = tt
