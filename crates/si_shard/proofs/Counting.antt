-- Counts of findings.
use Rattle.std.proofs.Common.{◌≡◌, ◌∙◌, ◌+◌, ◌<◌, ℕ, Bool, true, false, Ordering, List, Some, cond, get_or, length, refl, sym, ap, take, true≢false, unwrap_or}
use Rattle.std.specs.BTreeMap.{BTreeMap, get, is_at}
use Rattle.std.specs.Ordering.{is_eq}
use Rattle.std.specs.declared.cmp.Ordering.TheVariants.{Less, Equal, Greater}
use Rattle.std.proofs.lemmas.Cmp.{tied_itself}
use Rattle.std.proofs.lemmas.List.Sums.{count_by_more_no, count_by_more_yes}
use Rattle.si_model.specs.declared.findings.Finding.{Finding}
use Rattle.si_model.specs.Order.{finding_cmp, finding_eq}
use Rattle.si_model.proofs.FindingOrder.{exact_findings, findings_total}
use Rattle.si_judge.proofs.FoundTimes.{finding_itself, same_finding}
use Rattle.si_shard.specs.Counts.{told_times}
use Rattle.si_shard.specs.KeyNotes.{times_in}

tied : (f g : Finding) (r : Ordering) → finding_cmp f g ≡ r → is_eq r ≡ true → f ≡ g
tied f g Less is e = absurd (true≢false (sym e))
tied f g Equal is e = exact_findings f g is
tied f g Greater is e = absurd (true≢false (sym e))

-- the next one is counted
pub counted_next : (all : List Finding) (i : ℕ) (item f : Finding) (n : ℕ) (old new : BTreeMap Finding ℕ) → i < length all → get_or all i item ≡ item → n ≡ told_times old item
    → ((g : Finding) → told_times old g ≡ times_in g (take i all)) → get finding_cmp new f ≡ cond (is_at (finding_cmp item) f) (Some (n + 1)) (get finding_cmp old f)
    → told_times new f ≡ times_in f (take (i + 1) all)
counted_next all i item f n old new lt at so counted is = by (is_eq (finding_cmp item f)) refl
  where
    other : (b : Bool) → finding_eq f item ≡ b → is_eq (finding_cmp item f) ≡ false → finding_eq f item ≡ false
    other true e differ = absurd (true≢false (sym (ap is_eq (ap (finding_cmp item) (same_finding f item e) ∙ tied_itself findings_total item)) ∙ differ))
    other false e differ = e

    by : (b : Bool) → is_eq (finding_cmp item f) ≡ b → told_times new f ≡ times_in f (take (i + 1) all)
    by true e =
        let same = tied item f (finding_cmp item f) refl e in
        let yes : finding_eq f (get_or all i item) ≡ true = ap (finding_eq f) (at ∙ same) ∙ finding_itself f in
        ap (λ o. unwrap_or o 0) (is ∙ ap (λ b. cond b (Some (n + 1)) (get finding_cmp old f)) e)
        ∙ ap (λ m. m + 1) (so ∙ ap (told_times old) same ∙ counted f) ∙ sym (count_by_more_yes (finding_eq f) all i item lt yes)
    by false e =
        let no : finding_eq f (get_or all i item) ≡ false = ap (finding_eq f) at ∙ other (finding_eq f item) refl e in
        ap (λ o. unwrap_or o 0) (is ∙ ap (λ b. cond b (Some (n + 1)) (get finding_cmp old f)) e) ∙ counted f ∙ sym (count_by_more_no (finding_eq f) all i item lt no)
