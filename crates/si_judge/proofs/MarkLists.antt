-- Marks that come, and the reads under them.
use Rattle.std.proofs.Common.{◌≡◌, ◌∙◌, ◌⊎◌, inl, inr, ◌<◌, ◌+◌, Bool, true, false, cond, List, [], ◌++◌, Option, Some, None, nat_lt, is_some, refl, sym, ap, subst, arith, true≢false}
use Rattle.std.specs.BTreeMap.{is_at}
use Rattle.std.specs.List.{Contains, flat_map}
use Rattle.std.specs.Ordering.{eq_by_cmp}
use Rattle.std.proofs.lemmas.Bool.{cases_lt, lt-ltb, ltb-true}
use Rattle.std.proofs.lemmas.List.Elements.{Contains-append_cases, Contains-append_left, Contains-append_right}
use Rattle.std.proofs.lemmas.Map.Entries.{place_from_lookup}
use Rattle.si_lists.proofs.Members.{Contains-flat_map, Contains-from_filter, Contains-from_flat_map, Contains-nil, get_contains}
use Rattle.si_model.specs.declared.numbers.Stamp.{Stamp}
use Rattle.si_model.specs.declared.numbers.Value.{Value}
use Rattle.si_model.specs.declared.parts.OnKey.{OnKey}
use Rattle.si_model.specs.declared.kinds.Kind.{Kind}
use Rattle.si_model.specs.Findings.{Rules}
use Rattle.si_model.specs.Reads.{own_value}
use Rattle.si_sorted.specs.Entries.{Sets, value_at}
use Rattle.si_judge.specs.declared.indexes.Indexes.{Indexes}
use Rattle.si_judge.specs.declared.judgements.ReadId.{ReadId}
use Rattle.si_judge.specs.declared.reads.KeptRead.{KeptRead}
use Rattle.si_judge.specs.Indexes.{AreIndexes, kept_read_of, kept_reads_in}
use Rattle.si_judge.specs.Kept.{Kept, Shows, WouldShow}
use Rattle.si_judge.specs.KeptReads.{IsKeptReadOf, IsLaterThan, is_kept_read_of}
use Rattle.si_judge.specs.Marks.{AddsMark, AreGathered, AreReadKindsBut, IsMarked, IsMarkedOn, Marked, least_mark, returned_cmp}
use Rattle.si_judge.specs.Mending.{AreReadKinds, AreReadsJudged}
use Rattle.si_judge.proofs.Gathered.{kept_reads_are, reader_is}
use Rattle.si_judge.proofs.Mended.{IsKeptRead, reader_read, right_after}
use Rattle.si_judge.proofs.Orders.{option_decides}

-- ---- the lesser of two marks

both_later : (s t : Stamp) (r : Stamp) → s.0 < r.0 ⊎ t.0 < r.0 → (cond (nat_lt s.0 t.0) s t).0 < r.0
both_later s t r lt = by (nat_lt s.0 t.0) refl lt
  where
    not_less : nat_lt s.0 t.0 ≡ false → t.0 < s.0 + 1
    not_less e = elim (cases_lt s.0 t.0) [ inl less ↦ absurd (true≢false (sym (lt-ltb s.0 t.0 less) ∙ e)) | inr least ↦ omega (arith, least) ]

    by : (b : Bool) → nat_lt s.0 t.0 ≡ b → s.0 < r.0 ⊎ t.0 < r.0 → (cond b s t).0 < r.0
    by true e (inl first) = first
    by true e (inr second) = let less = ltb-true s.0 t.0 e in omega (arith, less, second)
    by false e (inl first) = let least = not_less e in omega (arith, least, first)
    by false e (inr second) = second

was_later : (a after : Option Stamp) (s : Stamp) → IsLaterThan a s → IsLaterThan (least_mark (Some a) after) s
was_later None after s l = tt
was_later (Some c) None s l = tt
was_later (Some c) (Some d) s l = both_later c d s (inl l)

is_later : (w : Option (Option Stamp)) (after : Option Stamp) (s : Stamp) → IsLaterThan after s → IsLaterThan (least_mark w after) s
is_later None after s l = l
is_later (Some None) after s l = tt
is_later (Some (Some c)) None s l = tt
is_later (Some (Some c)) (Some d) s l = both_later c d s (inr l)

-- ---- one comes

pub mark_added : (v : Option Value) (after : Option Stamp) (old new : Marked) → Sets returned_cmp v (Some (least_mark (value_at returned_cmp old v) after)) old new → AddsMark v after old new
mark_added v after old new sets r = by (eq_by_cmp returned_cmp v r.value) refl (sets r.value)
  where
    by : (b : Bool) → eq_by_cmp returned_cmp v r.value ≡ b → value_at returned_cmp new r.value ≡ cond b (Some (least_mark (value_at returned_cmp old v) after)) (value_at returned_cmp old r.value)
        → IsMarked old r ⊎ IsKeptReadOf v after r → IsMarked new r
    by true same stands (inl m) =
        let at : value_at returned_cmp old v ≡ Some m.0 = ap (value_at returned_cmp old) ((option_decides v r.value).0 same) ∙ m.1 in (
          least_mark (value_at returned_cmp old v) after,
          stands,
          subst (λ w. IsLaterThan (least_mark w after) r.start) (sym at) (was_later m.0 after r.start m.2),
        )
    by true same stands (inr read) = (least_mark (value_at returned_cmp old v) after, stands, is_later (value_at returned_cmp old v) after r.start read.1)
    by false other stands (inl m) = (m.0, stands ∙ m.1, m.2)
    by false other stands (inr read) = absurd (true≢false (sym ((option_decides v r.value).1 (sym read.0)) ∙ other))

-- ---- reads that are gathered or marked

pub none_gathered : (marks : Marked) (old : List (KeptRead × Option Value)) → AreGathered [] marks marks old old
none_gathered marks old = record { covered = λ p c. absurd (Contains-nil p c); within = λ p c. inl c; kept = λ p c. c; marked = λ r m. m }

pub gathered_more : (xs ys : List (KeptRead × Option Value)) (marks mid more : Marked) (old between new : List (KeptRead × Option Value)) → AreGathered xs marks mid old between → AreGathered ys mid more between new
    → AreGathered (xs ++ ys) marks more old new
gathered_more xs ys marks mid more old between new first second = record {
  covered = λ p c. elim (Contains-append_cases xs ys p c) [
    | inl l ↦ elim (first.covered p l) [ inl there ↦ inl (second.kept p there) | inr m ↦ inr (second.marked p.0 m) ]
    | inr r ↦ second.covered p r
  ];
  within = λ p c. elim (second.within p c) [
    | inl there ↦ elim (first.within p there) [ inl o ↦ inl o | inr l ↦ inr (Contains-append_left xs ys p l) ]
    | inr r ↦ inr (Contains-append_right xs ys p r)
  ];
  kept = λ p c. second.kept p (first.kept p c);
  marked = λ r m. second.marked r (first.marked r m);
}

module _ (ix : Indexes) (v : Option Value) (after : Option Stamp) where
  pub marked_gathered : (marks more : Marked) (old : List (KeptRead × Option Value)) → AddsMark v after marks more → AreGathered (kept_reads_in ix v after) marks more old old
  marked_gathered marks more old adds = record {
    covered = λ p c. inr (adds p.0 (inr ((reader_is v after p.0).0 (Contains-from_filter (λ q. is_kept_read_of v after q.0) ix.reads p c).1)));
    within = λ p c. inl c;
    kept = λ p c. c;
    marked = λ r m. adds r (inl m);
  }

  pub all_gathered : (marks : Marked) (old : List (KeptRead × Option Value)) → AreGathered (kept_reads_in ix v after) marks marks old (old ++ kept_reads_in ix v after)
  all_gathered marks old = record {
    covered = λ p c. inl (Contains-append_right old (kept_reads_in ix v after) p c);
    within = λ p c. Contains-append_cases old (kept_reads_in ix v after) p c;
    kept = λ p c. Contains-append_left old (kept_reads_in ix v after) p c;
    marked = λ r m. m;
  }

-- where no read is marked all is right
pub unmarked : (J : Rules) (M : OnKey) (s : Kept) → s.marks ≡ [] → WouldShow J M s → Shows J M s
unmarked J M s none would = record {
  indexes = would.indexes;
  right = record {
    reads = λ o k. elim (would.reads o) [
      | inl m ↦ absurd (true≢false (sym (ap is_some (ap (λ l. value_at returned_cmp l m.1) (sym none) ∙ m.4.1))))
      | inr right ↦ right k
    ];
    overlaps = would.overlaps;
  };
}

-- ---- what is judged at last

module _ (J : Rules) {M : OnKey} (ix : Indexes) (is : AreIndexes M ix) (marks : Marked) (old new : ReadId → Option Kind) (known : AreReadKindsBut J M marks old)
    (judged : AreReadsJudged J M ix (flat_map (λ m. kept_reads_in ix m.0 m.1) marks) old new) where
  reader : (p : KeptRead × Option Value) → Contains (flat_map (λ m. kept_reads_in ix m.0 m.1) marks) p → IsKeptRead M p
  reader p c =
      let f = Contains-from_flat_map (λ (m : Option Value × Option Stamp). kept_reads_in ix m.0 m.1) marks p c in
      (is.reads p.0 p.1).0 ((kept_reads_are ix is (f.0).0 (f.0).1).only p f.2).0

  among : (o : ReadId) → (m : IsMarkedOn M marks o) → Contains (flat_map (λ m. kept_reads_in ix m.0 m.1) marks) (kept_read_of m.0 o.place m.1, own_value m.0 o.place)
  among o m =
      let at = place_from_lookup (is_at (returned_cmp m.1)) marks m.4.0 m.4.1 in
      let value : m.1 ≡ at.1 = (option_decides m.1 at.1).0 at.3 in
      let entry = get_contains marks at.0 (at.1, m.4.0) at.2 in
      let r = kept_read_of m.0 o.place m.1 in
      let own = own_value m.0 o.place in
      Contains-flat_map (λ (n : Option Value × Option Stamp). kept_reads_in ix n.0 n.1) marks (at.1, m.4.0) (r, own) entry
      ((kept_reads_are ix is at.1 m.4.0).all r own ((is.reads r own).1 (m.0, (m.2).part, reader_read M m.0 o.place m.1 m.2)) (value, m.4.2))

  pub settled : AreReadKinds J M new
  settled o k = right_after J ix is (flat_map (λ m. kept_reads_in ix m.0 m.1) marks) reader old new judged o k (λ not_among. elim (known o) [
    | inl m ↦ absurd (not_among (kept_read_of m.0 o.place m.1, own_value m.0 o.place) (among o m) (λ i. record { txn = m.3 i; place = o.place }))
    | inr right ↦ right k
  ])
