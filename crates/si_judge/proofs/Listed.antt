-- The findings that are kept, put in order, are the findings on the key.
use Rattle.std.proofs.Common.{Ordering}
use Rattle.std.proofs.Common.{◌≡◌, ◌∙◌, ◌⊎◌, inl, inr, ℕ, ◌<◌, List, [], ◌∷◌, ◌++◌, length, map, Some, refl, sym, ap, subst, arith}
use Rattle.std.specs.BTreeMap.{is_at}
use Rattle.std.specs.Cmp.{IsTotalOrder, eq_by_cmp_equiv}
use Rattle.std.specs.List.{Contains}
use Rattle.std.specs.List.Sorted.{IsStrictlySortedBy}
use Rattle.std.specs.Map.{keys_of, values_of}
use Rattle.std.proofs.lemmas.Cmp.{nat_cmp_total, on_total, then_total}
use Rattle.std.proofs.lemmas.List.Elements.{Contains-append_cases, Contains-append_left, Contains-append_right}
use Rattle.std.proofs.lemmas.Map.Entries.{lookup_from_place, place_from_lookup}
use Rattle.std.proofs.lemmas.Map.Keys.{IsDistinct-from_sorted}
use Rattle.std.proofs.lemmas.Map.Made.{Contains-from_values_of, Contains-values_of}
use Rattle.si_lists.proofs.Members.{Contains-from_map, Contains-map, contains_get, get_contains, here}
use Rattle.si_model.specs.declared.numbers.Stamp.{Stamp}
use Rattle.si_model.specs.declared.parts.OnKey.{OnKey}
use Rattle.si_model.specs.declared.kinds.Kind.{Kind}
use Rattle.si_model.specs.declared.findings.Finding.{Finding}
use Rattle.si_model.specs.Reads.{sight_of}
use Rattle.si_model.specs.Order.{finding_cmp, in_order}
use Rattle.si_model.specs.Findings.{IsFoundOn, Rules, finding_at, findings_on}
use Rattle.si_model.specs.History.{IsOfHistory}
use Rattle.si_model.proofs.Exact.{key_findings_exact}
use Rattle.si_model.proofs.FindingOrder.{exact_findings, findings_total}
use Rattle.si_model.proofs.InOrder.{Contains-from_in_order, Contains-in_order, same_sorted, sorted-in_order}
use Rattle.si_model.proofs.Sources.{sight_law}
use Rattle.si_sorted.specs.Entries.{value_at}
use Rattle.si_judge.specs.declared.judgements.ReadId.{ReadId}
use Rattle.si_judge.specs.Mending.{ArePairKinds, AreReadKinds, IsReadKind, read_cmp, stamp_cmp}

pub read_total : IsTotalOrder read_cmp
read_total = then_total (on_total (λ (o : ReadId). o.txn.0) nat_cmp_total) (on_total (λ (o : ReadId). o.place) nat_cmp_total)

pub stamp_total : IsTotalOrder stamp_cmp
stamp_total = on_total (λ (c : Stamp). c.0) nat_cmp_total

-- what is listed stands under a key
key_of_value : {K X : Type 0} (cmp : K → K → Ordering) → IsTotalOrder cmp → (es : List (K × X)) → IsStrictlySortedBy cmp (keys_of es) → (x : X) → Contains (values_of es) x
    → (k : K) × (value_at cmp es k ≡ Some x)
key_of_value cmp total es rising x c =
    let e = Contains-from_values_of es x c in
    let i = contains_get es (e.0, x) e.1 in
    (e.0, lookup_from_place (eq_by_cmp_equiv total) es i.0 e.0 x (IsDistinct-from_sorted cmp (keys_of es) rising) i.1)

value_of : {K X : Type 0} (cmp : K → K → Ordering) (es : List (K × X)) (k : K) (x : X) → value_at cmp es k ≡ Some x → Contains (values_of es) x
value_of cmp es k x e = let p = place_from_lookup (is_at (cmp k)) es x e in Contains-values_of es p.1 x (get_contains es p.0 (p.1, x) p.2)

module _ (J : Rules) (Q : OnKey) (h : IsOfHistory Q) (reads : List (ReadId × Kind)) (overlaps : List (Stamp × Kind))
    (reads_right : AreReadKinds J Q (value_at read_cmp reads)) (overlaps_right : ArePairKinds J Q (value_at stamp_cmp overlaps)) where
  read_found : (o : ReadId) (k : Kind) → IsReadKind J Q o k → IsFoundOn J Q k
  read_found o k f = inl (record {
    part = f.0;
    place = o.place;
    value = f.1;
    sight = sight_of Q f.0 o.place f.1;
    returned = f.2;
    seen = (sight_law Q f.0 o.place f.1 (sight_of Q f.0 o.place f.1) h f.2.part).1 refl;
    judged = f.4;
  })

  -- what is kept is found
  pub kept_found : IsStrictlySortedBy read_cmp (keys_of reads) → IsStrictlySortedBy stamp_cmp (keys_of overlaps) → (k : Kind) → Contains (values_of reads ++ values_of overlaps) k → IsFoundOn J Q k
  kept_found ro so k c = elim (Contains-append_cases (values_of reads) (values_of overlaps) k c) [
    | inl r ↦ (let o = key_of_value read_cmp read_total reads ro k r in read_found o.0 k ((reads_right o.0 k).0 o.1))
    | inr s ↦ (let d = key_of_value stamp_cmp stamp_total overlaps so k s in
        let f = (overlaps_right d.0 k).0 d.1 in inr (record { first = f.0; second = f.1; installs = f.2; next = f.4; judged = f.5; is = f.6 }))
  ]

  -- what is found is kept
  pub found_kept : (k : Kind) → IsFoundOn J Q k → Contains (values_of reads ++ values_of overlaps) k
  found_kept k (inl r) = Contains-append_left (values_of reads) (values_of overlaps) k (value_of read_cmp reads (record { txn = r.part.id; place = r.place }) k
      ((reads_right (record { txn = r.part.id; place = r.place }) k).1 (
        r.part,
        r.value,
        r.returned,
        refl,
        ap J.read (sym ((sight_law Q r.part r.place r.value r.sight h r.returned.part).0 r.seen)) ∙ r.judged,
      )))
  found_kept k (inr p) = Contains-append_right (values_of reads) (values_of overlaps) k (value_of stamp_cmp overlaps p.first.commit k
      ((overlaps_right p.first.commit k).1 (p.first, p.second, p.installs, refl, p.next, p.judged, p.is)))

  pub listed : IsStrictlySortedBy read_cmp (keys_of reads) → IsStrictlySortedBy stamp_cmp (keys_of overlaps) → (x : List ℕ) → in_order finding_cmp (map (finding_at x) (values_of reads ++ values_of overlaps)) ≡ findings_on J x Q
  listed ro so x =
      let p = key_findings_exact J Q h x in
      let kinds = values_of reads ++ values_of overlaps in
      same_sorted findings_total (in_order finding_cmp (map (finding_at x) kinds)) (findings_on J x Q) (sorted-in_order findings_total (map (finding_at x) kinds)) p.ascends
      (λ f c. (let m = Contains-from_map (finding_at x) kinds f (Contains-from_in_order findings_total (map (finding_at x) kinds) f c) in
      p.complete f (ap (λ (g : Finding). g.key) (sym m.2), subst (IsFoundOn J Q) (ap (λ (g : Finding). g.kind) m.2) (kept_found ro so m.0 m.1))))
      (λ f c. (let is = p.sound f c in
      let at = Contains-map (finding_at x) kinds f.kind (found_kept f.kind is.1) in
      let same : finding_at x f.kind ≡ f = λ i. record { key = sym is.0 i; kind = f.kind } in
      Contains-in_order findings_total exact_findings (map (finding_at x) kinds) f (subst (Contains (map (finding_at x) kinds)) same at)))

  -- something is found exactly where something is kept
  one_of : {K : Type 0} (es : List (K × Kind)) → 0 < length es → (k : Kind) × Contains (map (λ y. y.1) es) k
  one_of [] lt = absurd (omega (arith, lt))
  one_of (d ∷ es) lt = (d.1, here d.1 (map (λ y. y.1) es))

  one_kept : (0 < length reads) ⊎ (0 < length overlaps) → (k : Kind) × Contains (values_of reads ++ values_of overlaps) k
  one_kept (inl r) = let k = one_of reads r in (k.0, Contains-append_left (values_of reads) (values_of overlaps) k.0 k.1)
  one_kept (inr s) = let k = one_of overlaps s in (k.0, Contains-append_right (values_of reads) (values_of overlaps) k.0 k.1)

  pub some_found : IsStrictlySortedBy read_cmp (keys_of reads) → IsStrictlySortedBy stamp_cmp (keys_of overlaps) → (x : List ℕ) → (0 < length reads) ⊎ (0 < length overlaps) → (f : Finding) × Contains (findings_on J x Q) f
  some_found ro so x some =
      let k = one_kept some in
      (finding_at x k.0, (key_findings_exact J Q h x).complete (finding_at x k.0) (refl, kept_found ro so k.0 k.1))

  pub some_kept : (x : List ℕ) (f : Finding) → Contains (findings_on J x Q) f → (0 < length reads) ⊎ (0 < length overlaps)
  some_kept x f c = by (found_kept f.kind ((key_findings_exact J Q h x).sound f c).1)
    where
      some : {K : Type 0} (es : List (K × Kind)) (k : Kind) → Contains (map (λ (y : K × Kind). y.1) es) k → 0 < length es
      some [] k c = absurd (omega (arith, c.1))
      some (e ∷ es) k c = omega arith

      by : Contains (values_of reads ++ values_of overlaps) f.kind → (0 < length reads) ⊎ (0 < length overlaps)
      by c = elim (Contains-append_cases (values_of reads) (values_of overlaps) f.kind c) [ inl r ↦ inl (some reads f.kind r) | inr s ↦ inr (some overlaps f.kind s) ]
