-- The reads that are gathered are those that a transaction touches, each once.
use Rattle.std.proofs.Common.{◌≡◌, ◌≢◌, ◌∙◌, ◌⊎◌, inl, inr, ◌↔◌, ℕ, ◌<◌, true, List, [], ◌∷◌, ◌++◌, Option, Some, None, refl, sym, ap, subst, arith}
use Rattle.std.specs.BTreeMap.{is_at}
use Rattle.std.specs.List.{AllByRecursion, AllPairs, Contains, flat_map}
use Rattle.std.specs.List.Sorted.{IsStrictlySortedBy}
use Rattle.std.specs.Map.{keys_of}
use Rattle.std.specs.Ordering.{is_eq}
use Rattle.std.specs.declared.cmp.Ordering.TheVariants.{Less}
use Rattle.std.proofs.Common.{true≢false}
use Rattle.std.proofs.lemmas.Bool.{and_parts, and_from, ltb-true, lt-ltb}
use Rattle.std.proofs.lemmas.List.Elements.{Contains-append_cases, Contains-append_left, Contains-append_right}
use Rattle.std.proofs.lemmas.List.Kept.{AllPairs-filter}
use Rattle.std.proofs.lemmas.Map.Entries.{place_from_lookup}
use Rattle.std.proofs.lemmas.Map.Keys.{sorted_head, sorted_tail}
use Rattle.si_lists.proofs.Members.{same_some, Contains-nil, get_contains, here, there, Contains-cons_cases, Contains-filter, Contains-from_filter}
use Rattle.si_lists.proofs.Names.{Differ, names_filter_map, pairs_cons, pairs_head, pairs_nil, pairs_tail}
use Rattle.si_model.specs.declared.numbers.Stamp.{Stamp}
use Rattle.si_model.specs.declared.numbers.Value.{Value}
use Rattle.si_model.specs.declared.parts.Access.{Access}
use Rattle.si_model.specs.declared.parts.Access.TheVariants as access
use Rattle.si_model.specs.declared.parts.Placed.{Placed}
use Rattle.si_model.specs.declared.parts.Part.{Part}
use Rattle.si_model.specs.declared.parts.OnKey.{OnKey}
use Rattle.si_model.specs.Versions.{Writes, WritesAt, written}
use Rattle.si_model.specs.Reads.{own_value}
use Rattle.si_model.proofs.Equalities.{read_is}
use Rattle.si_model.proofs.Histories.{one_installer, one_part}
use Rattle.si_model.proofs.LastWrites.{last_written, one_access}
use Rattle.si_timeline.specs.Timelines.{Dated, IsNearestBefore}
use Rattle.si_judge.specs.declared.reads.KeptRead.{KeptRead}
use Rattle.si_judge.specs.declared.reads.Write.{Write}
use Rattle.si_judge.specs.declared.indexes.Indexes.{Indexes}
use Rattle.si_judge.specs.Indexes.{AreIndexes, AreReadsBefore, AreReadsOf, AreTouchedReads, Fits, IsTouchedBy, IsValueBefore, kept_read_of, kept_reads_in, reads_in, returned_by, version_by, write_at, write_by, write_of, writes_of}
use Rattle.si_judge.specs.KeptReads.{IsLaterThan, IsKeptReadOf, is_later, is_kept_read_of, kept_read_cmp, own_at}
use Rattle.si_judge.specs.Mending.{id_of, installer}
use Rattle.si_judge.proofs.IndexEdits.{no_value}
use Rattle.si_judge.proofs.Orders.{kept_read_decides}
use Rattle.si_judge.proofs.KeptReadLists.{stands_beside}
use Rattle.si_judge.proofs.PartLists.{read_from, version_from, version_installs, write_from, write_to}

-- ---- the readers of a value

pub reader_is : (v : Option Value) (after : Option Stamp) (r : KeptRead) → (is_kept_read_of v after r ≡ true) ↔ IsKeptReadOf v after r
reader_is v after r = (
  (λ e. let both = and_parts _ (is_later after r.start) e in ((read_is r.value v).0 both.0, later after both.1)),
  (λ i. and_from _ (is_later after r.start) ((read_is r.value v).1 i.0) (from_later after i.1)),
)
  where
    later : (after : Option Stamp) → is_later after r.start ≡ true → IsLaterThan after r.start
    later None e = tt
    later (Some c) e = ltb-true c.0 r.start.0 e

    from_later : (after : Option Stamp) → IsLaterThan after r.start → is_later after r.start ≡ true
    from_later None i = refl
    from_later (Some c) i = lt-ltb c.0 r.start.0 i

keys_apart : (es : List (KeptRead × Option Value)) → IsStrictlySortedBy kept_read_cmp (keys_of es) → AllPairs (λ p q. p.0 ≢ q.0) es
keys_apart [] s = pairs_nil (λ p q. p.0 ≢ q.0)
keys_apart (e ∷ es) s = pairs_cons (λ p q. p.0 ≢ q.0) e es (below e.0 es (sorted_head kept_read_cmp e.0 (keys_of es) s)) (keys_apart es (sorted_tail kept_read_cmp e.0 (keys_of es) s))
  where
    less : (r q : KeptRead) → kept_read_cmp r q ≡ Less → r ≢ q
    less r q e same = true≢false (sym ((kept_read_decides r q).1 same) ∙ ap is_eq e)

    below : (r : KeptRead) (ds : List (KeptRead × Option Value)) → AllByRecursion (λ k. kept_read_cmp r k ≡ Less) (keys_of ds) → (d : KeptRead × Option Value) → Contains ds d → r ≢ d.0
    below r [] h d c = absurd (Contains-nil d c)
    below r (x ∷ ds) h d c = elim (Contains-cons_cases x ds d c) [
      | inl same ↦ subst (λ (y : KeptRead × Option Value). r ≢ y.0) same (less r x.0 h.0)
      | inr rest ↦ below r ds h.1 d rest
    ]

module _ {M : OnKey} (ix : Indexes) (is : AreIndexes M ix) where
  entry : (r : KeptRead) (own : Option Value) → own_at ix.reads r ≡ Some own → Contains ix.reads (r, own)
  entry r own e =
      let p = place_from_lookup (is_at (kept_read_cmp r)) ix.reads own e in
      subst (λ k. Contains ix.reads (k, own)) (sym ((kept_read_decides r p.1).0 p.3)) (get_contains ix.reads p.0 (p.1, own) p.2)

  stands : (p : KeptRead × Option Value) → Contains ix.reads p → own_at ix.reads p.0 ≡ Some p.1
  stands = stands_beside ix.reads (keys_apart ix.reads is.ordered)

  pub kept_reads_are : (v : Option Value) (after : Option Stamp) → AreReadsOf ix (IsKeptReadOf v after) (kept_reads_in ix v after)
  kept_reads_are v after = record {
    all = λ r own e i. Contains-filter (λ p. is_kept_read_of v after p.0) ix.reads (r, own) (entry r own e) ((reader_is v after r).1 i);
    only = λ p c. let f = Contains-from_filter (λ q. is_kept_read_of v after q.0) ix.reads p c in (stands p f.0, (reader_is v after p.0).0 f.1);
    once = AllPairs-filter (λ p q. p.0 ≢ q.0) (λ p. is_kept_read_of v after p.0) ix.reads (keys_apart ix.reads is.ordered);
  }

  pub none_are : {P : KeptRead → Type 0} → ((r : KeptRead) → P r → ⊥) → AreReadsOf ix P []
  none_are none = record { all = λ r own e p. absurd (none r p); only = λ p c. absurd (Contains-nil p c); once = pairs_nil (λ p q. p.0 ≢ q.0) }

  pub both_are : {P R : KeptRead → Type 0} (xs ys : List (KeptRead × Option Value)) → AreReadsOf ix P xs → AreReadsOf ix R ys → ((r : KeptRead) → P r → R r → ⊥)
      → AreReadsOf ix (λ r. P r ⊎ R r) (xs ++ ys)
  both_are {P} {R} xs ys a b apart = record {
    all = λ r own e i. elim i [ inl p ↦ Contains-append_left xs ys (r, own) (a.all r own e p) | inr q ↦ Contains-append_right xs ys (r, own) (b.all r own e q) ];
    only = λ p c. elim (Contains-append_cases xs ys p c) [ inl l ↦ (let o = a.only p l in (o.0, inl o.1)) | inr r ↦ (let o = b.only p r in (o.0, inr o.1)) ];
    once = joined xs a.once (λ p q c d same. apart p.0 (a.only p c).1 (subst R (sym same) (b.only q d).1));
  }
    where
      joined : (zs : List (KeptRead × Option Value)) → AllPairs (λ p q. p.0 ≢ q.0) zs → ((p q : KeptRead × Option Value) → Contains zs p → Contains ys q → p.0 ≢ q.0) → AllPairs (λ p q. p.0 ≢ q.0) (zs ++ ys)
      joined [] once differ = b.once
      joined (z ∷ zs) once differ = pairs_cons (λ p q. p.0 ≢ q.0) z (zs ++ ys)
          (λ q c. elim (Contains-append_cases zs ys q c) [ inl l ↦ pairs_head (λ p q. p.0 ≢ q.0) z zs once q l | inr r ↦ differ z q (here z zs) r ])
          (joined zs (pairs_tail (λ p q. p.0 ≢ q.0) z zs once) (λ p q c. differ p q (there z zs p c)))

  pub same_reads : {P R : KeptRead → Type 0} (xs : List (KeptRead × Option Value)) → AreReadsOf ix P xs → ((r : KeptRead) → P r ↔ R r) → AreReadsOf ix R xs
  same_reads xs a same = record { all = λ r own e i. a.all r own e ((same r).1 i); only = λ p c. let o = a.only p c in (o.0, (same p.0).0 o.1); once = a.once }

  -- ---- the readers of what is written

  abbrev IsReadOfOne : List (Value × Write) → KeptRead → Type 0
  IsReadOfOne ws r = (w : Value × Write) × Contains ws w × (r.value ≡ Some w.0)

  of_writes : (ws : List (Value × Write)) → AllPairs (λ a b. a.0 ≢ b.0) ws → AreReadsOf ix (IsReadOfOne ws) (flat_map (λ w. kept_reads_in ix (Some w.0) None) ws)
  of_writes [] apart = none_are (λ r i. Contains-nil i.0 i.1)
  of_writes (w ∷ ws) apart = same_reads (kept_reads_in ix (Some w.0) None ++ flat_map (λ w. kept_reads_in ix (Some w.0) None) ws)
      (both_are (kept_reads_in ix (Some w.0) None) (flat_map (λ w. kept_reads_in ix (Some w.0) None) ws) (kept_reads_are (Some w.0) None)
      (of_writes ws (pairs_tail (λ a b. a.0 ≢ b.0) w ws apart))
      (λ r a b. pairs_head (λ a b. a.0 ≢ b.0) w ws apart b.0 b.1 (same_some (sym a.0 ∙ b.2))))
      (λ r. (
        (λ i. elim i [ inl a ↦ (w, here w ws, a.0) | inr b ↦ (b.0, there w ws b.0 b.1, b.2) ]),
        (λ i. elim (Contains-cons_cases w ws i.0 i.1) [ inl e ↦ inl (i.2 ∙ ap (λ x. Some x.0) (sym e), tt) | inr c ↦ inr (i.0, c, i.2) ]),
      ))

  -- ---- all that a transaction touches

  module _ (T : Part) (fits : Fits T M) where
    values_apart : AllPairs (λ a b. a.0 ≢ b.0) (writes_of T)
    values_apart = weaker {R = Differ (λ (w : Value × Write). w.1.place)} {S = λ a b. a.0 ≢ b.0} (writes_of T) (names_filter_map (λ (a : Placed). a.place) (λ (w : Value × Write). w.1.place) (write_at T) at_place T.accesses
        (rising T.accesses (fits.2.places T has_T))) (λ a b c d differ same. differ (place a b c d same))
      where
        has_T : Contains (fits.0).parts T
        has_T = (fits.1.parts T).1 (inr refl)

        at_place : (a : Placed) (w : Value × Write) → write_at T a ≡ Some w → w.1.place ≡ a.place
        at_place a w e = by a.access refl e
          where
            by : (x : Access) → a.access ≡ x → write_by T a.place (written x) ≡ Some w → w.1.place ≡ a.place
            by (access.Read v) f e = absurd (let s : None ≡ Some w = e in no_value w s)
            by (access.Write v) f e = sym (ap (λ (y : Value × Write). y.1.place) (same_some e))

        rising : (ys : List Placed) → AllPairs (λ a b. a.place < b.place) ys → AllPairs (Differ (λ (a : Placed). a.place)) ys
        rising ys p = λ i j d h l e. (let lt = p i j d h l in absurd (omega (arith, lt, e)))

        weaker : {R S : Value × Write → Value × Write → Type 0} (ws : List (Value × Write)) → AllPairs R ws → ((a b : Value × Write) → Contains ws a → Contains ws b → R a b → S a b) → AllPairs S ws
        weaker {R} {S} [] p f = pairs_nil S
        weaker {R} {S} (w ∷ ws) p f = pairs_cons S w ws (λ y c. f w y (here w ws) (there w ws y c) (pairs_head R w ws p y c)) (weaker ws (pairs_tail R w ws p) (λ a b c d. f a b (there w ws a c) (there w ws b d)))

        place : (a b : Value × Write) → Contains (writes_of T) a → Contains (writes_of T) b → a.0 ≡ b.0 → a.1.place ≡ b.1.place
        place a b c d e =
            let i = write_from T a.0 a.1 c in
            let j = write_from T b.0 b.1 d in
            let same = fits.2.writes T T i.0 j.0 b.0 has_T has_T (subst (λ v. WritesAt T i.0 v) e i.1) j.1 in
            sym (ap (λ (p : Value × Write). p.1.place) i.2) ∙ same.1 ∙ ap (λ (p : Value × Write). p.1.place) j.2

    -- no value that T writes is read of a version before
    not_before : (c : Stamp) (v : Option Value) (w : Value) → IsValueBefore ix c v → v ≡ Some w → Writes T w → ⊥
    not_before c v w before e writes = by before.0 before.1 (sym e ∙ before.2)
      where
        by : (o : Option Dated) → IsNearestBefore ix.timeline c o → Some w ≡ returned_by ix.initial o → ⊥
        by None near same = fits.2.initial w T (sym fits.1.initial ∙ sym is.initial ∙ sym same) ((fits.1.parts T).1 (inr refl)) writes
        by (Some d) near same =
            let x = (is.timeline d).0 near.0 in
            let written = last_written x.0 d.1.value (version_from x.0 d x.2).value in
            let one = fits.2.writes x.0 T written.0 writes.0 w ((fits.1.parts x.0).1 (inl x.1)) ((fits.1.parts T).1 (inr refl))
            (subst (λ v. WritesAt x.0 written.0 v) (sym (same_some same)) written.1) writes.1 in
            fits.1.absent x.0 x.1 one.0

    written_is : (r : KeptRead) → IsReadOfOne (writes_of T) r ↔ ((w : Value) × Writes T w × (r.value ≡ Some w))
    written_is r = (
      (λ i. let f = write_from T i.0.0 i.0.1 i.1 in (i.0.0, (f.0, f.1), i.2)),
      (λ i. (write_of T i.1.0 i.0, write_to T i.1.0 i.0 i.1.1, i.2)),
    )

    abbrev IsReadBefore : KeptRead → Type 0
    IsReadBefore r = (d : Dated) × (v : Option Value) × (version_by T ≡ Some d) × IsValueBefore ix d.0 v × IsKeptReadOf v (Some d.0) r

    -- two stand before one stamp only where they are one
    same_before : (c : Stamp) (v w : Option Value) → IsValueBefore ix c v → IsValueBefore ix c w → v ≡ w
    same_before c v w a b = by a.0 b.0 a.1 b.1 a.2 b.2
      where
        one : (d e : Dated) → Contains ix.timeline d → Contains ix.timeline e → d.0 ≡ e.0 → d ≡ e
        one d e c f same =
            let x = (is.timeline d).0 c in
            let y = (is.timeline e).0 f in
            let part = one_installer M is.history x.0 y.0 (installer d) (installer e) x.1 y.1
            (version_installs x.0 d x.2) (version_installs y.0 e y.2) same in
            same_some (sym x.2 ∙ ap version_by part ∙ y.2)

        by : (o p : Option Dated) → IsNearestBefore ix.timeline c o → IsNearestBefore ix.timeline c p → v ≡ returned_by ix.initial o → w ≡ returned_by ix.initial p → v ≡ w
        by None None near close e f = e ∙ sym f
        by None (Some p) near close e f = absurd (let least = near p close.0 in let lt = close.1 in omega (arith, least, lt))
        by (Some o) None near close e f = absurd (let least = close o near.0 in let lt = near.1 in omega (arith, least, lt))
        by (Some o) (Some p) near close e f =
            let a = near.2 p close.0 close.1 in
            let b = close.2 o near.0 near.1 in
            let n : o.0.0 ≡ p.0.0 = omega (arith, a, b) in
            e ∙ ap (λ (d : Dated). Some d.1.value) (one o p near.0 close.0 (ap (λ (k : ℕ). record { 0 = k }) n)) ∙ sym f

    before_are : (o : Option Dated) (reads : List (KeptRead × Option Value)) → version_by T ≡ o → AreReadsBefore ix o reads → AreReadsOf ix IsReadBefore reads
    before_are None reads e is_none = subst (AreReadsOf ix IsReadBefore) (sym is_none) (none_are (λ r i. no_value i.0 (sym e ∙ i.2)))
    before_are (Some d) reads e before = subst (AreReadsOf ix IsReadBefore) (sym before.2) (same_reads (kept_reads_in ix before.0 (Some d.0)) (kept_reads_are before.0 (Some d.0)) (λ r. (
      (λ i. (d, before.0, e, before.1, i)),
      (λ i. let same : d ≡ i.0 = same_some (sym e ∙ i.2) in
          let v : i.1 ≡ before.0 = same_before d.0 i.1 before.0 (subst (λ (x : Dated). IsValueBefore ix x.0 i.1) (sym same) i.3) before.1 in
          (i.4.0 ∙ v, subst (λ (x : Dated). x.0.0 < r.start.0) (sym same) i.4.1)),
    )))

    -- what is gathered is what T touches
    pub touched_are : (reads : List (KeptRead × Option Value)) → AreTouchedReads ix T (writes_of T) reads → AreReadsOf ix (IsTouchedBy ix T) reads
    touched_are reads t =
        let written = same_reads _ (of_writes (writes_of T) values_apart) written_is in
        subst (AreReadsOf ix (IsTouchedBy ix T)) (sym t.2) (both_are (flat_map (λ w. kept_reads_in ix (Some w.0) None) (writes_of T)) t.0 written (before_are (version_by T) t.0 refl t.1)
        (λ r a b. not_before b.0.0 b.1 a.0 b.3 (sym b.4.0 ∙ a.2) a.1))

  -- ---- one read of an id

  pub same_read : (p q : KeptRead × Option Value) (A B : Part) → Contains M.parts A → Contains M.parts B → Contains (reads_in A) p → Contains (reads_in B) q → id_of p ≡ id_of q → p ≡ q
  same_read p q A B a b c d e =
      let i = read_from A p c in
      let j = read_from B q d in
      let id : A.id ≡ B.id = ap (λ x. x.0.txn) i.is ∙ ap (λ x. x.txn) e ∙ sym (ap (λ x. x.0.txn) j.is) in
      let part = one_part M is.history A B a b id in
      let place : i.place ≡ j.place = ap (λ x. x.0.place) i.is ∙ ap (λ x. x.place) e ∙ sym (ap (λ x. x.0.place) j.is) in
      let one = one_access M is.history B (record { place = i.place; access = access.Read i.value }) (record { place = j.place; access = access.Read j.value }) b
      (subst (λ (T : Part). Contains T.accesses (record { place = i.place; access = access.Read i.value })) part i.returned) j.returned place in
      let value : i.value ≡ j.value = read_value i.value j.value (ap (λ x. x.access) one) in
      sym i.is ∙ (λ k. (kept_read_of (part k) (place k) (value k), own_value (part k) (place k))) ∙ j.is
    where
      read_value : (v w : Option Value) → access.Read v ≡ access.Read w → v ≡ w
      read_value v w e = cc
