-- What the indexes say of a read is what is seen at it.
use Rattle.std.proofs.Common.{◌≡◌, ◌≢◌, ◌∙◌, inl, inr, ℕ, ◌<◌, ◌≤◌, not, arith, Bool, true, false, cond, if◌then◌else◌, nat_lt, Option, Some, None, refl, sym, ap, ap₂, subst, true≢false}
use Rattle.std.specs.List.{Contains, find}
use Rattle.std.specs.Option.{option_eq}
use Rattle.std.proofs.lemmas.Bool.{and_parts, and_from, cases_lt, ltb-true, lt-ltb}
use Rattle.si_lists.proofs.Tests.{find-Some}
use Rattle.si_lists.proofs.Members.{same_some}
use Rattle.si_model.specs.declared.numbers.Value.{Value}
use Rattle.si_model.specs.declared.parts.Access.TheVariants as access
use Rattle.si_model.specs.declared.parts.Part.{Part}
use Rattle.si_model.specs.declared.parts.Placed.{Placed}
use Rattle.si_model.specs.declared.parts.OnKey.{OnKey}
use Rattle.si_model.specs.declared.sights.Source.TheVariants as source
use Rattle.si_model.specs.declared.transactions.Status.{Status}
use Rattle.si_model.specs.declared.transactions.Status.TheVariants as status
use Rattle.si_model.specs.Edits.{same_id}
use Rattle.si_model.specs.Operations.{same_value}
use Rattle.si_model.specs.Versions.{IsFinalWrite, WritesAt, last_write, part_writes}
use Rattle.si_model.specs.Reads.{WritesLater, missed_at, missed_of, own_value, sight_of, source_among, source_by, source_from, source_of, version_of, writes_later}
use Rattle.si_model.proofs.Equalities.{read_is, same_id_from, same_id_is, same_value_is}
use Rattle.si_model.proofs.Histories.{one_part}
use Rattle.si_model.proofs.LastWrites.{last_is_final, last_written, later_are, one_access, own_is_last}
use Rattle.si_model.proofs.Sources.{writer_found}
use Rattle.si_timeline.specs.Timelines.{Dated}
use Rattle.si_judge.specs.declared.reads.Fate.TheVariants as fate
use Rattle.si_judge.specs.declared.reads.KeptRead.{KeptRead}
use Rattle.si_judge.specs.declared.reads.Write.{Write}
use Rattle.si_judge.specs.declared.indexes.Indexes.{Indexes}
use Rattle.si_judge.specs.Indexes.{AreIndexes, fate_of, kept_read_of, reads_in, write_of}
use Rattle.si_judge.specs.Values.{at_value}
use Rattle.si_judge.specs.Sights.{is_version_after, is_write_after, later_with, sight_in, source_in, source_told, source_with, version_in, write_in}
use Rattle.si_judge.proofs.PartLists.{IsVersionOf, other_from, read_from, version_from, write_from}
use Rattle.si_judge.proofs.Told.{installed_fate, unwritten}

same_tests : (a b : Bool) → (a ≡ true → b ≡ true) → (b ≡ true → a ≡ true) → a ≡ b
same_tests true true f g = refl
same_tests true false f g = sym (f refl)
same_tests false true f g = g refl
same_tests false false f g = refl

fate_tells : (T : Part) (v : Value) (s : Status) → source_told T.id (fate_of s (last_write T.accesses) v) ≡ source_by T v s
fate_tells T v status.Aborted = refl
fate_tells T v status.InDoubt = refl
fate_tells T v (status.Committed c) = by (option_eq same_value (last_write T.accesses) (Some v))
  where
    by : (b : Bool) → source_told T.id (if b then fate.Installed c else fate.Earlier) ≡ (if b then source.Installed T.id c else source.Earlier T.id)
    by true = refl
    by false = refl

module _ {M : OnKey} (ix : Indexes) (is : AreIndexes M ix) where
  -- the write that stands in the index, with its transaction
  abbrev Found : Value → Write → Type 0
  Found w x = (U : Part) × Contains M.parts U × ((j : ℕ) × Contains U.accesses (record { place = j; access = access.Write w }) × (write_of U j w ≡ (w, x)))

  found : (w : Value) (x : Write) → at_value ix.writes w ≡ Some x → Found w x
  found w x e = let u = (is.writes w x).0 e in (u.0, u.1, write_from u.0 w x (other_from u.0 w x u.2).0)

  -- the version of the value, with its transaction
  record Versioned (w : Value) (d : Dated) : Type 0 where
    part : Part
    there : Contains M.parts part
    is_of : IsVersionOf part d
    value : d.1.value ≡ w
    place : ℕ
    at : Contains part.accesses (record { place = place; access = access.Write w })

  versioned : (w : Value) (d : Dated) → version_in ix (Some w) ≡ Some d → Versioned w d
  versioned w d e =
      let f = find-Some (λ x. same_value x.1.value w) ix.timeline d e in
      let x = (is.timeline d).0 f.0 in
      let v = version_from x.0 d x.2 in
      let same = same_value_is d.1.value w f.1 in
      let written = last_written x.0 d.1.value v.value in
      record { part = x.0; there = x.1; is_of = v; value = same; place = written.0; at = subst (λ y. Contains (x.0).accesses (record { place = written.0; access = access.Write y })) same written.1 }

  -- ---- where a value comes from

  source_found : (w : Value) (o : Option Write) (p : Option Dated) → at_value ix.writes w ≡ o → version_in ix (Some w) ≡ p → source_with o p ≡ source_among M.parts (Some w)
  source_found w None None e f = ap (source_from w) (sym (none (find (part_writes w) M.parts) refl))
    where
      none : (f : Option Part) → find (part_writes w) M.parts ≡ f → f ≡ None
      none None g = refl
      none (Some U) g = let c = (writer_found M w U is.history).0 g in absurd (unwritten ix is w e f U c.0 c.1)
  source_found w None (Some d) e f =
      let u = versioned w d f in
      let writer : find (part_writes w) M.parts ≡ Some u.part = (writer_found M w u.part is.history).1 (u.there, (u.place, u.at)) in
      let fated : fate_of u.part.status (last_write u.part.accesses) w ≡ fate.Installed d.0 = ap (fate_of u.part.status (last_write u.part.accesses)) (sym u.value) ∙ installed_fate _ _ d u.is_of.committed u.is_of.value in
      ap₂ source_told u.is_of.writer (sym fated) ∙ fate_tells u.part w u.part.status ∙ ap (source_from w) (sym writer)
  source_found w (Some x) p e f =
      let u = found w x e in
      let U = u.0 in
      let x_is : (write_of U u.2.0 w).1 ≡ x = ap (λ p. p.1) u.2.2 in
      let writer : find (part_writes w) M.parts ≡ Some U = (writer_found M w U is.history).1 (u.1, (u.2.0, u.2.1)) in
      ap (λ (y : Write). source_told y.txn y.fate) (sym x_is) ∙ fate_tells U w U.status ∙ ap (source_from w) (sym writer)

  source_is : (v : Option Value) → source_in ix v ≡ source_of M v
  unfolding source_of
  source_is v = ap (λ i. cond (option_eq same_value v i) source.Initial (source_with (write_in ix v) (version_in ix v))) is.initial
      ∙ ap (λ s. cond (option_eq same_value v M.initial) source.Initial s) (among v)
    where
      among : (v : Option Value) → source_with (write_in ix v) (version_in ix v) ≡ source_among M.parts v
      among None = refl
      among (Some w) = source_found w (at_value ix.writes w) (version_in ix (Some w)) refl refl

  -- ---- a later write

  module _ (T : Part) (there : Contains M.parts T) (i : ℕ) (read : Option Value) (is_read : Contains T.accesses (record { place = i; access = access.Read read })) where
    -- the read at i is no write
    no_write_there : (w : Value) → Contains T.accesses (record { place = i; access = access.Write w }) → ⊥
    no_write_there w c = differ (ap (λ (a : Placed). a.access) (one_access M is.history T (record { place = i; access = access.Read read }) (record { place = i; access = access.Write w }) there is_read c refl))
      where
        differ : access.Read read ≡ access.Write w → ⊥
        differ e = cc

    later_found : (w : Value) (x : Write) → at_value ix.writes w ≡ Some x → is_write_after (kept_read_of T i (Some w)) x ≡ writes_later T i (Some w)
    later_found w x e = same_tests (is_write_after (kept_read_of T i (Some w)) x) (writes_later T i (Some w)) to from
      where
        to : is_write_after (kept_read_of T i (Some w)) x ≡ true → writes_later T i (Some w) ≡ true
        to t =
            let u = found w x e in
            let both = and_parts (same_id x.txn T.id) (nat_lt i x.place) t in
            let id : u.0.id ≡ T.id = ap (λ p. p.1.txn) u.2.2 ∙ same_id_is x.txn T.id both.0 in
            let part : u.0 ≡ T = one_part M is.history u.0 T u.1 there id in
            let place : u.2.0 ≡ x.place = ap (λ p. p.1.place) u.2.2 in
            (later_are T i (Some w)).1 (
              w,
              refl,
              (
                u.2.0,
                subst (λ n. i < n) (sym place) (ltb-true i x.place both.1),
                subst (λ (U : Part). Contains U.accesses (record { place = u.2.0; access = access.Write w })) part u.2.1,
              ),
            )

        from : writes_later T i (Some w) ≡ true → is_write_after (kept_read_of T i (Some w)) x ≡ true
        from t =
            let u = found w x e in
            let l = (later_are T i (Some w)).0 t in
            let value : l.0 ≡ w = sym (same_some l.1) in
            let at = subst (λ y. Contains T.accesses (record { place = l.2.0; access = access.Write y })) value l.2.2 in
            let same = is.history.writes T u.0 l.2.0 u.2.0 w there u.1 at u.2.1 in
            let id : x.txn ≡ T.id = sym (ap (λ p. p.1.txn) u.2.2) ∙ sym same.0 in
            let place : l.2.0 ≡ x.place = same.1 ∙ ap (λ p. p.1.place) u.2.2 in
            and_from (same_id x.txn T.id) (nat_lt i x.place) (same_id_from x.txn T.id id) (lt-ltb i x.place (subst (λ n. i < n) place l.2.1))

    later_none : (w : Value) → at_value ix.writes w ≡ None → version_in ix (Some w) ≡ None → false ≡ writes_later T i (Some w)
    later_none w e f = same_tests false (writes_later T i (Some w)) (λ t. absurd (true≢false (sym t))) (λ t.
        let l = (later_are T i (Some w)).0 t in
        let same : w ≡ l.0 = same_some l.1 in
        absurd (unwritten ix is w e f T there (l.2.0, subst (λ y. Contains T.accesses (record { place = l.2.0; access = access.Write y })) (sym same) l.2.2)))

    -- a final write of T before the place is T's own value there
    own_final : (w : Value) → IsFinalWrite T w → (own_value T i ≡ Some w → ⊥) → WritesLater T i w
    own_final w final not_own = elim (cases_lt final.place i) [
      | inl less ↦ absurd (not_own ((own_is_last M T i w is.history there).1 (record { place = final.place; before = less; is = final.is; last = λ j u at lt. final.last j u at })))
      | inr ge ↦ (final.place, beyond ge (λ e. no_write_there w (subst (λ n. Contains T.accesses (record { place = n; access = access.Write w })) e final.is)), final.is)
    ]
      where
        beyond : i ≤ final.place → (final.place ≢ i) → i < final.place
        beyond ge other = elim (cases_lt i final.place) [ inl less ↦ less | inr le ↦ absurd (other (omega (arith, ge, le))) ]

    later_version : (w : Value) (d : Dated) → version_in ix (Some w) ≡ Some d → is_version_after (kept_read_of T i (Some w), own_value T i) (Some d) ≡ writes_later T i (Some w)
    later_version w d e = same_tests (is_version_after (kept_read_of T i (Some w), own_value T i) (Some d)) (writes_later T i (Some w)) to from
      where
        to : is_version_after (kept_read_of T i (Some w), own_value T i) (Some d) ≡ true → writes_later T i (Some w) ≡ true
        to t =
            let u = versioned w d e in
            let both = and_parts (same_id d.1.writer T.id) (not (option_eq same_value (own_value T i) (Some w))) t in
            let part : u.part ≡ T = one_part M is.history u.part T u.there there (sym u.is_of.writer ∙ same_id_is d.1.writer T.id both.0) in
            let final = (last_is_final M T w is.history there).0 (ap (λ (U : Part). last_write U.accesses) (sym part) ∙ u.is_of.value ∙ ap Some u.value) in
            let later = own_final w final (λ own. not_both (option_eq same_value (own_value T i) (Some w)) both.1 ((read_is (own_value T i) (Some w)).1 own)) in
            (later_are T i (Some w)).1 (w, refl, later)
          where
            not_both : (b : Bool) → not b ≡ true → b ≡ true → ⊥
            not_both true f g = true≢false (sym f)
            not_both false f g = true≢false (sym g)

        from : writes_later T i (Some w) ≡ true → is_version_after (kept_read_of T i (Some w), own_value T i) (Some d) ≡ true
        from t =
            let u = versioned w d e in
            let l = (later_are T i (Some w)).0 t in
            let value : l.0 ≡ w = sym (same_some l.1) in
            let at = subst (λ y. Contains T.accesses (record { place = l.2.0; access = access.Write y })) value l.2.2 in
            let same = is.history.writes T u.part l.2.0 u.place w there u.there at u.at in
            and_from (same_id d.1.writer T.id) (not (option_eq same_value (own_value T i) (Some w))) (same_id_from d.1.writer T.id (u.is_of.writer ∙ sym same.0))
            (not_own (option_eq same_value (own_value T i) (Some w)) refl l.2.0 l.2.1 at)
          where
            not_own : (b : Bool) → option_eq same_value (own_value T i) (Some w) ≡ b → (j : ℕ) → i < j → WritesAt T j w → not b ≡ true
            not_own false f j lt at = refl
            not_own true f j lt at =
                let own = (own_is_last M T i w is.history there).0 ((read_is (own_value T i) (Some w)).0 f) in
                let one = is.history.writes T T own.place j w there there own.is at in
                let before = own.before in
                let place = one.1 in
                absurd (omega (arith, before, place, lt))

    later_of : (w : Value) (o : Option Write) (p : Option Dated) → at_value ix.writes w ≡ o → version_in ix (Some w) ≡ p → later_with (kept_read_of T i (Some w), own_value T i) o p ≡ writes_later T i (Some w)
    later_of w (Some x) p e f = later_found w x e
    later_of w None (Some d) e f = later_version w d f
    later_of w None None e f = later_none w e f

    later_is : (v : Option Value) → later_with (kept_read_of T i v, own_value T i) (write_in ix v) (version_in ix v) ≡ writes_later T i v
    unfolding writes_later
    later_is None = refl
    later_is (Some w) = later_of w (at_value ix.writes w) (version_in ix (Some w)) refl refl

  -- ---- all of it

  seen_at : (T : Part) → Contains M.parts T → (i : ℕ) (v : Option Value) → Contains T.accesses (record { place = i; access = access.Read v }) → sight_in M ix (kept_read_of T i v, own_value T i) ≡ sight_of M T i v
  unfolding sight_of missed_at
  seen_at T there i v is_read = λ k. record {
    txn = T.id;
    op = i;
    start = T.start;
    read = v;
    own = own_value T i;
    later = later_is T there i v is_read v k;
    source = source_is v k;
    missed = missed_of M.parts T.start (version_of (source_is v k));
  }

  pub seen_is : (T : Part) (p : KeptRead × Option Value) → Contains M.parts T → Contains (reads_in T) p
      → sight_in M ix p ≡ sight_of M T p.0.place p.0.value
  seen_is T p there c =
      let r = read_from T p c in
      ap (sight_in M ix) (sym r.is) ∙ seen_at T there r.place r.value r.returned ∙ ap₂ (sight_of M T) (ap (λ q. q.0.place) r.is) (ap (λ q. q.0.value) r.is)
