-- A read is a place where a change of what it returns is a finding, and an aborted writer where a read of its value is.
use Rattle.std.proofs.Common.{◌≡◌, ◌≢◌, ℕ, ◌<◌, Bool, true, false, nat_lt, List, Option, Some, None, refl, sym, ap, subst, ◌∙◌, cond, arith}
use Rattle.std.specs.List.{Contains}
use Rattle.std.specs.Option.{option_eq}
use Rattle.std.proofs.lemmas.Bool.{ltb-true, ltb-false, lt-ltb}
use Rattle.si_model.specs.declared.numbers.TxnId.{TxnId}
use Rattle.si_model.specs.declared.numbers.Stamp.{Stamp}
use Rattle.si_model.specs.declared.numbers.Value.{Value}
use Rattle.si_model.specs.declared.transactions.Status.TheVariants as status
use Rattle.si_model.specs.declared.parts.Access.TheVariants as access
use Rattle.si_model.specs.declared.parts.Part.{Part}
use Rattle.si_model.specs.declared.parts.OnKey.{OnKey}
use Rattle.si_model.specs.declared.sights.Installer.{Installer}
use Rattle.si_model.specs.declared.sights.Source.{Source}
use Rattle.si_model.specs.declared.sights.Source.TheVariants as source
use Rattle.si_model.specs.declared.sights.Sight.{Sight}
use Rattle.si_model.specs.declared.kinds.Kind.{Kind}
use Rattle.si_model.specs.declared.kinds.Kind.TheVariants as kind
use Rattle.si_model.specs.Operations.{same_value}
use Rattle.si_model.specs.Parts.{Present, on_key}
use Rattle.si_model.specs.Versions.{WritesAt, Writes, IsFinalWrite}
use Rattle.si_model.specs.Reads.{IsRead, IsSource, own_value, writes_later, source_by, source_of, sight_of, judged_by_next, judged_by_source, judged_by_own, kind_of}
use Rattle.si_model.specs.Order.{number}
use Rattle.si_model.specs.History.{IsHistory, IsOfHistory}
use Rattle.si_model.specs.Chances.{WroteBefore, IsOwnPlace, IsAbortedPlace, IsIntermediatePlace, IsFuturePlace}
use Rattle.si_model.specs.ChanceLaws.{ShowsOwn, OwnIsChange, ShowsAborted, AbortedIsChange, ShowsIntermediate, IntermediateIsChange, ShowsFuture, FutureIsChange}
use Rattle.si_lists.proofs.Members.{same_some}
use Rattle.si_lists.proofs.Tests.{no_value}
use Rattle.si_model.proofs.Equalities.{value_is}
use Rattle.si_model.proofs.Histories.{key_of_history, one_part, one_writer}
use Rattle.si_model.proofs.LastWrites.{later_are, some_last, last_is_final, one_access, own_is_last, own_before}
use Rattle.si_model.proofs.Sources.{written_source, by_last, by_other, source_exact}
use Rattle.si_model.proofs.Returning.{shown, shown_from}

never : (b : Bool) → (b ≡ true → ⊥) → b ≡ false
never true f = absurd (f refl)
never false f = refl

-- ---- what is judged by a source

not_next : (s : Sight) (o : Option Installer) (k : Kind) → judged_by_next s o ≡ Some k → number k ≡ 7
not_next s None k e = cc
not_next s (Some n) k e = ap number (sym (same_some e))

later_version : (s : Sight) (u : TxnId) (c : Stamp) (k : Kind) → judged_by_source s (source.Installed u c) ≡ Some k → number k ≢ 7 → (k ≡ kind.Future s.txn s.op s.read u) × (s.start.0 < c.0)
later_version s u c k e other = by (nat_lt s.start.0 c.0) refl e
  where
    by : (b : Bool) → nat_lt s.start.0 c.0 ≡ b → cond b (Some (kind.Future s.txn s.op s.read u)) (judged_by_next s s.missed) ≡ Some k → (k ≡ kind.Future s.txn s.op s.read u) × (s.start.0 < c.0)
    by true t f = (sym (same_some f), ltb-true s.start.0 c.0 t)
    by false t f = absurd (other (not_next s s.missed k f))

aborted_source : (s : Sight) (from : Source) (t : TxnId) (i : ℕ) (v : Option Value) (u : TxnId) → judged_by_source s from ≡ Some (kind.Aborted t i v u) → from ≡ source.Aborted u
aborted_source s source.Missing t i v u e = cc
aborted_source s source.Initial t i v u e = absurd (let wrong = not_next s s.missed (kind.Aborted t i v u) e in omega arith)
aborted_source s (source.InDoubt w) t i v u e = cc
aborted_source s (source.Aborted w) t i v u e = let same : w ≡ u = cc in ap source.Aborted same
aborted_source s (source.Earlier w) t i v u e = cc
aborted_source s (source.Installed w c) t i v u e = let f = later_version s w c (kind.Aborted t i v u) e (λ wrong. omega arith) in absurd (let wrong = ap number f.0 in omega arith)

earlier_source : (s : Sight) (from : Source) (t : TxnId) (i : ℕ) (v : Option Value) (u : TxnId) → judged_by_source s from ≡ Some (kind.Intermediate t i v u) → from ≡ source.Earlier u
earlier_source s source.Missing t i v u e = cc
earlier_source s source.Initial t i v u e = absurd (let wrong = not_next s s.missed (kind.Intermediate t i v u) e in omega arith)
earlier_source s (source.InDoubt w) t i v u e = cc
earlier_source s (source.Aborted w) t i v u e = cc
earlier_source s (source.Earlier w) t i v u e = let same : w ≡ u = cc in ap source.Earlier same
earlier_source s (source.Installed w c) t i v u e = let f = later_version s w c (kind.Intermediate t i v u) e (λ wrong. omega arith) in absurd (let wrong = ap number f.0 in omega arith)

future_source : (s : Sight) (from : Source) (t : TxnId) (i : ℕ) (v : Option Value) (u : TxnId) → judged_by_source s from ≡ Some (kind.Future t i v u) → (c : Stamp) × (from ≡ source.Installed u c) × (s.start.0 < c.0)
future_source s source.Missing t i v u e = cc
future_source s source.Initial t i v u e = absurd (let wrong = not_next s s.missed (kind.Future t i v u) e in omega arith)
future_source s (source.InDoubt w) t i v u e = cc
future_source s (source.Aborted w) t i v u e = cc
future_source s (source.Earlier w) t i v u e = cc
future_source s (source.Installed w c) t i v u e =
    let f = later_version s w c (kind.Future t i v u) e (λ wrong. omega arith) in
    let is = f.0 in
    let same : u ≡ w = cc in
    (c, ap (λ x. source.Installed x c) (sym same), f.1)

not_own : (s : Sight) (from : Source) (t : TxnId) (i : ℕ) (v w : Option Value) → judged_by_source s from ≡ Some (kind.Own t i v w) → ⊥
not_own s source.Missing t i v w e = cc
not_own s source.Initial t i v w e = (let wrong = not_next s s.missed (kind.Own t i v w) e in omega arith)
not_own s (source.InDoubt u) t i v w e = cc
not_own s (source.Aborted u) t i v w e = cc
not_own s (source.Earlier u) t i v w e = cc
not_own s (source.Installed u c) t i v w e = let f = later_version s u c (kind.Own t i v w) e (λ wrong. omega arith) in (let wrong = ap number f.0 in omega arith)

-- ---- what a read is judged to be

module _ (Q : OnKey) (g : IsOfHistory Q) (T : Part) (i : ℕ) where
  pub by_own : (v : Option Value) (o : Option Value) (later : Bool) → own_value T i ≡ o → writes_later T i v ≡ later → kind_of (sight_of Q T i v) ≡ judged_by_own (sight_of Q T i v) o later
  unfolding kind_of sight_of
  by_own v o later own also = ap (λ u. judged_by_own (sight_of Q T i v) u (writes_later T i v)) own ∙ ap (λ b. judged_by_own (sight_of Q T i v) o b) also

  pub by_source : (v : Option Value) (from : Source) → own_value T i ≡ None → writes_later T i v ≡ false → source_of Q v ≡ from → kind_of (sight_of Q T i v) ≡ judged_by_source (sight_of Q T i v) from
  unfolding sight_of
  by_source v from own also e = by_own v None false own also ∙ ap (judged_by_source (sight_of Q T i v)) e

  -- a kind that isn't of own writes is judged by the source
  pub judged : (v : Option Value) (k : Kind) → kind_of (sight_of Q T i v) ≡ Some k → number k ≢ 3 → (own_value T i ≡ None) × (writes_later T i v ≡ false) × (judged_by_source (sight_of Q T i v) (source_of Q v) ≡ Some k)
  judged v k e other = by (own_value T i) refl (writes_later T i v) refl
    where
      by : (o : Option Value) → own_value T i ≡ o → (later : Bool) → writes_later T i v ≡ later → (own_value T i ≡ None) × (writes_later T i v ≡ false) × (judged_by_source (sight_of Q T i v) (source_of Q v) ≡ Some k)
      by (Some w) own later also = tested (option_eq same_value (sight_of Q T i v).read (Some w)) (sym (by_own v (Some w) later own also) ∙ e)
        where
          tested : (b : Bool) → cond b None (Some (kind.Own (sight_of Q T i v).txn (sight_of Q T i v).op (sight_of Q T i v).read (Some w))) ≡ Some k
              → (own_value T i ≡ None) × (writes_later T i v ≡ false) × (judged_by_source (sight_of Q T i v) (source_of Q v) ≡ Some k)
          tested true f = cc
          tested false f = absurd (other (ap number (sym (same_some f))))
      by None own true also = absurd (other (ap number (sym (same_some (sym (by_own v None true own also) ∙ e)))))
      by None own false also = (own, also, sym (by_source v (source_of Q v) own also refl) ∙ e)

  judged_own : (v : Option Value) (w : Value) → own_value T i ≡ Some w → v ≢ Some w → kind_of (sight_of Q T i v) ≡ Some (kind.Own T.id i v (Some w))
  unfolding sight_of
  judged_own v w own other = by_own v (Some w) (writes_later T i v) own refl ∙ ap (λ b. cond b None (Some (kind.Own T.id i v (Some w)))) (never (option_eq same_value v (Some w)) (λ e. other ((value_is v w).0 e)))

  judged_aborted : (v : Option Value) (u : TxnId) → own_value T i ≡ None → writes_later T i v ≡ false → source_of Q v ≡ source.Aborted u → kind_of (sight_of Q T i v) ≡ Some (kind.Aborted T.id i v u)
  unfolding sight_of
  judged_aborted v u own also e = by_source v (source.Aborted u) own also e

  judged_intermediate : (v : Option Value) (u : TxnId) → own_value T i ≡ None → writes_later T i v ≡ false → source_of Q v ≡ source.Earlier u → kind_of (sight_of Q T i v) ≡ Some (kind.Intermediate T.id i v u)
  unfolding sight_of
  judged_intermediate v u own also e = by_source v (source.Earlier u) own also e

  pub judged_future : (v : Option Value) (u : TxnId) (c : Stamp) → own_value T i ≡ None → writes_later T i v ≡ false → source_of Q v ≡ source.Installed u c → T.start.0 < c.0 → kind_of (sight_of Q T i v) ≡ Some (kind.Future T.id i v u)
  unfolding sight_of
  judged_future v u c own also e less = by_source v (source.Installed u c) own also e ∙ ap (λ b. cond b (Some (kind.Future T.id i v u)) (judged_by_next (sight_of Q T i v) (sight_of Q T i v).missed)) (lt-ltb T.start.0 c.0 less)

  future_is : (v : Option Value) (u : TxnId) → judged_by_source (sight_of Q T i v) (source_of Q v) ≡ Some (kind.Future T.id i v u) → (c : Stamp) × (source_of Q v ≡ source.Installed u c) × (T.start.0 < c.0)
  unfolding sight_of
  future_is v u e = future_source (sight_of Q T i v) (source_of Q v) T.id i v u e

  -- ---- free reads

  module _ (at : Contains Q.parts T) where
    -- a read is free exactly where there is no own value
    pub own_none : (WroteBefore T i → ⊥) → own_value T i ≡ None
    own_none free = no_value (own_value T i) (λ w e. let o = (own_is_last Q T i w g at).0 e in free (o.place, w, o.is, o.before))

    pub none_own : own_value T i ≡ None → WroteBefore T i → ⊥
    none_own none w = let o = own_before T i w.0 w.1 w.2 w.3 in let wrong = o.1 in cc

    -- and what it returns that T doesn't write is no later write
    pub later_none : (v : Value) → (Writes T v → ⊥) → writes_later T i (Some v) ≡ false
    later_none v none = never (writes_later T i (Some v)) (λ e. let l = (later_are T i (Some v)).0 e in none (l.2.0, subst (λ w. WritesAt T l.2.0 w) (sym (same_some l.1)) l.2.2))

    -- T writes no value that was judged by its source
    pub not_written : (v : Value) (r : Option Value) → IsRead Q T i r → own_value T i ≡ None → writes_later T i (Some v) ≡ false → Writes T v → ⊥
    not_written v r read own later w = by (nat_lt w.0 i) refl (nat_lt i w.0) refl
      where
        by : (b : Bool) → nat_lt w.0 i ≡ b → (c : Bool) → nat_lt i w.0 ≡ c → ⊥
        by true s c t = none_own own (w.0, v, w.1, ltb-true w.0 i s)
        by false s true t = let also = (later_are T i (Some v)).1 (v, refl, (w.0, ltb-true i w.0 t, w.1)) in cc
        by false s false t =
            let e = ltb-false w.0 i s in
            let f = ltb-false i w.0 t in
            let place : w.0 ≡ i = omega arith in
            let one = one_access Q g T (record { place = w.0; access = access.Write v }) (record { place = i; access = access.Read r }) at w.1 read.returned place in
            let wrong : access.Write v ≡ access.Read r = ap (λ a. a.access) one in
            cc

-- ---- the laws

module _ (P : Present) (x : List ℕ) (h : IsHistory P) where
  abbrev Q : OnKey
  Q = on_key x P

  g : IsOfHistory (on_key x P)
  g = key_of_history P x h

  -- the transaction that a source names is U
  one_named : (U V : Part) (u : TxnId) → Contains Q.parts U → Contains Q.parts V → u ≡ V.id → u ≡ U.id → V ≡ U
  one_named U V u a b e f = one_part Q g V U b a (sym e ∙ f)

  -- ---- own

  own_shown : (T : Part) (i : ℕ) → Contains Q.parts T → IsOwnPlace Q T i → ShowsOwn P x T i
  own_shown T i at p =
      let o = own_before T i p.wrote.0 p.wrote.1 p.wrote.2 p.wrote.3 in
      record {
        value = o.0;
        found = λ v other. shown P h x T at i v (kind.Own T.id i v (Some o.0)) p.value p.read (judged_own Q g T i v o.0 o.1 other);
      }

  own_place : (T : Part) (i : ℕ) → Contains Q.parts T → ShowsOwn P x T i → IsOwnPlace Q T i
  own_place T i at s =
      let k : Kind = kind.Own T.id i None (Some s.value) in
      let f = shown_from P h x T at i None k (s.found None (λ wrong. cc)) refl in
      by (own_value T i) refl f.0 f.1 f.2
    where
      by : (o : Option Value) → own_value T i ≡ o → (r : Option Value) → IsRead Q T i r → kind_of (sight_of Q T i None) ≡ Some (kind.Own T.id i None (Some s.value)) → IsOwnPlace Q T i
      by (Some w) own r read e = let o = (own_is_last Q T i w g at).0 own in record { value = r; read = read; wrote = (o.place, w, o.is, o.before) }
      by None own r read e = absurd (not_own (sight_of Q T i None) (source_of Q None) T.id i None (Some s.value)
          (sym (by_source Q g T i None (source_of Q None) own (never (writes_later T i None) (λ l. let w = (later_are T i None).0 l in let wrong = w.1 in cc)) refl) ∙ e))

  -- ---- aborted

  aborted_shown : (U : Part) → IsAbortedPlace Q U → ShowsAborted P x U
  aborted_shown U p =
      let T = p.reader in
      let v = p.writer.value in
      let at = p.free.read.part in
      let own = own_none Q g T p.place at p.free.free in
      let later = later_none Q g T p.place at v (λ w. let one = one_writer Q g T U v at p.writer.part w p.writer.writes in let wrong : status.Committed p.commit ≡ status.Aborted = sym p.committed ∙ ap (λ S. S.status) one ∙ p.writer.aborted in cc) in
      let from = written_source Q g (Some v) v U refl p.writer.part p.writer.writes ∙ ap (source_by U v) p.writer.aborted in
      record {
        reader = T;
        part = at;
        commit = p.commit;
        committed = p.committed;
        after = p.after;
        place = p.place;
        value = v;
        found = shown P h x T at p.place (Some v) (kind.Aborted T.id p.place (Some v) U.id) p.value p.free.read (judged_aborted Q g T p.place (Some v) U.id own later from);
      }

  aborted_place : (U : Part) → Contains Q.parts U → ShowsAborted P x U → IsAbortedPlace Q U
  aborted_place U at s =
      let T = s.reader in
      let v : Option Value = Some s.value in
      let k : Kind = kind.Aborted T.id s.place v U.id in
      let f = shown_from P h x T s.part s.place v k s.found refl in
      let j = judged Q g T s.place v k f.2 (λ wrong. omega arith) in
      let e = aborted_source (sight_of Q T s.place v) (source_of Q v) T.id s.place v U.id j.2 in
      let from : IsSource Q v (source.Aborted U.id) = (source_exact Q g v (source.Aborted U.id)).1 (sym e) in
      let one = one_named U from.1 U.id at from.3.part from.3.id refl in
      record {
        writer = record { part = at; aborted = sym (ap (λ S. S.status) one) ∙ from.4; value = from.0; writes = subst (λ S. Writes S from.0) one from.3.writes };
        reader = T;
        place = s.place;
        value = f.0;
        commit = s.commit;
        free = record { read = f.1; free = none_own Q g T s.place s.part j.0 };
        committed = s.committed;
        after = s.after;
      }

  -- ---- intermediate

  intermediate_shown : (T : Part) (i : ℕ) → IsIntermediatePlace Q T i → ShowsIntermediate P x T i
  intermediate_shown T i p =
      let U = p.writer in
      let v = p.replaced in
      let at = p.free.read.part in
      let own = own_none Q g T i at p.free.free in
      let later = later_none Q g T i at v (λ w. let one = one_writer Q g T U v at p.part w (p.earlier, p.first) in p.other (sym (ap (λ S. S.id) one))) in
      let not_last : IsFinalWrite U v → ⊥ = λ f. let same = (g.writes U U f.place p.earlier v p.part p.part f.is p.first).1 in let most = f.last p.later p.last p.second in let less = p.before in omega arith in
      let from = written_source Q g (Some v) v U refl p.part (p.earlier, p.first) ∙ ap (source_by U v) p.concurrent.second ∙ by_other Q g U v p.concurrent.other p.part not_last in
      record {
        writer = U;
        part = p.part;
        concurrent = p.concurrent;
        value = v;
        found = shown P h x T at i (Some v) (kind.Intermediate T.id i (Some v) U.id) p.value p.free.read (judged_intermediate Q g T i (Some v) U.id own later from);
      }

  intermediate_place : (T : Part) (i : ℕ) → Contains Q.parts T → ShowsIntermediate P x T i → IsIntermediatePlace Q T i
  intermediate_place T i at s =
      let U = s.writer in
      let v : Option Value = Some s.value in
      let k : Kind = kind.Intermediate T.id i v U.id in
      let f = shown_from P h x T at i v k s.found refl in
      let j = judged Q g T i v k f.2 (λ wrong. omega arith) in
      let e = earlier_source (sight_of Q T i v) (source_of Q v) T.id i v U.id j.2 in
      let from : IsSource Q v (source.Earlier U.id) = (source_exact Q g v (source.Earlier U.id)).1 (sym e) in
      let one = one_named U from.1 U.id s.part from.3.part from.3.id refl in
      let written = subst (λ S. Writes S from.0) one from.3.writes in
      let value : from.0 ≡ s.value = sym (same_some from.2) in
      let not_last = λ (b : IsFinalWrite U from.0). from.5 (subst (λ S. IsFinalWrite S from.0) (sym one) b) in
      let last = some_last U from.0 written in
      let final = (last_is_final Q U last.0 g s.part).0 last.1 in
      let before : written.0 < final.place = by U from.0 s.part written last.0 final not_last in
      record {
        value = f.0;
        free = record { read = f.1; free = none_own Q g T i at j.0 };
        writer = U;
        part = s.part;
        other = λ same. not_written Q g T i at s.value f.0 f.1 j.0 j.1 (subst (λ S. Writes S s.value) (one_part Q g U T s.part at same) (subst (Writes U) value written));
        concurrent = s.concurrent;
        earlier = written.0;
        later = final.place;
        replaced = from.0;
        last = last.0;
        first = written.1;
        second = final.is;
        before = before;
      }
    where
      by : (U : Part) (v : Value) → Contains Q.parts U → (w : Writes U v) (z : Value) (f : IsFinalWrite U z) → (IsFinalWrite U v → ⊥) → w.0 < f.place
      by U v c w z f other = tested (nat_lt w.0 f.place) refl
        where
          tested : (b : Bool) → nat_lt w.0 f.place ≡ b → w.0 < f.place
          tested true t = ltb-true w.0 f.place t
          tested false t =
              let past = ltb-false w.0 f.place t in
              absurd (other (record { place = w.0; is = w.1; last = λ j y d. let most = f.last j y d in omega arith }))

  -- ---- future

  future_shown : (T : Part) (i : ℕ) → IsFuturePlace Q T i → ShowsFuture P x T i
  future_shown T i p =
      let U = p.writer in
      let at = p.free.read.part in
      let last = some_last U p.written p.writes in
      let v = last.0 in
      let final = (last_is_final Q U v g p.part).0 last.1 in
      let own = own_none Q g T i at p.free.free in
      let later = later_none Q g T i at v (λ w. let one = one_writer Q g T U v at p.part w (final.place, final.is) in p.other (sym (ap (λ S. S.id) one))) in
      let from = written_source Q g (Some v) v U refl p.part (final.place, final.is) ∙ ap (source_by U v) p.concurrent.second ∙ by_last Q g U v p.concurrent.other p.part final in
      record {
        writer = U;
        part = p.part;
        commit = p.concurrent.commit;
        committed = p.concurrent.first;
        before = p.concurrent.after;
        value = v;
        found = shown P h x T at i (Some v) (kind.Future T.id i (Some v) U.id) p.value p.free.read (judged_future Q g T i (Some v) U.id p.concurrent.other own later from p.concurrent.before);
      }

  future_place : (T : Part) (i : ℕ) → Contains Q.parts T → ShowsFuture P x T i → IsFuturePlace Q T i
  future_place T i at s =
      let U = s.writer in
      let v : Option Value = Some s.value in
      let k : Kind = kind.Future T.id i v U.id in
      let f = shown_from P h x T at i v k s.found refl in
      let j = judged Q g T i v k f.2 (λ wrong. omega arith) in
      let e = future_is Q g T i v U.id j.2 in
      let from : IsSource Q v (source.Installed U.id e.0) = (source_exact Q g v (source.Installed U.id e.0)).1 (sym e.1) in
      let one = one_named U from.1 U.id s.part from.3.part from.3.id refl in
      let written = subst (λ S. Writes S from.0) one from.3.writes in
      let value : from.0 ≡ s.value = sym (same_some from.2) in
      record {
        value = f.0;
        free = record { read = f.1; free = none_own Q g T i at j.0 };
        writer = U;
        part = s.part;
        other = λ same. not_written Q g T i at s.value f.0 f.1 j.0 j.1 (subst (λ S. Writes S s.value) (one_part Q g U T s.part at same) (subst (Writes U) value written));
        concurrent = record { commit = s.commit; other = e.0; first = s.committed; second = sym (ap (λ S. S.status) one) ∙ from.4; before = e.2; after = s.before };
        written = from.0;
        writes = written;
      }

pub own_change : OwnIsChange
own_change P x T i h at = (own_shown P x h T i at, own_place P x h T i at)

pub aborted_change : AbortedIsChange
aborted_change P x U h at = (aborted_shown P x h U, aborted_place P x h U at)

pub intermediate_change : IntermediateIsChange
intermediate_change P x T i h at = (intermediate_shown P x h T i, intermediate_place P x h T i at)

pub future_change : FutureIsChange
future_change P x T i h at = (future_shown P x h T i, future_place P x h T i at)
