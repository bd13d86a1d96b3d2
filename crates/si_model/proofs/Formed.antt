-- A history is well formed exactly where no finding concerns form.
use Rattle.std.proofs.Common.{◌≡◌, ◌≢◌, ◌⊎◌, inl, inr, ◌↔◌, ℕ, ◌<◌, Bool, true, false, nat_lt, Option, Some, None, refl, sym, ap, subst, ◌∙◌, cond}
use Rattle.std.specs.List.{Contains}
use Rattle.std.specs.Option.{option_eq}
use Rattle.si_model.specs.declared.numbers.Value.{Value}
use Rattle.si_model.specs.declared.transactions.Status.TheVariants as status
use Rattle.si_model.specs.declared.parts.Access.TheVariants as access
use Rattle.si_model.specs.declared.parts.Part.{Part}
use Rattle.si_model.specs.declared.parts.OnKey.{OnKey}
use Rattle.si_model.specs.declared.sights.Installer.{Installer}
use Rattle.si_model.specs.declared.sights.Source.{Source}
use Rattle.si_model.specs.declared.sights.Source.TheVariants as source
use Rattle.si_model.specs.declared.sights.Sight.{Sight}
use Rattle.si_model.specs.declared.kinds.Kind.{Kind}
use Rattle.si_model.specs.declared.kinds.Kind.TheVariants as kind
use Rattle.si_model.specs.declared.findings.Finding.{Finding}
use Rattle.si_model.specs.Operations.{same_value}
use Rattle.si_model.specs.Parts.{Present, on_key}
use Rattle.si_model.specs.Versions.{Writes}
use Rattle.si_model.specs.Reads.{IsRead, IsWriter, IsSource, own_value, writes_later, source_of, sight_of, judged_by_next, judged_by_source, judged_by_own, kind_of}
use Rattle.si_model.specs.Findings.{cases, IsOfRead, IsFoundOn, findings}
use Rattle.si_model.specs.History.{IsHistory, IsOfHistory}
use Rattle.si_model.specs.Form.{IsWritten, IsWellFormedOn, IsWellFormed, concerns_form}
use Rattle.si_lists.proofs.Members.{same_some}
use Rattle.si_model.proofs.Equalities.{value_is}
use Rattle.si_model.proofs.Histories.{key_of_history, one_writer}
use Rattle.si_model.proofs.LastWrites.{later_are, one_access, own_before}
use Rattle.si_model.proofs.Reasons.{places_equal}
use Rattle.si_model.proofs.Sources.{source_is, sight_is}
use Rattle.si_model.proofs.Exact.{findings_exact}

-- ---- of a well formed key nothing of form is found

next_is_no_form : (s : Sight) (n : Option Installer) (k : Kind) → judged_by_next s n ≡ Some k → concerns_form k ≡ false
next_is_no_form s None k e = cc
next_is_no_form s (Some n) k e = ap concerns_form (sym (same_some e))

module _ (Q : OnKey) (h : IsOfHistory Q) (w : IsWellFormedOn Q) where
  source_is_no_form : (T : Part) (i : ℕ) (v : Option Value) → IsRead Q T i v → own_value T i ≡ None → (s : Sight) (from : Source) → IsSource Q v from → (k : Kind) → judged_by_source s from ≡ Some k → concerns_form k ≡ false
  source_is_no_form T i v r none s source.Missing is k e = elim (w.written T i v r none) [
    | inl initial ↦ absurd (is.0 initial)
    | inr by ↦ absurd (is.1 by.0 by.2.writer by.1 by.2.part by.2.writes)
  ]
  source_is_no_form T i v r none s (source.InDoubt u) is k e = elim (w.written T i v r none) [
    | inl initial ↦ absurd (h.initial is.0 is.1 (sym initial ∙ is.2) is.3.part is.3.writes)
    | inr by ↦
        (let value : is.0 ≡ by.0 = same_some (sym is.2 ∙ by.1) in
        let same = one_writer Q h is.1 by.2.writer by.0 is.3.part by.2.part (subst (Writes is.1) value is.3.writes) by.2.writes in
        absurd (by.2.known (ap (λ U. U.status) (sym same) ∙ is.4)))
  ]
  source_is_no_form T i v r none s source.Initial is k e = next_is_no_form s s.missed k e
  source_is_no_form T i v r none s (source.Aborted u) is k e = ap concerns_form (sym (same_some e))
  source_is_no_form T i v r none s (source.Earlier u) is k e = ap concerns_form (sym (same_some e))
  source_is_no_form T i v r none s (source.Installed u c) is k e = by (nat_lt s.start.0 c.0) e
    where
      by : (b : Bool) → cond b (Some (kind.Future s.txn s.op s.read u)) (judged_by_next s s.missed) ≡ Some k → concerns_form k ≡ false
      by true f = ap concerns_form (sym (same_some f))
      by false f = next_is_no_form s s.missed k f

  read_is_no_form : (k : Kind) → IsOfRead cases Q k → concerns_form k ≡ false
  unfolding kind_of
  read_is_no_form k r = by r.sight.own r.sight.later refl refl r.judged
    where
      by : (o : Option Value) (later : Bool) → r.sight.own ≡ o → r.sight.later ≡ later → judged_by_own r.sight o later ≡ Some k → concerns_form k ≡ false
      by (Some a) later own also e =
          let same = r.seen.read ∙ w.own r.part r.place r.value a r.returned (sym r.seen.own ∙ own) in
          let none : None ≡ Some k = subst (λ b. cond b None (Some (kind.Own r.sight.txn r.sight.op r.sight.read (Some a))) ≡ Some k) ((value_is r.sight.read a).1 same) e in
          cc
      by None true own also e =
          let l = (later_are r.part r.place r.value).0 (sym r.seen.later ∙ also) in
          absurd (w.later r.part r.place l.0 (subst (λ v. IsRead Q r.part r.place v) l.1 r.returned) (sym r.seen.own ∙ own) (l.2.0, l.2.2))
      by None false own also e = source_is_no_form r.part r.place r.value r.returned (sym r.seen.own ∙ own) r.sight r.sight.source r.seen.from k e

  no_form : (k : Kind) → IsFoundOn cases Q k → concerns_form k ≡ false
  no_form k found = elim found [ inl r ↦ read_is_no_form k r | inr p ↦ ap concerns_form p.is ]

-- ---- a key where nothing of form is found is well formed

module _ (Q : OnKey) (h : IsOfHistory Q) (free : (k : Kind) → IsFoundOn cases Q k → concerns_form k ≡ false) where
  -- what is judged of a read isn't of form
  read_is_free : (T : Part) (i : ℕ) (v : Option Value) → IsRead Q T i v → (k : Kind) → kind_of (sight_of Q T i v) ≡ Some k → concerns_form k ≡ false
  read_is_free T i v r k e = free k (inl (record { part = T; place = i; value = v; sight = sight_of Q T i v; returned = r; seen = sight_is Q h T i v; judged = e }))

  own_is_returned : (T : Part) (i : ℕ) (v : Option Value) (w : Value) → IsRead Q T i v → own_value T i ≡ Some w → v ≡ Some w
  unfolding kind_of sight_of
  own_is_returned T i v w r o = by (option_eq same_value v (Some w)) refl
    where
      by : (b : Bool) → option_eq same_value v (Some w) ≡ b → v ≡ Some w
      by true t = (value_is v w).0 t
      by false t =
          let judged : kind_of (sight_of Q T i v) ≡ Some (kind.Own T.id i v (Some w)) =
          ap (λ u. judged_by_own (sight_of Q T i v) u (writes_later T i v)) o ∙ ap (λ b. cond b None (Some (kind.Own T.id i v (Some w)))) t in
          let wrong : true ≡ false = read_is_free T i v r (kind.Own T.id i v (Some w)) judged in
          cc

  -- without an own value a read is judged by a later own write, and else by its source
  judged_without_own : (T : Part) (i : ℕ) (v : Option Value) (later : Bool) → own_value T i ≡ None → writes_later T i v ≡ later → kind_of (sight_of Q T i v) ≡ judged_by_own (sight_of Q T i v) None later
  unfolding kind_of sight_of
  judged_without_own T i v later o l = ap (λ u. judged_by_own (sight_of Q T i v) u (writes_later T i v)) o ∙ ap (λ b. judged_by_own (sight_of Q T i v) None b) l

  not_written_later : (T : Part) (i : ℕ) (v : Option Value) → IsRead Q T i v → own_value T i ≡ None → writes_later T i v ≡ false
  unfolding sight_of
  not_written_later T i v r o = by (writes_later T i v) refl
    where
      by : (b : Bool) → writes_later T i v ≡ b → b ≡ false
      by true t =
          let wrong : true ≡ false = read_is_free T i v r (kind.Own T.id i v None) (judged_without_own T i v true o t) in
          cc
      by false t = refl

  not_written : (T : Part) (i : ℕ) (v : Value) → IsRead Q T i (Some v) → own_value T i ≡ None → Writes T v → ⊥
  not_written T i v r o w =
      let after : i < w.0 → ⊥ = λ less. (let later = (later_are T i (Some v)).1 (v, refl, (w.0, less, w.1)) in let none = not_written_later T i (Some v) r o in cc) in
      let before : w.0 < i → ⊥ = λ less. (let own = (own_before T i w.0 v w.1 less).1 in cc) in
      let one = one_access Q h T (record { place = i; access = access.Read (Some v) }) (record { place = w.0; access = access.Write v }) r.part r.returned w.1 (places_equal i w.0 after before) in
      let wrong = ap (λ a. a.access) one in
      cc

  written_by : (T : Part) (i : ℕ) (v : Option Value) → IsRead Q T i v → own_value T i ≡ None → (v ≡ Q.initial) ⊎ ((w : Value) × (v ≡ Some w) × IsWritten Q w)
  unfolding sight_of
  written_by T i v r o = by (source_of Q v) refl (source_is Q h v)
    where
      judged : (from : Source) → source_of Q v ≡ from → kind_of (sight_of Q T i v) ≡ judged_by_source (sight_of Q T i v) from
      judged from e = judged_without_own T i v false o (not_written_later T i v r o) ∙ ap (judged_by_source (sight_of Q T i v)) e

      known : (u : _) (w : Value) (W : Part) → v ≡ Some w → IsWriter Q w u W → W.status ≢ status.InDoubt → (v ≡ Q.initial) ⊎ ((w : Value) × (v ≡ Some w) × IsWritten Q w)
      known u w W e is other = inr (w, e, record { writer = W; part = is.part; writes = is.writes; known = other })

      by : (from : Source) → source_of Q v ≡ from → IsSource Q v from → (v ≡ Q.initial) ⊎ ((w : Value) × (v ≡ Some w) × IsWritten Q w)
      by source.Initial e is = inl is
      by source.Missing e is =
          let wrong : true ≡ false = read_is_free T i v r (kind.Unknown T.id i v) (judged source.Missing e) in
          cc
      by (source.InDoubt u) e is =
          let wrong : true ≡ false = read_is_free T i v r (kind.Doubt T.id i v u) (judged (source.InDoubt u) e) in
          cc
      by (source.Aborted u) e is = known u is.0 is.1 is.2 is.3 (λ d. let s = sym is.4 ∙ d in cc)
      by (source.Earlier u) e is = known u is.0 is.1 is.2 is.3 (λ d. let s = sym is.4.1 ∙ d in cc)
      by (source.Installed u c) e is = known u is.0 is.1 is.2 is.3 (λ d. let s = sym is.4 ∙ d in cc)

  well_formed_on : IsWellFormedOn Q
  well_formed_on = record { own = own_is_returned; later = not_written; written = written_by }

pub form_found : (P : Present) → IsHistory P → IsWellFormed P ↔ ((f : Finding) → Contains (findings P) f → concerns_form f.kind ≡ false)
form_found P h =
    let exact = findings_exact P h in (
      λ w f c. no_form (on_key f.key P) (key_of_history P f.key h) (w f.key) f.kind (exact.sound f c),
      λ free x. well_formed_on (on_key x P) (key_of_history P x h) (λ k found. let f : Finding = record { key = x; kind = k } in free f (exact.complete f found)),
    )
