-- What the program sees at a read is what is seen there, and nothing else is.
use Rattle.std.proofs.Common.{◌≡◌, ◌≢◌, ◌↔◌, ℕ, ◌≤◌, Bool, true, false, nat_lt, Option, Some, None, refl, sym, ap, subst, ◌∙◌, cond, arith}
use Rattle.std.specs.List.{Contains, find}
use Rattle.std.specs.Option.{option_eq}
use Rattle.std.proofs.lemmas.Bool.{ltb-true, ltb-false}
use Rattle.si_model.specs.declared.numbers.Stamp.{Stamp}
use Rattle.si_model.specs.declared.numbers.Value.{Value}
use Rattle.si_model.specs.declared.transactions.Status.{Status}
use Rattle.si_model.specs.declared.transactions.Status.TheVariants as status
use Rattle.si_model.specs.declared.parts.Part.{Part}
use Rattle.si_model.specs.declared.parts.OnKey.{OnKey}
use Rattle.si_model.specs.declared.sights.Installer.{Installer}
use Rattle.si_model.specs.declared.sights.VersionId.{VersionId}
use Rattle.si_model.specs.declared.sights.Source.{Source}
use Rattle.si_model.specs.declared.sights.Source.TheVariants as source
use Rattle.si_model.specs.declared.sights.Sight.{Sight}
use Rattle.si_model.specs.Operations.{same_value}
use Rattle.si_model.specs.Versions.{part_writes, last_write, Writes, IsFinalWrite, IsNext, IsNextIfAny, next_after}
use Rattle.si_model.specs.Reads.{IsWriter, IsSource, version_of, IsMissedAfter, IsMissedOf, IsSight, source_by, source_from, source_among, source_of, if_before, missed_of, missed_at, sight_of}
use Rattle.si_model.specs.History.{IsOfHistory}
use Rattle.si_lists.proofs.Members.{same_some}
use Rattle.si_lists.proofs.Tests.{find-Some, find-None, find_only, find_none}
use Rattle.si_model.proofs.Equalities.{value_is, read_is}
use Rattle.si_model.proofs.Histories.{one_writer}
use Rattle.si_model.proofs.LastWrites.{writes_are, last_is_final}
use Rattle.si_model.proofs.NextVersions.{next_is, same_next}

-- ---- the writer of a value

pub writer_found : (Q : OnKey) (v : Value) (T : Part) → IsOfHistory Q → (find (part_writes v) Q.parts ≡ Some T) ↔ (Contains Q.parts T × Writes T v)
writer_found Q v T h = (
  λ e. (let f = find-Some (part_writes v) Q.parts T e in (f.0, (writes_are v T).0 f.1)),
  λ f. find_only (part_writes v) Q.parts T f.0 ((writes_are v T).1 f.1) (λ U c t. one_writer Q h U T v c f.0 ((writes_are v U).0 t) f.1),
)

-- ---- where a value comes from

module _ (Q : OnKey) (h : IsOfHistory Q) where
  by_status : (v : Value) (T : Part) → Contains Q.parts T → Writes T v → (s : Status) → T.status ≡ s → IsSource Q (Some v) (source_by T v s)
  by_status v T at w (status.Committed c) e = tested (option_eq same_value (last_write T.accesses) (Some v)) refl
    where
      writer : IsWriter Q v T.id T
      writer = record { part = at; id = refl; writes = w }

      tested : (b : Bool) → option_eq same_value (last_write T.accesses) (Some v) ≡ b → IsSource Q (Some v) (cond b (source.Installed T.id c) (source.Earlier T.id))
      tested true t = (v, T, refl, writer, e, (last_is_final Q T v h at).0 ((value_is (last_write T.accesses) v).0 t))
      tested false t = (v, T, refl, writer, (c, e), λ f. let u = (value_is (last_write T.accesses) v).1 ((last_is_final Q T v h at).1 f) in cc)
  by_status v T at w status.Aborted e = (v, T, refl, record { part = at; id = refl; writes = w }, e)
  by_status v T at w status.InDoubt e = (v, T, refl, record { part = at; id = refl; writes = w }, e)

  among : (v : Option Value) → v ≢ Q.initial → IsSource Q v (source_among Q.parts v)
  among None other = (other, λ w T e. cc)
  among (Some v) other = by (find (part_writes v) Q.parts) refl
    where
      by : (o : Option Part) → find (part_writes v) Q.parts ≡ o → IsSource Q (Some v) (source_from v o)
      by None e = (other, λ w T s c u. let found = find-None (part_writes v) Q.parts e T c in let test = (writes_are v T).1 (subst (Writes T) (sym (same_some s)) u) in cc)
      by (Some T) e = let f = (writer_found Q v T h).0 e in by_status v T f.0 f.1 T.status refl

  pub source_is : (v : Option Value) → IsSource Q v (source_of Q v)
  unfolding source_of
  source_is v = by (option_eq same_value v Q.initial) refl
    where
      by : (b : Bool) → option_eq same_value v Q.initial ≡ b → IsSource Q v (cond b source.Initial (source_among Q.parts v))
      by true e = (read_is v Q.initial).0 e
      by false e = among v (λ s. let t = (read_is v Q.initial).1 s in cc)

  -- what the initial version returns
  initial_is : (v : Option Value) → v ≡ Q.initial → source_of Q v ≡ source.Initial
  unfolding source_of
  initial_is v e = ap (λ b. cond b source.Initial (source_among Q.parts v)) ((read_is v Q.initial).1 e)

  not_initial : (v : Option Value) → v ≢ Q.initial → source_of Q v ≡ source_among Q.parts v
  unfolding source_of
  not_initial v d = by (option_eq same_value v Q.initial) refl
    where
      by : (b : Bool) → option_eq same_value v Q.initial ≡ b → cond b source.Initial (source_among Q.parts v) ≡ source_among Q.parts v
      by true e = absurd (d ((read_is v Q.initial).0 e))
      by false e = refl

  -- a value that a transaction writes is from that transaction
  pub written_source : (v : Option Value) (w : Value) (T : Part) → v ≡ Some w → Contains Q.parts T → Writes T w → source_of Q v ≡ source_by T w T.status
  written_source v w T e at u =
      not_initial v (λ s. h.initial w T (sym s ∙ e) at u)
      ∙ ap (source_among Q.parts) e
      ∙ ap (source_from w) ((writer_found Q w T h).1 (at, u))

  nobody : (v : Option Value) → v ≢ Q.initial → ((w : Value) (T : Part) → v ≡ Some w → Contains Q.parts T → Writes T w → ⊥) → source_of Q v ≡ source.Missing
  nobody v d none = not_initial v d ∙ by v none
    where
      by : (v : Option Value) → ((w : Value) (T : Part) → v ≡ Some w → Contains Q.parts T → Writes T w → ⊥) → source_among Q.parts v ≡ source.Missing
      by None none = refl
      by (Some v) none = ap (source_from v) (find_none (part_writes v) Q.parts (λ T c t. none v T refl c ((writes_are v T).0 t)))

  pub by_last : (T : Part) (v : Value) (c : Stamp) → Contains Q.parts T → IsFinalWrite T v → source_by T v (status.Committed c) ≡ source.Installed T.id c
  by_last T v c at f = ap (λ b. cond b (source.Installed T.id c) (source.Earlier T.id)) ((value_is (last_write T.accesses) v).1 ((last_is_final Q T v h at).1 f))

  pub by_other : (T : Part) (v : Value) (c : Stamp) → Contains Q.parts T → (IsFinalWrite T v → ⊥) → source_by T v (status.Committed c) ≡ source.Earlier T.id
  by_other T v c at other = by (option_eq same_value (last_write T.accesses) (Some v)) refl
    where
      by : (b : Bool) → option_eq same_value (last_write T.accesses) (Some v) ≡ b → cond b (source.Installed T.id c) (source.Earlier T.id) ≡ source.Earlier T.id
      by true t = absurd (other ((last_is_final Q T v h at).0 ((value_is (last_write T.accesses) v).0 t)))
      by false t = refl

  -- of a history what was read has one source
  pub same_source : (v : Option Value) (s : Source) → IsSource Q v s → s ≡ source_of Q v
  same_source v source.Initial i = sym (initial_is v i)
  same_source v source.Missing i = sym (nobody v i.0 i.1)
  same_source v (source.InDoubt u) i = ap source.InDoubt i.3.id ∙ ap (source_by i.1 i.0) (sym i.4) ∙ sym (written_source v i.0 i.1 i.2 i.3.part i.3.writes)
  same_source v (source.Aborted u) i = ap source.Aborted i.3.id ∙ ap (source_by i.1 i.0) (sym i.4) ∙ sym (written_source v i.0 i.1 i.2 i.3.part i.3.writes)
  same_source v (source.Earlier u) i = ap source.Earlier i.3.id ∙ sym (by_other i.1 i.0 i.4.0 i.3.part i.5) ∙ ap (source_by i.1 i.0) (sym i.4.1) ∙ sym (written_source v i.0 i.1 i.2 i.3.part i.3.writes)
  same_source v (source.Installed u c) i = ap (λ w. source.Installed w c) i.3.id ∙ sym (by_last i.1 i.0 c i.3.part i.5) ∙ ap (source_by i.1 i.0) (sym i.4) ∙ sym (written_source v i.0 i.1 i.2 i.3.part i.3.writes)

  pub source_exact : (v : Option Value) (s : Source) → IsSource Q v s ↔ (s ≡ source_of Q v)
  source_exact v s = (same_source v s, λ e. subst (IsSource Q v) (sym e) (source_is v))

  -- ---- what was missed

  missed_after : (start : Stamp) (a : VersionId) → IsMissedAfter Q start a (if_before start (next_after Q.parts a))
  missed_after start a = by (next_after Q.parts a) (next_is Q a) refl
    where
      only : (o : Option Installer) → next_after Q.parts a ≡ o → (m : Installer) → IsNext Q a m → o ≡ Some m
      only o e m is = sym e ∙ sym (same_next Q h a (Some m) (next_after Q.parts a) is (next_is Q a))

      by : (o : Option Installer) → IsNextIfAny Q a o → next_after Q.parts a ≡ o → IsMissedAfter Q start a (if_before start o)
      by None none e = λ m is. absurd (none m is.installs is.after)
      by (Some n) is e = tested (nat_lt n.commit.0 start.0) refl
        where
          tested : (b : Bool) → nat_lt n.commit.0 start.0 ≡ b → IsMissedAfter Q start a (cond b (Some n) None)
          tested true t = (is, ltb-true n.commit.0 start.0 t)
          tested false t = λ m j. subst (λ k. start.0 ≤ k.commit.0) (same_some (only (Some n) e m j)) (ltb-false n.commit.0 start.0 t)

  missed_of_is : (start : Stamp) (a : Option VersionId) → IsMissedOf Q start a (missed_of Q.parts start a)
  missed_of_is start None = refl
  missed_of_is start (Some a) = missed_after start a

  same_missed_after : (start : Stamp) (a : VersionId) (m n : Option Installer) → IsMissedAfter Q start a m → IsMissedAfter Q start a n → m ≡ n
  same_missed_after start a None None i j = refl
  same_missed_after start a None (Some n) i j = absurd (let l = i n j.0 in let k = j.1 in omega arith)
  same_missed_after start a (Some m) None i j = absurd (let l = j m i.0 in let k = i.1 in omega arith)
  same_missed_after start a (Some m) (Some n) i j = same_next Q h a (Some m) (Some n) i.0 j.0

  same_missed : (start : Stamp) (a : Option VersionId) (n : Option Installer) → IsMissedOf Q start a n → n ≡ missed_of Q.parts start a
  same_missed start None n i = i
  same_missed start (Some a) n i = same_missed_after start a n (missed_of Q.parts start (Some a)) i (missed_after start a)

  -- ---- what is seen at a read

  pub sight_is : (T : Part) (i : ℕ) (v : Option Value) → IsSight Q T i v (sight_of Q T i v)
  unfolding sight_of missed_at
  sight_is T i v = record { txn = refl; op = refl; start = refl; read = refl; own = refl; later = refl; from = source_is v; missed = missed_of_is T.start (version_of (source_of Q v)) }

  pub same_sight : (T : Part) (i : ℕ) (v : Option Value) (s : Sight) → IsSight Q T i v s → s ≡ sight_of Q T i v
  unfolding sight_of missed_at
  same_sight T i v s is =
      let from = same_source v s.source is.from in
      let missed = same_missed T.start (version_of s.source) s.missed is.missed ∙ ap (λ r. missed_of Q.parts T.start (version_of r)) from in
      λ j. record { txn = is.txn j; op = is.op j; start = is.start j; read = is.read j; own = is.own j; later = is.later j; source = from j; missed = missed j }

  pub sight_exact : (T : Part) (i : ℕ) (v : Option Value) (s : Sight) → IsSight Q T i v s ↔ (s ≡ sight_of Q T i v)
  sight_exact T i v s = (same_sight T i v s, λ e. subst (IsSight Q T i v) (sym e) (sight_is T i v))

-- ---- the laws

pub source_law : (Q : OnKey) (v : Option Value) (s : Source) → IsOfHistory Q → IsSource Q v s ↔ (s ≡ source_of Q v)
source_law Q v s h = source_exact Q h v s

pub sight_law : (Q : OnKey) (T : Part) (i : ℕ) (v : Option Value) (s : Sight) → IsOfHistory Q → Contains Q.parts T → IsSight Q T i v s ↔ (s ≡ sight_of Q T i v)
sight_law Q T i v s h c = sight_exact Q h T i v s
