-- What an edit on one transaction, or a set-up, leaves as it was.
use Rattle.std.proofs.Common.{◌≡◌, ◌≢◌, ◌∙◌, inl, inr, ℕ, ◌<◌, ◌≤◌, List, Option, Some, None, refl, sym, subst, arith}
use Rattle.std.specs.List.{Contains}
use Rattle.std.proofs.lemmas.Bool.{cases_lt}
use Rattle.si_model.specs.declared.numbers.TxnId.{TxnId}
use Rattle.si_model.specs.declared.numbers.Stamp.{Stamp}
use Rattle.si_model.specs.declared.numbers.Value.{Value}
use Rattle.si_model.specs.declared.parts.Part.{Part}
use Rattle.si_model.specs.declared.parts.OnKey.{OnKey}
use Rattle.si_model.specs.declared.sights.Installer.{Installer}
use Rattle.si_model.specs.declared.sights.VersionId.{VersionId}
use Rattle.si_model.specs.declared.sights.VersionId.TheVariants as version
use Rattle.si_model.specs.declared.sights.Source.{Source}
use Rattle.si_model.specs.declared.sights.Source.TheVariants as source
use Rattle.si_model.specs.declared.sights.Sight.{Sight}
use Rattle.si_model.specs.Versions.{Writes, IsInstaller, IsAfter, IsNext, IsNextIfAny, next_after}
use Rattle.si_model.specs.Reads.{IsRead, IsSource, IsSight, IsWriter, IsMissedAfter, IsMissedOf, version_of}
use Rattle.si_model.proofs.Equalities.{same_id_or_not}
use Rattle.si_model.proofs.NextVersions.{next_is}
use Rattle.si_judge.specs.Touched.{DifferIn, OtherReadsStay, UntouchedPairsStay, UntouchedReadsStay, WritesReturned}

-- ---- sources

-- u writes the value that was read in neither
module _ (Q R : OnKey) (u : TxnId) (v : Option Value) (differ : DifferIn u Q R) (not_before : WritesReturned Q u v → ⊥) (not_after : WritesReturned R u v → ⊥) where
  writer_stays : (w : Value) (x : TxnId) (T : Part) → v ≡ Some w → IsWriter Q w x T → IsWriter R w x T
  writer_stays w x T e is = record { part = (differ.parts T (λ same. not_before (w, T, e, is.part, same, is.writes))).0 is.part; id = is.id; writes = is.writes }

  unwritten_stays : (w : Value) (T : Part) → ((y : Value) (U : Part) → v ≡ Some y → Contains Q.parts U → Writes U y → ⊥) → v ≡ Some w → Contains R.parts T → Writes T w → ⊥
  unwritten_stays w T none e part writes = elim (same_id_or_not T.id u) [
    | inl same ↦ not_after (w, T, e, part, same, writes)
    | inr other ↦ none w T e ((differ.parts T other).1 part) writes
  ]

  source_stays : (s : Source) → IsSource Q v s → IsSource R v s
  source_stays source.Initial is = is ∙ differ.initial
  source_stays source.Missing is = (λ e. is.0 (e ∙ sym differ.initial), λ w T e part writes. unwritten_stays w T is.1 e part writes)
  source_stays (source.InDoubt x) is = (is.0, is.1, is.2, writer_stays is.0 x is.1 is.2 is.3, is.4)
  source_stays (source.Aborted x) is = (is.0, is.1, is.2, writer_stays is.0 x is.1 is.2 is.3, is.4)
  source_stays (source.Earlier x) is = (is.0, is.1, is.2, writer_stays is.0 x is.1 is.2 is.3, is.4, is.5)
  source_stays (source.Installed x c) is = (is.0, is.1, is.2, writer_stays is.0 x is.1 is.2 is.3, is.4, is.5)

-- ---- next versions

-- where there is a version after that one, one is next, and no later
some_next : (Q : OnKey) (a : VersionId) (n : Installer) → IsInstaller Q n → IsAfter a n.commit → (k : Installer) × IsNext Q a k × (k.commit.0 ≤ n.commit.0)
some_next Q a n is after = by (next_after Q.parts a) (next_is Q a)
  where
    by : (o : Option Installer) → IsNextIfAny Q a o → (k : Installer) × IsNext Q a k × (k.commit.0 ≤ n.commit.0)
    by None none = absurd (none n is after)
    by (Some k) next = (k, next, next.first n is after)

module _ (Q R : OnKey) (u : TxnId) (a : VersionId) (differ : DifferIn u Q R) where
  there : (n : Installer) → IsInstaller Q n → n.txn ≢ u → IsInstaller R n
  there n is other = (is.0, (differ.parts is.0 (λ same. other (is.2.txn ∙ same))).0 is.1, is.2)

  back : (n : Installer) → IsInstaller R n → n.txn ≢ u → IsInstaller Q n
  back n is other = (is.0, (differ.parts is.0 (λ same. other (is.2.txn ∙ same))).1 is.1, is.2)

  -- a next version of another transaction stays so, where none of u's comes to stand before it
  next_stays : (n : Installer) → IsNext Q a n → n.txn ≢ u → ((k : Installer) → IsNext R a k → k.commit.0 ≤ n.commit.0 → k.txn ≢ u) → IsNext R a n
  next_stays n next other before =
      let is = there n next.installs other in
      let k = some_next R a n is next.after in
      let no_later = next.first k.0 (back k.0 k.1.installs (before k.0 k.1 k.2)) k.1.after in
      record { installs = is; after = next.after; first = λ m i f. (let later = k.1.first m i f in omega arith) }

  -- what was missed stays so, where u's versions were missed in neither
  missed_stays : (start : Stamp) (o : Option Installer) → ((n : Installer) → IsNext Q a n → n.commit.0 < start.0 → n.txn ≢ u) → ((n : Installer) → IsNext R a n → n.commit.0 < start.0 → n.txn ≢ u) → IsMissedAfter Q start a o → IsMissedAfter R start a o
  missed_stays start None before after none = λ n next. elim (cases_lt n.commit.0 start.0) [
    | inl less ↦ (
        let is = back n next.installs (after n next less) in
        let k = some_next Q a n is next.after in
        let late = none k.0 k.1 in
        omega (arith, less, late, k.2))
    | inr more ↦ more
  ]
  missed_stays start (Some n) before after missed =
      (next_stays n missed.0 (before n missed.0 missed.1) (λ k next le. after k next (let less = missed.1 in omega arith)), missed.1)

-- ---- what is seen

pub reads_stay : UntouchedReadsStay
reads_stay Q R u T i v s old history differ read other before after seen = (
  record { part = (differ.parts T other).0 read.part; committed = read.committed; returned = read.returned },
  record {
    txn = seen.txn;
    op = seen.op;
    start = seen.start;
    read = seen.read;
    own = seen.own;
    later = seen.later;
    from = from;
    missed = next (version_of s.source) refl s.missed seen.missed;
  },
)
  where
    from : IsSource R v s.source
    from = source_stays Q R u v differ (λ w. before (inl w)) (λ w. after (inl w)) s.source seen.from

    next : (a : Option VersionId) → version_of s.source ≡ a → (o : Option Installer) → IsMissedOf Q T.start a o → IsMissedOf R T.start a o
    next None e o none = none
    next (Some a) e o missed = missed_stays Q R u a differ T.start o
        (λ n is less mine. before (inr (a, n, (s.source, seen.from, e), is, mine, less)))
        (λ n is less mine. after (inr (a, n, (s.source, from, e), is, mine, less))) missed

pub pairs_stay : UntouchedPairsStay
pairs_stay Q R u first second old history differ installs other next before after =
    let a = version.Installed first.commit in
    (there Q R u a differ first installs other, next_stays Q R u a differ second next (before second next) (λ k is le. after k is))

-- ---- a set-up

-- the same parts with another initial version
module _ (before after : Option Value) (P : List Part) (v : Option Value) (not_before : v ≢ before) (not_after : v ≢ after) where
  abbrev Old : OnKey
  Old = record { initial = before; parts = P }

  abbrev New : OnKey
  New = record { initial = after; parts = P }

  next_again : (a : VersionId) (n : Installer) → IsNext Old a n → IsNext New a n
  next_again a n next = record { installs = next.installs; after = next.after; first = λ m i f. next.first m i f }

  next_before : (a : VersionId) (n : Installer) → IsNext New a n → IsNext Old a n
  next_before a n next = record { installs = next.installs; after = next.after; first = λ m i f. next.first m i f }

  writer_again : (w : Value) (x : TxnId) (T : Part) → IsWriter Old w x T → IsWriter New w x T
  writer_again w x T is = record { part = is.part; id = is.id; writes = is.writes }

  source_again : (s : Source) → IsSource Old v s → IsSource New v s
  source_again source.Initial is = absurd (not_before is)
  source_again source.Missing is = (not_after, is.1)
  source_again (source.InDoubt x) is = (is.0, is.1, is.2, writer_again is.0 x is.1 is.3, is.4)
  source_again (source.Aborted x) is = (is.0, is.1, is.2, writer_again is.0 x is.1 is.3, is.4)
  source_again (source.Earlier x) is = (is.0, is.1, is.2, writer_again is.0 x is.1 is.3, is.4, is.5)
  source_again (source.Installed x c) is = (is.0, is.1, is.2, writer_again is.0 x is.1 is.3, is.4, is.5)

  missed_again : (start : Stamp) (a : Option VersionId) (o : Option Installer) → IsMissedOf Old start a o → IsMissedOf New start a o
  missed_again start None o is = is
  missed_again start (Some a) None none = λ n next. none n (next_before a n next)
  missed_again start (Some a) (Some n) is = (next_again a n is.0, is.1)

  other_stays : (T : Part) (i : ℕ) (s : Sight) → IsRead Old T i v → IsSight Old T i v s → IsRead New T i v × IsSight New T i v s
  other_stays T i s read seen = (
    record { part = read.part; committed = read.committed; returned = read.returned },
    record {
      txn = seen.txn;
      op = seen.op;
      start = seen.start;
      read = seen.read;
      own = seen.own;
      later = seen.later;
      from = source_again s.source seen.from;
      missed = missed_again T.start (version_of s.source) s.missed seen.missed;
    },
  )

pub others_stay : OtherReadsStay
others_stay Q R w T i v s set_up read not_null not_value seen =
    subst (λ P. IsRead (record { initial = R.initial; parts = P }) T i v × IsSight (record { initial = R.initial; parts = P }) T i v s) set_up.parts
    (other_stays Q.initial R.initial Q.parts v (λ e. not_null (e ∙ set_up.before)) (λ e. not_value (e ∙ set_up.after)) T i s read seen)
