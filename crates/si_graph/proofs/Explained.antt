-- The evidence for a finding of a history holds of it.
use Rattle.std.proofs.Common.{◌≡◌, ◌≢◌, ◌∙◌, inl, inr, ℕ, ◌<◌, Bool, true, false, cond, List, [], ◌∷◌, Option, Some, None, refl, sym, ap, subst, arith, nat_lt}
use Rattle.std.specs.List.{Contains}
use Rattle.std.specs.Option.{option_eq}
use Rattle.std.proofs.lemmas.Bool.Decides.{Decides-ltb}
use Rattle.si_model.specs.declared.numbers.Stamp.{Stamp}
use Rattle.si_model.specs.declared.numbers.TxnId.{TxnId}
use Rattle.si_model.specs.declared.numbers.Value.{Value}
use Rattle.si_model.specs.declared.parts.Part.{Part}
use Rattle.si_model.specs.declared.sights.Installer.{Installer}
use Rattle.si_model.specs.declared.sights.VersionId.{VersionId}
use Rattle.si_model.specs.declared.sights.VersionId.TheVariants as version
use Rattle.si_model.specs.declared.sights.Source.{Source}
use Rattle.si_model.specs.declared.sights.Source.TheVariants as source
use Rattle.si_model.specs.declared.sights.Sight.{Sight}
use Rattle.si_model.specs.declared.kinds.Kind.{Kind}
use Rattle.si_model.specs.declared.kinds.Kind.TheVariants as kind
use Rattle.si_model.specs.declared.findings.Finding.{Finding}
use Rattle.si_model.specs.declared.evidence.Label.TheVariants as label
use Rattle.si_model.specs.declared.evidence.Evidence.{Evidence}
use Rattle.si_model.specs.declared.evidence.Evidence.TheVariants as evidence
use Rattle.si_model.specs.Operations.{same_value}
use Rattle.si_model.specs.Parts.{Present, on_key}
use Rattle.si_model.specs.Versions.{Writes, IsInstaller, IsNext}
use Rattle.si_model.specs.Reads.{IsRead, IsSource, ReturnsVersion, IsMissedAfter, IsMissedOf, own_value, writes_later, version_of, judged_by_next, judged_by_source, judged_by_own, kind_of, overlaps}
use Rattle.si_model.specs.Findings.{cases, IsOfRead, IsOfPair, IsFinding}
use Rattle.si_model.specs.History.{IsHistory}
use Rattle.si_model.specs.Evidence.{edge, missed_walk, evidence_of}
use Rattle.si_graph.specs.Edges.{IsNode, IsEdge, IsStartDependency}
use Rattle.si_graph.specs.Shown.{Shows}
use Rattle.si_graph.specs.Laws.{ModelLaws}
use Rattle.si_lists.proofs.Members.{same_some, Contains-cons_cases, Contains-one}
use Rattle.si_graph.proofs.StartEdges.{same_node, no_loop, node_of, node_of_installer, starts}
use Rattle.si_graph.proofs.Sights.{sight_with, sight_is, not_own}

-- the evidence for a finding of that kind holds
abbrev IsExplained : Present → Kind → Type 0
IsExplained P k = (e : Evidence) → evidence_of k ≡ Some e → Shows P e

module _ (laws : ModelLaws) (P : Present) (h : IsHistory P) (x : List ℕ) where
  -- ---- reads

  module _ (T : Part) (i : ℕ) (v : Option Value) (read : IsRead (on_key x P) T i v) where
    -- an rw edge to the installer of the version that was missed, and a start edge back
    missed_shown : (a : VersionId) (n : Installer) → ReturnsVersion (on_key x P) v a → IsNext (on_key x P) a n → n.commit.0 < T.start.0 → Shows P (evidence.Missed (missed_walk T.id n.txn))
    missed_shown a n returned next before = (
      record {
        edges = λ e c. elim (Contains-cons_cases (edge label.Rw T.id n.txn) (edge label.St n.txn T.id ∷ []) e c) [
          | inl is ↦ subst (IsEdge P) is (record {
            differ = λ same. differ (sym same);
            connects = record { key = x; reader = T; place = i; value = v; version = a; second = n; read = read; returned = returned; next = next; from = refl; to = refl };
          })
          | inr more ↦ subst (IsEdge P) (Contains-one (edge label.St n.txn T.id) e more) (record { differ = differ; connects = back })
        ];
        closed = (refl, refl);
      },
      refl,
    )
      where
        back : IsStartDependency P n.txn T.id
        back = let N = next.installs in subst (λ u. IsStartDependency P u T.id) (sym N.2.txn) (starts laws P x h N.0 T n.commit read.committed.0 N.1 read.part N.2.committed read.committed.1 before)

        differ : n.txn ≢ T.id
        differ same = no_loop P h T.id (subst (λ u. IsStartDependency P u T.id) same back)

    module _ (none : own_value T i ≡ None) (no_later : writes_later T i v ≡ false) where
      -- another transaction wrote what was read
      another : (w : Value) (W : Part) → v ≡ Some w → Contains (on_key x P).parts W → Writes W w → W.id ≢ T.id
      another w W is part writes same =
          let one = (laws.differ (on_key x P) (laws.keys P x h)).ids W T part read.part same in
          not_own laws P x T i v read none no_later w is (subst (λ (Q : Part). Writes Q w) one writes)

      future_shown : (u : TxnId) (c : Stamp) → IsSource (on_key x P) v (source.Installed u c) → T.start.0 < c.0 → Shows P (evidence.Interference (edge label.Wr u T.id))
      future_shown u c s late =
          let W = s.3 in
          let from = node_of laws P x s.1 c W.part s.4 in
          let to = node_of laws P x T read.committed.0 read.part read.committed.1 in
          let start : T.start.0 ≡ to.0.start.0 = ap (λ (k : Stamp). k.0) to.2 in (
            record {
              differ = λ same. another s.0 s.1 s.2 W.part W.writes (sym W.id ∙ same);
              connects = record { key = x; commit = c; reader = T; place = i; value = v; read = read; installed = s; to = refl };
            },
            tt,
            record {
              first = from.0;
              second = to.0;
              commit = c;
              later = read.committed.0;
              from = subst (λ a. IsNode P a from.0 c) (sym W.id) from.1;
              to = to.1;
              timed = omega (arith, late, start);
            },
          )

      -- what a source tells, before the versions are looked at
      by_source : (s : Source) (n : Option Installer) (k : Kind) → IsSource (on_key x P) v s → IsMissedOf (on_key x P) T.start (version_of s) n → judged_by_source (sight_with T i v s n) s ≡ Some k → IsExplained P k
      by_source s n k from missed f = go s from missed f
        where
          -- a version was missed
          by_next : (t : Sight) (a : VersionId) (o : Option Installer) → t.txn ≡ T.id → ReturnsVersion (on_key x P) v a → IsMissedAfter (on_key x P) T.start a o → judged_by_next t o ≡ Some k → IsExplained P k
          by_next t a None same returned m f = cc
          by_next t a (Some m) same returned is f =
              subst (IsExplained P) (same_some f) (λ e g. subst (Shows P) (same_some g) (subst (λ u. Shows P (evidence.Missed (missed_walk u m.txn))) (sym same) (missed_shown a m returned is.0 is.1)))

          go : (r : Source) → IsSource (on_key x P) v r → IsMissedOf (on_key x P) T.start (version_of r) n → judged_by_source (sight_with T i v s n) r ≡ Some k → IsExplained P k
          go source.Missing from missed f = subst (IsExplained P) (same_some f) (λ e g. cc)
          go (source.InDoubt u) from missed f = subst (IsExplained P) (same_some f) (λ e g. cc)
          go (source.Aborted u) from missed f = subst (IsExplained P) (same_some f) (λ e g. subst (Shows P) (same_some g) (record {
            key = x;
            reader = T;
            writer = from.1;
            related = record { value = from.0; returned = subst (IsRead (on_key x P) T i) from.2 read; writer = from.3.part; writes = from.3.writes; aborted = from.4 };
            reads = refl;
            writes = sym from.3.id;
          }))
          go (source.Earlier u) from missed f = subst (IsExplained P) (same_some f) (λ e g. subst (Shows P) (same_some g) (record {
            key = x;
            reader = T;
            writer = from.1;
            related = record {
              value = from.0;
              returned = subst (IsRead (on_key x P) T i) from.2 read;
              writer = from.3.part;
              another = another from.0 from.1 from.2 from.3.part from.3.writes;
              writes = from.3.writes;
              not_last = from.5;
            };
            reads = refl;
            writes = sym from.3.id;
          }))
          go source.Initial from missed f = by_next (sight_with T i v s n) version.Initial n refl (source.Initial, from, refl) missed f
          go (source.Installed u c) from missed f = by (nat_lt T.start.0 c.0) refl f
            where
              by : (b : Bool) → nat_lt T.start.0 c.0 ≡ b → cond b (Some (kind.Future T.id i v u)) (judged_by_next (sight_with T i v s n) n) ≡ Some k → IsExplained P k
              by true late f = subst (IsExplained P) (same_some f) (λ e g. subst (Shows P) (same_some g) (future_shown u c from ((Decides-ltb T.start.0 c.0).0 late)))
              by false late f = by_next (sight_with T i v s n) (version.Installed c) n refl (source.Installed u c, from, refl) missed f

    by_own : (s : Source) (n : Option Installer) (k : Kind) → IsSource (on_key x P) v s → IsMissedOf (on_key x P) T.start (version_of s) n → kind_of (sight_with T i v s n) ≡ Some k → IsExplained P k
    unfolding kind_of
    by_own s n k from missed f = go (own_value T i) (writes_later T i v) refl refl f
      where
        go : (o : Option Value) (b : Bool) → own_value T i ≡ o → writes_later T i v ≡ b → judged_by_own (sight_with T i v s n) o b ≡ Some k → IsExplained P k
        go None false none no_later f = by_source none no_later s n k from missed f
        go None true none later f = subst (IsExplained P) (same_some f) (λ e g. cc)
        go (Some w) b own later f = by (option_eq same_value v (Some w)) f
          where
            by : (b : Bool) → cond b None (Some (kind.Own T.id i v (Some w))) ≡ Some k → IsExplained P k
            by true f = cc
            by false f = subst (IsExplained P) (same_some f) (λ e g. cc)

  -- ---- overlaps

  overlap_shown : (m n : Installer) → IsInstaller (on_key x P) m → IsNext (on_key x P) (version.Installed m.commit) n → overlaps m.commit n.start ≡ true → Shows P (evidence.Interference (edge label.Ww m.txn n.txn))
  overlap_shown m n is next late =
      let from = node_of_installer laws P x m is in
      let to = node_of_installer laws P x n next.installs in
      let start : n.start.0 ≡ to.0.start.0 = ap (λ (k : Stamp). k.0) to.2 in
      let after : m.commit.0 < n.commit.0 = next.after in
      let before : n.start.0 < m.commit.0 = (Decides-ltb n.start.0 m.commit.0).0 late in (
        record {
          differ = λ same. (let commit : m.commit.0 ≡ n.commit.0 = ap (λ (k : Stamp). k.0) (same_node P h n.txn from.0 to.0 m.commit n.commit (subst (λ u. IsNode P u from.0 m.commit) same from.1) to.1).1 in omega (arith, commit, after));
          connects = record { key = x; first = m; second = n; installs = is; next = next; from = refl; to = refl };
        },
        tt,
        record { first = from.0; second = to.0; commit = m.commit; later = n.commit; from = from.1; to = to.1; timed = omega (arith, start, before) },
      )

  read_explained : (k : Kind) → IsOfRead cases (on_key x P) k → IsExplained P k
  read_explained k r =
      let same = sight_is (on_key x P) r.part r.place r.value r.sight r.seen in
      by_own r.part r.place r.value r.returned r.sight.source r.sight.missed k r.seen.from r.seen.missed (subst (λ s. kind_of s ≡ Some k) same r.judged)

  pair_explained : (k : Kind) → IsOfPair cases (on_key x P) k → IsExplained P k
  pair_explained k r = subst (IsExplained P) (sym r.is) (λ e g. subst (Shows P) (same_some g) (overlap_shown r.first r.second r.installs r.next r.judged))

pub explained : ModelLaws → (P : Present) → IsHistory P → (f : Finding) → IsFinding P f → (e : Evidence) → evidence_of f.kind ≡ Some e → Shows P e
explained laws P h f (inl r) = read_explained laws P h f.key f.kind r
explained laws P h f (inr r) = pair_explained laws P h f.key f.kind r
