-- What stands under commits is what the judge finds of versions, after those were judged that a transaction touches.
use Rattle.std.proofs.Common.{◌≡◌, ◌≢◌, ◌∙◌, ◌⊎◌, inl, inr, ◌↔◌, ℕ, Bool, true, false, cond, Option, Some, None, refl, sym, ap, subst, arith, true≢false}
use Rattle.std.specs.Ordering.{eq_by_cmp}
use Rattle.std.proofs.lemmas.Bool.{cases_lt}
use Rattle.si_lists.proofs.Members.{same_some}
use Rattle.si_model.specs.declared.numbers.TxnId.{TxnId}
use Rattle.si_model.specs.declared.numbers.Stamp.{Stamp}
use Rattle.si_model.specs.declared.parts.OnKey.{OnKey}
use Rattle.si_model.specs.declared.sights.Installer.{Installer}
use Rattle.si_model.specs.declared.sights.VersionId.TheVariants as version
use Rattle.si_model.specs.declared.kinds.Kind.{Kind}
use Rattle.si_model.specs.declared.kinds.Kind.TheVariants as kind
use Rattle.si_model.specs.Versions.{IsInstaller, IsNextIfAny, next_after}
use Rattle.si_model.specs.Findings.{Rules, overlap_with}
use Rattle.si_model.specs.History.{IsOfHistory}
use Rattle.si_model.proofs.NextVersions.{next_exact, next_is, same_installer}
use Rattle.si_timeline.specs.Timelines.{Dated, IsNearestBefore}
use Rattle.si_judge.specs.declared.indexes.Indexes.{Indexes}
use Rattle.si_judge.specs.Indexes.{AreIndexes}
use Rattle.si_judge.specs.Mending.{ArePairKinds, IsPairJudged, IsPairJudgedBefore, IsPairJudgedOf, IsPairKind, installer, stamp_cmp, with_kind}
use Rattle.si_judge.specs.Touched.{DifferIn, InstallsNoneAfter}
use Rattle.si_judge.proofs.IndexEdits.{no_value}
use Rattle.si_judge.proofs.Neighbours.{installed, standing}
use Rattle.si_judge.proofs.Orders.{stamp_decides}
use Rattle.si_judge.proofs.Staying.{pairs_stay}

-- ---- one pair

overlapping : (J : Rules) (m n : Installer) (k : Kind) → overlap_with J m (Some n) ≡ Some k → (J.pair m.commit n.start ≡ true) × (k ≡ kind.Overlap m.txn n.txn)
overlapping J m n k e = by (J.pair m.commit n.start) refl e
  where
    by : (b : Bool) → J.pair m.commit n.start ≡ b → cond b (Some (kind.Overlap m.txn n.txn)) None ≡ Some k → (J.pair m.commit n.start ≡ true) × (k ≡ kind.Overlap m.txn n.txn)
    by true f e = (f, sym (same_some e))
    by false f e = absurd (no_value k e)

-- what the judge answers of a version and the next one is what it finds of it
pub pair_at : (J : Rules) (Q : OnKey) → IsOfHistory Q → (first : Installer) → IsInstaller Q first → (k : Kind)
    → (overlap_with J first (next_after Q.parts (version.Installed first.commit)) ≡ Some k) ↔ IsPairKind J Q first.commit k
pair_at J Q h first is k = (
  (λ e. to (next_after Q.parts (version.Installed first.commit)) (next_is Q (version.Installed first.commit)) e),
  (λ p.
      let one : p.0 ≡ first = same_installer Q h p.0 first p.2 is p.3 in
      let next : Some p.1 ≡ next_after Q.parts (version.Installed p.0.commit) = (next_exact Q (version.Installed p.0.commit) (Some p.1) h).0 p.4 in
      (λ i. overlap_with J (sym one i) (next_after Q.parts (version.Installed (sym one i).commit))) ∙ ap (overlap_with J p.0) (sym next)
      ∙ ap (λ b. cond b (Some (kind.Overlap p.0.txn p.1.txn)) None) p.5 ∙ ap Some (sym p.6)),
)
  where
    to : (o : Option Installer) → IsNextIfAny Q (version.Installed first.commit) o → overlap_with J first o ≡ Some k → IsPairKind J Q first.commit k
    to None next e = absurd (no_value k e)
    to (Some n) next e = let o = overlapping J first n k e in (first, n, is, refl, next, o.0, o.1)

-- ---- pairs that stay

turned : (u : TxnId) (Q R : OnKey) → DifferIn u Q R → DifferIn u R Q
turned u Q R d = record { initial = sym d.initial; parts = λ T e. ((d.parts T e).1, (d.parts T e).0) }

installs_too : (u : TxnId) (Q R : OnKey) → DifferIn u Q R → (n : Installer) → IsInstaller Q n → n.txn ≢ u → IsInstaller R n
installs_too u Q R d n i other = (i.0, (d.parts i.0 (λ e. other (i.2.txn ∙ e))).0 i.1, i.2)

module _ (J : Rules) (u : TxnId) (c : Stamp) (k : Kind) where
  abbrev IsApartAt : OnKey → OnKey → Type 0
  IsApartAt Q R = (first : Installer) → IsInstaller Q first → first.commit ≡ c
      → (first.txn ≢ u) × InstallsNoneAfter Q u (version.Installed first.commit) × InstallsNoneAfter R u (version.Installed first.commit)

  stays_one : (Q R : OnKey) → IsOfHistory Q → IsOfHistory R → DifferIn u Q R → IsApartAt Q R → IsPairKind J Q c k → IsPairKind J R c k
  stays_one Q R h g d apart p =
      let a = apart p.0 p.2 p.3 in
      let s = pairs_stay Q R u p.0 p.1 h g d p.2 a.0 p.4 a.1 a.2 in
      (p.0, p.1, s.0, p.3, s.1, p.5, p.6)

  pub pair_stays : (Q R : OnKey) → IsOfHistory Q → IsOfHistory R → DifferIn u Q R → IsApartAt Q R → IsApartAt R Q → IsPairKind J Q c k ↔ IsPairKind J R c k
  pair_stays Q R h g d a b = (stays_one Q R h g d a, stays_one R Q g h (turned u Q R d) b)

-- u installs nothing, neither before nor after
pub pairs_apart : (J : Rules) (u : TxnId) (Q R : OnKey) → IsOfHistory Q → IsOfHistory R → DifferIn u Q R → ((n : Installer) → IsInstaller Q n → n.txn ≢ u) → ((n : Installer) → IsInstaller R n → n.txn ≢ u)
    → (at : Stamp → Option Kind) → ArePairKinds J Q at → ArePairKinds J R at
pairs_apart J u Q R h g d none_Q none_R at are c k =
    let s = pair_stays J u c k Q R h g d (λ f i e. (none_Q f i, (λ n next. none_Q n next.installs), (λ n next. none_R n next.installs)))
    (λ f i e. (none_R f i, (λ n next. none_R n next.installs), (λ n next. none_Q n next.installs))) in
    ((λ e. s.0 ((are c k).0 e)), (λ f. (are c k).1 (s.1 f)))

-- ---- pairs beside the version of one transaction

with_there : (old : Stamp → Option Kind) (c d : Stamp) (x : Option Kind) → c ≡ d → with_kind old c x d ≡ x
with_there old c d x e = ap (λ b. cond b x (old d)) ((stamp_decides c d).1 e)

with_other : (old : Stamp → Option Kind) (c d : Stamp) (x : Option Kind) → c ≢ d → with_kind old c x d ≡ old d
with_other old c d x other = by (eq_by_cmp stamp_cmp c d) refl
  where
    by : (b : Bool) → eq_by_cmp stamp_cmp c d ≡ b → cond b x (old d) ≡ old d
    by true e = absurd (other ((stamp_decides c d).0 e))
    by false e = refl

same_or_not : (c d : Stamp) → (c ≡ d) ⊎ (c ≢ d)
same_or_not c d = by (eq_by_cmp stamp_cmp c d) refl
  where
    by : (b : Bool) → eq_by_cmp stamp_cmp c d ≡ b → (c ≡ d) ⊎ (c ≢ d)
    by true e = inl ((stamp_decides c d).0 e)
    by false e = inr (λ s. true≢false (sym ((stamp_decides c d).1 s) ∙ e))

-- what stands under the commit is right
abbrev IsRight : Rules → OnKey → (Stamp → Option Kind) → Stamp → Kind → Type 0
IsRight J Q at c k = (at c ≡ Some k) ↔ IsPairKind J Q c k

module _ (J : Rules) {M : OnKey} (ix : Indexes) (is : AreIndexes M ix) (u : TxnId) (Q : OnKey) (h : IsOfHistory Q) (differ : DifferIn u Q M) (d : Dated)
    (only_Q : (n : Installer) → IsInstaller Q n → n.txn ≡ u → n.commit ≡ d.0) (only_R : (n : Installer) → IsInstaller M n → n.txn ≡ u → n.commit ≡ d.0)
    (o : Option Dated) (near : IsNearestBefore ix.timeline d.0 o) (c : Stamp) (other : c ≢ d.0) (not_before : (b : Dated) → o ≡ Some b → b.0 ≢ c) (k : Kind) where
  -- of S, whose other installers are those of the indexes, u's version isn't next after one at the commit
  none_after : (S : OnKey) → DifferIn u S M → ((n : Installer) → IsInstaller S n → n.txn ≡ u → n.commit ≡ d.0)
      → (first : Installer) → IsInstaller S first → first.commit ≡ c → first.txn ≢ u → InstallsNoneAfter S u (version.Installed first.commit)
  none_after S away only first i at apart n next of_u = by o near not_before
    where
      last : n.commit.0 ≡ d.0.0
      last = ap (λ x. x.0) (only n next.installs of_u)

      by : (p : Option Dated) → IsNearestBefore ix.timeline d.0 p → ((b : Dated) → p ≡ Some b → b.0 ≢ c) → ⊥
      by None none differs =
          let x = standing ix is first (installs_too u S M away first i apart) in
          let most = none x.0 x.1 in
          let same : x.0.0.0 ≡ first.commit.0 = ap (λ (m : Installer). m.commit.0) x.2 in
          let lt = next.after in
          let end : n.commit.0 ≡ d.0.0 = ap (λ y. y.0) (only n next.installs of_u) in
          omega (arith, most, same, lt, end)
      by (Some b) near differs =
          let x = standing ix is first (installs_too u S M away first i apart) in
          let same : x.0.0.0 ≡ first.commit.0 = ap (λ (m : Installer). m.commit.0) x.2 in
          let lt = next.after in
          let end : n.commit.0 ≡ d.0.0 = ap (λ y. y.0) (only n next.installs of_u) in
          let below = near.1 in
          let most = near.2 x.0 x.1 (omega (arith, same, lt, end)) in
          let b_in = installed ix is b near.0 in
          let b_other : b.1.writer ≢ u = λ e. (let s : b.0.0 ≡ d.0.0 = ap (λ y. y.0) (only_R (installer b) b_in e) in omega (arith, s, below)) in
          elim (cases_lt first.commit.0 b.0.0) [
            | inl more ↦ (let le = next.first (installer b) (installs_too u M S (turned u S M away) (installer b) b_in b_other) more in omega (arith, le, end, below))
            | inr least ↦ differs b refl (let s : b.0.0 ≡ first.commit.0 = omega (arith, least, most, same) in ap (λ (m : ℕ). record { 0 = m }) s ∙ at)
          ]

  itself : DifferIn u M M
  itself = record { initial = refl; parts = λ T e. ((λ x. x), (λ x. x)) }

  apart_Q : (first : Installer) → IsInstaller Q first → first.commit ≡ c → first.txn ≢ u
  apart_Q first i at e = other (sym at ∙ only_Q first i e)

  apart_R : (first : Installer) → IsInstaller M first → first.commit ≡ c → first.txn ≢ u
  apart_R first i at e = other (sym at ∙ only_R first i e)

  pub beside_stays : IsPairKind J Q c k ↔ IsPairKind J M c k
  beside_stays = pair_stays J u c k Q M h is.history differ
      (λ f i at. (let a = apart_Q f i at in (a, none_after Q differ only_Q f i at a, none_after M itself only_R f (installs_too u Q M differ f i a) at a)))
      (λ f i at. (let a = apart_R f i at in (
        a,
        none_after M itself only_R f i at a,
        none_after Q differ only_Q f (installs_too u M Q (turned u Q M differ) f i a) at a,
      )))

module _ (J : Rules) {M : OnKey} (ix : Indexes) (is : AreIndexes M ix) (u : TxnId) (Q : OnKey) (h : IsOfHistory Q) (differ : DifferIn u Q M) (d : Dated)
    (only_Q : (n : Installer) → IsInstaller Q n → n.txn ≡ u → n.commit ≡ d.0) (only_R : (n : Installer) → IsInstaller M n → n.txn ≡ u → n.commit ≡ d.0)
    (at : Stamp → Option Kind) (are : ArePairKinds J Q at) where
  kept : (o : Option Dated) → IsNearestBefore ix.timeline d.0 o → (c : Stamp) (k : Kind) → c ≢ d.0 → ((b : Dated) → o ≡ Some b → b.0 ≢ c) → IsRight J M at c k
  kept o near c k other not_before =
      let s = beside_stays J ix is u Q h differ d only_Q only_R o near c other not_before k in
      ((λ e. s.0 ((are c k).0 e)), (λ f. (are c k).1 (s.1 f)))

  -- the pair before is right once it was judged, and the others stay right
  before_right : (o : Option Dated) → IsNearestBefore ix.timeline d.0 o → (old new : Stamp → Option Kind) → IsPairJudgedOf J M o old new → (c : Stamp) (k : Kind)
      → (((b : Dated) → o ≡ Some b → b.0 ≢ c) → IsRight J M old c k) → IsRight J M new c k
  before_right None near old new same c k right = let r = right (λ b e. absurd (no_value b e)) in ((λ e. r.0 (sym (same c) ∙ e)), (λ f. same c ∙ r.1 f))
  before_right (Some b) near old new judged c k right = elim (same_or_not b.0 c) [
    | inl e ↦ (
        let stands : new c ≡ overlap_with J (installer b) (next_after M.parts (version.Installed b.0)) = judged c ∙ with_there old b.0 c (overlap_with J (installer b) (next_after M.parts (version.Installed b.0))) e in
        let p = pair_at J M is.history (installer b) (installed ix is b near.0) k in
        ((λ f. subst (λ x. IsPairKind J M x k) e (p.0 (sym stands ∙ f))), (λ f. stands ∙ p.1 (subst (λ x. IsPairKind J M x k) (sym e) f))))
    | inr other ↦ (
        let stands : new c ≡ old c = judged c ∙ with_other old b.0 c (overlap_with J (installer b) (next_after M.parts (version.Installed b.0))) other in
        let r = right (λ x s same. other (ap (λ (y : Dated). y.0) (same_some s) ∙ same)) in
        ((λ f. r.0 (sym stands ∙ f)), (λ f. stands ∙ r.1 f)))
  ]

  -- one that installs came
  pub pairs_after_coming : IsInstaller M (installer d) → (middle new : Stamp → Option Kind) → IsPairJudgedBefore J M ix d.0 at middle → IsPairJudged J M (installer d) middle new
      → ArePairKinds J M new
  pairs_after_coming is_d middle new before judged c k = elim (same_or_not d.0 c) [
    | inl e ↦ (
        let stands : new c ≡ overlap_with J (installer d) (next_after M.parts (version.Installed d.0)) = judged c ∙ with_there middle d.0 c (overlap_with J (installer d) (next_after M.parts (version.Installed d.0))) e in
        let p = pair_at J M is.history (installer d) is_d k in
        ((λ f. subst (λ x. IsPairKind J M x k) e (p.0 (sym stands ∙ f))), (λ f. stands ∙ p.1 (subst (λ x. IsPairKind J M x k) (sym e) f))))
    | inr other ↦ (
        let stands : new c ≡ middle c = judged c ∙ with_other middle d.0 c (overlap_with J (installer d) (next_after M.parts (version.Installed d.0))) other in
        let r = before_right before.0 before.1 at middle before.2 c k (λ not_before. kept before.0 before.1 c k (λ s. other (sym s)) not_before) in
        ((λ f. r.0 (sym stands ∙ f)), (λ f. stands ∙ r.1 f)))
  ]

  -- one that installed went
  pub pairs_after_going : ((n : Installer) → IsInstaller M n → n.commit ≢ d.0) → (middle new : Stamp → Option Kind) → ((c : Stamp) → middle c ≡ with_kind at d.0 None c) → IsPairJudgedBefore J M ix d.0 middle new
      → ArePairKinds J M new
  pairs_after_going gone middle new forgotten before c k = before_right before.0 before.1 middle new before.2 c k (λ not_before. elim (same_or_not d.0 c) [
    | inl e ↦ (
        let stands : middle c ≡ None = forgotten c ∙ with_there at d.0 c None e in
        ((λ f. absurd (no_value k (sym stands ∙ f))), (λ p. absurd (gone p.0 p.2 (p.3 ∙ sym e)))))
    | inr other ↦ (
        let stands : middle c ≡ at c = forgotten c ∙ with_other at d.0 c None other in
        let r = kept before.0 before.1 c k (λ s. other (sym s)) not_before in
        ((λ f. r.0 (sym stands ∙ f)), (λ f. stands ∙ r.1 f)))
  ])
