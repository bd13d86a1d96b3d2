-- The order of what is present doesn't matter.
use Rattle.std.proofs.Common.{◌≡◌, inl, inr, ℕ, List, Option, Some, None, refl, sym, ◌∙◌}
use Rattle.std.specs.List.{Contains}
use Rattle.std.specs.List.Sorted.{IsStrictlySortedBy}
use Rattle.si_model.specs.declared.numbers.Stamp.{Stamp}
use Rattle.si_model.specs.declared.numbers.Value.{Value}
use Rattle.si_model.specs.declared.numbers.TxnId.{TxnId}
use Rattle.si_model.specs.declared.transactions.Txn.{Txn}
use Rattle.si_model.specs.declared.edits.Edit.{Edit}
use Rattle.si_model.specs.declared.parts.Part.{Part}
use Rattle.si_model.specs.declared.parts.OnKey.{OnKey}
use Rattle.si_model.specs.declared.sights.Installer.{Installer}
use Rattle.si_model.specs.declared.sights.VersionId.{VersionId}
use Rattle.si_model.specs.declared.sights.VersionId.TheVariants as version
use Rattle.si_model.specs.declared.sights.Source.{Source}
use Rattle.si_model.specs.declared.sights.Source.TheVariants as source
use Rattle.si_model.specs.declared.sights.Sight.{Sight}
use Rattle.si_model.specs.declared.kinds.Kind.{Kind}
use Rattle.si_model.specs.declared.findings.Finding.{Finding}
use Rattle.si_model.specs.Parts.{Present, part, parts, set_up_value, on_key}
use Rattle.si_model.specs.Versions.{IsInstaller, IsNext}
use Rattle.si_model.specs.Reads.{IsRead, IsWriter, IsSource, version_of, IsMissedOf, IsSight}
use Rattle.si_model.specs.Order.{finding_cmp}
use Rattle.si_model.specs.Findings.{Rules, cases, IsFoundOn, IsFinding, findings, findings_on}
use Rattle.si_model.specs.History.{IsHistory, IsOfHistory}
use Rattle.si_model.specs.Journals.{present, IsAccepted}
use Rattle.si_model.specs.Laws.{HaveSame, AreSame}
use Rattle.si_lists.proofs.Members.{Contains-filter_map, Contains-from_filter_map}
use Rattle.si_model.proofs.InOrder.{same_sorted}
use Rattle.si_model.proofs.FindingOrder.{findings_total}
use Rattle.si_model.proofs.Histories.{set_up_is, set_up_from, not_set_up}
use Rattle.si_model.proofs.Exact.{findings_exact, key_findings_exact}
use Rattle.si_model.proofs.PresentHistories.{present_history}

module _ (Q R : OnKey) (initial : Q.initial ≡ R.initial) (to : (T : Part) → Contains Q.parts T → Contains R.parts T) (back : (T : Part) → Contains R.parts T → Contains Q.parts T) where
  same_installer : (n : Installer) → IsInstaller Q n → IsInstaller R n
  same_installer n i = (i.0, to i.0 i.1, i.2)

  installer_back : (n : Installer) → IsInstaller R n → IsInstaller Q n
  installer_back n i = (i.0, back i.0 i.1, i.2)

  same_next : (a : VersionId) (n : Installer) → IsNext Q a n → IsNext R a n
  same_next a n i = record { installs = same_installer n i.installs; after = i.after; first = λ m j. i.first m (installer_back m j) }

  next_back : (a : VersionId) (n : Installer) → IsNext R a n → IsNext Q a n
  next_back a n i = record { installs = installer_back n i.installs; after = i.after; first = λ m j. i.first m (same_installer m j) }

  same_writer : (v : Value) (u : TxnId) (T : Part) → IsWriter Q v u T → IsWriter R v u T
  same_writer v u T w = record { part = to T w.part; id = w.id; writes = w.writes }

  same_source : (v : Option Value) (s : Source) → IsSource Q v s → IsSource R v s
  same_source v source.Initial i = i ∙ initial
  same_source v source.Missing i = (λ e. i.0 (e ∙ sym initial), λ w T e c. i.1 w T e (back T c))
  same_source v (source.InDoubt u) i = (i.0, i.1, i.2, same_writer i.0 u i.1 i.3, i.4)
  same_source v (source.Aborted u) i = (i.0, i.1, i.2, same_writer i.0 u i.1 i.3, i.4)
  same_source v (source.Earlier u) i = (i.0, i.1, i.2, same_writer i.0 u i.1 i.3, i.4, i.5)
  same_source v (source.Installed u c) i = (i.0, i.1, i.2, same_writer i.0 u i.1 i.3, i.4, i.5)

  same_missed : (start : Stamp) (a : Option VersionId) (n : Option Installer) → IsMissedOf Q start a n → IsMissedOf R start a n
  same_missed start None n i = i
  same_missed start (Some a) (Some n) i = (same_next a n i.0, i.1)
  same_missed start (Some a) None i = λ n is. i n (next_back a n is)

  same_sight : (T : Part) (i : ℕ) (v : Option Value) (s : Sight) → IsSight Q T i v s → IsSight R T i v s
  same_sight T i v s is = record { txn = is.txn; op = is.op; start = is.start; read = is.read; own = is.own; later = is.later; from = same_source v s.source is.from; missed = same_missed T.start (version_of s.source) s.missed is.missed }

  same_read : (T : Part) (i : ℕ) (v : Option Value) → IsRead Q T i v → IsRead R T i v
  same_read T i v r = record { part = to T r.part; committed = r.committed; returned = r.returned }

  -- what is found depends on which parts there are, and not on their order
  pub same_found : (J : Rules) (k : Kind) → IsFoundOn J Q k → IsFoundOn J R k
  same_found J k found = elim found [
    | inl r ↦ inl (record { part = r.part; place = r.place; value = r.value; sight = r.sight; returned = same_read r.part r.place r.value r.returned; seen = same_sight r.part r.place r.value r.sight r.seen; judged = r.judged })
    | inr p ↦ inr (record { first = p.first; second = p.second; installs = same_installer p.first p.installs; next = same_next (version.Installed p.first.commit) p.second p.next; judged = p.judged; is = p.is })
  ]

-- ---- one key

pub key_order_free : (J : Rules) (x : List ℕ) (Q R : OnKey) → IsOfHistory Q → IsOfHistory R → Q.initial ≡ R.initial → HaveSame Q.parts R.parts → findings_on J x Q ≡ findings_on J x R
key_order_free J x Q R g h initial same =
    let p = key_findings_exact J Q g x in
    let q = key_findings_exact J R h x in
    let to : (T : Part) → Contains Q.parts T → Contains R.parts T = λ T. (same T).0 in
    let back : (T : Part) → Contains R.parts T → Contains Q.parts T = λ T. (same T).1 in
    same_sorted findings_total (findings_on J x Q) (findings_on J x R) p.ascends q.ascends
    (λ f c. let is = p.sound f c in q.complete f (is.0, same_found Q R initial to back J f.kind is.1))
    (λ f c. let is = q.sound f c in p.complete f (is.0, same_found R Q (sym initial) back to J f.kind is.1))

-- ---- all keys

same_parts : (ts us : List Txn) → ((T : Txn) → Contains ts T → Contains us T) → (x : List ℕ) (T : Part) → Contains (parts x ts) T → Contains (parts x us) T
same_parts ts us to x T c = let f = Contains-from_filter_map (part x) ts T c in Contains-filter_map (part x) us f.0 T (to f.0 f.1) f.2

same_initial : (x : List ℕ) (P Q : Present) → IsHistory P → IsHistory Q → HaveSame P.initial Q.initial → set_up_value x P.initial ≡ set_up_value x Q.initial
same_initial x P Q g h same = by (set_up_value x P.initial) refl (set_up_value x Q.initial) refl
  where
    by : (o : Option Value) → set_up_value x P.initial ≡ o → (p : Option Value) → set_up_value x Q.initial ≡ p → o ≡ p
    by None e None f = refl
    by (Some v) e p f = sym (set_up_from x Q.initial v h.keys ((same (x, v)).0 (set_up_is x P.initial v e))) ∙ f
    by None e (Some w) f = absurd (not_set_up x P.initial e w ((same (x, w)).1 (set_up_is x Q.initial w f)))

same_finding : (P Q : Present) → IsHistory P → IsHistory Q → AreSame P Q → (f : Finding) → IsFinding P f → IsFinding Q f
same_finding P Q g h same f is =
    same_found (on_key f.key P) (on_key f.key Q) (same_initial f.key P Q g h same.initial)
    (same_parts P.txns Q.txns (λ T. (same.txns T).0) f.key) (same_parts Q.txns P.txns (λ T. (same.txns T).1) f.key) cases f.kind is

reversed : {X : Type 0} (xs ys : List X) → HaveSame xs ys → HaveSame ys xs
reversed xs ys same = λ x. ((same x).1, (same x).0)

pub order_free : (P Q : Present) → IsHistory P → IsHistory Q → AreSame P Q → findings P ≡ findings Q
order_free P Q g h same =
    let p = findings_exact P g in
    let q = findings_exact Q h in
    let back : AreSame Q P = record { txns = reversed P.txns Q.txns same.txns; initial = reversed P.initial Q.initial same.initial } in
    same_sorted findings_total (findings P) (findings Q) p.ascends q.ascends
    (λ f c. q.complete f (same_finding P Q g h same f (p.sound f c)))
    (λ f c. p.complete f (same_finding Q P h g back f (q.sound f c)))

pub journal_order_free : (J K : List Edit) → IsAccepted J → IsAccepted K → AreSame (present J) (present K) → findings (present J) ≡ findings (present K)
journal_order_free J K a b same = order_free (present J) (present K) (present_history J a) (present_history K b) same

pub unique_list : (fs gs : List Finding) → IsStrictlySortedBy finding_cmp fs → IsStrictlySortedBy finding_cmp gs → HaveSame fs gs → fs ≡ gs
unique_list fs gs s t same = same_sorted findings_total fs gs s t (λ f. (same f).0) (λ f. (same f).1)
