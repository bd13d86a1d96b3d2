-- The list of the findings is in order and has exactly what the relation says.
use Rattle.std.proofs.Common.{◌≡◌, inl, inr, ℕ, Bool, true, false, List, [], ◌∷◌, Option, Some, None, refl, sym, ap, subst, ◌∙◌, cond}
use Rattle.std.specs.List.{Contains, flat_map, filter, filter_map}
use Rattle.std.specs.List.Sorted.{IsStrictlySortedBy}
use Rattle.std.specs.Option.{option_to_list}
use Rattle.std.proofs.lemmas.List.Kept.{IsStrictlySortedBy-filter}
use Rattle.std.proofs.lemmas.List.Elements.{Contains-append_left, Contains-append_right, Contains-append_cases}
use Rattle.si_model.specs.declared.numbers.Stamp.{Stamp}
use Rattle.si_model.specs.declared.parts.Access.{Access}
use Rattle.si_model.specs.declared.parts.Access.TheVariants as access
use Rattle.si_model.specs.declared.parts.Part.{Part}
use Rattle.si_model.specs.declared.parts.OnKey.{OnKey}
use Rattle.si_model.specs.declared.sights.Installer.{Installer}
use Rattle.si_model.specs.declared.sights.VersionId.TheVariants as version
use Rattle.si_model.specs.declared.kinds.Kind.{Kind}
use Rattle.si_model.specs.declared.kinds.Kind.TheVariants as kind
use Rattle.si_model.specs.declared.findings.Finding.{Finding}
use Rattle.si_model.specs.Operations.{same_key}
use Rattle.si_model.specs.Parts.{Present, parts, on_key}
use Rattle.si_model.specs.Versions.{IsNextIfAny, commit_of, install, next_after}
use Rattle.si_model.specs.Reads.{sight_of}
use Rattle.si_model.specs.Order.{finding_cmp, in_order, IsListOf}
use Rattle.si_model.specs.Findings.{Rules, cases, IsFoundOn, IsFindingOn, IsFinding, access_kind, placed_kind, overlap_with, overlap_of, kinds_by, kinds_of, finding_at, found_on, findings_on, keys, found_at, findings}
use Rattle.si_model.specs.History.{IsHistory, IsOfHistory}
use Rattle.si_lists.proofs.Members.{same_some, Contains-nil, here, Contains-one, Contains-flat_map, Contains-from_flat_map, Contains-filter_map, Contains-from_filter_map, Contains-map, Contains-from_map, Contains-filter, Contains-from_filter}
use Rattle.si_model.proofs.Equalities.{same_key_is, same_key_from}
use Rattle.si_model.proofs.InOrder.{sorted-in_order, Contains-in_order, Contains-from_in_order, same_sorted}
use Rattle.si_model.proofs.FindingOrder.{exact_findings, findings_total}
use Rattle.si_model.proofs.AllKeys.{keys_exact, key_of_part}
use Rattle.si_model.proofs.Histories.{key_of_history}
use Rattle.si_model.proofs.LastWrites.{commit_is, install_is}
use Rattle.si_model.proofs.NextVersions.{next_is, same_next}
use Rattle.si_model.proofs.Sources.{sight_is, same_sight}

from_option : {X : Type 0} (o : Option X) (x : X) → Contains (option_to_list o) x → o ≡ Some x
from_option None x c = absurd (Contains-nil x c)
from_option (Some y) x c = ap Some (Contains-one y x c)

in_option : {X : Type 0} (o : Option X) (x : X) → o ≡ Some x → Contains (option_to_list o) x
in_option None x e = cc
in_option (Some y) x e = subst (λ z. Contains (y ∷ []) z) (same_some e) (here y [])

-- ---- what is found on one key

overlap_is : (J : Rules) (m : Installer) (o : Option Installer) (k : Kind) → overlap_with J m o ≡ Some k → (n : Installer) × (o ≡ Some n) × (J.pair m.commit n.start ≡ true) × (k ≡ kind.Overlap m.txn n.txn)
overlap_is J m None k e = cc
overlap_is J m (Some n) k e = by (J.pair m.commit n.start) refl e
  where
    by : (b : Bool) → J.pair m.commit n.start ≡ b → cond b (Some (kind.Overlap m.txn n.txn)) None ≡ Some k → (l : Installer) × (Some n ≡ Some l) × (J.pair m.commit l.start ≡ true) × (k ≡ kind.Overlap m.txn l.txn)
    by true t f = (n, refl, t, sym (same_some f))
    by false t f = cc

module _ (J : Rules) (Q : OnKey) (h : IsOfHistory Q) where
  read_sound : (T : Part) (c : Stamp) (i : ℕ) (a : Access) (k : Kind) → Contains Q.parts T → commit_of T.status ≡ Some c → Contains T.accesses (record { place = i; access = a }) → access_kind J Q T i a ≡ Some k → IsFoundOn J Q k
  read_sound T c i (access.Write v) k at e found f = cc
  read_sound T c i (access.Read v) k at e found f = inl (record {
    part = T;
    place = i;
    value = v;
    sight = sight_of Q T i v;
    returned = record { part = at; committed = (c, commit_is T.status c e); returned = found };
    seen = sight_is Q h T i v;
    judged = f;
  })

  pair_sound : (T : Part) (o : Option Installer) (k : Kind) → Contains Q.parts T → install T ≡ o → overlap_of J Q.parts o ≡ Some k → IsFoundOn J Q k
  pair_sound T None k at e f = cc
  pair_sound T (Some m) k at e f =
      let o = overlap_is J m (next_after Q.parts (version.Installed m.commit)) k f in
      inr (record {
        first = m;
        second = o.0;
        installs = (T, at, (install_is T m).0 e);
        next = subst (IsNextIfAny Q (version.Installed m.commit)) o.1 (next_is Q (version.Installed m.commit));
        judged = o.2;
        is = o.3;
      })

  found_sound : (k : Kind) → Contains (flat_map (kinds_of J Q) Q.parts) k → IsFoundOn J Q k
  unfolding kinds_of
  found_sound k c = let f = Contains-from_flat_map (kinds_of J Q) Q.parts k c in by_part f.0 f.1 (commit_of f.0.status) refl f.2
    where
      by_part : (T : Part) → Contains Q.parts T → (o : Option Stamp) → commit_of T.status ≡ o → Contains (kinds_by J Q T o) k → IsFoundOn J Q k
      by_part T at None e d = absurd (Contains-nil k d)
      by_part T at (Some c) e d = elim (Contains-append_cases (filter_map (placed_kind J Q T) T.accesses) (option_to_list (overlap_of J Q.parts (install T))) k d) [
        | inl r ↦ (let g = Contains-from_filter_map (placed_kind J Q T) T.accesses k r in read_sound T c g.0.place g.0.access k at e g.1 g.2)
        | inr p ↦ pair_sound T (install T) k at refl (from_option (overlap_of J Q.parts (install T)) k p)
      ]

  -- what is found of a committed transaction is found by the walk
  walked : (T : Part) (c : Stamp) (k : Kind) → Contains Q.parts T → commit_of T.status ≡ Some c → Contains (kinds_by J Q T (Some c)) k → Contains (flat_map (kinds_of J Q) Q.parts) k
  unfolding kinds_of
  walked T c k at e found = Contains-flat_map (kinds_of J Q) Q.parts T k at (subst (λ o. Contains (kinds_by J Q T o) k) (sym e) found)

  found_complete : (k : Kind) → IsFoundOn J Q k → Contains (flat_map (kinds_of J Q) Q.parts) k
  found_complete k (inl r) =
      let T = r.part in
      let c = r.returned.committed in
      let judged : access_kind J Q T r.place (access.Read r.value) ≡ Some k = ap J.read (sym (same_sight Q h T r.place r.value r.sight r.seen)) ∙ r.judged in
      let found = Contains-filter_map (placed_kind J Q T) T.accesses (record { place = r.place; access = access.Read r.value }) k r.returned.returned judged in
      walked T c.0 k r.returned.part (ap commit_of c.1) (Contains-append_left (filter_map (placed_kind J Q T) T.accesses) (option_to_list (overlap_of J Q.parts (install T))) k found)
  found_complete k (inr p) =
      let T = p.installs.0 in
      let is = p.installs.2 in
      let m = p.first in
      let next = same_next Q h (version.Installed m.commit) (next_after Q.parts (version.Installed m.commit)) (Some p.second) (next_is Q (version.Installed m.commit)) p.next in
      let overlap : overlap_of J Q.parts (install T) ≡ Some k =
      ap (overlap_of J Q.parts) ((install_is T m).1 is) ∙ ap (overlap_with J m) next ∙ ap (λ b. cond b (Some (kind.Overlap m.txn p.second.txn)) None) p.judged ∙ ap Some (sym p.is) in
      walked T m.commit k p.installs.1 (ap commit_of is.committed)
      (Contains-append_right (filter_map (placed_kind J Q T) T.accesses) (option_to_list (overlap_of J Q.parts (install T))) k (in_option (overlap_of J Q.parts (install T)) k overlap))

  -- a finding on the key x is what is found there
  found_on_sound : (x : List ℕ) (f : Finding) → Contains (found_on J x Q) f → IsFindingOn J x Q f
  found_on_sound x f c =
      let m = Contains-from_map (finding_at x) (flat_map (kinds_of J Q) Q.parts) f c in
      (ap (λ g. g.key) (sym m.2), subst (λ k. IsFoundOn J Q k) (ap (λ g. g.kind) m.2) (found_sound m.0 m.1))

  found_on_complete : (x : List ℕ) (f : Finding) → IsFindingOn J x Q f → Contains (found_on J x Q) f
  found_on_complete x f is =
      let at = Contains-map (finding_at x) (flat_map (kinds_of J Q) Q.parts) f.kind (found_complete f.kind is.1) in
      let same : finding_at x f.kind ≡ f = λ i. record { key = sym is.0 i; kind = f.kind } in
      subst (λ g. Contains (found_on J x Q) g) same at

  -- the findings on one key
  pub key_findings_exact : (x : List ℕ) → IsListOf finding_cmp (IsFindingOn J x Q) (findings_on J x Q)
  unfolding findings_on
  key_findings_exact x = record {
    ascends = sorted-in_order findings_total (found_on J x Q);
    sound = λ f c. found_on_sound x f (Contains-from_in_order findings_total (found_on J x Q) f c);
    complete = λ f is. Contains-in_order findings_total exact_findings (found_on J x Q) f (found_on_complete x f is);
  }

-- ---- the findings on all keys

-- what is found on a key is found there, at a part
found_at_part : (P : Present) (x : List ℕ) (f : Finding) → Contains (found_at P x) f → (f.key ≡ x) × ((T : Part) × Contains (parts x P.txns) T)
unfolding found_at
found_at_part P x f c =
    let kinds = kinds_of cases (on_key x P) in
    let m = Contains-from_map (finding_at x) (flat_map kinds (parts x P.txns)) f c in
    let T = Contains-from_flat_map kinds (parts x P.txns) m.0 m.1 in
    (ap (λ g. g.key) (sym m.2), (T.0, T.1))

-- what is found at a key is among the findings, and the other way round
among_all : (P : Present) (x : List ℕ) (f : Finding) → Contains (found_at P x) f → Contains (findings P) f
unfolding findings
among_all P x f c =
    let T = (found_at_part P x f c).1 in
    Contains-in_order findings_total exact_findings (flat_map (found_at P) (keys P.txns)) f (Contains-flat_map (found_at P) (keys P.txns) x f ((keys_exact P.txns).complete x (key_of_part P.txns x T.0 T.1)) c)

at_its_key : (P : Present) (f : Finding) → Contains (findings P) f → Contains (found_at P f.key) f
unfolding findings
at_its_key P f c =
    let all = flat_map (found_at P) (keys P.txns) in
    let m = Contains-from_flat_map (found_at P) (keys P.txns) f (Contains-from_in_order findings_total all f c) in
    subst (λ x. Contains (found_at P x) f) (sym (found_at_part P m.0 f m.2).0) m.2

ascending : (P : Present) → IsStrictlySortedBy finding_cmp (findings P)
unfolding findings
ascending P = sorted-in_order findings_total (flat_map (found_at P) (keys P.txns))

pub findings_exact : (P : Present) → IsHistory P → IsListOf finding_cmp (IsFinding P) (findings P)
unfolding found_at
findings_exact P h = record {
  ascends = ascending P;
  sound = λ f c. (found_on_sound cases (on_key f.key P) (key_of_history P f.key h) f.key f (at_its_key P f c)).1;
  complete = λ f is. among_all P f.key f (found_on_complete cases (on_key f.key P) (key_of_history P f.key h) f.key f (refl, is));
}

pub keys_are_apart : (P : Present) (x : List ℕ) → filter (λ f. same_key f.key x) (findings P) ≡ findings_on cases x (on_key x P)
unfolding findings_on found_at
keys_are_apart P x =
    let on : Finding → Bool = λ f. same_key f.key x in
    same_sorted findings_total (filter on (findings P)) (in_order finding_cmp (found_at P x))
    (IsStrictlySortedBy-filter finding_cmp on (findings P) (ascending P))
    (sorted-in_order findings_total (found_at P x))
    (λ f c. let m = Contains-from_filter on (findings P) f c in
    Contains-in_order findings_total exact_findings (found_at P x) f (subst (λ y. Contains (found_at P y) f) (same_key_is f.key x m.1) (at_its_key P f m.0)))
    (λ f c. let d = Contains-from_in_order findings_total (found_at P x) f c in
    Contains-filter on (findings P) f (among_all P x f d) (same_key_from f.key x (found_at_part P x f d).0))
