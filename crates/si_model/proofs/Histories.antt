-- What is on a key of a history is of a history, and of what is on it.
use Rattle.std.proofs.Common.{◌≡◌, inl, inr, ◌↔◌, ℕ, ◌<◌, ◌≤◌, List, Some, None, refl, sym, ap, subst, ◌∙◌}
use Rattle.std.specs.List.{Contains, AllPairs, find}
use Rattle.std.specs.Option.{option_map}
use Rattle.si_model.specs.declared.numbers.TxnId.{TxnId}
use Rattle.si_model.specs.declared.numbers.Stamp.{Stamp}
use Rattle.si_model.specs.declared.numbers.Value.{Value}
use Rattle.si_model.specs.declared.transactions.Status.TheVariants as status
use Rattle.si_model.specs.declared.transactions.Txn.{Txn}
use Rattle.si_model.specs.declared.parts.Part.{Part}
use Rattle.si_model.specs.declared.parts.OnKey.{OnKey}
use Rattle.si_model.specs.declared.sights.Installer.{Installer}
use Rattle.si_model.specs.Operations.{same_key}
use Rattle.si_model.specs.Parts.{Present, part, set_up_value, on_key}
use Rattle.si_model.specs.Versions.{commit_of, Writes, Installs}
use Rattle.si_model.specs.History.{IsHistory, IsOfHistory, WritesSome}
use Rattle.si_model.specs.Edits.{same_id, with_id}
use Rattle.si_model.specs.Laws.{IsPartOf, PartsAreApart}
use Rattle.si_lists.proofs.Members.{same_some}
use Rattle.si_lists.proofs.Names.{Differ, same_named, names_filter_map}
use Rattle.si_lists.proofs.Tests.{find-Some, find-None, find_only, none_mapped, mapped_some}
use Rattle.si_model.proofs.Equalities.{same_id_is, same_id_from, same_id_or_not, same_key_is, same_key_from}
use Rattle.si_model.proofs.KeyParts.{Rise, part_is, parts_are, pair_from, accesses_rise}

-- ---- set-up values

-- the key of a pair
abbrev pub key_in_pair : List ℕ × Value → List ℕ
key_in_pair p = p.0

pub set_up_is : (x : List ℕ) (initial : List (List ℕ × Value)) (v : Value) → set_up_value x initial ≡ Some v → Contains initial (x, v)
unfolding set_up_value
set_up_is x initial v e =
    let found = mapped_some (λ (p : List ℕ × Value). p.1) (find (λ p. same_key p.0 x) initial) v e in
    let at = find-Some (λ p. same_key p.0 x) initial found.0 found.1 in
    let key = same_key_is found.0.0 x at.1 in
    subst (λ p. Contains initial p) (λ i. (key i, found.2 i)) at.0

pub set_up_from : (x : List ℕ) (initial : List (List ℕ × Value)) (v : Value) → AllPairs (Differ key_in_pair) initial → Contains initial (x, v) → set_up_value x initial ≡ Some v
unfolding set_up_value
set_up_from x initial v apart c =
    ap (option_map (λ (p : List ℕ × Value). p.1)) (find_only (λ p. same_key p.0 x) initial (x, v) c (same_key_from x x refl)
    (λ p d t. same_named key_in_pair initial apart p (x, v) d c (same_key_is p.0 x t)))

pub not_set_up : (x : List ℕ) (initial : List (List ℕ × Value)) → set_up_value x initial ≡ None → (v : Value) → Contains initial (x, v) → ⊥
unfolding set_up_value
not_set_up x initial e v c = cc (find-None (λ p. same_key p.0 x) initial (none_mapped (λ (p : List ℕ × Value). p.1) (find (λ p. same_key p.0 x) initial) e) (x, v) c, same_key_from x x refl)

-- ---- what is on a key of a history

-- what writes to a key writes
writes_some : (x : List ℕ) (T : Txn) (Q : Part) (v : Value) → IsPartOf x T Q → Writes Q v → WritesSome T
writes_some x T Q v is w = (w.0, x, v, pair_from x T Q w.0 v is w.1)

pub key_of_history : (P : Present) (x : List ℕ) → IsHistory P → IsOfHistory (on_key x P)
key_of_history P x h = record {
  forward = λ Q c at e. let f = (parts_are x P.txns Q).0 at in subst (λ s. s.0 ≤ c.0) (sym f.2.start) (h.forward f.0 c f.1 (ap commit_of (sym f.2.status) ∙ e));
  apart = λ Q c v at e w. let f = (parts_are x P.txns Q).0 at in
      subst (λ s. s.0 < c.0) (sym f.2.start) (h.apart f.0 c f.1 (ap commit_of (sym f.2.status) ∙ e) (writes_some x f.0 Q v f.2 w));
  names = names_filter_map (λ T. T.id) (λ Q. Q.id) (part x) (λ T Q e. (part_is x T Q e).id) P.txns h.names;
  stamps = λ A B c v a b differ e w.
      let f = (parts_are x P.txns A).0 a in
      let g = (parts_are x P.txns B).0 b in
      let s = h.stamps f.0 g.0 c f.1 g.1 (λ same. differ (f.2.id ∙ same ∙ sym g.2.id)) (ap commit_of (sym f.2.status) ∙ e) (writes_some x f.0 A v f.2 w) in
      (λ t. s.0 (t ∙ g.2.start), λ t. s.1 (ap commit_of (sym g.2.status) ∙ t));
  writes = λ A B i j v a b s t.
      let f = (parts_are x P.txns A).0 a in
      let g = (parts_are x P.txns B).0 b in
      let w = h.writes f.0 g.0 i j x v f.1 g.1 (pair_from x f.0 A i v f.2 s) (pair_from x g.0 B j v g.2 t) in
      (f.2.id ∙ w.0 ∙ sym g.2.id, w.1);
  initial = λ v Q e at w.
      let f = (parts_are x P.txns Q).0 at in
      h.initial x v f.0 w.0 (set_up_is x P.initial v e) f.1 (pair_from x f.0 Q w.0 v f.2 w.1);
  places = λ Q at. let f = (parts_are x P.txns Q).0 at in subst Rise (sym f.2.accesses) (accesses_rise x f.0.ops);
}

-- ---- one id, one value, one stamp

pub same_commit : (b c : Stamp) → status.Committed b ≡ status.Committed c → b ≡ c
same_commit b c e = same_some (ap commit_of e)

module _ (Q : OnKey) (h : IsOfHistory Q) where
  pub one_part : (A B : Part) → Contains Q.parts A → Contains Q.parts B → A.id ≡ B.id → A ≡ B
  one_part A B a b same = same_named (λ T. T.id) Q.parts h.names A B a b same

  pub one_writer : (A B : Part) (v : Value) → Contains Q.parts A → Contains Q.parts B → Writes A v → Writes B v → A ≡ B
  one_writer A B v a b w u = one_part A B a b (h.writes A B w.0 u.0 v a b w.1 u.1).0

  pub one_installer : (A B : Part) (m n : Installer) → Contains Q.parts A → Contains Q.parts B → Installs A m → Installs B n → m.commit ≡ n.commit → A ≡ B
  one_installer A B m n a b i j e = elim (same_id_or_not A.id B.id) [
    | inl s ↦ one_part A B a b s
    | inr d ↦ absurd ((h.stamps A B m.commit i.writes.0 a b d (ap commit_of i.committed) i.writes.1).1 (ap commit_of j.committed ∙ ap Some (sym e)))
  ]

pub parts_apart : (Q : OnKey) → IsOfHistory Q → PartsAreApart Q
parts_apart Q h = record { ids = one_part Q h; writers = one_writer Q h; installers = one_installer Q h }

pub id_found : (P : Present) (u : TxnId) (T : Txn) → IsHistory P → (with_id P.txns u ≡ Some T) ↔ (Contains P.txns T × (T.id ≡ u))
id_found P u T h = (
  λ e. (let f = find-Some (λ U. same_id U.id u) P.txns T e in (f.0, same_id_is T.id u f.1)),
  λ f. find_only (λ U. same_id U.id u) P.txns T f.0 (same_id_from T.id u f.1) (λ U c t. same_named (λ V. V.id) P.txns h.names U T c f.0 (same_id_is U.id u t ∙ sym f.1)),
)
