-- Of a history, who installs a value is its writer, if that one installs it.
use Rattle.std.proofs.Common.{◌≡◌, ℕ, Bool, true, false, List, Option, Some, None, option_map, refl, sym, ap, subst, cond}
use Rattle.std.specs.Bool.{Decides}
use Rattle.std.specs.List.{Contains, find}
use Rattle.std.proofs.lemmas.Bool.Decides.{Decides-and}
use Rattle.si_model.specs.declared.numbers.Value.{Value}
use Rattle.si_model.specs.declared.operations.Op.TheVariants as op
use Rattle.si_model.specs.declared.parts.Access.TheVariants as access
use Rattle.si_model.specs.declared.transactions.Txn.{Txn}
use Rattle.si_model.specs.Parts.{Present, writes_pair_of, accesses}
use Rattle.si_model.specs.Versions.{last_write}
use Rattle.si_model.specs.History.{WritesPairAt, IsHistory}
use Rattle.si_graph.specs.EvidenceTests.{installs_value, installer_of}
use Rattle.si_graph.specs.Installers.{if_installer, installer_with, InstallerIsWriter}
use Rattle.si_graph.specs.Laws.{ModelLaws}
use Rattle.si_lists.proofs.Names.{same_named}
use Rattle.si_lists.proofs.Tests.{find-Some, find-None, find_none}
use Rattle.si_graph.proofs.OnKeys.{op_at, access_at, writes_decides, last_decides, last_is}
use Rattle.si_graph.proofs.EdgesDecided.{HasCommitted, committed_decides}

module _ (laws : ModelLaws) (P : Present) (h : IsHistory P) (x : List ℕ) (v : Value) where
  abbrev writes : Txn → Bool
  writes T = writes_pair_of (op.Write x v) T

  installs_decides : (T : Txn) → Decides (installs_value x v T) (HasCommitted T × (last_write (accesses x T.ops) ≡ Some v))
  installs_decides T = Decides-and _ _ (committed_decides T) (last_decides laws x v T)

  written : (T : Txn) → Contains P.txns T → installs_value x v T ≡ true → (i : ℕ) × WritesPairAt T i x v
  written T t e =
      let is = (installs_decides T).0 e in
      let l = last_is laws x P h T v t is.0.0 is.0.1 is.1 in
      (l.place, l.is)

  pair_at : (T : Txn) → writes T ≡ true → (i : ℕ) × WritesPairAt T i x v
  pair_at T e = let w = (writes_decides laws x v T).0 e in (w.0, op_at laws x T.ops (record { place = w.0; access = access.Write v }) w.1)

  pair_of : (T : Txn) (i : ℕ) → WritesPairAt T i x v → writes T ≡ true
  pair_of T i e = (writes_decides laws x v T).1 (i, access_at laws x T.ops i (access.Write v) e)

  one : (A B : Txn) → Contains P.txns A → Contains P.txns B → (i j : ℕ) → WritesPairAt A i x v → WritesPairAt B j x v → A ≡ B
  one A B a b i j p q = same_named (λ (T : Txn). T.id) P.txns h.names A B a b (h.writes A B i j x v a b p q).0

  -- the writer is T
  module _ (T : Txn) (s : find writes P.txns ≡ Some T) where
    at : Contains P.txns T
    at = (find-Some writes P.txns T s).0

    place : (i : ℕ) × WritesPairAt T i x v
    place = pair_at T (find-Some writes P.txns T s).1

    same : (U : Txn) → Contains P.txns U → installs_value x v U ≡ true → U ≡ T
    same U u e = let w = written U u e in one U T u at w.0 place.0 w.1 place.1

    found : installs_value x v T ≡ true → (o : Option Txn) → find (installs_value x v) P.txns ≡ o → o ≡ Some T
    found e None n = (let never = find-None (installs_value x v) P.txns n T at in cc)
    found e (Some U) n = (let g = find-Some (installs_value x v) P.txns U n in ap Some (same U g.0 g.1))

    decided : (b : Bool) → installs_value x v T ≡ b → installer_of P.txns x v ≡ cond b (Some T) None
    decided true e = found e (find (installs_value x v) P.txns) refl
    decided false e = find_none (installs_value x v) P.txns (λ y c i. (let is = subst (λ U. installs_value x v U ≡ true) (same y c i) i in cc))

    by_one : installer_of P.txns x v ≡ if_installer x v (Some T)
    by_one = decided (installs_value x v T) refl

  by_writer : (o : Option Txn) → find writes P.txns ≡ o → installer_of P.txns x v ≡ installer_with P.txns x v (option_map (λ T. T.id) o)
  by_writer None s = find_none (installs_value x v) P.txns (λ y c e. (let w = written y c e in let never = find-None writes P.txns s y c in let yes = pair_of y w.0 w.1 in cc))
  by_writer (Some T) s = subst (λ o. installer_of P.txns x v ≡ if_installer x v o) (sym ((laws.ids P T.id T h).1 (at T s, refl))) (by_one T s)

pub installer_is_writer : ModelLaws → InstallerIsWriter
installer_is_writer laws P x v h = by_writer laws P h x v (find (writes_pair_of (op.Write x v)) P.txns) refl
