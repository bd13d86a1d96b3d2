-- Who doesn't write a key installs no version of it.
use Rattle.std.proofs.Common.{◌≡◌, ℕ, Bool, true, false, not, List, Option, Some, None, refl, sym, ap, subst, ◌∙◌}
use Rattle.std.specs.Bool.{Decides}
use Rattle.std.specs.List.{Contains, list_all}
use Rattle.si_model.specs.declared.numbers.Stamp.{Stamp}
use Rattle.si_model.specs.declared.numbers.Value.{Value}
use Rattle.si_model.specs.declared.parts.Access.TheVariants as access
use Rattle.si_model.specs.declared.sights.Installer.{Installer}
use Rattle.si_model.specs.declared.sights.VersionId.{VersionId}
use Rattle.si_model.specs.declared.transactions.Txn.{Txn}
use Rattle.si_model.specs.History.{WritesPairAt}
use Rattle.si_graph.specs.EvidenceTests.{install_on, is_between, stays_out, write_key}
use Rattle.si_graph.specs.Laws.{ModelLaws}
use Rattle.si_graph.specs.Writers.{HaveWriters, WritersAreEnough}
use Rattle.si_lists.proofs.Tests.{all_at, all_from}
use Rattle.si_graph.proofs.OnKeys.{op_at, install_exact}
use Rattle.si_graph.proofs.UnstampedDecided.{write_decides}

same_truth : (b c : Bool) → (b ≡ true → c ≡ true) → (c ≡ true → b ≡ true) → b ≡ c
same_truth true c to from = sym (to refl)
same_truth false true to from = from refl
same_truth false false to from = refl

pub writers_are_enough : ModelLaws → WritersAreEnough
writers_are_enough laws x a c txns some have =
    same_truth (list_all out some) (list_all out txns)
    (λ e. all_from out txns (λ T t. by T t (write_key x T.ops) refl e))
    (λ e. all_from out some (λ T s. all_at out txns T e (have.within T s)))
  where
    out : Txn → Bool
    out = stays_out x a c

    -- an installer writes
    writes : (T : Txn) (n : Installer) → install_on x T ≡ Some n → (i : ℕ) × (w : Value) × WritesPairAt T i x w
    writes T n e =
        let is = ((install_exact laws x T n).0 e).writes in
        (is.1.0, is.0, op_at laws x T.ops (record { place = is.1.0; access = access.Write is.0 }) is.1.1)

    none : (T : Txn) → write_key x T.ops ≡ false → (o : Option Installer) → install_on x T ≡ o → not (is_between a c o) ≡ true
    none T e None i = refl
    none T e (Some n) i = (let w = writes T n i in let yes = (write_decides laws x T.ops).1 (w.0, w.1, w.2) in cc)

    by : (T : Txn) → Contains txns T → (b : Bool) → write_key x T.ops ≡ b → list_all out some ≡ true → out T ≡ true
    by T t true e all = let w = (write_decides laws x T.ops).0 e in all_at out some T all (have.writers T w.0 w.1 t w.2)
    by T t false e all = none T e (install_on x T) refl
