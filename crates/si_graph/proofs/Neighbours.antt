-- The tests decide which version of a key is next after another.
use Rattle.std.proofs.Common.{◌≡◌, ℕ, ◌<◌, ◌≤◌, not, List, Option, Some, None, refl, sym, ap, subst, arith}
use Rattle.std.specs.Bool.{Decides}
use Rattle.std.specs.List.{Contains}
use Rattle.std.proofs.lemmas.Bool.Decides.{Decides-ltb, Decides-not, Decides-and, Decides-like}
use Rattle.si_model.specs.declared.numbers.Stamp.{Stamp}
use Rattle.si_model.specs.declared.transactions.Txn.{Txn}
use Rattle.si_model.specs.declared.sights.Installer.{Installer}
use Rattle.si_model.specs.declared.sights.VersionId.{VersionId}
use Rattle.si_model.specs.declared.sights.VersionId.TheVariants as version
use Rattle.si_model.specs.Parts.{Present, on_key}
use Rattle.si_model.specs.Versions.{IsInstaller, IsAfter, IsNext, is_after}
use Rattle.si_graph.specs.EvidenceTests.{install_on, is_between, stays_out, is_next_on, follows, are_neighbours}
use Rattle.si_graph.specs.Laws.{ModelLaws}
use Rattle.si_lists.proofs.Members.{same_some}
use Rattle.si_graph.proofs.ListTests.{all_decides}
use Rattle.si_graph.proofs.OnKeys.{installer_in, installer_from}

after_decides : (a : VersionId) (c : Stamp) → Decides (is_after a c) (IsAfter a c)
after_decides version.Initial c = (λ e. tt, λ e. refl)
after_decides (version.Installed b) c = Decides-ltb b.0 c.0

-- what is installed after the version, if anything, isn't installed before the commit c
abbrev IsOutside : VersionId → Stamp → Option Installer → Type 0
IsOutside a c o = (m : Installer) → o ≡ Some m → IsAfter a m.commit → c.0 ≤ m.commit.0

outside_decides : (a : VersionId) (c : Stamp) (o : Option Installer) → Decides (not (is_between a c o)) (IsOutside a c o)
outside_decides a c None = (λ e m f. cc, λ f. refl)
outside_decides a c (Some n) = Decides-like _
    (λ out m e after. (let same : n.commit.0 ≡ m.commit.0 = ap (λ k. k.commit.0) (same_some e) in let le : (m.commit.0 < c.0 → ⊥) = λ lt. out (subst (λ k. IsAfter a k.commit) (sym (same_some e)) after, omega (arith, same, lt)) in omega (arith, le)))
    (λ f both. (let far = f n refl both.0 in let near = both.1 in omega (arith, far, near)))
    (Decides-not _ (Decides-and _ _ (after_decides a n.commit) (Decides-ltb n.commit.0 c.0)))

module _ (laws : ModelLaws) (P : Present) where
  next_decides : (x : List ℕ) (a : VersionId) (n : Installer) → IsInstaller (on_key x P) n → Decides (is_next_on P.txns x a n.commit) (IsNext (on_key x P) a n)
  next_decides x a n is = Decides-like _
      (λ both. record { installs = is; after = both.0; first = λ m i after. (let f = installer_from laws x P m i in both.1 f.0 f.1 m f.2 after) })
      (λ next. (next.after, λ T t m e after. next.first m (installer_in laws x P T m t e) after))
      (Decides-and _ _ (after_decides a n.commit) (all_decides (stays_out x a n.commit) (λ T. IsOutside a n.commit (install_on x T)) (λ T. outside_decides a n.commit (install_on x T)) P.txns))

  -- B installs the version next after another
  abbrev pub Follows : List ℕ → VersionId → Txn → Type 0
  Follows x a B = (n : Installer) × (install_on x B ≡ Some n) × IsNext (on_key x P) a n

  pub follows_decides : (x : List ℕ) (a : VersionId) (B : Txn) → Contains P.txns B → Decides (follows P.txns x a (install_on x B)) (Follows x a B)
  follows_decides x a B b = by (install_on x B) refl
    where
      by : (o : Option Installer) → install_on x B ≡ o → Decides (follows P.txns x a o) ((n : Installer) × (o ≡ Some n) × IsNext (on_key x P) a n)
      by None s = (λ e. cc, λ r. (let f = r.1 in cc))
      by (Some n) s = Decides-like _ (λ next. (n, refl, next)) (λ r. subst (IsNext (on_key x P) a) (sym (same_some r.1)) r.2) (next_decides x a n (installer_in laws x P B n b s))

  -- A and B install neighbouring versions
  abbrev pub AreNeighbours : List ℕ → Txn → Txn → Type 0
  AreNeighbours x A B = (m : Installer) × (install_on x A ≡ Some m) × Follows x (version.Installed m.commit) B

  pub neighbours_decide : (x : List ℕ) (A B : Txn) → Contains P.txns B → Decides (are_neighbours P.txns x (install_on x A) (install_on x B)) (AreNeighbours x A B)
  neighbours_decide x A B b = by (install_on x A)
    where
      by : (o : Option Installer) → Decides (are_neighbours P.txns x o (install_on x B)) ((m : Installer) × (o ≡ Some m) × Follows x (version.Installed m.commit) B)
      by None = (λ e. cc, λ r. (let f = r.1 in cc))
      by (Some m) = Decides-like _ (λ f. (m, refl, f)) (λ r. subst (λ k. Follows x (version.Installed k.commit) B) (sym (same_some r.1)) r.2) (follows_decides x (version.Installed m.commit) B b)
