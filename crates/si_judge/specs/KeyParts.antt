-- The transactions on a key, kept under their ids. All of it is this project's choice.
use Rattle.std.specs.Prelude.{◌≢◌, ◌≡◌, ◌↔◌, ◌⊎◌, List}
use Rattle.std.specs.Ordering.{nat_cmp}
use Rattle.std.specs.declared.cmp.Ordering.{Ordering}
use Rattle.std.specs.BTreeMap.{BTreeMap, IsOrdered}
use Rattle.std.specs.List.{AllPairs, Contains}
use Rattle.si_model.specs.declared.numbers.TxnId.{TxnId}
use Rattle.si_model.specs.declared.parts.Part.{Part}

-- ids in the order of their numbers
abbrev pub id_cmp : TxnId → TxnId → Ordering
id_cmp u w = nat_cmp u.0 w.0

-- each stands under its id
abbrev pub AreUnderIds : List (TxnId × Part) → Type 0
AreUnderIds es = (e : TxnId × Part) → Contains es e → e.0 ≡ e.1.id

-- the transactions are in the order of their ids, each under its own
pub record AreById (m : BTreeMap TxnId Part) : Type 0 where
  pub ordered : IsOrdered id_cmp m
  pub under : AreUnderIds m.entries

-- no two have one id
abbrev pub AreNamedApart : List Part → Type 0
AreNamedApart parts = AllPairs (λ A B. A.id ≢ B.id) parts

-- T is gone, which alone had its id, and the others are left
pub record IsLeftBy (T : Part) (old new : List Part) : Type 0 where
  pub absent : (X : Part) → Contains new X → X.id ≢ T.id
  pub parts : (X : Part) → Contains old X ↔ (Contains new X ⊎ (X ≡ T))
