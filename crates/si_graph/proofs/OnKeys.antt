-- What transactions do on one key, said of the transactions and of the parts.
use Rattle.std.proofs.Common.{◌≡◌, ◌∙◌, ◌↔◌, ℕ, List, Option, Some, None, refl, ap, ap₂, subst, slice_get}
use Rattle.std.specs.Bool.{Decides}
use Rattle.std.specs.List.{Contains}
use Rattle.std.specs.Option.{option_eq}
use Rattle.std.proofs.lemmas.Bool.Decides.{Decides-and, Decides-like}
use Rattle.si_model.specs.declared.numbers.Stamp.{Stamp}
use Rattle.si_model.specs.declared.numbers.Value.{Value}
use Rattle.si_model.specs.declared.operations.Op.{Op}
use Rattle.si_model.specs.declared.operations.Op.TheVariants as op
use Rattle.si_model.specs.declared.transactions.Status.TheVariants as status
use Rattle.si_model.specs.declared.transactions.Txn.{Txn}
use Rattle.si_model.specs.declared.parts.Access.{Access}
use Rattle.si_model.specs.declared.parts.Access.TheVariants as access
use Rattle.si_model.specs.declared.parts.Placed.{Placed}
use Rattle.si_model.specs.declared.parts.Part.{Part}
use Rattle.si_model.specs.declared.sights.Installer.{Installer}
use Rattle.si_model.specs.Operations.{key_of, access_of, same_value, same_write}
use Rattle.si_model.specs.Parts.{Present, writes_pair_of, accesses, parts, on_key}
use Rattle.si_model.specs.Versions.{Writes, IsFinalWrite, Installs, IsInstaller, commit_of, last_write, install_with}
use Rattle.si_model.specs.Reads.{IsRead}
use Rattle.si_model.specs.History.{IsHistory}
use Rattle.si_graph.specs.Serial.{IsLastWrite}
use Rattle.si_graph.specs.EvidenceTests.{part_on, last_on, install_on, is_last_on}
use Rattle.si_graph.specs.Laws.{ModelLaws}
use Rattle.si_lists.proofs.Members.{same_some}
use Rattle.si_graph.proofs.ListTests.{any_decides}

-- the operation that does this to the key
abbrev pub op_with : List ℕ → Access → Op
op_with x (access.Read v) = op.Read x v
op_with x (access.Write v) = op.Write x v

op_is : (p : Op) → p ≡ op_with (key_of p) (access_of p)
op_is (op.Read x v) = refl
op_is (op.Write x v) = refl

module _ (laws : ModelLaws) where
  -- ---- accesses and parts

  pub op_at : (x : List ℕ) (ops : List Op) (a : Placed) → Contains (accesses x ops) a → slice_get ops a.place ≡ Some (op_with x a.access)
  op_at x ops a c = let f = (laws.accesses x ops a).0 c in f.1 ∙ ap Some (op_is f.0 ∙ ap₂ op_with f.2 f.3)

  pub access_at : (x : List ℕ) (ops : List Op) (i : ℕ) (a : Access) → slice_get ops i ≡ Some (op_with x a) → Contains (accesses x ops) (record { place = i; access = a })
  access_at x ops i (access.Read v) e = (laws.accesses x ops (record { place = i; access = access.Read v })).1 (op.Read x v, e, refl, refl)
  access_at x ops i (access.Write v) e = (laws.accesses x ops (record { place = i; access = access.Write v })).1 (op.Write x v, e, refl, refl)

  pub part_from : (x : List ℕ) (txns : List Txn) (Q : Part) → Contains (parts x txns) Q → (T : Txn) × Contains txns T × (Q ≡ part_on x T)
  part_from x txns Q c =
      let r = (laws.parts x txns Q).0 c in
      let p = r.2 in
      (r.0, r.1, λ i. record { id = p.id i; start = p.start i; status = p.status i; accesses = p.accesses i })

  pub part_in : (x : List ℕ) (txns : List Txn) (T : Txn) (a : Placed) → Contains txns T → Contains (accesses x T.ops) a → Contains (parts x txns) (part_on x T)
  part_in x txns T a t c = (laws.parts x txns (part_on x T)).1 (T, t, record { id = refl; start = refl; status = refl; accesses = refl; some = (a, c) })

  -- ---- reads

  -- a read of one of the transactions
  pub record IsReadBy (x : List ℕ) (P : Present) (R : Part) (i : ℕ) (v : Option Value) : Type 0 where
    pub txn : Txn
    pub at : Contains P.txns txn
    pub is : R ≡ part_on x txn
    pub committed : (c : Stamp) × (txn.status ≡ status.Committed c)
    pub found : slice_get txn.ops i ≡ Some (op.Read x v)

  pub read_by : (x : List ℕ) (P : Present) (R : Part) (i : ℕ) (v : Option Value) → IsRead (on_key x P) R i v → IsReadBy x P R i v
  read_by x P R i v r =
      let f = part_from x P.txns R r.part in
      let s = subst (λ Q. IsRead (on_key x P) Q i v) f.2 r in
      record { txn = f.0; at = f.1; is = f.2; committed = s.committed; found = op_at x f.0.ops (record { place = i; access = access.Read v }) s.returned }

  pub read_at : (x : List ℕ) (P : Present) (T : Txn) (c : Stamp) (i : ℕ) (v : Option Value) → Contains P.txns T → T.status ≡ status.Committed c → slice_get T.ops i ≡ Some (op.Read x v) → IsRead (on_key x P) (part_on x T) i v
  read_at x P T c i v t s e =
      let a = access_at x T.ops i (access.Read v) e in
      record { part = part_in x P.txns T (record { place = i; access = access.Read v }) t a; committed = (c, s); returned = a }

  -- ---- writes

  same_write_decides : (x : List ℕ) (v : Value) (p : Op) → Decides (same_write (op.Write x v) p) (p ≡ op.Write x v)
  same_write_decides x v (op.Read y w) = (λ e. cc, λ e. cc)
  same_write_decides x v (op.Write y w) = Decides-like _ (λ r. (let value = r.0 in let key = r.1 in cc)) (λ e. (cc, cc)) (Decides-and _ _ (laws.tests.values v w) (laws.tests.keys x y))

  pub writes_decides : (x : List ℕ) (v : Value) (T : Txn) → Decides (writes_pair_of (op.Write x v) T) (Writes (part_on x T) v)
  writes_decides x v T = Decides-like _
      (λ r. (r.0, access_at x T.ops r.0 (access.Write v) (r.2 ∙ ap Some r.3)))
      (λ w. (w.0, op.Write x v, op_at x T.ops (record { place = w.0; access = access.Write v }) w.1, refl))
      (any_decides (same_write (op.Write x v)) (λ p. p ≡ op.Write x v) (same_write_decides x v) T.ops)

  -- a transaction that writes to a key is among the parts of the key
  pub part_of_write : (x : List ℕ) (txns : List Txn) (T : Txn) (v : Value) → Contains txns T → Writes (part_on x T) v → Contains (parts x txns) (part_on x T)
  part_of_write x txns T v t w = part_in x txns T (record { place = w.0; access = access.Write v }) t w.1

  pub values_decide : (o p : Option Value) → Decides (option_eq same_value o p) (o ≡ p)
  values_decide None None = (λ e. refl, λ e. refl)
  values_decide None (Some w) = (λ e. cc, λ e. cc)
  values_decide (Some v) None = (λ e. cc, λ e. cc)
  values_decide (Some v) (Some w) = Decides-like _ (λ e. ap Some e) (λ e. same_some e) (laws.tests.values v w)

  pub last_decides : (x : List ℕ) (v : Value) (T : Txn) → Decides (is_last_on x v T) (last_write (accesses x T.ops) ≡ Some v)
  unfolding last_on
  last_decides x v T = values_decide (last_write (accesses x T.ops)) (Some v)

  -- ---- installers

  pub install_exact : (x : List ℕ) (T : Txn) (n : Installer) → (install_on x T ≡ Some n) ↔ Installs (part_on x T) n
  unfolding last_on
  install_exact x T n = laws.installs (part_on x T) n

  -- a committed transaction with a last write of the key installs
  pub installs_by : (x : List ℕ) (T : Txn) (c : Stamp) (v : Value) → T.status ≡ status.Committed c → last_write (accesses x T.ops) ≡ Some v → install_on x T ≡ Some (record { txn = T.id; start = T.start; commit = c })
  unfolding last_on
  installs_by x T c v s l = ap (λ t. install_with (part_on x T) (commit_of t) (last_write (accesses x T.ops))) s ∙ ap (install_with (part_on x T) (Some c)) l

  pub installer_in : (x : List ℕ) (P : Present) (T : Txn) (n : Installer) → Contains P.txns T → install_on x T ≡ Some n → IsInstaller (on_key x P) n
  installer_in x P T n t e = let is = (install_exact x T n).0 e in (part_on x T, part_of_write x P.txns T is.writes.0 t is.writes.1, is)

  pub installer_from : (x : List ℕ) (P : Present) (n : Installer) → IsInstaller (on_key x P) n → (T : Txn) × Contains P.txns T × (install_on x T ≡ Some n)
  installer_from x P n is = let f = part_from x P.txns is.0 is.1 in (f.0, f.1, (install_exact x f.0 n).1 (subst (λ Q. Installs Q n) f.2 is.2))

  -- of a history, the last write is the final one
  pub final_exact : (x : List ℕ) (P : Present) → IsHistory P → (T : Txn) (v : Value) → Contains (parts x P.txns) (part_on x T) → (last_write (accesses x T.ops) ≡ Some v) ↔ IsFinalWrite (part_on x T) v
  final_exact x P h T v c = laws.last (on_key x P) (part_on x T) v (laws.keys P x h) c

  -- of a history, a committed transaction with that last write of the key wrote it last, and the other way round
  pub last_is : (x : List ℕ) (P : Present) → IsHistory P → (A : Txn) (v : Value) → Contains P.txns A → (c : Stamp) → A.status ≡ status.Committed c → last_write (accesses x A.ops) ≡ Some v → IsLastWrite A x v
  last_is x P h A v a c s e =
      let installs = (install_exact x A (record { txn = A.id; start = A.start; commit = c })).0 (installs_by x A c v s e) in
      let part = part_of_write x P.txns A installs.writes.0 a installs.writes.1 in
      let final = (final_exact x P h A v part).0 e in
      record {
        place = final.place;
        is = op_at x A.ops (record { place = final.place; access = access.Write v }) final.is;
        last = λ j w at. final.last j w (access_at x A.ops j (access.Write w) at);
      }

  pub last_from : (x : List ℕ) (P : Present) → IsHistory P → (A : Txn) (v : Value) → Contains P.txns A → IsLastWrite A x v → last_write (accesses x A.ops) ≡ Some v
  last_from x P h A v a l =
      let at = access_at x A.ops l.place (access.Write v) l.is in
      let part = part_in x P.txns A (record { place = l.place; access = access.Write v }) a at in
      (final_exact x P h A v part).1 (record {
        place = l.place;
        is = at;
        last = λ j w is. l.last j w (op_at x A.ops (record { place = j; access = access.Write w }) is);
      })
