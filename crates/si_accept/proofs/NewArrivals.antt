-- An arrival that nothing stands against is new to the indexes.
use Rattle.std.proofs.Common.{◌≡◌, ℕ, Bool, true, List, Option, Some, None, sym, ap, subst, ◌∙◌, cond, slice_get}
use Rattle.std.specs.Option.{is_some}
use Rattle.std.proofs.lemmas.Bool.{false_from_ne_true}
use Rattle.si_model.specs.declared.numbers.Stamp.{Stamp}
use Rattle.si_model.specs.declared.operations.Op.{Op}
use Rattle.si_model.specs.declared.transactions.Txn.{Txn}
use Rattle.si_model.specs.declared.refusals.Refusal.TheVariants as refusal
use Rattle.si_model.specs.Operations.{same_write}
use Rattle.si_model.specs.Parts.{Present, writes_some}
use Rattle.si_model.specs.Versions.{commit_of}
use Rattle.si_model.specs.Edits.{with_id, writer_of_pair, order_refusal, start_refusal, commit_refusal, first_at, twice_at, taken_at, IsFirst, arrival_refusal}
use Rattle.si_model.proofs.Equalities.{same_write_is}
use Rattle.si_lists.proofs.Members.{contains_get}
use Rattle.si_lists.proofs.Tests.{any_is, none_both, none_mapped, not_chosen, is_none}
use Rattle.si_accept.specs.Stamps.{has, LacksPerhaps}
use Rattle.si_accept.specs.Writers.{AreFree}
use Rattle.si_accept.specs.Indexes.{Indexes, AreIndexes, LacksTxn, CommitsAt, IsExact, install_of, other_of}
use Rattle.si_accept.proofs.IndexFinds.{writer_is}
use Rattle.si_accept.proofs.IndexChanges.{id_is_new}

pub id_of_arrival : (P : Present) (T : Txn) → arrival_refusal P T ≡ None → with_id P.txns T.id ≡ None
id_of_arrival P T e = is_none (with_id P.txns T.id) (not_chosen (is_some (with_id P.txns T.id)) refusal.IdPresent (none_both _ _ e).0)

none_taken : (P : Present) (T : Txn) → arrival_refusal P T ≡ None → first_at (taken_at P.txns) 0 T.ops ≡ None
none_taken P T e =
    let order = (none_both (cond (is_some (with_id P.txns T.id)) (Some refusal.IdPresent) None) _ e).1 in
    let start = (none_both (order_refusal (writes_some T) T.start (commit_of T.status)) _ order).1 in
    let commit = (none_both (start_refusal P.txns T.start) _ start).1 in
    let twice = (none_both (commit_refusal P.txns (writes_some T) (commit_of T.status)) _ commit).1 in
    let taken = (none_both (first_at (twice_at T.ops) 0 T.ops) _ twice).1 in
    (none_both (first_at (taken_at P.txns) 0 T.ops) _ taken).0

pub lacks_arrival : (P : Present) (I : Indexes) (T : Txn) → AreIndexes P.txns I → arrival_refusal P T ≡ None → IsFirst (taken_at P.txns) T.ops (first_at (taken_at P.txns) 0 T.ops) → LacksTxn T I
lacks_arrival P I T h e first = record {
  start = false_from_ne_true (has I.starts T.start T.id) (λ t. let r = (h.starts (T.start, T.id)).0 t in id_is_new P.txns T r.0 (id_of_arrival P T e) r.1 r.2.1);
  install = lacks install_of I.installs h.installs (install_of (writes_some T) (commit_of T.status));
  other = lacks other_of I.others h.others (other_of (writes_some T) (commit_of T.status));
  pairs = pairs;
}
  where
    lacks : (choice : Bool → Option Stamp → Option Stamp) (H : List (ℕ × ℕ)) → IsExact (λ k. has H k.0 k.1 ≡ true) (CommitsAt choice) P.txns → (o : Option Stamp) → LacksPerhaps o T.id H
    lacks choice H exact None = tt
    lacks choice H exact (Some c) = false_from_ne_true (has H c T.id) (λ t. let r = (exact (c, T.id)).0 t in id_is_new P.txns T r.0 (id_of_arrival P T e) r.1 r.2.1)

    free : (i : ℕ) (q : Op) → slice_get T.ops i ≡ Some q → taken_at P.txns i q ≡ None
    free = subst (IsFirst (taken_at P.txns) T.ops) (none_taken P T e) first

    pairs : AreFree T.ops I.written
    pairs q t =
        let r = any_is (same_write q) T.ops t in
        let at = contains_get T.ops r.0 r.1 in
        let w = same_write_is q r.0 r.2 in
        let same = w.3 ∙ sym w.2 in
        writer_is P.txns I h q ∙ none_mapped (λ u. refusal.ValueTaken at.0 u) (writer_of_pair q P.txns) (free at.0 q (at.1 ∙ ap Some same))
