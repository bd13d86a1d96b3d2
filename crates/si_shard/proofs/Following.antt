-- Shards that follow a journal.
use Rattle.std.proofs.Common.{◌≡◌, ◌∙◌, ◌+◌, ℕ, zero, suc, List, [], ◌∷◌, ◌++◌, length, take, Option, Some, refl, sym, ap, subst, arith, slice_get, length-append}
use Rattle.std.proofs.Math.Seq.{take-append_seam}
use Rattle.std.proofs.lemmas.List.{take-append-le}
use Rattle.std.proofs.lemmas.Option.{slice_get_within}
use Rattle.si_lists.proofs.Members.{same_some}
use Rattle.si_model.specs.declared.edits.Edit.{Edit}
use Rattle.si_model.specs.declared.transactions.Txn.{Txn}
use Rattle.si_model.specs.Journals.{IsAccepted, present}
use Rattle.si_accept.specs.Notes.{txn_before}
use Rattle.si_shard.specs.declared.journal_shards.JournalShard.{JournalShard}
use Rattle.si_shard.specs.declared.told_edits.ToldEdit.{ToldEdit}
use Rattle.si_shard.specs.AppliedEdits.{AreSettled, IsNext}
use Rattle.si_shard.specs.JournalShards.{Follows}
use Rattle.si_shard.specs.ToldEdits.{AreTold, IsToldAt}
use Rattle.si_shard.proofs.Beginnings.{beginning_accepted}

-- the edits up to one are those before it and that one
pub taken_next : {X : Type 0} (xs : List X) (p : ℕ) (x : X) → slice_get xs p ≡ Some x → take p xs ++ x ∷ [] ≡ take (p + 1) xs
taken_next xs p x at = by xs p at ∙ ap (λ n. take n xs) (let one : suc p ≡ p + 1 = omega arith in one)
  where
    by : (ys : List _) (q : ℕ) → slice_get ys q ≡ Some x → take q ys ++ x ∷ [] ≡ take (suc q) ys
    by [] q e = cc
    by (y ∷ ys) zero e = ap (λ z. z ∷ []) (sym (same_some e))
    by (y ∷ ys) (suc q) e = ap (λ l. y ∷ l) (by ys q e)

-- the edit of the journal that is told comes next
pub is_next : (J : List Edit) (p : ℕ) (e : Edit) (before : Option Txn) → IsAccepted J → slice_get J p ≡ Some e → before ≡ txn_before (present (take p J)) e → IsNext (take p J) e before
is_next J p e before accepted at is = record { accepted = subst IsAccepted (sym (taken_next J p e at)) (beginning_accepted J (p + 1) accepted); before_is = is }

-- a journal grows
pub follows_longer : (J more : List Edit) (s : JournalShard) → Follows J s → Follows (J ++ more) s
follows_longer J more s f = record {
  shard = f.shard;
  within = omega (arith, f.within, length-append J more);
  whole = λ e. subst (λ l. AreSettled s.id l s.applied) (sym (take-append-le s.position J more f.within)) (f.whole e);
}

-- what is told of a journal is so once it grows
pub told_longer : (J more : List Edit) (p : ℕ) (t : ToldEdit) → IsToldAt J p t → IsToldAt (J ++ more) p t
told_longer J more p t is = record {
  edit = stays J p t.edit is.edit;
  before = is.before ∙ ap (λ l. txn_before (present l) t.edit) (sym (take-append-le p J more (let l = slice_get_within J p t.edit is.edit in omega arith)));
}
  where
    stays : (xs : List Edit) (q : ℕ) (e : Edit) → slice_get xs q ≡ Some e → slice_get (xs ++ more) q ≡ Some e
    stays [] q e at = cc
    stays (x ∷ xs) zero e at = at
    stays (x ∷ xs) (suc q) e at = stays xs q e at

-- the edit that comes last is told
pub told_next : (stored : List Edit) (e : Edit) (p : ℕ) (t : ToldEdit) → p ≡ length stored → t.edit ≡ e → t.before ≡ txn_before (present stored) e → AreTold (stored ++ e ∷ []) p (t ∷ [])
told_next stored e p t far edit before = record {
  within = omega (arith, length-append stored (e ∷ []));
  each = λ i u at. by i u at;
}
  where
    last : (xs : List Edit) → slice_get (xs ++ e ∷ []) (length xs) ≡ Some e
    last [] = refl
    last (x ∷ xs) = last xs

    here : p + 0 ≡ length stored
    here = omega arith

    first : take (p + 0) (stored ++ e ∷ []) ≡ stored
    first = ap (λ n. take n (stored ++ e ∷ [])) here ∙ take-append_seam stored (e ∷ [])

    by : (i : ℕ) (u : ToldEdit) → slice_get (t ∷ []) i ≡ Some u → IsToldAt (stored ++ e ∷ []) (p + i) u
    by zero u at = subst (IsToldAt (stored ++ e ∷ []) (p + 0)) (same_some at) (record {
      edit = ap (slice_get (stored ++ e ∷ [])) here ∙ last stored ∙ ap Some (sym edit);
      before = before ∙ ap (txn_before (present stored)) (sym edit) ∙ ap (λ l. txn_before (present l) t.edit) (sym first);
    })
    by (suc i) u at = cc
