-- The notes of the journal as they are added, let go and asked for.
use Rattle.std.proofs.Common.{◌≡◌, ◌∙◌, ◌⊎◌, inl, inr, ℕ, zero, suc, true, false, cond, nat_eq, List, [], ◌∷◌, ◌++◌, length, take, Option, Some, None, refl, sym, ap, subst, arith, slice_get, length-append}
use Rattle.std.specs.Prelude.{nat_lt}
use Rattle.std.specs.HashMap.{get}
use Rattle.std.proofs.Math.Seq.{take-append_seam}
use Rattle.std.proofs.lemmas.Bool.Decides.{nat_tests}
use Rattle.std.proofs.lemmas.List.{take-append-le}
use Rattle.std.proofs.lemmas.Option.{slice_get_within}
use Rattle.si_lists.proofs.Members.{same_some}
use Rattle.si_model.specs.declared.edits.Edit.{Edit}
use Rattle.si_model.specs.declared.edits.Edit.TheVariants as edit
use Rattle.si_model.specs.declared.numbers.TxnId.{TxnId}
use Rattle.si_model.specs.declared.numbers.Value.{Value}
use Rattle.si_model.specs.declared.transactions.Outcome.{Outcome}
use Rattle.si_model.specs.declared.transactions.Txn.{Txn}
use Rattle.si_model.specs.Journals.{present}
use Rattle.si_model.specs.Parts.{Present}
use Rattle.si_accept.specs.declared.notes.Notes.{Notes}
use Rattle.si_accept.specs.Notes.{AreNotes, IsNoted, noted_at, txn_before}

-- what stands at a place of a longer list stood there before, or is the last
pushed_at : {X : Type 0} (xs : List X) (x y : X) (p : ℕ) → slice_get (xs ++ x ∷ []) p ≡ Some y → (slice_get xs p ≡ Some y) ⊎ ((p ≡ length xs) × (x ≡ y))
pushed_at [] x y zero e = inr (refl, same_some e)
pushed_at [] x y (suc p) e = cc
pushed_at (z ∷ xs) x y zero e = inl e
pushed_at (z ∷ xs) x y (suc p) e = elim (pushed_at xs x y p e) [ inl b ↦ inl b | inr b ↦ inr (ap suc b.0, b.1) ]

-- the journal grows by the edit for which that was noted
pub noted_longer : (J : List Edit) (e : Edit) (n : Notes) → AreNotes J n → IsNoted (present J) e (noted_at n (length J)) → AreNotes (J ++ e ∷ []) n
noted_longer J e n are here = record {
  order = are.order;
  within = omega (arith, length-append J (e ∷ []), are.within);
  exact = λ p f low at. elim (pushed_at J e f p at) [
    | inl b ↦ (let lt = slice_get_within J p f b in
        subst (λ l. IsNoted (present l) f (noted_at n p)) (sym (take-append-le p J (e ∷ []) (omega arith))) (are.exact p f low b))
    | inr b ↦ subst (λ l. IsNoted (present l) f (noted_at n p)) (sym (ap (λ q. take q (J ++ e ∷ [])) b.0 ∙ take-append_seam J (e ∷ [])))
        (subst (λ q. IsNoted (present J) f (noted_at n q)) (sym b.0) (subst (λ g. IsNoted (present J) g (noted_at n (length J))) b.1 here))
  ];
}

-- the older notes are let go, and the newer ones are the older
pub noted_fewer : (J : List Edit) (old new : Notes) → AreNotes J old → new.from ≡ old.middle → new.middle ≡ length J → new.older ≡ old.newer → AreNotes J new
noted_fewer J old new are from middle older = record {
  order = (let w = are.within in omega arith);
  within = omega arith;
  exact = λ p e low at.
      (let lt = slice_get_within J p e at in
      let o = are.order in
      let now : nat_lt p new.middle ≡ true = (let m = middle in grind (arith, nat_tests)) in
      let was : nat_lt p old.middle ≡ false = (let f = from in grind (arith, nat_tests)) in
      let same : noted_at new p ≡ noted_at old p =
      ap (λ b. cond b (get nat_eq new.older p) (get nat_eq new.newer p)) now ∙ ap (λ m. get nat_eq m p) older
      ∙ sym (ap (λ b. cond b (get nat_eq old.older p) (get nat_eq old.newer p)) was) in
      subst (IsNoted (present (take p J)) e) (sym same) (are.exact p e (omega arith) at));
}

-- what is noted for a resolution or a withdrawal is its transaction, and other edits have none
module _ (P : Present) (d e : Edit) (same : d ≡ e) where
  pub told_noted : (noted : Option Txn) → ((u : TxnId) × (o : Outcome) × (d ≡ edit.Resolve u o)) ⊎ ((u : TxnId) × (d ≡ edit.Withdraw u)) → IsNoted P e noted → noted ≡ txn_before P e
  told_noted noted (inl k) h = subst (λ f. IsNoted P f noted → noted ≡ txn_before P f) (sym k.2 ∙ same) (λ q. q) h
  told_noted noted (inr k) h = subst (λ f. IsNoted P f noted → noted ≡ txn_before P f) (sym k.1 ∙ same) (λ q. q) h

  pub told_none : ((T : Txn) × (d ≡ edit.Arrive T)) ⊎ ((x : List ℕ) × (v : Value) × (d ≡ edit.SetUp x v)) → None ≡ txn_before P e
  told_none (inl k) = subst (λ f. None ≡ txn_before P f) (sym k.1 ∙ same) refl
  told_none (inr k) = subst (λ f. None ≡ txn_before P f) (sym k.2 ∙ same) refl
