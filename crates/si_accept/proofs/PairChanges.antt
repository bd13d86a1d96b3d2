-- Who writes which pair, after the pairs of one transaction have another writer.
use Rattle.std.proofs.Common.{◌≡◌, ◌⊎◌, inl, inr, ◌↔◌, true, false, List, Some, None, refl, sym, ap, ◌∙◌, cond}
use Rattle.std.specs.List.{list_any}
use Rattle.si_model.specs.declared.numbers.TxnId.{TxnId}
use Rattle.si_model.specs.declared.operations.Op.{Op}
use Rattle.si_model.specs.Operations.{same_write}
use Rattle.si_lists.proofs.Members.{same_some}
use Rattle.si_accept.specs.Writers.{Written, writer_of, SetsWriters, AreFree}

pub writers_true : (ps : List Op) (u : TxnId) (W V : Written) → AreFree ps W → SetsWriters ps (Some u) W V → (k : Op × TxnId) → (writer_of V k.0 ≡ Some k.1) ↔ ((writer_of W k.0 ≡ Some k.1) ⊎ ((list_any (same_write k.0) ps ≡ true) × (u ≡ k.1)))
writers_true ps u W V free h k = elim (list_any (same_write k.0) ps) as (λ b. list_any (same_write k.0) ps ≡ b → writer_of V k.0 ≡ cond b (Some u) (writer_of W k.0) → (writer_of V k.0 ≡ Some k.1) ↔ ((writer_of W k.0 ≡ Some k.1) ⊎ ((b ≡ true) × (u ≡ k.1)))) [
  | true ↦ λ t e. (λ i. inr (refl, same_some (sym e ∙ i)), λ r. elim r [ inl w ↦ (let f = free k.0 t in cc) | inr a ↦ e ∙ ap Some a.1 ])
  | false ↦ λ t e. (λ i. inl (sym e ∙ i), λ r. elim r [ inl w ↦ e ∙ w | inr a ↦ (let f = a.0 in cc) ])
] refl (h k.0)

pub writers_false : (ps : List Op) (u : TxnId) (W V : Written) → ((q : Op) → list_any (same_write q) ps ≡ true → writer_of W q ≡ Some u) → SetsWriters ps None W V → (k : Op × TxnId) → (writer_of V k.0 ≡ Some k.1) ↔ ((writer_of W k.0 ≡ Some k.1) × ¬ ((list_any (same_write k.0) ps ≡ true) × (u ≡ k.1)))
writers_false ps u W V own h k = elim (list_any (same_write k.0) ps) as (λ b. list_any (same_write k.0) ps ≡ b → writer_of V k.0 ≡ cond b None (writer_of W k.0) → (writer_of V k.0 ≡ Some k.1) ↔ ((writer_of W k.0 ≡ Some k.1) × ¬ ((b ≡ true) × (u ≡ k.1)))) [
  | true ↦ λ t e. (λ i. cc, λ r. absurd (r.1 (refl, same_some (sym (own k.0 t) ∙ r.0))))
  | false ↦ λ t e. (λ i. (sym e ∙ i, λ a. let f = a.0 in cc), λ r. e ∙ r.0)
] refl (h k.0)
