-- Lemmas on the tokens of operations.
use Rattle.std.proofs.Common.{◌≡◌, ◌≤◌, ℕ, List, [], ◌∷◌, ◌++◌, length, codes, All, Some, None, refl, sym, ap, subst, append-nil, arith}
use Rattle.std.proofs.lemmas.List.Elements.{All-nil, All-cons}
use Rattle.json.specs.Token as tokens
use Rattle.json.specs.Token.{Token}
use Rattle.json.specs.Json.{after_end_array}
use Rattle.json.proofs.Grammar.{closed_array}
use Rattle.serde_json.specs.Data.{Data, null, number, unsigned, array}
use Rattle.si_model.specs.KeyTexts.{IsKeyText}
use Rattle.si_model.specs.Operations.{key_of}
use Rattle.si_model.specs.declared.operations.Op.{Op}
use Rattle.si_model.specs.declared.operations.Op.TheVariants.{Read, Write}
use Rattle.si_model.specs.declared.operations.TheConstants.{MOST_OPS}
use Rattle.si_text.specs.Conditions.{triple, op_value}
use Rattle.si_text.specs.Telling.{op_values}
use Rattle.si_text.specs.FoundMembers.{Begins, TakesValue}
use Rattle.si_text.specs.TokenOperations.{TakesOp, TakesItems}
use Rattle.si_text.specs.declared.found_members.Member.TheVariants.{Ops}
use Rattle.si_text.proofs.ValueTokens.{null_begins, string_begins, number_begins, ItemsBegin, no_item_begins, item_begins, array_begins}

-- ---- taking the items one after another

-- these operations were taken: whatever the items that are left say, all of them say these and then that
pub record AreTaken (whole left : List Token) (ops : List Op) : Type 0 where
  pub rest : (more : List Op) (new : List Token) → TakesItems more left new → TakesItems (ops ++ more) whole new
  pub few : length ops ≤ MOST_OPS

pub all_taken : (whole left new : List Token) (ops : List Op) → AreTaken whole left ops → after_end_array left ≡ Some new → TakesItems ops whole new
all_taken whole left new ops taken e = subst (λ l. TakesItems l whole new) (append-nil ops) (taken.rest [] new (closed_array left new e))

-- ---- an operation

abbrev op_tokens : List ℕ → List ℕ → Token → List Token → List Token
op_tokens word text t new = tokens.begin_array ∷ tokens.string word ∷ tokens.string text ∷ t ∷ tokens.end_array ∷ new

module _ (word text : List ℕ) (d : Data) (t : Token) (new : List Token) where
  triple_begins : after_end_array (t ∷ tokens.end_array ∷ new) ≡ None → Begins 124 d (t ∷ tokens.end_array ∷ new) (tokens.end_array ∷ new) → Begins 125 (triple word text d) (op_tokens word text t new) new
  triple_begins going third =
      let last = item_begins 124 d _ _ _ new going third (no_item_begins 124 (tokens.end_array ∷ new) new refl) in
      let second = item_begins 124 _ _ _ _ new refl (string_begins 124 (t ∷ tokens.end_array ∷ new) text) last in
      let first = item_begins 124 _ _ _ _ new refl (string_begins 124 (tokens.string text ∷ t ∷ tokens.end_array ∷ new) word) second in
      array_begins 125 _ _ new (omega arith) first

op_begins : (op : Op) (old new : List Token) → TakesOp op old new → Begins 125 (op_value op) old new
op_begins (Read key None) old new h =
    let is : old ≡ op_tokens (codes "r") key tokens.null new = let word = h.means.0 in let text = h.means.1 in let value = h.means.2 in cc (word, text, value, h.is) in
    subst (λ ts. Begins 125 (op_value (Read key None)) ts new) (sym is) (triple_begins (codes "r") key null tokens.null new refl (null_begins 124 _))
op_begins (Read key (Some read)) old new h =
    let n = h.means.2 in
    let is : old ≡ op_tokens (codes "r") key (tokens.number n.text) new = let word = h.means.0 in let text = h.means.1 in cc (word, text, n.is, h.is) in
    subst (λ ts. Begins 125 (op_value (Read key (Some read))) ts new) (sym is) (triple_begins (codes "r") key (number (unsigned read.0)) (tokens.number n.text) new refl (number_begins 124 _ n.text read.0 n.reads))
op_begins (Write key value) old new h =
    let n = h.means.2 in
    let is : old ≡ op_tokens (codes "w") key (tokens.number n.text) new = let word = h.means.0 in let text = h.means.1 in cc (word, text, n.is, h.is) in
    subst (λ ts. Begins 125 (op_value (Write key value)) ts new) (sym is) (triple_begins (codes "w") key (number (unsigned value.0)) (tokens.number n.text) new refl (number_begins 124 _ n.text value.0 n.reads))

op_fits : (op : Op) (old new : List Token) → TakesOp op old new → IsKeyText (key_of op)
op_fits (Read key None) old new h = subst IsKeyText (sym h.means.1) h.fits
op_fits (Read key (Some read)) old new h = subst IsKeyText (sym h.means.1) h.fits
op_fits (Write key value) old new h = subst IsKeyText (sym h.means.1) h.fits

-- ---- the operations

pub items_begin : (ops : List Op) (old new : List Token) → TakesItems ops old new → ItemsBegin 125 (op_values ops) old new
items_begin [] old new h = no_item_begins 125 old new (ap after_end_array h)
items_begin (op ∷ ops) old new h = item_begins 125 (op_value op) (op_values ops) old h.0 new (ap after_end_array h.1.is) (op_begins op old h.0 h.1) (items_begin ops h.0 new h.2)

pub all_fit : (ops : List Op) (old new : List Token) → TakesItems ops old new → All (λ op. IsKeyText (key_of op)) ops
all_fit [] old new h = All-nil (λ op. IsKeyText (key_of op))
all_fit (op ∷ ops) old new h = All-cons (λ x. IsKeyText (key_of x)) op ops (op_fits op old h.0 h.1) (all_fit ops h.0 new h.2)

pub ops_taken : (ops : List Op) (old mid new : List Token) → old ≡ tokens.begin_array ∷ mid → TakesItems ops mid new → length ops ≤ MOST_OPS → TakesValue (Ops ops) old new
ops_taken ops old mid new begins items few = record {
  begins = subst (λ ts. Begins 126 (array (op_values ops)) ts new) (sym begins) (array_begins 126 (op_values ops) mid new (omega arith) (items_begin ops mid new items));
  within = (few, all_fit ops mid new items);
}
