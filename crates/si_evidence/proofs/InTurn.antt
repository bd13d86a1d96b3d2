-- Lines and items, taken one after the other.
use Rattle.std.proofs.Common.{◌≡◌, ℕ, ◌+◌, ◌≤◌, Bool, true, false, List, [], ◌∷◌, ◌++◌, length, Option, Some, None, ◌⊎◌, inl, inr, refl, sym, ap, subst, ◌∙◌, arith, append_assoc, append-nil}
use Rattle.std.specs.Io.KnownBytes.{IsAtEnd}
use Rattle.si_text.specs.Devices.{MayConsume, foretold}
use Rattle.si_model.specs.Parts.{Present}
use Rattle.si_text.specs.Inputs.{Item, item_of, lines_of, numbered, items_after}
use Rattle.si_evidence.specs.Runs.{IsWhole}
use Rattle.si_evidence.specs.Judging.{Logged, logged_after, logged_through, Verdicts, is_evidence, IsJudged, IsNext, Judges}

-- ---- items

logged-append : (l : Logged) (xs ys : List Item) → logged_through l (xs ++ ys) ≡ logged_through (logged_through l xs) ys
logged-append l [] ys = refl
logged-append l (x ∷ xs) ys = logged-append (logged_after l x) xs ys

-- one more line
pub logged_next : (l : Logged) (number : ℕ) (bytes line more : List ℕ) → lines_of bytes ≡ line ∷ lines_of more
    → logged_through l (items_after number bytes) ≡ logged_through (logged_through l (item_of (number + 1) line)) (items_after (number + 1) more)
logged_next l number bytes line more is = ap (λ ls. logged_through l (numbered (number + 1) ls)) is ∙ logged-append l (item_of (number + 1) line) (items_after (number + 1) more)

-- ---- lines

pub judges_next : (P : Present) (number : ℕ) (bytes line more : List ℕ) (a m b : Verdicts) → lines_of bytes ≡ line ∷ lines_of more → IsNext P number line (is_evidence line) a m
    → Judges P (number + 1) (lines_of more) m b → Judges P number (lines_of bytes) a b
judges_next P number bytes line more a m b is one rest = subst (λ ls. Judges P number ls a b) (sym is) (m, one, rest)

-- no more is told than lines are read
pub told_at_most : (P : Present) (number : ℕ) (line : List ℕ) (b : Bool) (a m : Verdicts) → IsNext P number line b a m → (m.told ≤ a.told + 1) × (m.failed ≤ a.failed + 1)
told_at_most P number line false a m is = let told = ap (λ (v : Verdicts). v.told) is in let failed = ap (λ (v : Verdicts). v.failed) is in (omega (arith, told), omega (arith, failed))
told_at_most P number line true a m is = elim is.judged [
  | inl h ↦ (let told = ap (λ (v : Verdicts). v.told) h.next in let failed = ap (λ (v : Verdicts). v.failed) h.next in (omega (arith, told), omega (arith, failed)))
  | inr f ↦ (let told = ap (λ (v : Verdicts). v.told) f.next in let failed = ap (λ (v : Verdicts). v.failed) f.next in (omega (arith, told), omega (arith, failed)))
]

-- ---- the end of the bytes

pub all_logged : (l : Logged) (number : ℕ) (rest : List ℕ) → length rest ≡ 0 → logged_through l (items_after number rest) ≡ l
all_logged l number [] none = refl
all_logged l number (x ∷ xs) none = absurd (omega (arith, none))

-- ---- bytes of a source

pub consumes_then : (a b c : Option (List ℕ)) (xs ys : List ℕ) → MayConsume a b xs → MayConsume b c ys → MayConsume a c (xs ++ ys)
consumes_then None None None xs ys p q = tt
consumes_then None None (Some r) xs ys p q = absurd q
consumes_then None (Some m) c xs ys p q = absurd p
consumes_then (Some l) None None xs ys p q = tt
consumes_then (Some l) None (Some r) xs ys p q = absurd q
consumes_then (Some l) (Some m) None xs ys p q = tt
consumes_then (Some l) (Some m) (Some r) xs ys p q = p ∙ ap (λ rest. xs ++ rest) q ∙ sym (append_assoc xs ys r)

pub consumes_none : (a : Option (List ℕ)) → MayConsume a a []
consumes_none None = tt
consumes_none (Some l) = refl

pub consumed_whole : (before after : Option (List ℕ)) (bytes : List ℕ) → MayConsume before after bytes → IsAtEnd after → IsWhole (foretold before after) bytes
consumed_whole None None bytes p end = tt
consumed_whole (Some l) None bytes p end = tt
consumed_whole None (Some r) bytes p end = absurd p
consumed_whole (Some l) (Some r) bytes p end = sym (p ∙ ap (λ rest. bytes ++ rest) end ∙ append-nil bytes)
