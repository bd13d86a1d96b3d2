-- What a source in memory gives.
use Rattle.std.proofs.Common.{◌≡◌, ℕ, ◌+◌, ◌-◌, ◌≤◌, List, ◌++◌, length, take, drop, sym, ap, ◌∙◌, arith}
use Rattle.std.proofs.lemmas.List.{take-append-drop, drop-drop, take_at, length-take, length-drop}

-- what a piece that was copied to the front of a buffer leaves of a list
pub given_piece : (items buffer piece : List ℕ) (at count : ℕ) → at + count ≤ length items → piece ≡ take ((at + count) - at) (drop at items)
    → drop at items ≡ take count (piece ++ drop count buffer) ++ drop (at + count) items
given_piece items buffer piece at count within is =
    let exact : (at + count) - at ≡ count = omega arith in
    let same : piece ≡ take count (drop at items) = is ∙ ap (λ n. take n (drop at items)) exact in
    let size : length piece ≡ count = ap length same ∙ simp (length-take, length-drop) (omega arith) in
    sym (take-append-drop count (drop at items))
    ∙ ap (λ l. l ++ drop count (drop at items)) (sym same ∙ sym (take_at piece (drop count buffer) count size))
    ∙ ap (λ l. take count (piece ++ drop count buffer) ++ l) (drop-drop count at items)
