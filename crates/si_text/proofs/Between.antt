-- Lemmas on the part of a list between two places.
use Rattle.std.proofs.Common.{◌≡◌, ℕ, ◌+◌, ◌-◌, ◌≤◌, List, take, drop, sym, ap, ◌∙◌, arith}
use Rattle.std.proofs.lemmas.List.{drop-drop, drop-take}

-- the part without its first bytes
pub part_past : (bytes : List ℕ) (start end count : ℕ) → count ≤ end - start → take (end - (start + count)) (drop (start + count) bytes) ≡ drop count (take (end - start) (drop start bytes))
part_past bytes start end count within =
    let less : end - (start + count) ≡ (end - start) - count = omega arith in
    let whole : count + ((end - start) - count) ≡ end - start = omega arith in
    ap (λ n. take n (drop (start + count) bytes)) less
    ∙ ap (take ((end - start) - count)) (sym (drop-drop count start bytes))
    ∙ sym (drop-take count ((end - start) - count) (drop start bytes))
    ∙ ap (λ n. drop count (take n (drop start bytes))) whole
