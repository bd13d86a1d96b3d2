-- Lemmas on the items of an input, whose lines come in parts.
use Rattle.std.proofs.Common.{◌≡◌, ℕ, ◌+◌, ◌<◌, min, ◌≤◌, List, [], ◌∷◌, ◌++◌, length, take, drop, true, false, cond, Result, Ok, Err, is_ok, if◌then◌else◌, OnOk, refl, sym, ap, ◌∙◌, arith, inl, inr, ◌⊎◌, append_assoc, append-nil, length-append, leb, ltb}
use Rattle.std.proofs.lemmas.Bool.{cases_lt}
use Rattle.std.proofs.lemmas.Bool.Decides.{nat_tests}
use Rattle.std.proofs.lemmas.List.{take_all, take_min, length-take, take-append-drop}
use Rattle.std.proofs.Math.Seq.{take-append-add}
use Rattle.si_text.specs.declared.read_edits.TheConstants.{MOST_LINE_BYTES}
use Rattle.si_text.specs.Inputs.{Item, is_line_feed, has_line_feed, with_first, lines_of, is_blank, item_of, numbered, items_after}
use Rattle.si_text.specs.Lines.{edit_of}
use Rattle.si_text.specs.declared.faults.LineFault.TheVariants.{TooLong}
use Rattle.si_text.proofs.LineFeeds.{or_false, before_feed, front_without, has_line_feed-append, has_line_feed-take}

first_of : List (List ℕ) → List ℕ
first_of [] = []
first_of (line ∷ others) = line

others_of : List (List ℕ) → List (List ℕ)
others_of [] = []
others_of (line ∷ others) = others

-- the lines of the bytes that stand behind these, which have no line feed, with them
with_front : List ℕ → List (List ℕ) → List (List ℕ)
with_front [] behind = behind
with_front (byte ∷ bytes) behind = with_first byte (with_front bytes behind)

lines_front : (line rest : List ℕ) → has_line_feed line ≡ false → lines_of (line ++ rest) ≡ with_front line (lines_of rest)
unfolding with_front
lines_front [] rest none = refl
lines_front (byte ∷ line) rest none =
    let parts = or_false (is_line_feed byte) (has_line_feed line) none in
    ap (λ b. cond b ([] ∷ lines_of (line ++ rest)) (with_first byte (lines_of (line ++ rest)))) parts.0 ∙ ap (with_first byte) (lines_front line rest parts.1)

one_front : (byte : ℕ) (behind : List (List ℕ)) → with_first byte behind ≡ (byte ∷ first_of behind) ∷ others_of behind
unfolding first_of others_of
one_front byte [] = refl
one_front byte (line ∷ others) = refl

with_front-first : (byte : ℕ) (bytes : List ℕ) (behind : List (List ℕ)) → with_front (byte ∷ bytes) behind ≡ (byte ∷ (bytes ++ first_of behind)) ∷ others_of behind
unfolding with_front
with_front-first byte [] behind = one_front byte behind
with_front-first byte (next ∷ bytes) behind = ap (with_first byte) (with_front-first next bytes behind)

item_of-nil : (number : ℕ) → item_of number [] ≡ []
unfolding is_blank
item_of-nil number = refl

numbered_front : (number : ℕ) (line : List ℕ) (behind : List (List ℕ)) → numbered number (with_front line behind) ≡ item_of number (line ++ first_of behind) ++ numbered (number + 1) (others_of behind)
unfolding with_front first_of others_of
numbered_front number [] [] = sym (ap (λ l. l ++ []) (item_of-nil number))
numbered_front number [] (first ∷ others) = refl
numbered_front number (byte ∷ line) behind = ap (numbered number) (with_front-first byte line behind)

-- the first line of the bytes, and the others
items_split : (before : ℕ) (line rest : List ℕ) → has_line_feed line ≡ false
    → items_after before (line ++ rest) ≡ item_of (before + 1) (line ++ first_of (lines_of rest)) ++ numbered (before + 1 + 1) (others_of (lines_of rest))
items_split before line rest none = ap (numbered (before + 1)) (lines_front line rest none) ∙ numbered_front (before + 1) line (lines_of rest)

pub whole_items : (before : ℕ) (line rest : List ℕ) → has_line_feed line ≡ false → items_after before (line ++ 10 ∷ rest) ≡ item_of (before + 1) line ++ items_after (before + 1) rest
unfolding first_of others_of
whole_items before line rest none = items_split before line (10 ∷ rest) none ∙ ap (λ l. item_of (before + 1) l ++ items_after (before + 1) rest) (append-nil line)

pub last_items : (before : ℕ) (line : List ℕ) → has_line_feed line ≡ false → items_after before line ≡ item_of (before + 1) line
unfolding first_of others_of
last_items before line none =
    ap (items_after before) (sym (append-nil line)) ∙ items_split before line [] none ∙ append-nil (item_of (before + 1) (line ++ [])) ∙ ap (item_of (before + 1)) (append-nil line)

-- ---- lines that are too long

item_of-long : (number : ℕ) (line : List ℕ) → MOST_LINE_BYTES < length line → item_of number line ≡ (number, Err TooLong) ∷ []
unfolding is_blank edit_of
item_of-long number line long =
    let not_short : leb (length line) MOST_LINE_BYTES ≡ false = grind (arith, nat_tests) in
    let too_long : ltb MOST_LINE_BYTES (length line) ≡ true = grind (arith, nat_tests) in
    rw (not_short, too_long) refl

-- of a line that is too long only so many bytes matter that it still is
item_of-kept : (number most : ℕ) (line rest : List ℕ) → MOST_LINE_BYTES < most → (most < length line) ⊎ (length line ≤ most) → item_of number (take most line ++ rest) ≡ item_of number (line ++ rest)
item_of-kept number most line rest enough (inr short) = ap (λ l. item_of number (l ++ rest)) (take_all most line short)
item_of-kept number most line rest enough (inl long) =
    let kept : MOST_LINE_BYTES < length (take most line ++ rest) = simp (length-append, length-take) (omega arith) in
    let whole : MOST_LINE_BYTES < length (line ++ rest) = simp length-append (omega arith) in
    item_of-long number (take most line ++ rest) kept ∙ sym (item_of-long number (line ++ rest) whole)

pub kept_items : (before most : ℕ) (line rest : List ℕ) → MOST_LINE_BYTES < most → has_line_feed line ≡ false
    → items_after before (take most line ++ rest) ≡ items_after before (line ++ rest)
kept_items before most line rest enough none =
    items_split before (take most line) rest (has_line_feed-take most line none)
    ∙ ap (λ l. l ++ numbered (before + 1 + 1) (others_of (lines_of rest))) (item_of-kept (before + 1) most line (first_of (lines_of rest)) enough (cases_lt most (length line)))
    ∙ sym (items_split before line rest none)

-- ---- a line that grows by the front of a piece

-- the line, so far as it is kept, and what is left of the piece
pub gathered : (before most : ℕ) (line piece more : List ℕ) → MOST_LINE_BYTES < most → has_line_feed line ≡ false
    → items_after before ((line ++ piece) ++ more) ≡ items_after before ((take most (line ++ take (before_feed piece) piece) ++ drop (before_feed piece) piece) ++ more)
gathered before most line piece more enough none =
    let count = before_feed piece in
    let grown = line ++ take count piece in
    let split : (line ++ piece) ++ more ≡ grown ++ (drop count piece ++ more) =
    ap (λ l. (line ++ l) ++ more) (sym (take-append-drop count piece)) ∙ simp append_assoc in
    ap (items_after before) split
    ∙ sym (kept_items before most grown (drop count piece ++ more) enough (has_line_feed-append line (take count piece) none (front_without piece)))
    ∙ ap (items_after before) (sym (append_assoc (take most grown) (drop count piece) more))

pub gathered_without : (most : ℕ) (line piece : List ℕ) → has_line_feed line ≡ false → has_line_feed (take most (line ++ take (before_feed piece) piece)) ≡ false
gathered_without most line piece none = has_line_feed-take most (line ++ take (before_feed piece) piece) (has_line_feed-append line (take (before_feed piece) piece) none (front_without piece))

-- what is added to a line of which only so many bytes are kept
pub kept_more : (most room count : ℕ) (line bytes : List ℕ) → length line + room ≡ most → count ≡ min room (length bytes) → line ++ take count bytes ≡ take most (line ++ bytes)
kept_more most room count line bytes room_is count_is =
    ap (λ n. line ++ take n bytes) count_is ∙ ap (λ l. line ++ l) (take_min room bytes) ∙ sym (take-append-add line bytes room) ∙ ap (λ n. take n (line ++ bytes)) room_is

pub kept_after : {E : Type 0} (r : Result (Unit {0}) E) (new old added want : List ℕ) → new ≡ (if is_ok r then old ++ added else old) → old ++ added ≡ want → OnOk r (new ≡ want)
kept_after (Ok done) new old added want is same = is ∙ same
kept_after (Err fault) new old added want is same = tt

-- the line after the front of a piece was added, as the code names its parts
pub kept_same : (most count : ℕ) (line piece one three kept : List ℕ) → one ≡ piece → count ≡ before_feed one → three ≡ piece → kept ≡ take most (line ++ take count three)
    → kept ≡ take most (line ++ take (before_feed piece) piece)
kept_same most count line piece one three kept one_is count_is three_is kept_is =
    let exact : count ≡ before_feed piece = count_is ∙ ap before_feed one_is in
    kept_is ∙ ap (λ l. take most (line ++ l)) (ap (λ n. take n three) exact ∙ ap (take (before_feed piece)) three_is)

pub kept_without : (most count : ℕ) (line piece one three kept : List ℕ) → one ≡ piece → count ≡ before_feed one → three ≡ piece → kept ≡ take most (line ++ take count three)
    → has_line_feed line ≡ false → has_line_feed kept ≡ false
kept_without most count line piece one three kept one_is count_is three_is kept_is none =
    ap has_line_feed (kept_same most count line piece one three kept one_is count_is three_is kept_is) ∙ gathered_without most line piece none

pub gathered_as : (before most count : ℕ) (line piece one three kept rest more : List ℕ) → MOST_LINE_BYTES < most → has_line_feed line ≡ false → one ≡ piece → count ≡ before_feed one → three ≡ piece
    → kept ≡ take most (line ++ take count three) → rest ≡ drop count piece → items_after before ((line ++ piece) ++ more) ≡ items_after before ((kept ++ rest) ++ more)
gathered_as before most count line piece one three kept rest more enough none one_is count_is three_is kept_is rest_is =
    let same = kept_same most count line piece one three kept one_is count_is three_is kept_is in
    let left : rest ≡ drop (before_feed piece) piece = rest_is ∙ ap (λ n. drop n piece) (count_is ∙ ap before_feed one_is) in
    gathered before most line piece more enough none ∙ ap (λ l. items_after before ((l ++ drop (before_feed piece) piece) ++ more)) (sym same) ∙ ap (λ l. items_after before ((kept ++ l) ++ more)) (sym left)

-- a line that is kept in part, and what is left of the piece, are no longer than they were
pub held_shrinks : (most count : ℕ) (line piece three kept rest : List ℕ) → three ≡ piece → kept ≡ take most (line ++ take count three) → rest ≡ drop count piece
    → length (kept ++ rest) ≤ length (line ++ piece)
held_shrinks most count line piece three kept rest three_is kept_is rest_is =
    let same : kept ≡ take most (line ++ take count piece) = kept_is ∙ ap (λ l. take most (line ++ take count l)) three_is in
    let kept_size : length kept ≡ min most (length line + length (take count piece)) = ap length same ∙ simp (length-take, length-append) in
    let rest_size = ap length rest_is in
    let whole = simp length-append at (ap length (take-append-drop count piece)) in
    simp length-append (omega (arith, kept_size, rest_size, whole))

-- ---- a line that ends

pub ended_as : (before : ℕ) (line piece rest cleared left more : List ℕ) (items : List Item) → has_line_feed line ≡ false → piece ≡ 10 ∷ rest → cleared ≡ [] → left ≡ drop 1 piece
    → items ≡ item_of (before + 1) line → items_after before ((line ++ piece) ++ more) ≡ items ++ items_after (before + 1) ((cleared ++ left) ++ more)
ended_as before line piece rest cleared left more items none piece_is cleared_is left_is items_is =
    let behind : left ≡ rest = left_is ∙ ap (drop 1) piece_is in
    ap (items_after before) (ap (λ l. (line ++ l) ++ more) piece_is ∙ append_assoc line (10 ∷ rest) more)
    ∙ whole_items before line (rest ++ more) none
    ∙ ap (λ l. l ++ items_after (before + 1) (rest ++ more)) (sym items_is)
    ∙ ap (λ l. items ++ items_after (before + 1) (l ++ more)) (sym (ap (λ l. l ++ left) cleared_is ∙ behind))

pub last_as : (before : ℕ) (line piece : List ℕ) (items : List Item) → has_line_feed line ≡ false → piece ≡ [] → items ≡ item_of (before + 1) line → items_after before (line ++ piece) ≡ items
last_as before line piece items none piece_is items_is =
    ap (λ l. items_after before (line ++ l)) piece_is ∙ ap (items_after before) (append-nil line) ∙ last_items before line none ∙ sym items_is
