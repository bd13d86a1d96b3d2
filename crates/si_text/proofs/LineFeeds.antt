-- Lemmas on the first line feed of a list of bytes, and on lists without one.
use Rattle.std.proofs.Common.{◌≡◌, ℕ, zero, suc, ◌+◌, ◌-◌, ◌<◌, ◌≤◌, List, [], ◌∷◌, ◌++◌, length, take, drop, Bool, true, false, not, ◌||◌, cond, Option, Some, None, unwrap_or, ltb, refl, sym, ap, subst, ◌∙◌, arith, ◌⊎◌, inl, inr, append-nil}
use Rattle.std.specs.List.{prefix_len}
use Rattle.std.proofs.lemmas.Bool.{eqb-true, ltb-true, ltb-false}
use Rattle.std.proofs.lemmas.List.{drop_all}
use Rattle.std.specs.Bool.{MatchBool}
use Rattle.std.proofs.lemmas.List.Sums.{prefix_len_is}
use Rattle.memchr.specs.Find.{IsFirstByte, is_byte}
use Rattle.std.proofs.lemmas.Bool.{cases_lt}
use Rattle.std.proofs.lemmas.List.{take_all, take-append-drop}
use Rattle.si_text.specs.Inputs.{is_line_feed, has_line_feed, with_first, lines_of}

abbrev pub is_other : ℕ → Bool
is_other byte = not (is_line_feed byte)

-- how many bytes stand before the first line feed
abbrev pub before_feed : List ℕ → ℕ
before_feed bytes = prefix_len is_other bytes

no_feed : (b : Bool) → ¬ (b ≡ true) → not b ≡ true
no_feed true other = absurd (other refl)
no_feed false other = refl

-- where a search for the first line feed ends
pub until_feed : (bytes : List ℕ) (found : Option ℕ) → IsFirstByte (is_byte 10) bytes found → unwrap_or found (length bytes) ≡ before_feed bytes
until_feed bytes None nowhere =
    sym (prefix_len_is is_other bytes (length bytes) 0 (omega arith) (λ k less. no_feed _ (nowhere k (omega arith) less)) (λ less. absurd (omega arith)))
until_feed bytes (Some n) first =
    sym (prefix_len_is is_other bytes n 0 (omega (arith, first.0.high)) (λ k less. no_feed _ (first.0.before k (omega arith) less)) (λ less. ap not first.1))

pub or_false : (a b : Bool) → (a || b) ≡ false → (a ≡ false) × (b ≡ false)
or_false true b e = cc
or_false false b e = (refl, e)

before_feed-feed : (byte : ℕ) (bytes : List ℕ) → is_line_feed byte ≡ true → before_feed (byte ∷ bytes) ≡ zero
before_feed-feed byte bytes e = ap (λ b. cond (not b) (1 + before_feed bytes) 0) e

before_feed-other : (byte : ℕ) (bytes : List ℕ) → is_line_feed byte ≡ false → before_feed (byte ∷ bytes) ≡ suc (before_feed bytes)
before_feed-other byte bytes e = ap (λ b. cond (not b) (1 + before_feed bytes) 0) e ∙ omega arith

-- no line feed stands before the first
front_at : (b : Bool) (byte : ℕ) (bytes : List ℕ) → is_line_feed byte ≡ b → has_line_feed (take (before_feed bytes) bytes) ≡ false
    → has_line_feed (take (before_feed (byte ∷ bytes)) (byte ∷ bytes)) ≡ false
front_at true byte bytes e h = ap (λ n. has_line_feed (take n (byte ∷ bytes))) (before_feed-feed byte bytes e)
front_at false byte bytes e h = ap (λ n. has_line_feed (take n (byte ∷ bytes))) (before_feed-other byte bytes e) ∙ ap (λ b. b || has_line_feed (take (before_feed bytes) bytes)) e ∙ h

pub front_without : (bytes : List ℕ) → has_line_feed (take (before_feed bytes) bytes) ≡ false
front_without [] = refl
front_without (byte ∷ bytes) = front_at (is_line_feed byte) byte bytes refl (front_without bytes)

abbrev pub BeginsWithFeed : List ℕ → Type 0
BeginsWithFeed bytes = (rest : List ℕ) × (bytes ≡ 10 ∷ rest)

-- what stands behind the bytes before the first line feed
next_at : (b : Bool) (byte : ℕ) (bytes : List ℕ) → is_line_feed byte ≡ b → (before_feed bytes < length bytes → BeginsWithFeed (drop (before_feed bytes) bytes))
    → before_feed (byte ∷ bytes) < length (byte ∷ bytes) → BeginsWithFeed (drop (before_feed (byte ∷ bytes)) (byte ∷ bytes))
next_at true byte bytes e h within = (bytes, ap (λ n. drop n (byte ∷ bytes)) (before_feed-feed byte bytes e) ∙ ap (λ x. x ∷ bytes) (eqb-true byte 10 e))
next_at false byte bytes e h within =
    let step = before_feed-other byte bytes e in
    let later = h (omega (arith, step, within)) in
    (later.0, ap (λ n. drop n (byte ∷ bytes)) step ∙ later.1)

pub next_feed : (bytes : List ℕ) → before_feed bytes < length bytes → BeginsWithFeed (drop (before_feed bytes) bytes)
next_feed [] within = absurd (omega arith)
next_feed (byte ∷ bytes) within = next_at (is_line_feed byte) byte bytes refl (next_feed bytes) within

pub has_line_feed-append : (xs ys : List ℕ) → has_line_feed xs ≡ false → has_line_feed ys ≡ false → has_line_feed (xs ++ ys) ≡ false
has_line_feed-append [] ys p q = q
has_line_feed-append (x ∷ xs) ys p q =
    let parts = or_false (is_line_feed x) (has_line_feed xs) p in
    ap (λ b. b || has_line_feed (xs ++ ys)) parts.0 ∙ has_line_feed-append xs ys parts.1 q

pub has_line_feed-take : (n : ℕ) (xs : List ℕ) → has_line_feed xs ≡ false → has_line_feed (take n xs) ≡ false
has_line_feed-take zero xs p = refl
has_line_feed-take (suc n) [] p = refl
has_line_feed-take (suc n) (x ∷ xs) p =
    let parts = or_false (is_line_feed x) (has_line_feed xs) p in
    ap (λ b. b || has_line_feed (take n xs)) parts.0 ∙ has_line_feed-take n xs parts.1

behind_at : (b : Bool) (bytes : List ℕ) → ltb (before_feed bytes) (length bytes) ≡ b → MatchBool b (BeginsWithFeed (drop (before_feed bytes) bytes)) (drop (before_feed bytes) bytes ≡ [])
behind_at true bytes e = next_feed bytes (ltb-true (before_feed bytes) (length bytes) e)
behind_at false bytes e = drop_all (before_feed bytes) bytes (ltb-false (before_feed bytes) (length bytes) e)

-- behind the bytes before the first line feed stands that line feed, or nothing
pub behind : (piece one two rest : List ℕ) (count : ℕ) → one ≡ piece → count ≡ before_feed one → two ≡ piece → rest ≡ drop count piece
    → MatchBool (ltb count (length two)) (BeginsWithFeed rest) (rest ≡ [])
behind piece one two rest count one_is count_is two_is rest_is = rw (rest_is, two_is, count_is, one_is) (behind_at (ltb (before_feed piece) (length piece)) piece refl)

-- ---- the first line

whole_line : (line rest : List ℕ) → has_line_feed line ≡ false → lines_of (line ++ 10 ∷ rest) ≡ line ∷ lines_of rest
whole_line [] rest none = refl
whole_line (byte ∷ line) rest none =
    let parts = or_false (is_line_feed byte) (has_line_feed line) none in
    ap (λ b. cond b ([] ∷ lines_of (line ++ 10 ∷ rest)) (with_first byte (lines_of (line ++ 10 ∷ rest)))) parts.0 ∙ ap (with_first byte) (whole_line line rest parts.1)

last_line : (byte : ℕ) (line : List ℕ) → has_line_feed (byte ∷ line) ≡ false → lines_of (byte ∷ line) ≡ (byte ∷ line) ∷ []
last_line byte [] none = (let parts = or_false (is_line_feed byte) false none in ap (λ b. cond b ([] ∷ []) ((byte ∷ []) ∷ [])) parts.0)
last_line byte (next ∷ line) none =
    let parts = or_false (is_line_feed byte) (has_line_feed (next ∷ line)) none in
    ap (λ b. cond b ([] ∷ lines_of (next ∷ line)) (with_first byte (lines_of (next ∷ line)))) parts.0 ∙ ap (with_first byte) (last_line next line parts.1)

-- the first line of bytes, and what stands behind it
pub line_and_rest : (bytes : List ℕ) → 0 < length bytes → (byte : ℕ) (rest : List ℕ) → drop (before_feed bytes) bytes ≡ byte ∷ rest → lines_of bytes ≡ take (before_feed bytes) bytes ∷ lines_of rest
line_and_rest bytes some byte rest behind_is =
    let n = before_feed bytes in
    let within : n < length bytes = elim (cases_lt n (length bytes)) [
      | inl lt ↦ lt
      | inr le ↦ (let none = drop_all n bytes le in let both : [] ≡ byte ∷ rest = sym none ∙ behind_is in cc)
    ] in
    let feed = next_feed bytes within in
    let same : byte ∷ rest ≡ 10 ∷ feed.0 = sym behind_is ∙ feed.1 in
    let tail : feed.0 ≡ rest = cc in
    let whole : take n bytes ++ 10 ∷ feed.0 ≡ bytes = ap (λ l. take n bytes ++ l) (sym feed.1) ∙ take-append-drop n bytes in
    ap lines_of (sym whole) ∙ whole_line (take n bytes) feed.0 (front_without bytes) ∙ ap (λ l. take n bytes ∷ lines_of l) tail

pub line_alone : (bytes : List ℕ) → 0 < length bytes → drop (before_feed bytes) bytes ≡ [] → lines_of bytes ≡ take (before_feed bytes) bytes ∷ []
line_alone bytes some behind_is =
    let n = before_feed bytes in
    let whole : take n bytes ≡ bytes = sym (append-nil (take n bytes)) ∙ ap (λ l. take n bytes ++ l) (sym behind_is) ∙ take-append-drop n bytes in
    go bytes some (subst (λ l. has_line_feed l ≡ false) whole (front_without bytes)) ∙ ap (λ l. l ∷ []) (sym whole)
  where
    go : (l : List ℕ) → 0 < length l → has_line_feed l ≡ false → lines_of l ≡ l ∷ []
    go [] most none = absurd (omega arith)
    go (byte ∷ line) most none = last_line byte line none

empty_list : (xs : List ℕ) → length xs < 1 → xs ≡ []
empty_list [] few = refl
empty_list (x ∷ xs) few = absurd (omega (arith, few))

-- the same of bytes that were split before the first line feed
pub split_alone : (bytes front behind : List ℕ) (n : ℕ) → 0 < length bytes → n ≡ before_feed bytes → front ≡ take n bytes → behind ≡ drop n bytes → length behind < 1 → lines_of bytes ≡ front ∷ lines_of behind
split_alone bytes front behind n some count front_is behind_is few =
    let none : behind ≡ [] = empty_list behind few in
    let line : front ≡ take (before_feed bytes) bytes = front_is ∙ ap (λ k. take k bytes) count in
    line_alone bytes some (ap (λ k. drop k bytes) (sym count) ∙ sym behind_is ∙ none) ∙ ap (λ l. l ∷ []) (sym line) ∙ ap (λ l. front ∷ lines_of l) (sym none)

pub split_more : (bytes front behind : List ℕ) (n : ℕ) → 0 < length bytes → n ≡ before_feed bytes → front ≡ take n bytes → behind ≡ drop n bytes → 1 ≤ length behind
    → lines_of bytes ≡ front ∷ lines_of (take (length behind - 1) (drop 1 behind))
split_more bytes front [] n some count front_is behind_is most = absurd (omega (arith, most))
split_more bytes front (byte ∷ rest) n some count front_is behind_is most =
    let line : front ≡ take (before_feed bytes) bytes = front_is ∙ ap (λ k. take k bytes) count in
    let whole : take (length (byte ∷ rest) - 1) (drop 1 (byte ∷ rest)) ≡ rest = take_all (length (byte ∷ rest) - 1) rest (omega arith) in
    line_and_rest bytes some byte rest (ap (λ k. drop k bytes) (sym count) ∙ sym behind_is) ∙ ap (λ l. l ∷ lines_of rest) (sym line) ∙ ap (λ l. front ∷ lines_of l) (sym whole)
