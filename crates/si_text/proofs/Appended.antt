-- Bytes to which text is appended, one after the other.
use Rattle.std.proofs.Common.{◌≡◌, ℕ, List, ◌++◌, length, take, drop, Result, Ok, Err, OnOk, refl, sym, ap, subst, ◌∙◌, append_assoc}
use Rattle.std.proofs.lemmas.List.{take-append-drop}
use Rattle.std.proofs.Math.Seq.{take-append_seam}
use Rattle.si_text.specs.Printing.{Appends}

-- What begins with bytes to which text was appended begins with these bytes. The first equation is for `grind`, which takes a
-- lemma up at the first call that shows all its variables.
pub kept_on : (old text new : List ℕ) → take (length (old ++ text)) new ≡ old ++ text
    → (take (length (old ++ text)) new ≡ take (length (old ++ text)) new) × (take (length old) new ≡ old)
kept_on old text new kept =
    let rest = drop (length (old ++ text)) new in
    let whole : new ≡ old ++ (text ++ rest) = sym (take-append-drop (length (old ++ text)) new) ∙ ap (λ l. l ++ rest) kept ∙ append_assoc old text rest in
    (refl, ap (take (length old)) whole ∙ take-append_seam old (text ++ rest))

both_texts : {A E : Type 0} (result : Result A E) (old new first second : List ℕ) → OnOk result (new ≡ (old ++ first) ++ second) → OnOk result (new ≡ old ++ (first ++ second))
both_texts (Ok done) old new first second is = is ∙ append_assoc old first second
both_texts (Err refused) old new first second is = is

-- a text that was appended, and then another one
pub then : {A B E : Type 0} {done : A} {result : Result B E} {old middle new first second : List ℕ} → Appends {E = E} (Ok done) old middle first → Appends result middle new second → Appends result old new (first ++ second)
then {A} {B} {E} {done} {result} {old} {middle} {new} {first} {second} one other =
    let P : List ℕ → Type 0 = λ bytes. Appends result bytes new second in
    let behind = subst P one.whole other in
    record { whole = both_texts result old new first second behind.whole; begins = (kept_on old first new behind.begins).1 }
