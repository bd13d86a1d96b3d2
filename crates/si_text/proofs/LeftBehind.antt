-- What is left of foreseen bytes.
use Rattle.std.proofs.Common.{◌≡◌, ℕ, ◌==◌, Bool, true, false, List, [], ◌∷◌, ◌++◌, Option, Some, None, refl, ap, ◌∙◌, cond, eqb-true}
use Rattle.std.specs.Io.KnownBytes.{IsAtEnd}
use Rattle.si_text.specs.Devices.{MayConsume}
use Rattle.si_text.specs.Streams.{left_at_end, left_behind, left_by}

-- one byte more in front
front : (b : Bool) (next byte : ℕ) → (next == byte) ≡ b → (whole piece : List ℕ) → MayConsume (Some whole) (left_behind whole piece) piece
    → MayConsume (Some (next ∷ whole)) (cond b (left_behind whole piece) None) (byte ∷ piece)
front true next byte e whole piece m = by (left_behind whole piece) m
  where
    by : (left : Option (List ℕ)) → MayConsume (Some whole) left piece → MayConsume (Some (next ∷ whole)) left (byte ∷ piece)
    by None n = tt
    by (Some rest) n = ap (λ l. next ∷ l) n ∙ ap (λ (x : ℕ). x ∷ (piece ++ rest)) (eqb-true next byte e)
front false next byte e whole piece m = tt

takes : (whole piece : List ℕ) → MayConsume (Some whole) (left_behind whole piece) piece
takes whole [] = refl
takes [] (byte ∷ piece) = tt
takes (next ∷ whole) (byte ∷ piece) = front (next == byte) next byte refl whole piece (takes whole piece)

pub takes_more : (whole given piece : List ℕ) → MayConsume (left_behind whole given) (left_behind whole (given ++ piece)) piece
takes_more whole [] piece = takes whole piece
takes_more [] (byte ∷ given) piece = tt
takes_more (next ∷ whole) (byte ∷ given) piece = by (next == byte) (takes_more whole given piece)
  where
    by : (b : Bool) → MayConsume (left_behind whole given) (left_behind whole (given ++ piece)) piece
        → MayConsume (cond b (left_behind whole given) None) (cond b (left_behind whole (given ++ piece)) None) piece
    by true m = m
    by false m = tt

at_end : (left : Option (List ℕ)) → MayConsume left (left_at_end left) []
at_end None = tt
at_end (Some []) = refl
at_end (Some (byte ∷ rest)) = tt

is_at_end : (left : Option (List ℕ)) → IsAtEnd (left_at_end left)
is_at_end None = tt
is_at_end (Some []) = refl
is_at_end (Some (byte ∷ rest)) = tt

-- bytes come before it
pub given_now : (whole bytes piece : List ℕ) (gone_on : Bool)
    → MayConsume (left_by whole (record { bytes = bytes; has_ended = false; has_gone_on = gone_on }))
    (left_by whole (record { bytes = bytes ++ piece; has_ended = false; has_gone_on = gone_on })) piece
given_now whole bytes piece true = tt
given_now whole bytes piece false = takes_more whole bytes piece
