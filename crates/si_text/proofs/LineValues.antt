-- Lemmas on the JSON value of a line.
use Rattle.std.proofs.Common.{◌≡◌, ℕ, List, Some, None, Bool, true, false, refl, cond}
use Rattle.std.proofs.lemmas.Str.{is_utf8-from_IsUtf8, IsUtf8-from_is_utf8}
use Rattle.std.specs.Str.{IsUtf8, is_utf8}
use Rattle.serde_json.specs.Data.{Data}
use Rattle.serde_json.specs.Read.{read}
use Rattle.si_text.specs.Lines.{value_of}

pub value_of_utf8 : (line : List ℕ) (d : Data) → IsUtf8 line → read line ≡ Some d → value_of line ≡ Some d
value_of_utf8 line d utf8 is = let e = is_utf8-from_IsUtf8 line utf8 in rw e is

chosen_none : (line : List ℕ) (b : Bool) → is_utf8 line ≡ b → (IsUtf8 line → read line ≡ None) → cond b (read line) None ≡ None
chosen_none line true e none = none (IsUtf8-from_is_utf8 line e)
chosen_none line false e none = refl

pub value_of_none : (line : List ℕ) → (IsUtf8 line → read line ≡ None) → value_of line ≡ None
value_of_none line none = chosen_none line (is_utf8 line) refl none
