-- What is taken from the bytes of a line, and the tokens that it is.
use Rattle.std.specs.Prelude.{◌≡◌, ◌≢◌, ◌≤◌, ◌<◌, ◌^◌, ◌⊎◌, ⊤, Bool, true, false, ℕ, List, [], ◌∷◌, ◌++◌, codes, decimal}
use Rattle.std.specs.Str.Parse.{AllDigits, digits_value}
use Rattle.json.specs.Token as tokens
use Rattle.json.specs.Token.{Token}
use Rattle.json.specs.Lex.{token, between, lex, Place, fresh, after_value, after_comma, may_begin, punctuate}
use Rattle.si_model.specs.declared.operations.Op.{Op}
use Rattle.si_text.specs.FoundMembers.{TakesMember}
use Rattle.si_text.specs.TokenOperations.{TakesOp}
use Rattle.si_text.specs.declared.found_members.Member.{Member}

-- In each of these, old are the bytes before and new those that are left.

-- a word, with a space behind it or none
abbrev pub Takes : List ℕ → List ℕ → List ℕ → Type 0
Takes word old new = (old ≡ word ++ new) ⊎ (old ≡ word ++ 32 ∷ new)

-- a comma, a brace or a bracket, by which a value ends
abbrev pub IsEnd : ℕ → Type 0
IsEnd byte = (byte ≡ 44) ⊎ ((byte ≡ 125) ⊎ (byte ≡ 93))

-- a value ends before these bytes
pub record EndsValue (bytes : List ℕ) : Type 0 where
  pub end : ℕ
  pub others : List ℕ
  pub is : bytes ≡ end ∷ others
  pub ends : IsEnd end

-- a word that is a whole value
abbrev pub TakesWhole : List ℕ → List ℕ → List ℕ → Type 0
TakesWhole word old new = (old ≡ word ++ new) × EndsValue new

-- the tokens that are left at a place of the grammar
abbrev pub left : Place → List ℕ → List Token
left place bytes = punctuate place (lex between bytes)

-- a token that is a whole value, where one may begin
abbrev pub TakesToken : Token → List ℕ → List ℕ → Type 0
TakesToken t old new = (place : Place) → may_begin place ≡ true → left place old ≡ t ∷ left after_value new

-- a text in quotes, whatever comes behind it
abbrev pub TakesText : List ℕ → List ℕ → List ℕ → Type 0
TakesText text old new = lex between old ≡ token (tokens.string text) ∷ lex between new

-- a number
abbrev pub TakesNumber : ℕ → List ℕ → List ℕ → Type 0
TakesNumber number old new = (number < 2 ^ 64) × TakesToken (tokens.number (decimal number)) old new

-- the name of a member, where one may begin
abbrev pub TakesName : List ℕ → List ℕ → List ℕ → Type 0
TakesName name old new = (place : Place) → may_begin place ≡ true → left place old ≡ tokens.key name ∷ left fresh new

-- a member, where one may begin
abbrev pub TakesMemberAt : Member → List ℕ → List ℕ → Type 0
TakesMemberAt m old new = (place : Place) → may_begin place ≡ true → TakesMember m (left place old) (left after_value new)

-- the word of a write or a read
abbrev pub op_word : Bool → List ℕ
op_word true = codes "w"
op_word false = codes "r"

-- the beginning of an operation up to its key, where a value may begin
abbrev pub TakesOpWord : Bool → List ℕ → List ℕ → Type 0
TakesOpWord writes old new = (place : Place) → may_begin place ≡ true → left place old ≡ tokens.begin_array ∷ tokens.string (op_word writes) ∷ left after_comma new

-- the number of an operation, and its end
abbrev pub TakesLast : ℕ → List ℕ → List ℕ → Type 0
TakesLast number old new = (number < 2 ^ 64) × (left after_comma old ≡ tokens.number (decimal number) ∷ tokens.end_array ∷ left after_value new)

-- an operation, where a value may begin
abbrev pub TakesOpAt : Op → List ℕ → List ℕ → Type 0
TakesOpAt op old new = (place : Place) → may_begin place ≡ true → TakesOp op (left place old) (left after_value new)

-- a character that stands for itself in a text of JSON
abbrev pub IsPlain : ℕ → Type 0
IsPlain byte = (32 ≤ byte) × (byte ≤ 126) × (byte ≢ 34) × (byte ≢ 92)

-- each is such a character
abbrev pub ArePlain : List ℕ → Type 0
ArePlain [] = ⊤
ArePlain (byte ∷ bytes) = IsPlain byte × ArePlain bytes

-- the text is digits that are this number
abbrev pub AreDigits : ℕ → List ℕ → Type 0
AreDigits number text = AllDigits 10 text × (number ≡ digits_value 10 text)
