-- The tokens of operations, and what they say.
use Rattle.std.specs.Prelude.{◌≡◌, ℕ, List, [], ◌∷◌, codes, Option, Some, None}
use Rattle.json.specs.Token as tokens
use Rattle.json.specs.Token.{Token}
use Rattle.serde_json.specs.Data.{unsigned}
use Rattle.serde_json.specs.Read.{number_of}
use Rattle.si_model.specs.KeyTexts.{IsKeyText}
use Rattle.si_model.specs.declared.numbers.Value.{Value}
use Rattle.si_model.specs.declared.operations.Op.{Op}
use Rattle.si_model.specs.declared.operations.Op.TheVariants.{Read, Write}

-- In each of these, old are the tokens before and new those that are left.

-- a token is a number without sign, fraction and exponent
pub record IsNumber (number : ℕ) (t : Token) : Type 0 where
  pub text : List ℕ
  pub is : t ≡ tokens.number text
  pub reads : number_of text ≡ Some (unsigned number)

-- the first token is a number
pub record TakesNumeral (number : ℕ) (old new : List Token) : Type 0 where
  pub text : List ℕ
  pub is : old ≡ tokens.number text ∷ new
  pub reads : number_of text ≡ Some (unsigned number)

-- what a read returned
abbrev pub IsReturned : Option Value → Token → Type 0
IsReturned None t = t ≡ tokens.null
IsReturned (Some value) t = IsNumber value.0 t

-- the operation of that name
abbrev pub IsOp : Op → List ℕ → List ℕ → Token → Type 0
IsOp (Read key read) word text t = (word ≡ codes "r") × (key ≡ text) × IsReturned read t
IsOp (Write key value) word text t = (word ≡ codes "w") × (key ≡ text) × IsNumber value.0 t

-- an array of three that is an operation
pub record TakesOp (op : Op) (old new : List Token) : Type 0 where
  pub word : List ℕ
  pub text : List ℕ
  pub value : Token
  pub is : old ≡ tokens.begin_array ∷ tokens.string word ∷ tokens.string text ∷ value ∷ tokens.end_array ∷ new
  pub fits : IsKeyText text
  pub means : IsOp op word text value

-- the items up to the end of their array
abbrev pub TakesItems : List Op → List Token → List Token → Type 0
TakesItems [] old new = old ≡ tokens.end_array ∷ new
TakesItems (op ∷ ops) old new = (mid : List Token) × TakesOp op old mid × TakesItems ops mid new
