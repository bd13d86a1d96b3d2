-- What is known of files that are opened by their names.
use Rattle.std.specs.Prelude.{ℕ, List, Bool, Option}

-- files by their names: the bytes of the file of a name, opened at a place among the sources, where they are known, and whether its opening may fail
pub record Folder : Type 0 where
  pub bytes : ℕ → List ℕ → Option (List ℕ)
  pub may_lack : List ℕ → Bool
