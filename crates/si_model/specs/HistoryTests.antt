-- The tests that decide whether what is present is a history: `History` in a form that can be computed, this project's choice.
use Rattle.std.specs.Prelude.{ℕ, Bool, true, not, ◌&&◌, List, [], ◌∷◌, Some, None, Option}
use Rattle.std.specs.List.{list_all, list_any}
use Rattle.si_model.specs.declared.numbers.Stamp.{Stamp}
use Rattle.si_model.specs.declared.numbers.Value.{Value}
use Rattle.si_model.specs.declared.operations.Op.{Op}
use Rattle.si_model.specs.declared.operations.Op.TheVariants as op
use Rattle.si_model.specs.declared.transactions.Txn.{Txn}
use Rattle.si_model.specs.Operations.{same_key, same_write}
use Rattle.si_model.specs.Parts.{Present, writes_pair_of, writes_some}
use Rattle.si_model.specs.Versions.{commit_of}
use Rattle.si_model.specs.Edits.{same_id, install_stamp, has_stamp, is_forward}

-- whether a commit, if there is one, may follow its start
abbrev pub goes_forward : Bool → Stamp → Option Stamp → Bool
goes_forward writes s None = true
goes_forward writes s (Some c) = is_forward writes s c

-- whether each element passes the test with each later one
abbrev pub pairwise : {X : Type 0} → (X → X → Bool) → List X → Bool
pairwise apart [] = true
pairwise apart (x ∷ xs) = list_all (apart x) xs && pairwise apart xs

-- whether two operations write no common pair
abbrev pub ops_apart : Op → Op → Bool
ops_apart p q = not (same_write p q)

-- whether a stamp, if there is one, is none of the transaction
abbrev pub stamp_apart : Option Stamp → Txn → Bool
stamp_apart None T = true
stamp_apart (Some c) T = not (has_stamp c T)

-- whether an operation writes no pair that these write
abbrev pub apart_from_all : List Op → Op → Bool
apart_from_all ops p = list_all (ops_apart p) ops

-- whether two transactions have distinct ids, no commit stamp of one that writes is a stamp of the other, and they write no common pair
abbrev pub txns_apart : Txn → Txn → Bool
txns_apart A B = not (same_id A.id B.id) && (stamp_apart (install_stamp A) B && (stamp_apart (install_stamp B) A && list_all (apart_from_all B.ops) A.ops))

-- whether a transaction alone could be a history
abbrev pub is_sound : Txn → Bool
is_sound T = goes_forward (writes_some T) T.start (commit_of T.status) && pairwise ops_apart T.ops

-- whether two pairs are of different keys
abbrev pub keys_apart : List ℕ × Value → List ℕ × Value → Bool
keys_apart p q = not (same_key p.0 q.0)

-- whether no transaction writes the pair
abbrev pub is_unwritten : List Txn → List ℕ × Value → Bool
is_unwritten txns p = not (list_any (writes_pair_of (op.Write p.0 p.1)) txns)

-- whether what is present passes all tests
abbrev pub is_consistent : Present → Bool
is_consistent P = list_all is_sound P.txns && (pairwise txns_apart P.txns && (pairwise keys_apart P.initial && list_all (is_unwritten P.txns) P.initial))
