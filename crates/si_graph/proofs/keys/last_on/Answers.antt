use Rattle.std.proofs.Common.{◌≡◌, ◌∙◌, ℕ, ◌+◌, true, false, List, [], ◌∷◌, Option, Some, None, refl, sym, ap, cond}
use Rattle.std.specs.List.{fold, filter_map, enumerate_from, cons_option}
use Rattle.std.specs.Option.{option_or}
use Rattle.si_model.specs.declared.numbers.Value.{Value}
use Rattle.si_model.specs.declared.operations.Op.{Op}
use Rattle.si_model.specs.declared.transactions.Txn.{Txn}
use Rattle.si_model.specs.Operations.{key_of, access_of, same_key}
use Rattle.si_model.specs.Parts.{placed_at}
use Rattle.si_model.specs.Versions.{written}
use Rattle.si_graph.specs.EvidenceTests.{last_on, last_after}
use Rattle.si_graph.proofs.keys.last_on.Goals as goal

-- the last write of the key, by a walk over the operations
walked : (x : List ℕ) (o : Option Value) (n : ℕ) (ops : List Op) → fold (λ last a. option_or (written a.access) last) o (filter_map (placed_at x) (enumerate_from n ops)) ≡ fold (last_after x) o ops
walked x o n [] = refl
walked x o n (p ∷ ops) = elim (same_key (key_of p) x) as (λ b. fold (λ last a. option_or (written a.access) last) o (cons_option (cond b (Some (record { place = n; access = access_of p })) None) (filter_map (placed_at x) (enumerate_from (n + 1) ops))) ≡ fold (last_after x) (cond b (option_or (written (access_of p)) o) o) ops) [
  | true ↦ walked x (option_or (written (access_of p)) o) (n + 1) ops
  | false ↦ walked x o (n + 1) ops
]

last_walked : (x : List ℕ) (T : Txn) → last_on x T ≡ fold (last_after x) None T.ops
unfolding last_on
last_walked x T = walked x None 0 T.ops

pub returns : goal.returns
returns c = c.last_among.ensures ∙ ap (fold (last_after c.args.key.now) None) c.as_slice.ensures.items ∙ sym (last_walked c.args.key.now c.args.txn.now)
