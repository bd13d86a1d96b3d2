use Rattle.std.proofs.Common.{Bool, cond, is_some, subst, sym, true, false}
use Rattle.std.specs.BTreeMap.{insert_entry}
use Rattle.std.specs.List.Sorted.{IsStrictlySortedBy}
use Rattle.std.specs.Map.{keys_of}
use Rattle.si_sorted.specs.Forms.{entries_in}
use Rattle.si_sorted.proofs.Rising.{rising_inserted}
use Rattle.si_sorted.proofs.sorted_maps.SortedMap.replace.Goals as goal

-- in order as before, or with a value replaced
still_rising : (g : _) (c : goal.After-replace g) → IsStrictlySortedBy g.K.Ord.cmp (keys_of (entries_in c.replace.new.self))
still_rising g c =
    subst (λ es. IsStrictlySortedBy g.K.Ord.cmp (keys_of es)) (sym c.replace.ensures.entries)
    (by (is_some c.replace.result))
  where
    by : (b : Bool) → IsStrictlySortedBy g.K.Ord.cmp (keys_of (cond b (insert_entry g.K.Ord.cmp (entries_in c.self.inside.form) c.args.key c.args.value) (entries_in c.self.inside.form)))
    by true = rising_inserted g.met.K.Ord.total c.args.key c.args.value (entries_in c.self.inside.form) c.self.invariant
    by false = c.self.invariant

pub invariant_of-self : goal.invariant_of-self
invariant_of-self g c = still_rising g c

pub returns-clause-rising : goal.returns-clause-rising
returns-clause-rising g c = still_rising g c
