-- What entries tell under their keys, and places of which some are empty.
use Rattle.std.proofs.Common.{append_assoc, ◌≡◌, ◌∙◌, ℕ, suc, ◌+◌, ◌<◌, ◌≤◌, List, [], ◌∷◌, ◌++◌, length, get_or, map, take, Bool, true, false, cond, Some, None, Option, is_some, unwrap_or, sum_by, refl, sym, ap, ap₂, subst, arith, true≢false, Ordering}
use Rattle.std.specs.BTreeMap.{insert_entry, is_at}
use Rattle.std.specs.Cmp.{IsTotalOrder, eq_by_cmp_equiv}
use Rattle.std.specs.BTreeMap.Range.{entries_between}
use Rattle.std.specs.List.{AllByRecursion, cons_option, filter, filter_map}
use Rattle.std.specs.List.Sorted.{IsStrictlySortedBy}
use Rattle.std.specs.Map.{keys_of, values_of}
use Rattle.std.specs.Option.{option_and_then, option_map, option_map_or, option_to_list}
use Rattle.std.specs.Ordering.{eq_by_cmp}
use Rattle.std.specs.declared.cmp.Ordering.TheVariants.{Less}
use Rattle.std.specs.declared.ops.Bound.TheVariants.{Unbounded}
use Rattle.std.proofs.lemmas.List.{map-append}
use Rattle.std.proofs.lemmas.List.Elements.{filter_map-append}
use Rattle.std.proofs.lemmas.List.Sums.{sum_by-cons}
use Rattle.std.proofs.lemmas.Map.{lookup-none}
use Rattle.std.proofs.lemmas.Map.Entries.{none_past_head, sum_by-insert_entry}
use Rattle.std.proofs.lemmas.Map.Keys.{IsDistinct-from_sorted, sorted_head, sorted_tail}
use Rattle.std.proofs.Math.Seq.{take-suc}
use Rattle.si_lists.proofs.Members.{same_some}
use Rattle.si_model.specs.declared.findings.Finding.{Finding}
use Rattle.si_model.specs.declared.kinds.Kind.{Kind}
use Rattle.si_model.specs.declared.numbers.Stamp.{Stamp}
use Rattle.si_model.specs.declared.numbers.TxnId.{TxnId}
use Rattle.si_sorted.specs.Entries.{Sets, value_at}
use Rattle.si_sorted.proofs.Lookups.{found_after}
use Rattle.si_sorted.proofs.Rising.{rising_more}
use Rattle.si_judge.specs.declared.judgements.ReadId.{ReadId}
use Rattle.si_judge.specs.declared.found_reads.Case.{Case}
use Rattle.si_judge.specs.declared.found_reads.Case.TheVariants as case
use Rattle.si_judge.specs.declared.found_reads.ReadFinding.{ReadFinding}
use Rattle.si_judge.specs.Found.{count_empty, finds, is_finding, kind_by, kind_in, one_if_empty, overlap_in, told_of}
use Rattle.si_judge.specs.Mending.{read_cmp}
use Rattle.si_judge.proofs.Orders.{Decides, read_decides}

-- ---- what entries tell

module _ {K X Y : Type 0} (tells : K → X → Option Y) where
  -- what the entries up to the next one tell
  pub told_next : (es : List (K × X)) (i : ℕ) (d : K × X) → i < length es
      → values_of (told_of tells (take (i + 1) es)) ≡ values_of (told_of tells (take i es)) ++ option_to_list (tells (get_or es i d).0 (get_or es i d).1)
  told_next es i d lt =
      ap (λ l. values_of (told_of tells l)) (ap (λ n. take n es) (let e : i + 1 ≡ suc i = omega arith in e) ∙ take-suc es i d lt)
      ∙ ap values_of (filter_map-append (λ e. option_map (λ y. (e.0, y)) (tells e.0 e.1)) (take i es) (get_or es i d ∷ []))
      ∙ map-append (λ (e : K × Y). e.1) (told_of tells (take i es)) (told_of tells (get_or es i d ∷ []))
      ∙ ap (λ l. values_of (told_of tells (take i es)) ++ l) (one (get_or es i d).0 (tells (get_or es i d).0 (get_or es i d).1))
    where
      one : (k : K) (o : Option Y) → values_of (cons_option (option_map (λ y. (k, y)) o) []) ≡ option_to_list o
      one k None = refl
      one k (Some y) = refl

  module _ (R : K → K → Ordering) where
    all_told : (P : K → Type 0) (es : List (K × X)) → AllByRecursion P (keys_of es) → AllByRecursion P (keys_of (told_of tells es))
    all_told P [] all = tt
    all_told P (e ∷ es) all = go (tells e.0 e.1) (all_told P es all.1)
      where
        go : (o : Option Y) → AllByRecursion P (keys_of (told_of tells es)) → AllByRecursion P (keys_of (cons_option (option_map (λ y. (e.0, y)) o) (told_of tells es)))
        go None rest = rest
        go (Some y) rest = (all.0, rest)

    -- they tell in their order
    pub rising_told : (es : List (K × X)) → IsStrictlySortedBy R (keys_of es) → IsStrictlySortedBy R (keys_of (told_of tells es))
    rising_told [] rising = rising
    rising_told (e ∷ es) rising = go (tells e.0 e.1) (rising_told es (sorted_tail R e.0 (keys_of es) rising))
      where
        go : (o : Option Y) → IsStrictlySortedBy R (keys_of (told_of tells es)) → IsStrictlySortedBy R (keys_of (cons_option (option_map (λ y. (e.0, y)) o) (told_of tells es)))
        go None rest = rest
        go (Some y) rest = rising_more R e.0 (keys_of (told_of tells es)) (all_told (λ q. R e.0 q ≡ Less) es (sorted_head R e.0 (keys_of es) rising)) rest

  module _ {R : K → K → Ordering} (o : IsTotalOrder R) (decides : Decides R) where
    -- under a key stands what the entry there tells
    pub told_under : (es : List (K × X)) → IsStrictlySortedBy R (keys_of es) → (q : K) → value_at R (told_of tells es) q ≡ option_and_then (tells q) (value_at R es q)
    told_under [] rising q = refl
    told_under (e ∷ es) rising q = by (is_at (R q) e.0) refl (told_under es (sorted_tail R e.0 (keys_of es) rising) q)
      where
        hit : is_at (R q) e.0 ≡ true → value_at R (told_of tells es) q ≡ option_and_then (tells q) (value_at R es q) → (t : Option Y)
            → value_at R (cons_option (option_map (λ y. (e.0, y)) t) (told_of tells es)) q ≡ t
        hit at later None = later ∙ ap (option_and_then (tells q)) (lookup-none (is_at (R q)) es (none_past_head (eq_by_cmp_equiv o) q e es (IsDistinct-from_sorted R (keys_of (e ∷ es)) rising) at))
        hit at later (Some y) = ap (λ b. cond b (Some y) (value_at R (told_of tells es) q)) at

        missed : is_at (R q) e.0 ≡ false → (t : Option Y) → value_at R (cons_option (option_map (λ y. (e.0, y)) t) (told_of tells es)) q ≡ value_at R (told_of tells es) q
        missed at None = refl
        missed at (Some y) = ap (λ b. cond b (Some y) (value_at R (told_of tells es) q)) at

        by : (b : Bool) → is_at (R q) e.0 ≡ b → value_at R (told_of tells es) q ≡ option_and_then (tells q) (value_at R es q)
            → value_at R (told_of tells (e ∷ es)) q ≡ option_and_then (tells q) (cond b (Some e.1) (value_at R es q))
        by true at later = hit at later (tells e.0 e.1) ∙ ap (λ k. tells k e.1) (sym ((decides q e.0).0 at))
        by false at later = missed at (tells e.0 e.1) ∙ later

    -- what an edit of the entries is of what they tell
    pub told_sets : (k : K) (w : Option X) (old new : List (K × X)) → IsStrictlySortedBy R (keys_of old) → IsStrictlySortedBy R (keys_of new)
        → Sets R k w old new → Sets R k (option_and_then (tells k) w) (told_of tells old) (told_of tells new)
    told_sets k w old new was is sets q = told_under new is q ∙ ap (option_and_then (tells q)) (sets q) ∙ by (eq_by_cmp R k q) refl
      where
        by : (b : Bool) → eq_by_cmp R k q ≡ b → option_and_then (tells q) (cond b w (value_at R old q)) ≡ cond b (option_and_then (tells k) w) (value_at R (told_of tells old) q)
        by true at = ap (λ x. option_and_then (tells x) w) (sym ((decides k q).0 at))
        by false at = sym (told_under old was q)

-- between no bounds stand all
pub all_between : {K X : Type 0} (R : K → K → Ordering) (es : List (K × X)) → filter_map (λ e. Some (e.0, e.1)) (entries_between R Unbounded Unbounded es) ≡ es
all_between R [] = refl
all_between R (e ∷ es) = ap (λ l. e ∷ l) (all_between R es)

-- what was added so far and what the next entry tells is what the entries up to it tell
pub told_added : {K X : Type 0} (tells : K → X → Option Kind) (at : Kind → Finding) (es : List (K × X)) (i : ℕ) (d : K × X) → i < length es → (start mid new : List Finding) (k : Option Kind)
    → mid ≡ start ++ map at (values_of (told_of tells (take i es))) → k ≡ tells (get_or es i d).0 (get_or es i d).1 → new ≡ mid ++ map at (option_to_list k)
    → new ≡ start ++ map at (values_of (told_of tells (take (i + 1) es)))
told_added tells at es i d lt start mid new k before told added =
    let so_far = values_of (told_of tells (take i es)) in
    added ∙ ap (λ l. l ++ map at (option_to_list k)) before ∙ append_assoc start (map at so_far) (map at (option_to_list k))
    ∙ ap (λ l. start ++ l) (sym (map-append at so_far (option_to_list k)) ∙ ap (map at) (ap (λ o. so_far ++ option_to_list o) told ∙ sym (told_next tells es i d lt)))

-- where nothing stands under a key nothing needs to go
pub none_sets : {K Y : Type 0} (R : K → K → Ordering) → Decides R → (k : K) (es : List (K × Y)) → value_at R es k ≡ None → Sets R k None es es
none_sets R decides k es none q = by (eq_by_cmp R k q) refl
  where
    by : (b : Bool) → eq_by_cmp R k q ≡ b → value_at R es q ≡ cond b None (value_at R es q)
    by true at = ap (value_at R es) (sym ((decides k q).0 at)) ∙ none
    by false at = refl

-- ---- empty places

kind_or_not : (c : Case) (o : ReadId) (f : ReadFinding) → is_some (kind_by c o f) ≡ finds c
kind_or_not case.Nothing o f = refl
kind_or_not case.Unknown o f = refl
kind_or_not case.Doubt o f = refl
kind_or_not case.Own o f = refl
kind_or_not case.Aborted o f = refl
kind_or_not case.Intermediate o f = refl
kind_or_not case.Future o f = refl
kind_or_not case.Stale o f = refl

nothing_told : (o : Option Kind) → is_some o ≡ false → o ≡ None
nothing_told None e = refl
nothing_told (Some k) e = absurd (true≢false e)

-- each place is empty or of a finding
pub all_counted : (es : List (ReadId × ReadFinding)) → length (told_of kind_in es) + count_empty es ≡ length es
all_counted [] = refl
all_counted (e ∷ es) = by (kind_in e.0 e.1) (is_finding e.1) (kind_or_not e.1.case e.0 e.1) (all_counted es)
  where
    by : (k : Option Kind) (b : Bool) → is_some k ≡ b → length (told_of kind_in es) + count_empty es ≡ length es
        → length (cons_option (option_map (λ y. (e.0, y)) k) (told_of kind_in es)) + (cond b 0 1 + count_empty es) ≡ suc (length es)
    by None true s rest = absurd (true≢false (sym s))
    by None false s rest = omega (arith, rest)
    by (Some k) true s rest = omega (arith, rest)
    by (Some k) false s rest = absurd (true≢false s)

pub empty_within : (es : List (ReadId × ReadFinding)) → count_empty es ≤ length es
empty_within es = omega (arith, all_counted es)

nil_of : {X : Type 0} (xs : List X) → length xs ≡ 0 → xs ≡ []
nil_of [] e = refl
nil_of (x ∷ xs) e = absurd (omega (arith, e))

-- where all are empty nothing is found
pub nothing_left : (es : List (ReadId × ReadFinding)) → count_empty es ≡ length es → [] ≡ told_of kind_in es
nothing_left es e = sym (nil_of (told_of kind_in es) (omega (arith, all_counted es, e)))

-- not all are empty where something is found of a read
pub some_counted : (es : List (ReadId × ReadFinding)) (o : ReadId) (f : ReadFinding) → Some f ≡ value_at read_cmp es o → is_finding f ≡ true → count_empty es < length es
some_counted es o f stands finds = by es (sym stands)
  where
    most : (b : Bool) → cond b 0 1 ≤ 1
    most true = omega arith
    most false = omega arith

    by : (ds : List (ReadId × ReadFinding)) → value_at read_cmp ds o ≡ Some f → count_empty ds < length ds
    by [] e = absurd (true≢false (sym (ap is_some e)))
    by (d ∷ ds) e = here (is_at (read_cmp o) d.0) e (by ds)
      where
        here : (b : Bool) → cond b (Some d.1) (value_at read_cmp ds o) ≡ Some f → (value_at read_cmp ds o ≡ Some f → count_empty ds < length ds)
            → one_if_empty d.1 + count_empty ds < suc (length ds)
        here true s rest =
            let same : d.1 ≡ f = same_some s in
            let none : one_if_empty d.1 ≡ 0 = ap (λ (g : ReadFinding). one_if_empty g) same ∙ ap (λ b. cond b 0 1) finds in
            omega (arith, none, empty_within ds)
        here false s rest = omega (arith, most (is_finding d.1), rest s)

count_is : (es : List (ReadId × ReadFinding)) → count_empty es ≡ sum_by one_if_empty (values_of es)
count_is [] = refl
count_is (e ∷ es) = ap (λ n. one_if_empty e.1 + n) (count_is es) ∙ sym (sum_by-cons one_if_empty e.1 (values_of es))

-- how many are empty after an edit
pub count_after : (o : ReadId) (f : ReadFinding) (es : List (ReadId × ReadFinding)) → IsTotalOrder read_cmp → IsStrictlySortedBy read_cmp (keys_of es)
    → count_empty (insert_entry read_cmp es o f) + option_map_or one_if_empty (value_at read_cmp es o) 0 ≡ count_empty es + one_if_empty f
count_after o f es total rising =
    ap₂ (λ m n. m + n) (count_is (insert_entry read_cmp es o f)) (same (value_at read_cmp es o)) ∙ sum_by-insert_entry one_if_empty total es o f rising
    ∙ ap (λ n. n + one_if_empty f) (sym (count_is es))
  where
    same : (w : Option ReadFinding) → option_map_or one_if_empty w 0 ≡ unwrap_or (option_map one_if_empty w) 0
    same None = refl
    same (Some g) = refl

-- what replacing the finding in a place is of what is found
pub told_replaced : (o : ReadId) (f : ReadFinding) (was : Option ReadFinding) (old new : List (ReadId × ReadFinding)) → IsTotalOrder read_cmp → IsStrictlySortedBy read_cmp (keys_of old)
    → IsStrictlySortedBy read_cmp (keys_of new) → was ≡ value_at read_cmp old o → new ≡ cond (is_some was) (insert_entry read_cmp old o f) old
    → Sets read_cmp o (option_and_then (λ _. kind_in o f) was) (told_of kind_in old) (told_of kind_in new)
told_replaced o f None old new total rose rises is e = λ q.
    ap (λ l. value_at read_cmp (told_of kind_in l) q) e
    ∙ none_sets read_cmp read_decides o (told_of kind_in old) (told_under kind_in total read_decides old rose o ∙ ap (option_and_then (kind_in o)) (sym is)) q
told_replaced o f (Some g) old new total rose rises is e =
    told_sets kind_in total read_decides o (Some f) old new rose rises (λ q. ap (λ l. value_at read_cmp l q) e ∙ found_after total o f q old)

-- the same where nothing is found in the new one
pub told_emptied : (o : ReadId) (f : ReadFinding) (was : Option ReadFinding) (old new : List (ReadId × ReadFinding)) → IsTotalOrder read_cmp → IsStrictlySortedBy read_cmp (keys_of old)
    → IsStrictlySortedBy read_cmp (keys_of new) → was ≡ value_at read_cmp old o → new ≡ cond (is_some was) (insert_entry read_cmp old o f) old → f.case ≡ case.Nothing
    → Sets read_cmp o None (told_of kind_in old) (told_of kind_in new)
told_emptied o f was old new total rose rises is e empty =
    subst (λ w. Sets read_cmp o w (told_of kind_in old) (told_of kind_in new)) (nothing was) (told_replaced o f was old new total rose rises is e)
  where
    nothing : (w : Option ReadFinding) → option_and_then (λ _. kind_in o f) w ≡ None
    nothing None = refl
    nothing (Some g) = ap (λ k. kind_by k o f) empty

-- the same of an insertion
pub told_inserted : (o : ReadId) (f : ReadFinding) (old new : List (ReadId × ReadFinding)) → IsTotalOrder read_cmp → IsStrictlySortedBy read_cmp (keys_of old)
    → IsStrictlySortedBy read_cmp (keys_of new) → Sets read_cmp o (Some f) old new → Sets read_cmp o (kind_in o f) (told_of kind_in old) (told_of kind_in new)
told_inserted o f old new total rose rises sets = told_sets kind_in total read_decides o (Some f) old new rose rises sets

pub counted_replaced : (o : ReadId) (f was : ReadFinding) (old new : List (ReadId × ReadFinding)) → IsTotalOrder read_cmp → IsStrictlySortedBy read_cmp (keys_of old)
    → Some was ≡ value_at read_cmp old o → new ≡ insert_entry read_cmp old o f → count_empty new + one_if_empty was ≡ count_empty old + one_if_empty f
counted_replaced o f was old new total rising is e = ap₂ (λ l w. count_empty l + option_map_or one_if_empty w 0) e is ∙ count_after o f old total rising

pub counted_inserted : (o : ReadId) (f : ReadFinding) (old new : List (ReadId × ReadFinding)) → IsTotalOrder read_cmp → IsStrictlySortedBy read_cmp (keys_of old)
    → None ≡ value_at read_cmp old o → new ≡ insert_entry read_cmp old o f → count_empty new ≡ count_empty old + one_if_empty f
counted_inserted o f old new total rising is e =
    let same : count_empty new + 0 ≡ count_empty old + one_if_empty f = ap₂ (λ l w. count_empty l + option_map_or one_if_empty w 0) e is ∙ count_after o f old total rising in
    omega (arith, same)

-- how much a finding counts among the empty ones
pub counts : (f : ReadFinding) (b : Bool) → is_finding f ≡ b → one_if_empty f ≡ cond b 0 1
counts f b e = ap (λ x. cond x 0 1) e

-- ---- where empty ones are closed up

pub closed_same : (es : List (ReadId × ReadFinding)) → told_of kind_in (filter (λ e. is_finding e.1) es) ≡ told_of kind_in es
closed_same [] = refl
closed_same (e ∷ es) = by (kind_in e.0 e.1) (is_finding e.1) refl (kind_or_not e.1.case e.0 e.1) (closed_same es)
  where
    by : (k : Option Kind) (b : Bool) → k ≡ kind_in e.0 e.1 → is_some k ≡ b → told_of kind_in (filter (λ d. is_finding d.1) es) ≡ told_of kind_in es
        → told_of kind_in (cond b (e ∷ filter (λ d. is_finding d.1) es) (filter (λ d. is_finding d.1) es)) ≡ cons_option (option_map (λ y. (e.0, y)) k) (told_of kind_in es)
    by k true same s later = ap₂ (λ o l. cons_option (option_map (λ y. (e.0, y)) o) l) (sym same) later
    by None false same s later = later
    by (Some k) false same s later = absurd (true≢false s)

pub closed_counted : (es : List (ReadId × ReadFinding)) → 0 ≡ count_empty (filter (λ e. is_finding e.1) es)
closed_counted [] = refl
closed_counted (e ∷ es) = by (is_finding e.1) refl (closed_counted es)
  where
    by : (b : Bool) → is_finding e.1 ≡ b → 0 ≡ count_empty (filter (λ d. is_finding d.1) es) → 0 ≡ count_empty (cond b (e ∷ filter (λ d. is_finding d.1) es) (filter (λ d. is_finding d.1) es))
    by true s later = ap₂ (λ b n. cond b 0 1 + n) (sym s) later
    by false s later = later

-- ---- overlaps

-- each pair tells an overlap
pub pairs_told : (es : List (Stamp × (TxnId × TxnId))) → length (told_of overlap_in es) ≡ length es
pairs_told [] = refl
pairs_told (e ∷ es) = ap suc (pairs_told es)
