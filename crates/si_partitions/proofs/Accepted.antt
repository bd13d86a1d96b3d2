-- Edits are accepted exactly where each partition accepts what it has of them.
use Rattle.std.proofs.Common.{◌≡◌, ℕ, ◌<◌, true, List, [], ◌∷◌, ◌++◌, map, None, refl, sym, ap, subst, ◌∙◌}
use Rattle.std.specs.List.{Contains}
use Rattle.std.proofs.lemmas.List.{map-append}
use Rattle.si_lists.proofs.Members.{Contains-map, Contains-from_map}
use Rattle.si_lists.proofs.Names.{Differ, pairs_last, pairs_push}
use Rattle.si_lists.proofs.Tests.{no_value}
use Rattle.si_model.specs.declared.numbers.Value.{Value}
use Rattle.si_model.proofs.Histories.{key_in_pair, not_set_up, set_up_is}
use Rattle.si_model.specs.declared.edits.Edit.{Edit}
use Rattle.si_model.specs.declared.edits.Edit.TheVariants as edit
use Rattle.si_model.specs.declared.transactions.Txn.{Txn}
use Rattle.si_model.specs.Edits.{AsksRightly, IsAcceptable, after}
use Rattle.si_model.specs.History.{IsHistory}
use Rattle.si_model.specs.Journals.{present, IsAccepted}
use Rattle.si_model.specs.Parts.{Present, set_up_value}
use Rattle.si_model.proofs.Acceptance.{accepted_begins}
use Rattle.si_model.proofs.PresentHistories.{acceptance_exact, present_history}
use Rattle.si_partitions.specs.declared.partitions.Partition.{Partition}
use Rattle.si_partitions.specs.Laws.{AreOf, PartitionsAccept, PartitionsAreAccepted}
use Rattle.si_partitions.specs.Partitions.{partition_at, partition_number, has_key, projected, projected_edit, IsPartition}
use Rattle.si_partitions.proofs.Projected.{KeysApart, edits_keep, histories, history_from, history_to, presents}
use Rattle.si_partitions.proofs.Ranges.{own, within}

-- ---- one edit

module _ (p : Partition) (P Q : Present) (is : IsPartition p P Q) where
  from : (U : Txn) → Contains Q.txns U → (T : Txn) × Contains P.txns T × (projected p T ≡ U)
  from U c = Contains-from_map (projected p) P.txns U (subst (λ txns. Contains txns U) is.txns c)

  to : (T : Txn) → Contains P.txns T → Contains Q.txns (projected p T)
  to T c = subst (λ txns. Contains txns (projected p T)) (sym is.txns) (Contains-map (projected p) P.txns T c)

  asks_to : (e : Edit) → AsksRightly P e → AsksRightly Q (projected_edit p e)
  asks_to (edit.Arrive T) absent = λ U c same. let f = from U c in absent f.0 f.1 (ap (λ V. V.id) f.2 ∙ same)
  asks_to (edit.Resolve u o) a = (projected p a.0, to a.0 a.1, a.2, a.3)
  asks_to (edit.Withdraw u) a = (projected p a.0, to a.0 a.1, a.2)
  asks_to (edit.SetUp x v) a = tt

  asks_from : (e : Edit) → AsksRightly Q (projected_edit p e) → AsksRightly P e
  asks_from (edit.Arrive T) absent = λ U c same. absent (projected p U) (to U c) same
  asks_from (edit.Resolve u o) a = let f = from a.0 a.1 in (f.0, f.1, ap (λ V. V.id) f.2 ∙ a.2, ap (λ V. V.status) f.2 ∙ a.3)
  asks_from (edit.Withdraw u) a = let f = from a.0 a.1 in (f.0, f.1, ap (λ V. V.id) f.2 ∙ a.2)
  asks_from (edit.SetUp x v) a = tt

-- where a pair comes last, no pair before it has its key
not_before : (initial : List (List ℕ × Value)) (x : List ℕ) (v : Value) → KeysApart (initial ++ (x, v) ∷ []) → set_up_value x initial ≡ None
not_before initial x v apart = no_value (set_up_value x initial) (λ w e. pairs_last (Differ key_in_pair) initial (x, v) (x, w) apart (set_up_is x initial w e) refl)

-- a key that isn't set up may come last
one_more : (initial : List (List ℕ × Value)) (x : List ℕ) (v : Value) → KeysApart initial → set_up_value x initial ≡ None → KeysApart (initial ++ (x, v) ∷ [])
one_more initial x v apart none = pairs_push (Differ key_in_pair) initial (x, v) apart
    (λ q c same. not_set_up x initial none q.1 (subst (λ y. Contains initial (y, q.1)) same c))

-- the keys that are set up after an edit of all are so after that of the partition
apart_to : (p : Partition) (P Q : Present) (e : Edit) → IsPartition p P Q → KeysApart Q.initial → KeysApart (after e P).initial → KeysApart (after (projected_edit p e) Q).initial
unfolding after
apart_to p P Q (edit.Arrive T) is apart all = apart
apart_to p P Q (edit.Resolve u o) is apart all = apart
apart_to p P Q (edit.Withdraw u) is apart all = apart
apart_to p P Q (edit.SetUp x v) is apart all = one_more Q.initial x v apart (is.others x (not_before P.initial x v all))

-- and the other way round, where the partition has the key that is set up
abbrev OfKey : Partition → Edit → Type 0
OfKey p (edit.SetUp x v) = has_key p x ≡ true
OfKey p (edit.Arrive T) = Unit {0}
OfKey p (edit.Resolve u o) = Unit {0}
OfKey p (edit.Withdraw u) = Unit {0}

apart_from : (p : Partition) (P Q : Present) (e : Edit) → OfKey p e → IsPartition p P Q → KeysApart P.initial → KeysApart (after (projected_edit p e) Q).initial → KeysApart (after e P).initial
unfolding after
apart_from p P Q (edit.Arrive T) has is apart all = apart
apart_from p P Q (edit.Resolve u o) has is apart all = apart
apart_from p P Q (edit.Withdraw u) has is apart all = apart
apart_from p P Q (edit.SetUp x v) has is apart all = one_more P.initial x v apart (sym (is.own x has) ∙ not_before Q.initial x v all)

-- the place of a partition that has the key that an edit sets up, if it sets one up
place_of : (count : ℕ) (e : Edit) → 0 < count → (i : ℕ) × (i < count) × OfKey (partition_at i count) e
place_of count (edit.SetUp x v) some = (partition_number x count, within count x some, own count x)
place_of count (edit.Arrive T) some = (0, some, tt)
place_of count (edit.Resolve u o) some = (0, some, tt)
place_of count (edit.Withdraw u) some = (0, some, tt)

module _ (count : ℕ) (P : Present) (Q : ℕ → Present) (e : Edit) (some : 0 < count) (h : IsHistory P) (of : AreOf count P Q) where
  abbrev part : ℕ → Partition
  part i = partition_at i count

  abbrev has : ℕ → Edit
  has i = projected_edit (part i) e

  accepts_to : IsAcceptable P e → (i : ℕ) → i < count → IsAcceptable (Q i) (has i)
  accepts_to a i l =
      let is = (of i l).0 in
      let g = (of i l).1 in
      let both = (acceptance_exact P e h).0 a in
      let leaves = history_to (part i) (after e P) (after (has i) (Q i)) (edits_keep (part i) P (Q i) e is) both.1 (apart_to (part i) P (Q i) e is g.keys both.1.keys) in
      (acceptance_exact (Q i) (has i) g).1 (asks_to (part i) P (Q i) is e both.0, leaves)

  accepts_from : ((i : ℕ) → i < count → IsAcceptable (Q i) (has i)) → IsAcceptable P e
  accepts_from all =
      let both : (i : ℕ) → i < count → AsksRightly (Q i) (has i) × IsHistory (after (has i) (Q i)) = λ i l. (acceptance_exact (Q i) (has i) (of i l).1).0 (all i l) in
      let k = place_of count e some in
      let apart = apart_from (part k.0) P (Q k.0) e k.2 (of k.0 k.1).0 h.keys (both k.0 k.1).1.keys in
      (acceptance_exact P e h).1 (
        asks_from (part 0) P (Q 0) (of 0 some).0 e (both 0 some).0,
        history_from count (after e P) (λ i. after (has i) (Q i)) some apart (λ i l. (edits_keep (part i) P (Q i) e (of i l).0, (both i l).1)),
      )

pub accepts : PartitionsAccept
accepts count P Q e some h of = (accepts_to count P Q e some h of, accepts_from count P Q e some h of)

-- ---- journals

-- where the image of a list has an element, the list has one there
cut : {X Y : Type 0} (f : X → Y) (xs : List X) (before : List Y) (y : Y) (rest : List Y) → map f xs ≡ before ++ y ∷ rest
    → (b : List X) × (x : X) × (r : List X) × (xs ≡ b ++ x ∷ r) × (map f b ≡ before) × (f x ≡ y)
cut f [] [] y rest s = cc
cut f [] (z ∷ before) y rest s = cc
cut f (x ∷ xs) [] y rest s = ([], x, xs, refl, refl, head_of s)
  where
    head_of : f x ∷ map f xs ≡ y ∷ rest → f x ≡ y
    head_of s = cc
cut {X = X} f (x ∷ xs) (z ∷ before) y rest s =
    let c = cut f xs before y rest (tail_of s) in
    (x ∷ c.0, c.1, c.2, ap (λ ys. x ∷ ys) c.3, both c.0 (head_of s) c.4, c.5)
  where
    head_of : f x ∷ map f xs ≡ z ∷ (before ++ y ∷ rest) → f x ≡ z
    head_of s = cc

    tail_of : f x ∷ map f xs ≡ z ∷ (before ++ y ∷ rest) → map f xs ≡ before ++ y ∷ rest
    tail_of s = cc

    both : (b : List X) → f x ≡ z → map f b ≡ before → map f (x ∷ b) ≡ z ∷ before
    both b e g = cc

module _ (count : ℕ) (edits : List Edit) (some : 0 < count) where
  abbrev one_of : ℕ → Partition
  one_of i = partition_at i count

  -- what each partition of an accepted beginning leaves
  of_begin : (before : List Edit) → IsHistory (present before) → AreOf count (present before) (λ i. present (map (projected_edit (one_of i)) before))
  of_begin before h i l = (
    (presents (one_of i) before).is,
    subst IsHistory (sym (presents (one_of i) before).leaves) ((histories count (present before) some).0 h i l),
  )

  journals_to : IsAccepted edits → (i : ℕ) → i < count → IsAccepted (map (projected_edit (one_of i)) edits)
  journals_to a i l before e rest s =
      let p = one_of i in
      let c = cut (projected_edit p) edits before e rest s in
      let h = present_history c.0 (accepted_begins c.0 (c.1 ∷ c.2) (subst IsAccepted c.3 a)) in
      let one = (accepts count (present c.0) (λ k. present (map (projected_edit (one_of k)) c.0)) c.1 some h (of_begin c.0 h)).0 (a c.0 c.1 c.2 c.3) i l in
      subst (λ J. IsAcceptable (present J) e) c.4 (subst (λ f. IsAcceptable (present (map (projected_edit p) c.0)) f) c.5 one)

  journals_from : ((i : ℕ) → i < count → IsAccepted (map (projected_edit (one_of i)) edits)) → IsAccepted edits
  journals_from all before e rest s =
      let cut_at : (i : ℕ) → map (projected_edit (one_of i)) edits ≡ map (projected_edit (one_of i)) before ++ projected_edit (one_of i) e ∷ map (projected_edit (one_of i)) rest =
      λ i. ap (map (projected_edit (one_of i))) s ∙ map-append (projected_edit (one_of i)) before (e ∷ rest) in
      let begins : (i : ℕ) → i < count → IsAccepted (map (projected_edit (one_of i)) before) =
      λ i l. accepted_begins (map (projected_edit (one_of i)) before) (projected_edit (one_of i) e ∷ map (projected_edit (one_of i)) rest) (subst IsAccepted (cut_at i) (all i l)) in
      let h = (histories count (present before) some).1 (λ i l. subst IsHistory (presents (one_of i) before).leaves (present_history (map (projected_edit (one_of i)) before) (begins i l))) in
      (accepts count (present before) (λ k. present (map (projected_edit (one_of k)) before)) e some h (of_begin before h)).1 (λ i l.
      all i l (map (projected_edit (one_of i)) before) (projected_edit (one_of i) e) (map (projected_edit (one_of i)) rest) (cut_at i))

pub journals : PartitionsAreAccepted
journals count edits some = (journals_to count edits some, journals_from count edits some)
