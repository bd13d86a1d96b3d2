-- What the entries of a map by commit stamps are as a timeline.
use Rattle.std.proofs.Common.{◌≡◌, ◌∙◌, inl, inr, ◌⊎◌, ℕ, ◌<◌, Bool, true, false, cond, List, [], ◌∷◌, Option, Some, None, unwrap_or, is_some, refl, sym, ap, ap₂, subst, arith, true≢false}
use Rattle.std.specs.List.{AllByRecursion, Contains, filter_map}
use Rattle.std.specs.BTreeMap.Range.{entries_between}
use Rattle.std.specs.Option.{MatchOption}
use Rattle.std.specs.declared.ops.Bound.TheVariants.{Unbounded}
use Rattle.std.specs.List.Sorted.{IsStrictlySortedBy}
use Rattle.std.specs.Map.{keys_of, lookup, remove_entry}
use Rattle.std.specs.BTreeMap.{insert_entry, is_at}
use Rattle.std.specs.Cmp.{ranked, nat_cmp_is}
use Rattle.std.specs.Ordering.{nat_cmp, is_eq, match_ordering}
use Rattle.std.proofs.Common.{Ordering}
use Rattle.std.proofs.lemmas.Map.Keys.{sorted_head, sorted_tail}
use Rattle.std.specs.declared.cmp.Ordering.TheVariants.{Less, Equal, Greater}
use Rattle.si_lists.proofs.Members.{at_each, here, there, Contains-cons_cases}
use Rattle.si_model.specs.declared.numbers.Stamp.{Stamp}
use Rattle.si_timeline.specs.Timelines.{Adds, Dated, IsAt, IsRising, Lacks}
use Rattle.si_timeline.specs.declared.versions.Version.{Version}

abbrev pub stamp_cmp : Stamp → Stamp → Ordering
stamp_cmp a b = nat_cmp a.0 b.0

above_all : (k : Stamp) (es : List Dated) → AllByRecursion (λ q. stamp_cmp k q ≡ Less) (keys_of es) → AllByRecursion (λ d. k.0 < d.0.0) es
above_all k [] h = tt
above_all k (e ∷ es) h = (ranked k.0 e.0.0 Less (sym h.0), above_all k es h.1)

pub rising : (es : List Dated) → IsStrictlySortedBy stamp_cmp (keys_of es) → IsRising es
rising [] h = tt
rising (e ∷ es) h = (above_all e.0 es (sorted_head stamp_cmp e.0 (keys_of es) h), rising es (sorted_tail stamp_cmp e.0 (keys_of es) h))

-- ---- one entry

same_stamp : (a b : Stamp) → is_eq (stamp_cmp a b) ≡ true → a ≡ b
same_stamp a b e = go (stamp_cmp a b) refl e
  where
    go : (r : Ordering) → stamp_cmp a b ≡ r → is_eq r ≡ true → a ≡ b
    go Less is f = absurd (true≢false (sym f))
    go Equal is f = ap (λ (n : ℕ). record { 0 = n }) (ranked a.0 b.0 Equal (sym is))
    go Greater is f = absurd (true≢false (sym f))

at_itself : (a : Stamp) → is_eq (stamp_cmp a a) ≡ true
at_itself a = ap is_eq (sym (nat_cmp_is a.0 a.0 Equal refl))

-- what stands under a stamp is found
pub found : (ds : List Dated) (d : Dated) → Contains ds d → lookup (is_at (stamp_cmp d.0)) ds ≡ None → ⊥
found [] d c none = omega (arith, c.1)
found (e ∷ es) d c none = go (is_at (stamp_cmp d.0) e.0) refl none (found es d)
  where
    go : (b : Bool) → is_at (stamp_cmp d.0) e.0 ≡ b → cond b (Some e.1) (lookup (is_at (stamp_cmp d.0)) es) ≡ None → (Contains es d → lookup (is_at (stamp_cmp d.0)) es ≡ None → ⊥) → ⊥
    go true is f rest = true≢false (ap is_some f)
    go false is f rest = elim (Contains-cons_cases e es d c) [
      | inl same ↦ true≢false (sym (at_itself d.0) ∙ ap (λ (x : Dated). is_eq (stamp_cmp d.0 x.0)) (sym same) ∙ is)
      | inr more ↦ rest more f
    ]

-- ---- one more, one less

pub adds : (k : Stamp) (v : Version) (ds : List Dated) → Lacks ds k → Adds k v ds (insert_entry stamp_cmp ds k v)
adds k v [] lacks = ([], [], refl, refl)
adds k v (e ∷ es) lacks = go (stamp_cmp k e.0) refl (adds k v es (λ w c. lacks w (there e es (k, w) c)))
  where
    go : (r : Ordering) → stamp_cmp k e.0 ≡ r → Adds k v es (insert_entry stamp_cmp es k v)
        → Adds k v (e ∷ es) (match_ordering r ((k, v) ∷ e ∷ es) ((e.0, v) ∷ es) (e ∷ insert_entry stamp_cmp es k v))
    go Less is rest = ([], e ∷ es, refl, refl)
    go Equal is rest = absurd (lacks e.1 (subst (λ s. Contains (e ∷ es) (s, e.1)) (sym (same_stamp k e.0 (ap is_eq is))) (here e es)))
    go Greater is rest = (e ∷ rest.0, rest.1, ap (λ l. e ∷ l) rest.2, ap (λ l. e ∷ l) rest.3)

pub removes : (k : Stamp) (v : Version) (ds : List Dated) → lookup (is_at (stamp_cmp k)) ds ≡ Some v → Adds k v (remove_entry (is_at (stamp_cmp k)) ds) ds
removes k v [] e = absurd (true≢false (sym (ap is_some e)))
removes k v (d ∷ ds) e = go (is_at (stamp_cmp k) d.0) refl e (removes k v ds)
  where
    go : (b : Bool) → is_at (stamp_cmp k) d.0 ≡ b → cond b (Some d.1) (lookup (is_at (stamp_cmp k)) ds) ≡ Some v
        → (lookup (is_at (stamp_cmp k)) ds ≡ Some v → Adds k v (remove_entry (is_at (stamp_cmp k)) ds) ds)
        → Adds k v (cond b ds (d ∷ remove_entry (is_at (stamp_cmp k)) ds)) (d ∷ ds)
    go true is f rest = ([], ds, refl, ap₂ (λ (s : Stamp) (w : Version). (s, w) ∷ ds) (sym (same_stamp k d.0 is)) (ap (λ o. unwrap_or o v) f))
    go false is f rest = let a = rest f in (d ∷ a.0, a.1, ap (λ l. d ∷ l) a.2, ap (λ l. d ∷ l) a.3)

-- ---- what stands under a stamp, and all

stands : (k : Stamp) (v : Version) (ds : List Dated) → lookup (is_at (stamp_cmp k)) ds ≡ Some v → Contains ds (k, v)
stands k v [] e = absurd (true≢false (sym (ap is_some e)))
stands k v (d ∷ ds) e = go (is_at (stamp_cmp k) d.0) refl e (stands k v ds)
  where
    go : (b : Bool) → is_at (stamp_cmp k) d.0 ≡ b → cond b (Some d.1) (lookup (is_at (stamp_cmp k)) ds) ≡ Some v → (lookup (is_at (stamp_cmp k)) ds ≡ Some v → Contains ds (k, v)) → Contains (d ∷ ds) (k, v)
    go true is f rest = subst (Contains (d ∷ ds)) (ap₂ (λ (s : Stamp) (w : Version). (s, w)) (sym (same_stamp k d.0 is)) (ap (λ o. unwrap_or o v) f)) (here d ds)
    go false is f rest = there d ds (k, v) (rest f)

-- no other stands under it
pub alone : (k : Stamp) (v w : Version) (ds : List Dated) → IsRising ds → Contains ds (k, v) → Contains ds (k, w) → w ≡ v
alone k v w [] rises c d = absurd (omega (arith, c.1))
alone k v w (e ∷ es) rises c d = by (Contains-cons_cases e es (k, v) c) (Contains-cons_cases e es (k, w) d) (alone k v w es rises.1)
  where
    above : (x : Version) → Contains es (k, x) → e.0.0 < k.0
    above x m = at_each (λ q. e.0.0 < q.0.0) es (k, x) rises.0 m

    by : (e ≡ (k, v)) ⊎ Contains es (k, v) → (e ≡ (k, w)) ⊎ Contains es (k, w) → (Contains es (k, v) → Contains es (k, w) → w ≡ v) → w ≡ v
    by (inl a) (inl b) rest = ap (λ (x : Dated). x.1) (sym b ∙ a)
    by (inl a) (inr n) rest = let lt = above w n in let s : e.0.0 ≡ k.0 = ap (λ (x : Dated). x.0.0) a in absurd (omega (arith, lt, s))
    by (inr m) (inl b) rest = let lt = above v m in let s : e.0.0 ≡ k.0 = ap (λ (x : Dated). x.0.0) b in absurd (omega (arith, lt, s))
    by (inr m) (inr n) rest = rest m n

-- what is found under a stamp was installed then, and nothing else; where nothing is found nothing was
pub under : (k : Stamp) (ds : List Dated) (o : Option Version) → IsRising ds → o ≡ lookup (is_at (stamp_cmp k)) ds → MatchOption o (Lacks ds k) (λ v. IsAt ds k v)
under k ds None rises e = λ v c. found ds (k, v) c (sym e)
under k ds (Some v) rises e = let is = stands k v ds (sym e) in (is, λ w c. alone k v w ds rises is c)

-- between no bounds stand all
pub all_of : (ds : List Dated) → filter_map (λ d. Some (d.0, d.1)) (entries_between stamp_cmp Unbounded Unbounded ds) ≡ ds
all_of [] = refl
all_of (d ∷ ds) = ap (λ l. d ∷ l) (all_of ds)
