-- The reads that are judged again are touched, each once.
use Rattle.std.proofs.Common.{◌≡◌, ◌≢◌, inl, inr, ℕ, ◌+◌, ◌<◌, ◌≤◌, List, ◌++◌, length, map, Option, Some, None, refl, sym, ap, subst, arith}
use Rattle.std.specs.List.{AllPairs, Contains}
use Rattle.std.proofs.lemmas.List.{length-append, length-map}
use Rattle.std.proofs.lemmas.List.Elements.{Contains-append_cases}
use Rattle.si_lists.proofs.Members.{Contains-from_map}
use Rattle.si_lists.proofs.Names.{Differ, names_filter_map, names_map, pairs_nil}
use Rattle.si_model.specs.declared.numbers.TxnId.{TxnId}
use Rattle.si_model.specs.declared.numbers.Value.{Value}
use Rattle.si_model.specs.declared.numbers.Stamp.{Stamp}
use Rattle.si_model.specs.declared.parts.Placed.{Placed}
use Rattle.si_model.specs.declared.parts.Part.{Part}
use Rattle.si_model.specs.declared.parts.OnKey.{OnKey}
use Rattle.si_model.specs.Versions.{commit_of}
use Rattle.si_judge.specs.declared.reads.KeptRead.{KeptRead}
use Rattle.si_judge.specs.declared.indexes.Indexes.{Indexes}
use Rattle.si_judge.specs.Indexes.{AreIndexes, AreReadsOf, read_at, reads_by, reads_in, reads_of}
use Rattle.si_judge.specs.Mending.{id_of}
use Rattle.si_judge.specs.Touched.{IsBoundedBy}
use Rattle.si_judge.proofs.Gathered.{same_read}
use Rattle.si_judge.proofs.PairLists.{pairs_append, pairs_weaker}
use Rattle.si_judge.proofs.PartLists.{by_read}

-- a read by its transaction and place
abbrev pub name_of : KeptRead × Option Value → TxnId × ℕ
name_of p = (p.0.txn, p.0.place)

same_id : (p q : KeptRead × Option Value) → name_of p ≡ name_of q → id_of p ≡ id_of q
same_id p q e = λ i. record { txn = (e i).0; place = (e i).1 }

pub own_once : (T : Part) → AllPairs (λ a b. a.place < b.place) T.accesses → AllPairs (Differ name_of) (reads_in T)
unfolding reads_in
own_once T rise = by (commit_of T.status)
  where
    apart : (ys : List Placed) → AllPairs (λ a b. a.place < b.place) ys → AllPairs (Differ (λ (a : Placed). a.place)) ys
    apart ys p = pairs_weaker {R = λ a b. a.place < b.place} {S = Differ (λ (a : Placed). a.place)} ys p (λ a b c d lt e. omega (arith, lt, e))

    at_place : (a : Placed) (p : KeptRead × Option Value) → read_at T a ≡ Some p → p.0.place ≡ a.place
    at_place a p e = let r = by_read T a.place a.access p e in sym (ap (λ (q : KeptRead × Option Value). q.0.place) r.2)

    by : (o : Option Stamp) → AllPairs (Differ name_of) (reads_by T o)
    by None = pairs_nil (Differ name_of)
    by (Some c) = pairs_weaker {R = Differ (λ (p : KeptRead × Option Value). p.0.place)} {S = Differ name_of} (reads_of T)
        (names_filter_map (λ (a : Placed). a.place) (λ (p : KeptRead × Option Value). p.0.place) (read_at T) at_place T.accesses (apart T.accesses rise))
        (λ a b c d differ e. differ (ap (λ x. x.1) e))

pub kept_reads_once : {M : OnKey} (ix : Indexes) → AreIndexes M ix → (P : KeptRead → Type 0) (xs : List (KeptRead × Option Value)) → AreReadsOf ix P xs → AllPairs (Differ name_of) xs
kept_reads_once ix is P xs are = pairs_weaker {R = λ p q. p.0 ≢ q.0} {S = Differ name_of} xs are.once (λ p q c d differ e.
    let a = (is.reads p.0 p.1).0 (are.only p c).0 in
    let b = (is.reads q.0 q.1).0 (are.only q d).0 in
    differ (ap (λ (x : KeptRead × Option Value). x.0) (same_read ix is p q a.0 b.0 a.1 b.1 a.2 b.2 (same_id p q e))))

-- so many judgements are within the bound
pub bounded : (Touched : TxnId × ℕ → Type 0) (xs : List (KeptRead × Option Value)) → AllPairs (Differ name_of) xs → ((p : KeptRead × Option Value) → Contains xs p → Touched (name_of p))
    → (n : ℕ) → n ≤ length xs + 2 → IsBoundedBy Touched n
bounded Touched xs once touched n le = record {
  reads = map name_of xs;
  once = names_map name_of (λ o. o) name_of (λ p. refl) xs once;
  touched = λ o c. let p = Contains-from_map name_of xs o c in subst Touched p.2 (touched p.0 p.1);
  bound = subst (λ m. n ≤ m + 2) (sym (length-map xs name_of)) le;
}

pub bounded_by_both : (Touched : TxnId × ℕ → Type 0) (xs ys : List (KeptRead × Option Value)) → AllPairs (Differ name_of) xs → AllPairs (Differ name_of) ys
    → ((p q : KeptRead × Option Value) → Contains xs p → Contains ys q → p.0.txn ≢ q.0.txn)
    → ((p : KeptRead × Option Value) → Contains xs p → Touched (name_of p)) → ((p : KeptRead × Option Value) → Contains ys p → Touched (name_of p))
    → (n : ℕ) → n ≤ length xs + length ys + 2 → IsBoundedBy Touched n
bounded_by_both Touched xs ys a b apart f g n le = bounded Touched (xs ++ ys)
    (pairs_append {R = Differ name_of} xs ys a b (λ p q c d e. apart p q c d (ap (λ x. x.0) e)))
    (λ p c. elim (Contains-append_cases xs ys p c) [ inl l ↦ f p l | inr r ↦ g p r ])
    n (subst (λ m. n ≤ m + 2) (sym (length-append xs ys)) le)
