-- What is carried over a horizon of a history in commit order is in commit order.
use Rattle.std.proofs.Common.{◌≡◌, ◌⊎◌, inl, inr, ◌≤◌, refl, sym, ap, subst, ◌∙◌, arith}
use Rattle.std.specs.List.{filter}
use Rattle.std.proofs.lemmas.Bool.{cases_lt}
use Rattle.si_model.specs.declared.numbers.Stamp.{Stamp}
use Rattle.si_model.specs.declared.operations.Op.TheVariants as op
use Rattle.si_model.specs.declared.transactions.Status.{Status}
use Rattle.si_model.specs.declared.transactions.Status.TheVariants as status
use Rattle.si_model.specs.declared.transactions.Txn.{Txn}
use Rattle.si_model.specs.Operations.{is_write}
use Rattle.si_model.specs.Versions.{commit_of}
use Rattle.si_model.specs.History.{WritesSome}
use Rattle.si_model.specs.Horizons.{IsSpanning, IsRest, writes_alone}
use Rattle.si_model.specs.HorizonLaws.{CarriedIsExact}
use Rattle.si_lists.proofs.Members.{same_some, get_contains, contains_get, Contains-from_filter}
use Rattle.si_graph.specs.HorizonOrder.{CarryingKeepsOrder}

-- U has T's id and stamps, and writes where T does
record IsOf (T U : Txn) : Type 0 where
  id : U.id ≡ T.id
  start : U.start ≡ T.start
  status : U.status ≡ T.status
  writes : WritesSome U → WritesSome T

same_commit : (c d : Stamp) → status.Committed c ≡ status.Committed d → c ≡ d
same_commit c d e = same_some (ap commit_of e)

spans : (H : Stamp) (T : Txn) → IsSpanning H T ⊎ (IsSpanning H T → ⊥)
spans H T = by T.status refl
  where
    by : (s : Status) → T.status ≡ s → IsSpanning H T ⊎ (IsSpanning H T → ⊥)
    by (status.Committed c) s = elim (cases_lt T.start.0 H.0) [
      | inl less ↦ elim (cases_lt c.0 H.0) [
        | inl below ↦ inr (λ n. let same = ap (λ t. t.0) (same_commit n.0 c (sym n.1 ∙ s)) in let past = n.3 in omega arith)
        | inr past ↦ inl (c, s, less, past)
      ]
      | inr more ↦ inr (λ n. let less = n.2 in omega arith)
    ]
    by status.Aborted s = inr (λ n. let wrong = sym s ∙ n.1 in cc)
    by status.InDoubt s = inr (λ n. let wrong = sym s ∙ n.1 in cc)

alone : (T : Txn) → IsOf T (writes_alone T)
alone T = record {
  id = refl;
  start = refl;
  status = refl;
  writes = λ w. (let f = contains_get T.ops (op.Write w.1 w.2) (Contains-from_filter is_write T.ops (op.Write w.1 w.2) (get_contains (filter is_write T.ops) w.0 (op.Write w.1 w.2) w.3)).0 in (f.0, w.1, w.2, f.1));
}

rest_of : (H : Stamp) (T U : Txn) → IsRest H T U → IsOf T U
rest_of H T U r = elim (spans H T) [
  | inl n ↦ subst (IsOf T) (sym (r.writes n)) (alone T)
  | inr n ↦ subst (IsOf T) (sym (r.whole n)) (record { id = refl; start = refl; status = refl; writes = λ w. w })
]

pub keeps_order : CarriedIsExact → CarryingKeepsOrder
keeps_order exact P H h ordered T U c d t u w differ start before =
    let is = (exact P H h).txns in
    let a = (is T).0 t.txn in
    let b = (is U).0 u.txn in
    let s = rest_of H a.0 T a.3 in
    let r = rest_of H b.0 U b.3 in
    ordered a.0 b.0 c d (record { txn = a.1; committed = sym s.status ∙ t.committed }) (record { txn = b.1; committed = sym r.status ∙ u.committed }) (r.writes w)
    (λ same. differ (s.id ∙ same ∙ sym r.id)) (subst (λ m. m.0 ≤ d.0) s.start start) before
