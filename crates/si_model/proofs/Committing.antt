-- An aborted writer is a place where its commit overlaps.
use Rattle.std.proofs.Common.{◌≡◌, ◌≢◌, ◌⊎◌, inl, inr, ℕ, ◌+◌, ◌<◌, ◌≤◌, Bool, true, false, List, [], ◌∷◌, map, Some, refl, sym, ap, subst, ◌∙◌, cond, arith, slice_get}
use Rattle.std.specs.List.{Contains}
use Rattle.std.proofs.lemmas.Bool.{ltb-true, lt-ltb}
use Rattle.si_model.specs.declared.numbers.TxnId.{TxnId}
use Rattle.si_model.specs.declared.numbers.Stamp.{Stamp}
use Rattle.si_model.specs.declared.numbers.Value.{Value}
use Rattle.si_model.specs.declared.transactions.Status.{Status}
use Rattle.si_model.specs.declared.transactions.Status.TheVariants as status
use Rattle.si_model.specs.declared.transactions.Outcome.TheVariants as outcome
use Rattle.si_model.specs.declared.transactions.Txn.{Txn}
use Rattle.si_model.specs.declared.parts.Part.{Part}
use Rattle.si_model.specs.declared.sights.Installer.{Installer}
use Rattle.si_model.specs.declared.kinds.Kind.TheVariants as kind
use Rattle.si_model.specs.Parts.{Present, on_key}
use Rattle.si_model.specs.Versions.{commit_of, Writes, Installs, IsInstaller}
use Rattle.si_model.specs.Findings.{cases, IsFoundOn}
use Rattle.si_model.specs.History.{WritesPairAt, WritesSome, IsHistory}
use Rattle.si_model.specs.Edits.{same_id, resolved}
use Rattle.si_model.specs.KeyEdits.{resolved_part}
use Rattle.si_model.specs.Chances.{IsOverlapPlace}
use Rattle.si_model.specs.Changes.{committing}
use Rattle.si_model.specs.ChanceLaws.{ShowsOverlap, OverlapIsChange}
use Rattle.si_lists.proofs.Members.{same_some, Contains-nil, Contains-cons_cases, Contains-map, Contains-from_map}
use Rattle.si_lists.proofs.Names.{names_map}
use Rattle.si_model.proofs.Equalities.{same_id_is, same_id_from}
use Rattle.si_model.proofs.KeyParts.{parts_are}
use Rattle.si_model.proofs.Histories.{key_of_history, one_part, same_commit}
use Rattle.si_model.proofs.NextVersions.{before_next}
use Rattle.si_model.proofs.Exact.{findings_exact}
use Rattle.si_model.proofs.KeyEditing.{resolves}
use Rattle.si_model.proofs.ReadChanges.{kind_read}

-- ---- a stamp above all

-- the commit stamp as a number, or 0
commit_number : Status → ℕ
commit_number (status.Committed c) = c.0
commit_number status.Aborted = 0
commit_number status.InDoubt = 0

above : List Txn → ℕ
above [] = 0
above (T ∷ txns) = 1 + T.start.0 + commit_number T.status + above txns

-- c is above the stamps of T
record IsAbove (c : Stamp) (T : Txn) : Type 0 where
  start : T.start.0 < c.0
  commit : (d : Stamp) → commit_of T.status ≡ Some d → d.0 < c.0

numbered : (s : Status) (d : Stamp) → commit_of s ≡ Some d → d.0 ≡ commit_number s
unfolding commit_number
numbered (status.Committed c) d e = ap (λ t. t.0) (sym (same_some e))
numbered status.Aborted d e = cc
numbered status.InDoubt d e = cc

is_above : (txns : List Txn) (T : Txn) (most : ℕ) → above txns ≤ most → Contains txns T → IsAbove (record { 0 = most }) T
unfolding above
is_above [] T most le c = absurd (Contains-nil T c)
is_above (U ∷ txns) T most le c = elim (Contains-cons_cases U txns T c) [
  | inl e ↦ subst (IsAbove (record { 0 = most })) e (record { start = omega arith; commit = λ d f. let n = numbered U.status d f in omega arith })
  | inr d ↦ is_above txns T most (omega arith) d
]

-- ---- what is present, where one transaction commits

module _ (u : TxnId) (c : Stamp) where
  abbrev turned : Txn → Txn
  turned = resolved u (outcome.Committed c)

  -- a transaction commits at c if it is u, and stays else
  turned_cases : (T : Txn) → ((T.id ≡ u) × ((turned T).status ≡ status.Committed c)) ⊎ ((T.id ≢ u) × ((turned T).status ≡ T.status))
  turned_cases T = by (same_id T.id u) refl
    where
      by : (b : Bool) → same_id T.id u ≡ b → ((T.id ≡ u) × ((cond b (record T { status = status.Committed c }) T).status ≡ status.Committed c)) ⊎ ((T.id ≢ u) × ((cond b (record T { status = status.Committed c }) T).status ≡ T.status))
      by true t = inl (same_id_is T.id u t, refl)
      by false t = inr (λ e. (let same = same_id_from T.id u e in cc), refl)

  turned_id : (T : Txn) → (turned T).id ≡ T.id
  turned_id T = by (same_id T.id u)
    where
      by : (b : Bool) → (cond b (record T { status = status.Committed c }) T).id ≡ T.id
      by true = refl
      by false = refl

  turned_start : (T : Txn) → (turned T).start ≡ T.start
  turned_start T = by (same_id T.id u)
    where
      by : (b : Bool) → (cond b (record T { status = status.Committed c }) T).start ≡ T.start
      by true = refl
      by false = refl

  turned_ops : (T : Txn) → (turned T).ops ≡ T.ops
  turned_ops T = by (same_id T.id u)
    where
      by : (b : Bool) → (cond b (record T { status = status.Committed c }) T).ops ≡ T.ops
      by true = refl
      by false = refl

  -- the commit of a transaction then
  commit_cases : (T : Txn) (d : Stamp) → commit_of (turned T).status ≡ Some d → ((T.id ≡ u) × (c ≡ d)) ⊎ ((T.id ≢ u) × (commit_of T.status ≡ Some d))
  commit_cases T d e = elim (turned_cases T) [
    | inl f ↦ inl (f.0, same_some (ap commit_of (sym f.1) ∙ e))
    | inr f ↦ inr (f.0, ap commit_of (sym f.1) ∙ e)
  ]

  pair_back : (T : Txn) (i : ℕ) (x : List ℕ) (v : Value) → WritesPairAt (turned T) i x v → WritesPairAt T i x v
  pair_back T i x v w = ap (λ ops. slice_get ops i) (sym (turned_ops T)) ∙ w

  some_back : (T : Txn) → WritesSome (turned T) → WritesSome T
  some_back T w = (w.0, w.1, w.2, pair_back T w.0 w.1 w.2 w.3)

  module _ (P : Present) (h : IsHistory P) (free : (T : Txn) → Contains P.txns T → IsAbove c T) where
    turned_stamps : (A B : Txn) (d : Stamp) → Contains P.txns A → Contains P.txns B → A.id ≢ B.id → commit_of (turned A).status ≡ Some d → WritesSome A
        → (d ≢ B.start) × (commit_of (turned B).status ≢ Some d)
    turned_stamps A B d a b differ e w = elim (commit_cases A d e) [
      | inl f ↦ (
        λ same. (let less = (free B b).start in let number = ap (λ t. t.0) (f.1 ∙ same) in omega arith),
        λ same. elim (commit_cases B d same) [
          | inl k ↦ differ (f.0 ∙ sym k.0)
          | inr k ↦ (let less = (free B b).commit d k.1 in let number = ap (λ t. t.0) f.1 in omega arith)
        ],
      )
      | inr f ↦ (let s = h.stamps A B d a b differ f.1 w in (
        s.0,
        λ same. elim (commit_cases B d same) [
          | inl k ↦ (let less = (free A a).commit d f.1 in let number = ap (λ t. t.0) k.1 in omega arith)
          | inr k ↦ s.1 k.1
        ],
      ))
    ]

    turned_forward : (T : Txn) (d : Stamp) → Contains P.txns T → commit_of (turned T).status ≡ Some d → T.start.0 ≤ d.0
    turned_forward T d at e = elim (commit_cases T d e) [
      | inl f ↦ (let less = (free T at).start in let number = ap (λ t. t.0) f.1 in omega arith)
      | inr f ↦ h.forward T d at f.1
    ]

    turned_apart : (T : Txn) (d : Stamp) → Contains P.txns T → commit_of (turned T).status ≡ Some d → WritesSome T → T.start.0 < d.0
    turned_apart T d at e w = elim (commit_cases T d e) [
      | inl f ↦ (let less = (free T at).start in let number = ap (λ t. t.0) f.1 in omega arith)
      | inr f ↦ h.apart T d at f.1 w
    ]

    committing_history : IsHistory (committing u c P)
    unfolding committing
    committing_history = record {
      forward = λ U d at e. let m = Contains-from_map turned P.txns U at in
          subst (λ V. commit_of V.status ≡ Some d → V.start.0 ≤ d.0) m.2
          (λ s. subst (λ t. t.0 ≤ d.0) (sym (turned_start m.0)) (turned_forward m.0 d m.1 s)) e;
      apart = λ U d at e w. let m = Contains-from_map turned P.txns U at in
          subst (λ V. commit_of V.status ≡ Some d → WritesSome V → V.start.0 < d.0) m.2
          (λ s v. subst (λ t. t.0 < d.0) (sym (turned_start m.0)) (turned_apart m.0 d m.1 s (some_back m.0 v))) e w;
      names = names_map (λ T. T.id) (λ T. T.id) turned turned_id P.txns h.names;
      stamps = λ A B d a b differ e w.
          let m = Contains-from_map turned P.txns A a in
          let n = Contains-from_map turned P.txns B b in
          let s = turned_stamps m.0 n.0 d m.1 n.1 (λ same. differ (ap (λ T. T.id) (sym m.2) ∙ turned_id m.0 ∙ same ∙ sym (turned_id n.0) ∙ ap (λ T. T.id) n.2))
          (ap (λ T. commit_of T.status) m.2 ∙ e) (some_back m.0 (subst WritesSome (sym m.2) w)) in
          (λ t. s.0 (t ∙ ap (λ T. T.start) (sym n.2) ∙ turned_start n.0), λ t. s.1 (ap (λ T. commit_of T.status) n.2 ∙ t));
      writes = λ A B i j x v a b s t.
          let m = Contains-from_map turned P.txns A a in
          let n = Contains-from_map turned P.txns B b in
          let w = h.writes m.0 n.0 i j x v m.1 n.1 (pair_back m.0 i x v (subst (λ T. WritesPairAt T i x v) (sym m.2) s)) (pair_back n.0 j x v (subst (λ T. WritesPairAt T j x v) (sym n.2) t)) in
          (ap (λ T. T.id) (sym m.2) ∙ turned_id m.0 ∙ w.0 ∙ sym (turned_id n.0) ∙ ap (λ T. T.id) n.2, w.1);
      keys = h.keys;
      initial = λ x v U i at e w. let m = Contains-from_map turned P.txns U e in
          h.initial x v m.0 i at m.1 (pair_back m.0 i x v (subst (λ T. WritesPairAt T i x v) (sym m.2) w));
    }

-- ---- what is on a key, where one transaction commits

module _ (u : TxnId) (c : Stamp) where
  abbrev turned_part : Part → Part
  turned_part = resolved_part u (outcome.Committed c)

  part_turned : (T : Part) → T.id ≡ u → turned_part T ≡ record T { status = status.Committed c }
  part_turned T e = ap (λ b. cond b (record T { status = status.Committed c }) T) (same_id_from T.id u e)

  part_stays : (T : Part) → T.id ≢ u → turned_part T ≡ T
  part_stays T other = by (same_id T.id u) refl
    where
      by : (b : Bool) → same_id T.id u ≡ b → cond b (record T { status = status.Committed c }) T ≡ T
      by true t = absurd (other (same_id_is T.id u t))
      by false t = refl

  parts_turned : (P : Present) (x : List ℕ) → (on_key x (committing u c P)).parts ≡ map turned_part (on_key x P).parts
  unfolding committing
  parts_turned P x = resolves x u (outcome.Committed c) P.txns

  turned_in : (P : Present) (x : List ℕ) (T : Part) → Contains (on_key x P).parts T → Contains (on_key x (committing u c P)).parts (turned_part T)
  turned_in P x T at = subst (λ ys. Contains ys (turned_part T)) (sym (parts_turned P x)) (Contains-map turned_part (on_key x P).parts T at)

  turned_from : (P : Present) (x : List ℕ) (V : Part) → Contains (on_key x (committing u c P)).parts V → (T : Part) × Contains (on_key x P).parts T × (turned_part T ≡ V)
  turned_from P x V at = Contains-from_map turned_part (on_key x P).parts V (subst (λ ys. Contains ys V) (parts_turned P x) at)

overlap_shown : (P : Present) (x : List ℕ) (U : Part) → IsHistory P → Contains (on_key x P).parts U → IsOverlapPlace (on_key x P) U → ShowsOverlap P x U
overlap_shown P x U h at p =
    let c : Stamp = record { 0 = above P.txns } in
    let free : (T : Txn) → Contains P.txns T → IsAbove c T = λ T in_txns. is_above P.txns T (above P.txns) (omega arith) in_txns in
    let k = committing_history U.id c P h free in
    let R = on_key x (committing U.id c P) in
    let n : Installer = record { txn = U.id; start = U.start; commit = c } in
    let mine : IsInstaller R n = (
      record U { status = status.Committed c },
      subst (Contains R.parts) (part_turned U.id c U refl) (turned_in U.id c P x U at),
      record { txn = refl; start = refl; committed = refl; writes = (p.writer.value, p.writer.writes) },
    ) in
    let m = p.installer in
    let T = p.installs.0 in
    let is = p.installs.2 in
    let other : T.id ≢ U.id = λ same.
    let one = one_part (on_key x P) (key_of_history P x h) T U p.installs.1 at same in
    let wrong : status.Committed m.commit ≡ status.Aborted = sym is.committed ∙ ap (λ S. S.status) one ∙ p.writer.aborted in
    cc in
    let theirs : IsInstaller R m = (T, subst (Contains R.parts) (part_stays U.id c T other) (turned_in U.id c P x T p.installs.1), is) in
    let of = (parts_are x P.txns T).0 p.installs.1 in
    let less = (free of.0 of.1).commit m.commit (ap commit_of (sym of.2.status) ∙ ap commit_of is.committed) in
    let b = before_next R n mine n.commit.0 m theirs less (omega arith) in
    let past = b.3 in
    let after = p.after in
    record {
      aborted = p.writer.aborted;
      commit = c;
      history = k;
      first = b.0.txn;
      found = (findings_exact (committing U.id c P) k).complete (record { key = x; kind = kind.Overlap b.0.txn U.id }) (inr (record {
        first = b.0;
        second = n;
        installs = b.1;
        next = b.2;
        judged = lt-ltb U.start.0 b.0.commit.0 (omega arith);
        is = refl;
      }));
    }

overlap_place : (P : Present) (x : List ℕ) (U : Part) → IsHistory P → Contains (on_key x P).parts U → ShowsOverlap P x U → IsOverlapPlace (on_key x P) U
overlap_place P x U h at s = by ((findings_exact (committing U.id s.commit P) s.history).sound (record { key = x; kind = kind.Overlap s.first U.id }) s.found)
  where
    by : IsFoundOn cases (on_key x (committing U.id s.commit P)) (kind.Overlap s.first U.id) → IsOverlapPlace (on_key x P) U
    by (inl r) = let wrong = kind_read r.sight (kind.Overlap s.first U.id) r.judged in cc
    by (inr p) =
        let R = on_key x (committing U.id s.commit P) in
        let k = key_of_history (committing U.id s.commit P) x s.history in
        let is = p.is in
        let named : U.id ≡ p.second.txn = cc in
        -- the second is U, committed
        let second = p.next.installs in
        let V = turned_from U.id s.commit P x second.0 second.1 in
        let id : V.0.id ≡ U.id = turned_same V.0 ∙ ap (λ S. S.id) V.2 ∙ sym second.2.txn ∙ sym named in
        let one = one_part (on_key x P) (key_of_history P x h) V.0 U V.1 at id in
        let is_U : record U { status = status.Committed s.commit } ≡ second.0 = sym (part_turned U.id s.commit U refl) ∙ ap (resolved_part U.id (outcome.Committed s.commit)) (sym one) ∙ V.2 in
        -- the first is another
        let first = p.installs in
        let T = turned_from U.id s.commit P x first.0 first.1 in
        let other : T.0.id ≢ U.id = λ same.
        let both = one_part R k first.0 second.0 first.1 second.1 (ap (λ S. S.id) (sym T.2) ∙ sym (turned_same T.0) ∙ same ∙ ap (λ S. S.id) is_U) in
        let stamp = ap (λ t. t.0) (same_commit p.first.commit p.second.commit (sym first.2.committed ∙ ap (λ S. S.status) both ∙ second.2.committed)) in
        let after = p.next.after in
        omega arith in
        let stays : T.0 ≡ first.0 = sym (part_stays U.id s.commit T.0 other) ∙ T.2 in
        let start : p.second.start ≡ U.start = second.2.start ∙ ap (λ S. S.start) (sym is_U) in
        record {
          writer = record { part = at; aborted = s.aborted; value = second.2.writes.0; writes = subst (λ S. Writes S second.2.writes.0) (sym is_U) second.2.writes.1 };
          installer = p.first;
          installs = (T.0, T.1, subst (λ S. Installs S p.first) (sym stays) first.2);
          after = subst (λ t. t.0 < p.first.commit.0) start (ltb-true p.second.start.0 p.first.commit.0 p.judged);
        }
      where
        turned_same : (T : Part) → T.id ≡ (resolved_part U.id (outcome.Committed s.commit) T).id
        turned_same T = tested (same_id T.id U.id)
          where
            tested : (b : Bool) → T.id ≡ (cond b (record T { status = status.Committed s.commit }) T).id
            tested true = refl
            tested false = refl

pub overlap_change : OverlapIsChange
overlap_change P x U h at = (overlap_shown P x U h at, overlap_place P x U h at)
