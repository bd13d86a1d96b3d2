-- Transactions run one after another exactly where each of their reads returned what the serial run gives it.
use Rattle.std.proofs.Common.{◌≡◌, ◌≢◌, ◌∙◌, ◌⊎◌, inl, inr, ℕ, zero, suc, ◌<◌, ◌≤◌, Bool, true, false, cond, List, [], ◌∷◌, ◌++◌, length, Option, Some, refl, sym, ap, subst, slice_get, arith}
use Rattle.std.specs.Prelude.{◌↔◌}
use Rattle.std.specs.List.{Contains, AllPairs, flat_map}
use Rattle.std.proofs.lemmas.Bool.{cases_order}
use Rattle.si_model.specs.declared.numbers.Stamp.{Stamp}
use Rattle.si_model.specs.declared.numbers.TxnId.{TxnId}
use Rattle.si_model.specs.declared.numbers.Value.{Value}
use Rattle.si_model.specs.declared.operations.Op.{Op}
use Rattle.si_model.specs.declared.operations.Op.TheVariants as op
use Rattle.si_model.specs.declared.transactions.Txn.{Txn}
use Rattle.si_model.specs.Operations.{same_key}
use Rattle.si_model.specs.Parts.{Present, set_up_value}
use Rattle.si_model.specs.Versions.{commit_of}
use Rattle.si_model.specs.History.{IsHistory, WritesPairAt}
use Rattle.si_graph.specs.Laws.{ModelLaws}
use Rattle.si_graph.specs.Serial.{ReadsAt, Commits, CommitsWrite, IsLastBefore, IsLastWrite, IsLeft, Holds, Gives, IsSerial}
use Rattle.si_graph.specs.SerialRuns.{State, at_first, after_op, ReturnsHeld, Runs, MayPrecede, AreInOrder, IsRun}
use Rattle.si_lists.proofs.Members.{same_some, Contains-nil, here, there, Contains-cons_cases}
use Rattle.si_lists.proofs.Names.{pairs_head, pairs_tail}
use Rattle.si_graph.proofs.SerialReads.{same_txn, same_commit}

-- ---- operations

-- the state before the operation i
held : State → List Op → ℕ → State
held s ps zero = s
held s [] (suc i) = s
held s (p ∷ ps) (suc i) = held (after_op s p) ps i

-- the state after all
after : State → List Op → State
after s ps = held s ps (length ps)

runs_both : (s : State) (xs ys : List Op) → Runs s (xs ++ ys) ↔ (Runs s xs × Runs (after s xs) ys)
unfolding after held
runs_both s [] ys = (λ r. (tt, r), λ r. r.1)
runs_both s (p ∷ xs) ys = let rest = runs_both (after_op s p) xs ys in (λ r. (let both = rest.0 r.1 in ((r.0, both.0), both.1)), λ r. (r.0.0, rest.1 (r.0.1, r.1)))

-- operations run exactly where each read returned what its key holds before it
runs_held : (s : State) (ps : List Op) → Runs s ps ↔ ((i : ℕ) (x : List ℕ) (v : Option Value) → slice_get ps i ≡ Some (op.Read x v) → v ≡ held s ps i x)
unfolding held
runs_held s [] = (λ r i x v e. cc, λ f. tt)
runs_held s (p ∷ ps) = let rest = runs_held (after_op s p) ps in (to rest.0, λ f. (first p (λ x v is. f 0 x v (ap Some is)), rest.1 (λ i x v e. f (suc i) x v e)))
  where
    first : (q : Op) → ((x : List ℕ) (v : Option Value) → q ≡ op.Read x v → v ≡ s x) → ReturnsHeld s q
    first (op.Read x v) f = f x v refl
    first (op.Write x v) f = tt

    of_first : (q : Op) → ReturnsHeld s q → (x : List ℕ) (v : Option Value) → q ≡ op.Read x v → v ≡ s x
    of_first (op.Read y u) r x v is = let key : y ≡ x = cc in let value : u ≡ v = cc in sym value ∙ r ∙ ap s key
    of_first (op.Write y u) r x v is = cc

    to : (Runs (after_op s p) ps → (i : ℕ) (x : List ℕ) (v : Option Value) → slice_get ps i ≡ Some (op.Read x v) → v ≡ held (after_op s p) ps i x)
        → Runs s (p ∷ ps) → (i : ℕ) (x : List ℕ) (v : Option Value) → slice_get (p ∷ ps) i ≡ Some (op.Read x v) → v ≡ held s (p ∷ ps) i x
    to rest r zero x v e = of_first p r.0 x v (same_some e)
    to rest r (suc i) x v e = rest r.1 i x v e

-- of the operations before i, the last that writes x writes v
record IsLastIn (ps : List Op) (i : ℕ) (x : List ℕ) (v : Value) : Type 0 where
  place : ℕ
  before : place < i
  is : slice_get ps place ≡ Some (op.Write x v)
  last : (k : ℕ) (u : Value) → slice_get ps k ≡ Some (op.Write x u) → k < i → k ≤ place

-- no operation before i writes to x
abbrev NoneIn : List Op → ℕ → List ℕ → Type 0
NoneIn ps i x = (k : ℕ) (u : Value) → slice_get ps k ≡ Some (op.Write x u) → k < i → ⊥

-- a key holds what was written last, and where nothing was, what it held at first
abbrev HeldIs : State → List Op → ℕ → List ℕ → Option Value → Type 0
HeldIs s ps i x v = ((w : Value) × (v ≡ Some w) × IsLastIn ps i x w) ⊎ ((v ≡ s x) × NoneIn ps i x)

module _ (keys : (x y : List ℕ) → (same_key x y ≡ true) ↔ (x ≡ y)) where
  held_is : (s : State) (ps : List Op) (i : ℕ) (x : List ℕ) → HeldIs s ps i x (held s ps i x)
  unfolding held
  held_is s ps zero x = inr (refl, λ k u e lt. absurd (omega arith))
  held_is s [] (suc i) x = inr (refl, λ k u e lt. cc)
  held_is s (p ∷ ps) (suc i) x = elim (held_is (after_op s p) ps i x) [
    | inl l ↦ inl (
      l.0,
      l.1,
      record {
        place = suc l.2.place;
        before = (let b = l.2.before in omega (arith, b));
        is = l.2.is;
        last = later l.0 l.2;
      },
    )
    | inr r ↦ by p refl r.0 r.1
  ]
    where
      later : (w : Value) (m : IsLastIn ps i x w) (k : ℕ) (u : Value) → slice_get (p ∷ ps) k ≡ Some (op.Write x u) → k < suc i → k ≤ suc m.place
      later w m zero u e lt = omega arith
      later w m (suc k) u e lt = let le = m.last k u e (omega (arith, lt)) in omega (arith, le)

      none_later : (q : Op) → p ≡ q → ((u : Value) → q ≡ op.Write x u → ⊥) → NoneIn ps i x → NoneIn (p ∷ ps) (suc i) x
      none_later q is not none zero u e lt = not u (sym is ∙ same_some e)
      none_later q is not none (suc k) u e lt = none k u e (omega (arith, lt))

      by : (q : Op) → p ≡ q → held (after_op s p) ps i x ≡ after_op s p x → NoneIn ps i x → HeldIs s (p ∷ ps) (suc i) x (held (after_op s p) ps i x)
      by (op.Read y v) is e none = inr (e ∙ ap (λ q. after_op s q x) is, none_later (op.Read y v) is (λ u f. cc) none)
      by (op.Write y v) is e none = test (same_key y x) refl
        where
          value : held (after_op s p) ps i x ≡ cond (same_key y x) (Some v) (s x)
          value = e ∙ ap (λ q. after_op s q x) is

          test : (b : Bool) → same_key y x ≡ b → HeldIs s (p ∷ ps) (suc i) x (held (after_op s p) ps i x)
          test true t =
              let key : y ≡ x = (keys y x).0 t in
              inl (
                v,
                value ∙ ap (λ b. cond b (Some v) (s x)) t,
                record {
                  place = 0;
                  before = omega arith;
                  is = ap Some (is ∙ ap (λ k. op.Write k v) key);
                  last = only none;
                },
              )
            where
              only : NoneIn ps i x → (k : ℕ) (u : Value) → slice_get (p ∷ ps) k ≡ Some (op.Write x u) → k < suc i → k ≤ 0
              only none zero u f lt = omega arith
              only none (suc k) u f lt = absurd (none k u f (omega (arith, lt)))
          test false t = inr (
            value ∙ ap (λ b. cond b (Some v) (s x)) t,
            none_later (op.Write y v) is (λ u f. (let key : y ≡ x = cc in let yes = (keys y x).1 key in cc)) none,
          )

within : (ps : List Op) (k : ℕ) (p : Op) → slice_get ps k ≡ Some p → k < length ps
within [] k p e = cc
within (q ∷ ps) zero p e = omega arith
within (q ∷ ps) (suc k) p e = let lt = within ps k p e in omega (arith, lt)

module _ (laws : ModelLaws) (P : Present) (h : IsHistory P) where
  -- ---- what the run gives is one value

  last_before_one : (T : Txn) (i : ℕ) (x : List ℕ) (v w : Value) → IsLastBefore T i x v → IsLastBefore T i x w → v ≡ w
  last_before_one T i x v w a b =
      let up = b.last a.place v a.is a.before in
      let down = a.last b.place w b.is b.before in
      let place : a.place ≡ b.place = omega (arith, up, down) in
      let one : Some (op.Write x v) ≡ Some (op.Write x w) = sym a.is ∙ ap (λ k. slice_get T.ops k) place ∙ b.is in
      cc

  last_write_one : (T : Txn) (x : List ℕ) (v w : Value) → IsLastWrite T x v → IsLastWrite T x w → v ≡ w
  last_write_one T x v w a b =
      let up = b.last a.place v a.is in
      let down = a.last b.place w b.is in
      let place : a.place ≡ b.place = omega (arith, up, down) in
      let one : Some (op.Write x v) ≡ Some (op.Write x w) = sym a.is ∙ ap (λ k. slice_get T.ops k) place ∙ b.is in
      cc

  -- two that commit at one stamp, of which one writes, are one
  one_writer : (A B : Txn) (c d : Stamp) (x : List ℕ) → CommitsWrite P A c x → Commits P B d → c.0 ≡ d.0 → A ≡ B
  one_writer A B c d x a b same = elim (cases_order A.id.0 B.id.0) [
    | inl e ↦ same_txn laws P h A B a.commits.txn b.txn (λ j. record { 0 = e j })
    | inr rest ↦ (
        let stamp : c ≡ d = (λ j. record { 0 = same j }) in
        let apart : A.id ≢ B.id = (λ e. (let ids : A.id.0 ≡ B.id.0 = ap (λ (k : TxnId). k.0) e in elim rest [ inl lt ↦ omega (arith, ids, lt) | inr gt ↦ omega (arith, ids, gt) ])) in
        absurd ((h.stamps A B c a.commits.txn b.txn apart (ap commit_of a.commits.committed) (a.place, x, a.value, a.writes)).1 (ap commit_of b.committed ∙ ap Some (sym stamp)))
        )
  ]

  write_left : (c : Stamp) (x : List ℕ) (v : Value) (l : IsLeft P c x v) → CommitsWrite P l.writer l.commit x
  write_left c x v l = record { commits = l.commits; place = l.wrote.place; value = v; writes = l.wrote.is }

  holds_one : (c : Stamp) (x : List ℕ) (v w : Option Value) → Holds P c x v → Holds P c x w → v ≡ w
  holds_one c x v w (inl a) (inl b) =
      let up = b.2.last a.2.writer a.2.commit (write_left c x a.0 a.2) a.2.before in
      let down = a.2.last b.2.writer b.2.commit (write_left c x b.0 b.2) b.2.before in
      let writer : b.2.writer ≡ a.2.writer = one_writer b.2.writer a.2.writer b.2.commit a.2.commit x (write_left c x b.0 b.2) a.2.commits (omega (arith, up, down)) in
      let value = last_write_one a.2.writer x a.0 b.0 a.2.wrote (subst (λ W. IsLastWrite W x b.0) writer b.2.wrote) in
      a.1 ∙ ap Some value ∙ sym b.1
  holds_one c x v w (inl a) (inr b) = absurd (b.0 a.2.writer a.2.commit (write_left c x a.0 a.2) a.2.before)
  holds_one c x v w (inr a) (inl b) = absurd (a.0 b.2.writer b.2.commit (write_left c x b.0 b.2) b.2.before)
  holds_one c x v w (inr a) (inr b) = a.1 ∙ sym b.1

  gives_one : (T : Txn) (c : Stamp) (i : ℕ) (x : List ℕ) (v w : Option Value) → Gives P T c i x v → Gives P T c i x w → v ≡ w
  gives_one T c i x v w (inl a) (inl b) = a.1 ∙ ap Some (last_before_one T i x a.0 b.0 a.2 b.2) ∙ sym b.1
  gives_one T c i x v w (inl a) (inr b) = absurd (b.0 a.0 a.2)
  gives_one T c i x v w (inr a) (inl b) = absurd (a.0 b.0 b.2)
  gives_one T c i x v w (inr a) (inr b) = holds_one c x v w a.1 b.1

  -- ---- one transaction

  -- where it comes to what the run holds, its reads see what the run gives
  held_given : (T : Txn) (c : Stamp) (s : State) → ((x : List ℕ) → Holds P c x (s x)) → (i : ℕ) (x : List ℕ) → Gives P T c i x (held s T.ops i x)
  held_given T c s holds i x = elim (held_is laws.tests.keys s T.ops i x) [
    | inl l ↦ inl (l.0, l.1, record { place = l.2.place; before = l.2.before; is = l.2.is; last = l.2.last })
    | inr r ↦ inr (λ w o. r.1 o.place w o.is o.before, subst (Holds P c x) (sym r.0) (holds x))
  ]

  one_runs : (T : Txn) (c : Stamp) (s : State) → ((x : List ℕ) → Holds P c x (s x)) → Runs s T.ops ↔ ((i : ℕ) (x : List ℕ) (v : Option Value) → ReadsAt T i x v → Gives P T c i x v)
  one_runs T c s holds =
      let both = runs_held s T.ops in (
        λ r i x v e. subst (Gives P T c i x) (sym (both.0 r i x v e)) (held_given T c s holds i x),
        λ f. both.1 (λ i x v e. gives_one T c i x v (held s T.ops i x) (f i x v e) (held_given T c s holds i x)),
      )

  -- ---- the run

  -- what x holds after the transactions of a list: what the one with the greatest commit of those that write x left there
  record IsLeftBy (done : List Txn) (x : List ℕ) (v : Value) : Type 0 where
    writer : Txn
    commit : Stamp
    among : Contains done writer
    commits : Commits P writer commit
    wrote : IsLastWrite writer x v
    last : (U : Txn) (d : Stamp) → Contains done U → CommitsWrite P U d x → d.0 ≤ commit.0

  abbrev IsHeldAfter : List Txn → List ℕ → Option Value → Type 0
  IsHeldAfter done x v = ((w : Value) × (v ≡ Some w) × IsLeftBy done x w) ⊎ (((U : Txn) (d : Stamp) → Contains done U → CommitsWrite P U d x → ⊥) × (v ≡ set_up_value x P.initial))

  -- those that ran and those that are to come
  record IsSplit (done rest : List Txn) : Type 0 where
    each : (T : Txn) (c : Stamp) → Commits P T c → Contains done T ⊎ Contains rest T
    commits : (T : Txn) → Contains rest T → (c : Stamp) × Commits P T c
    before : (A B : Txn) → Contains done A → Contains rest B → MayPrecede A B
    ordered : AllPairs MayPrecede rest

  module _ (done : List Txn) (T : Txn) (rest : List Txn) (split : IsSplit done (T ∷ rest)) (c : Stamp) (t : Commits P T c) where
    -- a write that commits before T ran
    ran : (U : Txn) (d : Stamp) (x : List ℕ) → CommitsWrite P U d x → d.0 < c.0 → Contains done U
    ran U d x u lt = elim (split.each U d u.commits) [
      | inl among ↦ among
      | inr more ↦ elim (Contains-cons_cases T rest U more) [
        | inl same ↦ (let one = same_commit laws P h T U c d t u.commits (ap (λ (A : Txn). A.id) same) in absurd (omega (arith, one, lt)))
        | inr later ↦ (let le = (pairs_head MayPrecede T rest split.ordered U later).before c d t.committed u.commits.committed in absurd (omega (arith, le, lt)))
      ]
    ]

    -- one that ran and wrote commits before T
    earlier : (W : Txn) (d : Stamp) (x : List ℕ) → Contains done W → CommitsWrite P W d x → d.0 < c.0
    earlier W d x among w =
        let may = split.before W T among (here T rest) in
        let le = may.before d c w.commits.committed t.committed in
        elim (cases_order d.0 c.0) [
          | inl same ↦ absurd (may.differ (ap (λ (A : Txn). A.id) (one_writer W T d c x w t same)))
          | inr either ↦ elim either [ inl lt ↦ lt | inr gt ↦ omega (arith, le, gt) ]
        ]

    held_holds : (x : List ℕ) (v : Option Value) → IsHeldAfter done x v → Holds P c x v
    held_holds x v (inl l) =
        let b = l.2 in
        let w : CommitsWrite P b.writer b.commit x = record { commits = b.commits; place = b.wrote.place; value = l.0; writes = b.wrote.is } in
        inl (
          l.0,
          l.1,
          record {
            writer = b.writer;
            commit = b.commit;
            commits = b.commits;
            wrote = b.wrote;
            before = earlier b.writer b.commit x b.among w;
            last = λ U d u lt. b.last U d (ran U d x u lt) u;
          },
        )
    held_holds x v (inr r) = inr (λ U d u lt. r.0 U d (ran U d x u lt) u, r.1)

    -- what is held after T too
    goes_on : (s : State) (x : List ℕ) → IsHeldAfter done x (s x) → IsHeldAfter (T ∷ done) x (after s T.ops x)
    unfolding after
    goes_on s x was = elim (held_is laws.tests.keys s T.ops (length T.ops) x) [
      | inl l ↦ inl (
        l.0,
        l.1,
        record {
          writer = T;
          commit = c;
          among = here T done;
          commits = t;
          wrote = record { place = l.2.place; is = l.2.is; last = λ j u at. l.2.last j u at (within T.ops j (op.Write x u) at) };
          last = λ U d among u. elim (Contains-cons_cases T done U among) [
            | inl same ↦ (let one = same_commit laws P h T U c d t u.commits (ap (λ (A : Txn). A.id) same) in omega (arith, one))
            | inr old ↦ (let lt = earlier U d x old u in omega (arith, lt))
          ];
        },
      )
      | inr r ↦ elim was [
        | inl b ↦ inl (
          b.0,
          r.0 ∙ b.1,
          record {
            writer = b.2.writer;
            commit = b.2.commit;
            among = there T done b.2.writer b.2.among;
            commits = b.2.commits;
            wrote = b.2.wrote;
            last = λ U d among u. elim (Contains-cons_cases T done U among) [ inl same ↦ absurd (unwritten U d x same u r.1) | inr old ↦ b.2.last U d old u ];
          },
        )
        | inr b ↦ inr (λ U d among u. elim (Contains-cons_cases T done U among) [ inl same ↦ unwritten U d x same u r.1 | inr old ↦ b.0 U d old u ], r.0 ∙ b.1)
      ]
    ]
      where
        unwritten : (U : Txn) (d : Stamp) (x : List ℕ) → T ≡ U → CommitsWrite P U d x → NoneIn T.ops (length T.ops) x → ⊥
        unwritten U d x same u none =
            let at : WritesPairAt T u.place x u.value = subst (λ (A : Txn). WritesPairAt A u.place x u.value) (sym same) u.writes in
            none u.place u.value at (within T.ops u.place (op.Write x u.value) at)

    next_split : IsSplit (T ∷ done) rest
    next_split = record {
      each = λ U d u. elim (split.each U d u) [
        | inl old ↦ inl (there T done U old)
        | inr more ↦ elim (Contains-cons_cases T rest U more) [ inl same ↦ inl (subst (Contains (T ∷ done)) same (here T done)) | inr later ↦ inr later ]
      ];
      commits = λ U later. split.commits U (there T rest U later);
      before = λ A B ran later. elim (Contains-cons_cases T done A ran) [
        | inl same ↦ subst (λ C. MayPrecede C B) same (pairs_head MayPrecede T rest split.ordered B later)
        | inr old ↦ split.before A B old (there T rest B later)
      ];
      ordered = pairs_tail MayPrecede T rest split.ordered;
    }

  runs_given : (done rest : List Txn) (s : State) → IsSplit done rest → ((x : List ℕ) → IsHeldAfter done x (s x)) → Runs s (flat_map (λ (T : Txn). T.ops) rest)
      ↔ ((T : Txn) (c : Stamp) → Contains rest T → Commits P T c → (i : ℕ) (x : List ℕ) (v : Option Value) → ReadsAt T i x v → Gives P T c i x v)
  runs_given done [] s split was = (λ r T c among. absurd (Contains-nil T among), λ f. tt)
  runs_given done (T ∷ rest) s split was =
      let t = split.commits T (here T rest) in
      let both = runs_both s T.ops (flat_map (λ (U : Txn). U.ops) rest) in
      let one = one_runs T t.0 s (λ x. held_holds done T rest split t.0 t.1 x (s x) (was x)) in
      let more = runs_given (T ∷ done) rest (after s T.ops) (next_split done T rest split t.0 t.1) (λ x. goes_on done T rest split t.0 t.1 s x (was x)) in (
        λ r U d among u. elim (Contains-cons_cases T rest U among) [
          | inl same ↦ (
              let stamp : t.0 ≡ d = (let e = same_commit laws P h T U t.0 d t.1 u (ap (λ (A : Txn). A.id) same) in λ j. record { 0 = e j }) in
              subst (λ e. (i : ℕ) (x : List ℕ) (v : Option Value) → ReadsAt U i x v → Gives P U e i x v) stamp
              (subst (λ (A : Txn). (i : ℕ) (x : List ℕ) (v : Option Value) → ReadsAt A i x v → Gives P A t.0 i x v) same (one.0 (both.0 r).0))
              )
          | inr later ↦ more.0 (both.0 r).1 U d later u
        ],
        λ f. both.1 (one.1 (f T t.0 (here T rest) t.1), more.1 (λ U d later u. f U d (there T rest U later) u)),
      )

  pub run_serial : (run : List Txn) → AreInOrder P run → IsRun P run ↔ IsSerial P
  run_serial run order =
      let split : IsSplit [] run = record {
        each = λ T c t. inr (order.all T c t);
        commits = order.within;
        before = λ A B ran later. absurd (Contains-nil A ran);
        ordered = order.ordered;
      } in
      let both = runs_given [] run (at_first P) split (λ x. inr (λ U d ran u. Contains-nil U ran, refl)) in
      (λ r T c i x v t e. both.0 r T c (order.all T c t) t i x v e, λ f. both.1 (λ T c among t i x v e. f T c i x v t e))
