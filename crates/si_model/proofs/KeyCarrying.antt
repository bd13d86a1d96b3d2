-- What is carried over a horizon, on one key.
use Rattle.std.proofs.Common.{◌≡◌, ◌⊎◌, inl, inr, ℕ, ◌<◌, ◌≤◌, true, List, Option, Some, refl, sym, subst, ◌∙◌}
use Rattle.std.specs.List.{Contains, filter}
use Rattle.std.proofs.lemmas.Bool.{cases_lt}
use Rattle.si_model.specs.declared.numbers.Stamp.{Stamp}
use Rattle.si_model.specs.declared.numbers.Value.{Value}
use Rattle.si_model.specs.declared.operations.Op.{Op}
use Rattle.si_model.specs.declared.operations.Op.TheVariants as op
use Rattle.si_model.specs.declared.transactions.Status.TheVariants as status
use Rattle.si_model.specs.declared.transactions.Txn.{Txn}
use Rattle.si_model.specs.declared.parts.Access.TheVariants as access
use Rattle.si_model.specs.declared.parts.Placed.{Placed}
use Rattle.si_model.specs.declared.parts.Part.{Part}
use Rattle.si_model.specs.declared.parts.OnKey.{OnKey}
use Rattle.si_model.specs.declared.sights.Installer.{Installer}
use Rattle.si_model.specs.Operations.{access_of, is_write}
use Rattle.si_model.specs.Parts.{Present, set_up_value, on_key}
use Rattle.si_model.specs.Versions.{Writes, IsFinalWrite, IsInstaller}
use Rattle.si_model.specs.Reads.{IsRead}
use Rattle.si_model.specs.History.{WritesPairAt, IsHistory}
use Rattle.si_model.specs.Laws.{IsPartOf}
use Rattle.si_model.specs.Horizons.{IsGone, IsLastWriteOf, writes_alone, rest, carried}
use Rattle.si_lists.proofs.Members.{get_contains, Contains-from_filter}
use Rattle.si_model.proofs.KeyParts.{accesses_are, parts_are, pair_from}
use Rattle.si_model.proofs.Histories.{set_up_is, set_up_from}
use Rattle.si_model.proofs.ReadChanges.{same_option}
use Rattle.si_model.proofs.Rests.{rest_exact, spans, Carries, carries_rest, last_write_to, last_write_from}
use Rattle.si_model.proofs.Carrying.{part_on, write_in, below_or_none, some_below, carried_exact, came, went, kept_over, once_in, carried_keys}
use Rattle.si_model.proofs.LateEdits.{rest_whole, forward_in}

-- U is what is carried over of T: it has T's id and stamps, and the writes are the same but for their places
pub record PartRest (T U : Part) : Type 0 where
  pub id : U.id ≡ T.id
  pub start : U.start ≡ T.start
  pub status : U.status ≡ T.status
  pub to : (v : Value) → Writes T v → Writes U v
  pub from : (v : Value) → Writes U v → Writes T v
  pub final_to : (v : Value) → IsFinalWrite T v → IsFinalWrite U v
  pub final_from : (v : Value) → IsFinalWrite U v → IsFinalWrite T v

-- T is gone at the horizon
abbrev pub PartGone : Stamp → Part → Type 0
PartGone H T = ((c : Stamp) × (T.status ≡ status.Committed c) × (c.0 < H.0)) ⊎ ((T.status ≡ status.Aborted) × (T.start.0 < H.0))

-- a version was installed below the horizon, and the last such one is the initial version behind it
pub record BelowOn (H : Stamp) (Q R : OnKey) : Type 0 where
  pub part : Part
  pub at : Contains Q.parts part
  pub commit : Stamp
  pub committed : part.status ≡ status.Committed commit
  pub below : commit.0 < H.0
  pub value : Value
  pub final : IsFinalWrite part value
  pub initial : R.initial ≡ Some value
  pub last : (n : Installer) → IsInstaller Q n → n.commit.0 < H.0 → n.commit.0 ≤ commit.0

-- none was, and the initial version stays
pub record NoneBelow (H : Stamp) (Q R : OnKey) : Type 0 where
  pub none : (n : Installer) → IsInstaller Q n → n.commit.0 < H.0 → ⊥
  pub initial : R.initial ≡ Q.initial

-- R is what is carried over of Q
pub record IsOver (H : Stamp) (Q R : OnKey) : Type 0 where
  pub whole : (T : Part) → Contains Q.parts T → (H.0 ≤ T.start.0) ⊎ (T.status ≡ status.InDoubt) → Contains R.parts T
  pub kept : (T : Part) (c : Stamp) → Contains Q.parts T → T.status ≡ status.Committed c → H.0 ≤ c.0 → (v : Value) → Writes T v → (U : Part) × Contains R.parts U × PartRest T U
  pub from : (U : Part) → Contains R.parts U → (T : Part) × Contains Q.parts T × (PartGone H T → ⊥) × PartRest T U
  pub reads : (U : Part) (i : ℕ) (v : Option Value) → IsRead R U i v → (H.0 ≤ U.start.0) × Contains Q.parts U
  pub initial : BelowOn H Q R ⊎ NoneBelow H Q R

-- ---- writes of a part

module _ (x : List ℕ) (S : Txn) (T : Part) (is : IsPartOf x S T) where
  pub write_to : (i : ℕ) (v : Value) → WritesPairAt S i x v → Contains T.accesses (record { place = i; access = access.Write v })
  write_to i v w = subst (λ ys. Contains ys (record { place = i; access = access.Write v })) (sym is.accesses) (write_in x S i v w)

  pub final_is : (v : Value) → IsFinalWrite T v → IsLastWriteOf S x v
  final_is v f = record { place = f.place; is = pair_from x S T f.place v is f.is; last = λ j w a. f.last j w (write_to j w a) }

  pub final_in : (v : Value) → IsLastWriteOf S x v → IsFinalWrite T v
  final_in v f = record { place = f.place; is = write_to f.place v f.is; last = λ j w a. f.last j w (pair_from x S T j w is a) }

itself : (T : Part) → PartRest T T
itself T = record { id = refl; start = refl; status = refl; to = λ v w. w; from = λ v w. w; final_to = λ v f. f; final_from = λ v f. f }

module _ (P : Present) (H : Stamp) (h : IsHistory P) (x : List ℕ) where
  abbrev C : Present
  C = carried H P

  rests : (S V : Txn) (T U : Part) → Contains P.txns S → Carries S V → IsPartOf x S T → IsPartOf x V U → PartRest T U
  rests S V T U at c t u = record {
    id = u.id ∙ c.id ∙ sym t.id;
    start = u.start ∙ c.start ∙ sym t.start;
    status = u.status ∙ c.status ∙ sym t.status;
    to = λ v w. (let f = c.to w.0 x v (pair_from x S T w.0 v t w.1) in (f.0, write_to x V U u f.0 v f.1));
    from = λ v w. (let f = c.from w.0 x v (pair_from x V U w.0 v u w.1) in (f.0, write_to x S T t f.0 v f.1));
    final_to = λ v f. final_in x V U u v (last_write_to S V c (once_in P h S at) x v (final_is x S T t v f));
    final_from = λ v f. final_in x S T t v (last_write_from S V c (once_in P h S at) x v (final_is x V U u v f));
  }

  -- a part with a write
  part_of_write : (S : Txn) (i : ℕ) (v : Value) → WritesPairAt S i x v → IsPartOf x S (part_on x S)
  part_of_write S i v w = record { id = refl; start = refl; status = refl; accesses = refl; some = (record { place = i; access = access.Write v }, write_in x S i v w) }

  whole_over : (T : Part) → Contains (on_key x P).parts T → (H.0 ≤ T.start.0) ⊎ (T.status ≡ status.InDoubt) → Contains (on_key x C).parts T
  whole_over T at late =
      let f = (parts_are x P.txns T).0 at in
      (parts_are x C.txns T).1 (f.0, went P H f.0 f.0 f.1 (by late f.0 f.1 f.2), f.2)
    where
      by : (H.0 ≤ T.start.0) ⊎ (T.status ≡ status.InDoubt) → (S : Txn) → Contains P.txns S → IsPartOf x S T → rest H S ≡ Some S
      by (inl more) S at is = rest_whole H S (subst (λ s. H.0 ≤ s.0) is.start more) (forward_in P h S at)
      by (inr doubt) S at is = (rest_exact H S S).1 (gone, record { writes = λ n. (let wrong = sym doubt ∙ is.status ∙ n.1 in cc); whole = λ n. refl })
        where
          gone : IsGone H S → ⊥
          gone (inl g) = let wrong = sym doubt ∙ is.status ∙ g.1 in cc
          gone (inr g) = let wrong = sym doubt ∙ is.status ∙ g.0 in cc

  kept_on : (T : Part) (c : Stamp) → Contains (on_key x P).parts T → T.status ≡ status.Committed c → H.0 ≤ c.0 → (v : Value) → Writes T v → (U : Part) × Contains (on_key x C).parts U × PartRest T U
  kept_on T c at s past v w =
      let f = (parts_are x P.txns T).0 at in
      let k = kept_over P H f.0 c f.1 (sym f.2.status ∙ s) past in
      let carries = carries_rest H f.0 k.0 k.2 in
      let wrote = carries.to w.0 x v (pair_from x f.0 T w.0 v f.2 w.1) in
      let is = part_of_write k.0 wrote.0 v wrote.1 in
      (part_on x k.0, (parts_are x C.txns (part_on x k.0)).1 (k.0, k.1, is), rests f.0 k.0 T (part_on x k.0) f.1 carries f.2 is)

  -- what is carried over of a transaction that spans the horizon writes alone
  alone_writes : (S : Txn) (U : Part) → IsPartOf x (writes_alone S) U → (a : Placed) → Contains U.accesses a → (v : Value) × (a.access ≡ access.Write v)
  alone_writes S U is a c =
      let p = (accesses_are x (writes_alone S).ops a).0 (subst (λ ys. Contains ys a) is.accesses c) in
      let f = Contains-from_filter is_write S.ops p.0 (get_contains (filter is_write S.ops) a.place p.0 p.1) in
      by p.0 f.1 p.3
    where
      by : (p : Op) → is_write p ≡ true → access_of p ≡ a.access → (v : Value) × (a.access ≡ access.Write v)
      by (op.Read y v) t e = cc
      by (op.Write y v) t e = (v, sym e)

  stays : (S : Txn) (T : Part) → IsPartOf x S T → (IsGone H S → ⊥) → PartGone H T → ⊥
  stays S T is not (inl g) = not (inl (g.0, sym is.status ∙ g.1, g.2))
  stays S T is not (inr g) = not (inr (sym is.status ∙ g.0, subst (λ s. s.0 < H.0) is.start g.1))

  from_over : (U : Part) → Contains (on_key x C).parts U → (T : Part) × Contains (on_key x P).parts T × (PartGone H T → ⊥) × PartRest T U
  from_over U at =
      let f = (parts_are x C.txns U).0 at in
      let t = came P H f.0 f.1 in
      let S = t.txn in
      let r = (rest_exact H S f.0).0 t.is in
      elim (spans H S) [
        | inl n ↦
            (let alone = subst (λ V. IsPartOf x V U) (r.1.writes n) f.2 in
            let some = alone.some in
            let w = alone_writes S U alone some.0 some.1 in
            let write : Contains U.accesses (record { place = some.0.place; access = access.Write w.0 }) = subst (λ b. Contains U.accesses (record { place = some.0.place; access = b })) w.1 some.1 in
            let pair = t.carries.from some.0.place x w.0 (pair_from x f.0 U some.0.place w.0 f.2 write) in
            let is = part_of_write S pair.0 w.0 pair.1 in
            (part_on x S, (parts_are x P.txns (part_on x S)).1 (S, t.at, is), stays S (part_on x S) is r.0, rests S f.0 (part_on x S) U t.at t.carries is f.2))
        | inr n ↦ (let is = subst (λ V. IsPartOf x V U) (r.1.whole n) f.2 in (U, (parts_are x P.txns U).1 (S, t.at, is), stays S U is r.0, itself U))
      ]

  reads_over : (U : Part) (i : ℕ) (v : Option Value) → IsRead (on_key x C) U i v → (H.0 ≤ U.start.0) × Contains (on_key x P).parts U
  reads_over U i v read =
      let f = (parts_are x C.txns U).0 read.part in
      let t = came P H f.0 f.1 in
      let S = t.txn in
      let r = (rest_exact H S f.0).0 t.is in
      elim (spans H S) [
        | inl n ↦ (let w = alone_writes S U (subst (λ V. IsPartOf x V U) (r.1.writes n) f.2) (record { place = i; access = access.Read v }) read.returned in let wrong = w.1 in cc)
        | inr n ↦
            (let is = subst (λ V. IsPartOf x V U) (r.1.whole n) f.2 in
            let c = read.committed in
            let committed = sym is.status ∙ c.1 in (
              elim (cases_lt U.start.0 H.0) [
                | inl less ↦ absurd (elim (cases_lt c.0.0 H.0) [
                  | inl below ↦ r.0 (inl (c.0, committed, below))
                  | inr past ↦ n (c.0, committed, subst (λ s. s.0 < H.0) is.start less, past)
                ])
                | inr more ↦ more
              ],
              (parts_are x P.txns U).1 (S, t.at, is),
            ))
      ]

  -- ---- the initial version

  initial_over : BelowOn H (on_key x P) (on_key x C) ⊎ NoneBelow H (on_key x P) (on_key x C)
  initial_over = elim (below_or_none P H h x) [
    | inl b ↦
        (let S = b.0 in
        let v = b.1 in
        let below = b.2 in
        let is = part_of_write S b.3.place v b.3.is in
        inl (record {
          part = part_on x S;
          at = (parts_are x P.txns (part_on x S)).1 (S, below.present, is);
          commit = below.commit;
          committed = below.committed;
          below = below.below;
          value = v;
          final = final_in x S (part_on x S) is v b.3;
          initial = set_up_from x C.initial v (carried_keys P H) (((carried_exact P H h).initial x v).1 (inl (S, below, b.3)));
          last = λ n i less. (let f = (parts_are x P.txns i.0).0 i.1 in
              below.last f.0 n.commit f.1 (sym f.2.status ∙ i.2.committed) less (i.2.writes.1.0, i.2.writes.0, pair_from x f.0 i.0 i.2.writes.1.0 i.2.writes.0 f.2 i.2.writes.1.1));
        }))
    | inr none ↦ inr (record {
      none = λ n i less.
          (let f = (parts_are x P.txns i.0).0 i.1 in
          let last = some_below P H h x f.0 n.commit f.1 (sym f.2.status ∙ i.2.committed) less (i.2.writes.1.0, i.2.writes.0, pair_from x f.0 i.0 i.2.writes.1.0 i.2.writes.0 f.2 i.2.writes.1.1) in
          none last.0 last.1);
      initial = same_option (set_up_value x C.initial) (set_up_value x P.initial)
          (λ v e. elim (((carried_exact P H h).initial x v).0 (set_up_is x C.initial v e)) [
            | inl b ↦ absurd (none b.0 b.1)
            | inr s ↦ set_up_from x P.initial v h.keys s.1
          ])
          (λ v e. set_up_from x C.initial v (carried_keys P H) (((carried_exact P H h).initial x v).1 (inr (none, set_up_is x P.initial v e))));
    })
  ]

  pub key_over : IsOver H (on_key x P) (on_key x C)
  key_over = record { whole = whole_over; kept = kept_on; from = from_over; reads = reads_over; initial = initial_over }
