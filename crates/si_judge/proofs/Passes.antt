-- What is made of a transaction's accesses one after the other is made of all of them.
use Rattle.std.proofs.Common.{◌≡◌, ◌∙◌, ℕ, ◌+◌, ◌<◌, ◌≤◌, suc, Bool, List, [], ◌∷◌, ◌++◌, length, take, get_or, Some, None, Option, refl, sym, ap, ap₂, subst, length-append, arith}
use Rattle.std.specs.List.{cons_option, fold, filter_map, flat_map}
use Rattle.std.specs.Map.{update, update_all}
use Rattle.std.specs.Option.{option_or, option_to_list}
use Rattle.std.specs.Ordering.{eq_by_cmp}
use Rattle.std.proofs.lemmas.Grind.{flat_map-append}
use Rattle.std.proofs.lemmas.List.Elements.{filter-append}
use Rattle.std.proofs.Math.Seq.{take-suc}
use Rattle.std.proofs.lemmas.List.{append-nil, take_all}
use Rattle.std.proofs.lemmas.List.Sums.{fold-append}
use Rattle.si_model.specs.declared.kinds.Kind.{Kind}
use Rattle.si_model.specs.declared.numbers.Stamp.{Stamp}
use Rattle.si_model.specs.declared.numbers.Value.{Value}
use Rattle.si_model.specs.declared.parts.OnKey.{OnKey}
use Rattle.si_model.specs.declared.parts.Part.{Part}
use Rattle.si_model.specs.declared.parts.Placed.{Placed}
use Rattle.si_model.specs.Findings.{Rules}
use Rattle.si_model.specs.Versions.{last_write, written}
use Rattle.si_judge.specs.declared.indexes.Indexes.{Indexes}
use Rattle.si_judge.specs.declared.judgements.ReadId.{ReadId}
use Rattle.si_judge.specs.declared.reads.KeptRead.{KeptRead}
use Rattle.si_judge.specs.declared.reads.Write.{Write}
use Rattle.si_judge.specs.Indexes.{is_other, kept_reads_in, others_among, readers_of, write_by, write_at}
use Rattle.si_judge.specs.Maps.{AreInserted}
use Rattle.si_judge.specs.Mending.{AreReadsJudged, id_of, read_cmp, risen}
use Rattle.si_judge.specs.Sights.{sight_in}
use Rattle.si_judge.proofs.Counts.{risen_more}
use Rattle.si_judge.proofs.OwnValues.{last_grows, reads_grow}

one_of : {Y : Type 0} (o : Option Y) → cons_option o [] ≡ option_to_list o
one_of None = refl
one_of (Some y) = refl

-- o comes of the access at the place j of the list
abbrev pub ComesOf : {Y : Type 0} → (Placed → Option Y) → List Placed → ℕ → Option Y → Type 0
ComesOf h ys j o = (items : List Placed) × (d : Placed) × (items ≡ ys) × (j < length items) × (o ≡ h (get_or items j d))

-- what comes of the first accesses and of the next one is what comes of all of these
grown : {Y : Type 0} (h : Placed → Option Y) (ys : List Placed) (j : ℕ) (o : Option Y) → ComesOf h ys j o
    → filter_map h (take (j + 1) ys) ≡ filter_map h (take j ys) ++ option_to_list o
grown h ys j o (items, d, same, within, is) =
    reads_grow h ys j d (subst (λ l. j < length l) same within)
    ∙ ap (λ l. filter_map h (take j ys) ++ l) (one_of (h (get_or ys j d)) ∙ ap option_to_list (sym (is ∙ ap (λ l. h (get_or l j d)) same)))

-- and what was written last so
pub own_grows : (ys : List Placed) (j : ℕ) (own wrote new : Option Value) → own ≡ last_write (take j ys) → ComesOf (λ a. written a.access) ys j wrote → new ≡ option_or wrote own
    → new ≡ last_write (take (j + 1) ys)
own_grows ys j own wrote new was (items, d, same, within, is) then =
    then ∙ ap₂ option_or (is ∙ ap (λ l. written (get_or l j d).access) same) was ∙ sym (last_grows ys j d (subst (λ l. j < length l) same within))

-- nothing comes behind all
pub all_passed : (items ys : List Placed) (j : ℕ) → items ≡ ys → length items ≤ j → take j ys ≡ ys
all_passed items ys j same past = take_all j ys (subst (λ l. length l ≤ j) same past)

-- ---- entries that are put in

inserted_more : {K V : Type 0} (same : K → K → Bool) (old mid new : K → Option V) (xs ys : List (K × V)) → AreInserted same old xs mid → AreInserted same mid ys new
    → AreInserted same old (xs ++ ys) new
inserted_more {K} {V} same old mid new xs ys first second = λ k.
    second k ∙ ap (λ f. update_all same f ys k) (λ i q. first q i) ∙ ap (λ f. f k) (sym (fold-append (λ (f : K → Option V) e. update same f e.0 (Some e.1)) old xs ys))

pub reads_put_in : {K V : Type 0} (same : K → K → Bool) (old mid new : K → Option V) (h : Placed → Option (K × V)) (ys : List Placed) (j : ℕ) (o : Option (K × V)) → ComesOf h ys j o
    → AreInserted same old (filter_map h (take j ys)) mid → AreInserted same mid (option_to_list o) new → AreInserted same old (filter_map h (take (j + 1) ys)) new
reads_put_in same old mid new h ys j o comes first second =
    subst (λ l. AreInserted same old l new) (sym (grown h ys j o comes)) (inserted_more same old mid new (filter_map h (take j ys)) (option_to_list o) first second)

pub writes_put_in : (same : Value → Value → Bool) (old mid new : Value → Option Write) (h : Placed → Option (Value × Write)) (ys : List Placed) (j : ℕ) (o : Option (Value × Write)) → ComesOf h ys j o
    → AreInserted same old (others_among (filter_map h (take j ys))) mid → AreInserted same mid (others_among (option_to_list o)) new
    → AreInserted same old (others_among (filter_map h (take (j + 1) ys))) new
writes_put_in same old mid new h ys j o comes first second =
    let before = filter_map h (take j ys) in
    let one = option_to_list o in
    subst (λ l. AreInserted same old l new) (sym (ap others_among (grown h ys j o comes) ∙ filter-append (λ (w : Value × Write). is_other w.1.fate) before one))
    (inserted_more same old mid new (others_among before) (others_among one) first second)

-- ---- reads that are judged

module _ (J : Rules) (M : OnKey) (ix : Indexes) where
  abbrev judge_step : (ReadId → Option Kind) → KeptRead × Option Value → ReadId → Option Kind
  judge_step f p = update (eq_by_cmp read_cmp) f (id_of p) (J.read (sight_in M ix p))

  judged_more : (old mid new : ReadId → Option Kind) (xs ys : List (KeptRead × Option Value)) → AreReadsJudged J M ix xs old mid → AreReadsJudged J M ix ys mid new
      → AreReadsJudged J M ix (xs ++ ys) old new
  judged_more old mid new xs ys first second = λ o.
      second o ∙ ap (λ f. fold judge_step f ys o) (λ i q. first q i) ∙ ap (λ f. f o) (sym (fold-append judge_step old xs ys))

  pub next_judged : (old mid new : ReadId → Option Kind) (reads : List (KeptRead × Option Value)) (j : ℕ) (d : KeptRead × Option Value) → j < length reads
      → AreReadsJudged J M ix (take j reads) old mid → AreReadsJudged J M ix (get_or reads j d ∷ []) mid new → AreReadsJudged J M ix (take (j + 1) reads) old new
  next_judged old mid new reads j d within first second =
      subst (λ l. AreReadsJudged J M ix l old new) (sym (ap (λ n. take n reads) (let e : j + 1 ≡ suc j = omega arith in e) ∙ take-suc reads j d within))
      (judged_more old mid new (take j reads) (get_or reads j d ∷ []) first second)

  pub reads_judged : (old mid new : ReadId → Option Kind) (h : Placed → Option (KeptRead × Option Value)) (ys : List Placed) (j : ℕ) (o : Option (KeptRead × Option Value)) → ComesOf h ys j o
      → AreReadsJudged J M ix (filter_map h (take j ys)) old mid → AreReadsJudged J M ix (option_to_list o) mid new
      → AreReadsJudged J M ix (filter_map h (take (j + 1) ys)) old new
  reads_judged old mid new h ys j o comes first second =
      subst (λ l. AreReadsJudged J M ix l old new) (sym (grown h ys j o comes)) (judged_more old mid new (filter_map h (take j ys)) (option_to_list o) first second)

  -- the reads under the marks up to the next one
  pub range_judged : (old mid new : ReadId → Option Kind) (marks : List (Option Value × Option Stamp)) (j : ℕ) (d : Option Value × Option Stamp) → j < length marks
      → AreReadsJudged J M ix (flat_map (λ m. kept_reads_in ix m.0 m.1) (take j marks)) old mid → AreReadsJudged J M ix (kept_reads_in ix (get_or marks j d).0 (get_or marks j d).1) mid new
      → AreReadsJudged J M ix (flat_map (λ m. kept_reads_in ix m.0 m.1) (take (j + 1) marks)) old new
  range_judged old mid new marks j d within first second =
      let f = λ (m : Option Value × Option Stamp). kept_reads_in ix m.0 m.1 in
      let one : flat_map f (get_or marks j d ∷ []) ≡ f (get_or marks j d) = append-nil (f (get_or marks j d)) in
      let all : flat_map f (take (j + 1) marks) ≡ flat_map f (take j marks) ++ f (get_or marks j d)
      = ap (flat_map f) (ap (λ n. take n marks) (let e : j + 1 ≡ suc j = omega arith in e) ∙ take-suc marks j d within) ∙ flat_map-append f (take j marks) (get_or marks j d ∷ [])
      ∙ ap (λ l. flat_map f (take j marks) ++ l) one in
      subst (λ l. AreReadsJudged J M ix l old new) (sym all) (judged_more old mid new (flat_map f (take j marks)) (f (get_or marks j d)) first second)

pub reads_counted : {Y : Type 0} (h : Placed → Option Y) (ys : List Placed) (j : ℕ) (o : Option Y) (n mid new : ℕ) → ComesOf h ys j o
    → mid ≡ risen n (length (filter_map h (take j ys))) → new ≡ risen mid (length (option_to_list o)) → new ≡ risen n (length (filter_map h (take (j + 1) ys)))
reads_counted h ys j o n mid new comes first second =
    let before = filter_map h (take j ys) in
    let one = option_to_list o in
    second ∙ ap (λ m. risen m (length one)) first ∙ risen_more n (length before) (length one) ∙ ap (risen n) (sym (length-append before one)) ∙ ap (λ l. risen n (length l)) (sym (grown h ys j o comes))

-- ---- readers of what is written

abbrev pub readers : Indexes → Value × Write → List (KeptRead × Option Value)
readers ix w = kept_reads_in ix (Some w.0) None

none_or_one : (ix : Indexes) (T : Part) (i : ℕ) (o : Option Value) → flat_map (readers ix) (option_to_list (write_by T i o)) ≡ readers_of ix o
none_or_one ix T i None = refl
none_or_one ix T i (Some v) = append-nil (kept_reads_in ix (Some v) None)

pub readers_added : (ix : Indexes) (T : Part) (j : ℕ) (wrote : Option Value) (mid new : List (KeptRead × Option Value)) → ComesOf (λ a. written a.access) T.accesses j wrote
    → mid ≡ flat_map (readers ix) (filter_map (write_at T) (take j T.accesses)) → new ≡ mid ++ readers_of ix wrote
    → new ≡ flat_map (readers ix) (filter_map (write_at T) (take (j + 1) T.accesses))
readers_added ix T j wrote mid new (items, d, same, within, is) first second =
    let a = get_or items j d in
    let before = filter_map (write_at T) (take j T.accesses) in
    second ∙ ap (λ l. l ++ readers_of ix wrote) first
    ∙ ap (λ l. flat_map (readers ix) before ++ l) (ap (readers_of ix) is ∙ sym (none_or_one ix T a.place (written a.access)))
    ∙ sym (flat_map-append (readers ix) before (option_to_list (write_at T a)))
    ∙ ap (flat_map (readers ix)) (sym (grown (write_at T) T.accesses j (write_at T a) (items, d, same, within, refl)))
