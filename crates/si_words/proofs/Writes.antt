-- Each kind of step that changes a word keeps the rule.
use Rattle.std.proofs.Common.{◌≡◌, ◌≢◌, ℕ, zero, suc, ◌+◌, ◌%◌, ◌^◌, ◌<◌, ◌≤◌, List, [], ◌∷◌, ◌++◌, length, get_or, set, max, Some, None, Option, refl, sym, ap, ◌∙◌, subst, inl, inr, arith, length-set, length-append, get_or-set_same, get_or-set_other}
use Rattle.std.specs.Prelude.{slice_index, All, IfSome}
use Rattle.std.proofs.lemmas.List.Elements.{All-append}
use mathlib.Core.Logic.{dite}
use mathlib.Core.Option.{none}
use native.Mathlib.Decide.{ℕ_discrete}
use Rattle.atomic_table.specs.Table.{keeps, step, Allows}
use Rattle.si_model.specs.declared.edits.Edit.{Edit}
use Rattle.si_model.specs.declared.edits.TheConstants.{MOST_EDITS}
use Rattle.si_words.specs.declared.views.Entry.{Entry}
use Rattle.si_words.specs.declared.views.BookView.{BookView}
use Rattle.si_words.specs.declared.views.ShardView.{ShardView}
use Rattle.si_words.specs.declared.views.PassView.{PassView}
use Rattle.si_words.specs.declared.views.Opener.{Opener}
use Rattle.si_words.specs.declared.views.View.{View}
use Rattle.si_words.specs.Entries.{entry}
use Rattle.si_words.specs.Views.{book_view, shard_view, book_and_pass}
use Rattle.si_words.specs.Rule.{Part, Has, AreCounts, FitsBook, FitsShard, FitsPass, FitsOpener, Fits, IsKept, watermark}
use Rattle.si_words.specs.Steps.{Becomes, issued, published, closed}
use Rattle.si_words.proofs.Lists.{begins_longer, length-beginning, made_by_own, made_by_other}
use Rattle.si_words.proofs.Keeping.{kept}

-- what holds of a value that is there
if_some : {T : Type 0} (o : Option T) (P Q : T → Type 0) → ((x : T) → o ≡ Some x → P x → Q x) → IfSome o P → IfSome o Q
if_some None P Q go h = h
if_some (Some x) P Q go h = go x refl h

-- of all entries, and of one more
all_more : (P : Entry → Type 0) (xs : List Entry) (e : Entry) → All P xs → P e → All P (xs ++ e ∷ [])
all_more P xs e all one = All-append P xs (e ∷ []) all one_is
  where
    one_is : All P (e ∷ [])
    one_is zero d l = one
    one_is (suc k) d l = absurd (omega arith)

module _ (shards passes : ℕ) where
  -- closing

  fit_closed : (J : List Entry) (words : List ℕ) → AreCounts shards passes J words → (v : View) → Fits shards passes J words v → Fits shards passes J (set words 1 1) v
  fit_closed J words c v f =
      let wide = c.wide in
      let one : get_or (set words 1 1) 1 0 ≡ 1 = get_or-set_same words 1 1 0 (omega arith) in
      let zeroth : get_or (set words 1 1) 0 0 ≡ get_or words 0 0 = get_or-set_other words 1 0 1 0 (λ e. omega arith) in
      let marks : (k : ℕ) → watermark (set words 1 1) k ≡ watermark words k = λ k. get_or-set_other words 1 (2 + k) 1 0 (λ e. omega arith) in record {
        opener = if_some v.opener (FitsOpener shards passes J words) (FitsOpener shards passes J (set words 1 1)) (λ o _ g. record { of_shards = g.of_shards; marks = λ k l b. marks k ∙ g.marks k l b; issued = g.issued }) f.opener;
        book = if_some v.book (FitsBook shards passes J words) (FitsBook shards passes J (set words 1 1)) (λ b _ g. record { whole = g.whole; of_passes = g.of_passes; closed = λ _. one }) f.book;
        shard = if_some v.shard (FitsShard shards passes J words) (FitsShard shards passes J (set words 1 1))
            (λ s _ g. record { number = g.number; due = g.due; done = marks s.number ∙ g.done; within = g.within; count = (let h = g.count in omega arith); closed = λ _. one })
            f.shard;
        pass = if_some v.pass (FitsPass shards passes J words) (FitsPass shards passes J (set words 1 1))
            (λ p _ g. record {
              number = g.number;
              seen = g.seen;
              mine = g.mine;
              seen_within = g.seen_within;
              count = (let h = g.count in omega arith);
              marks_long = g.marks_long;
              marks = λ k l. (let h = g.marks k l in let m = marks k in omega arith);
              closed = λ _. one;
            })
            f.pass;
      }

  pub closes : (slots id : ℕ) (b : BookView) (held : List (ℕ × Unit {0}))
      → Allows (IsKept shards passes) slots id (book_view b, held) 1 (λ _. 1) (λ _ me. me ≡ (closed (book_view b), held))
  closes slots id b held s r _ at _ =
      let c = r.counts in
      let wide = c.wide in
      let words = set s.words 1 1 in
      let one : get_or words 1 0 ≡ 1 = get_or-set_same s.words 1 1 0 (omega arith) in
      let zeroth : get_or words 0 0 ≡ get_or s.words 0 0 = get_or-set_other s.words 1 0 1 0 (λ e. omega arith) in
      let marks : (k : ℕ) → watermark words k ≡ watermark s.words k = λ k. get_or-set_other s.words 1 (2 + k) 1 0 (λ e. omega arith) in
      let counts : AreCounts shards passes r.journal words = record {
        wide = length-set s.words 1 1 ∙ c.wide;
        ticket = zeroth ∙ c.ticket;
        within = c.within;
        closed = omega arith;
        watermarks = λ k l. (let h = c.watermarks k l in let m = marks k in omega arith);
        bearers = c.bearers;
      } in
      let g = (r.fits id (book_view b) at).book in
      let mine : Fits shards passes r.journal words (closed (book_view b)) = record { opener = tt; book = record { whole = g.whole; of_passes = g.of_passes; closed = λ _. one }; shard = tt; pass = tt } in
      (closed (book_view b), keeps, tt, kept shards passes s r id (book_view b) (closed (book_view b)) r.journal words s.homes at counts mine same (λ j u _ e. fit_closed r.journal s.words c u (r.fits j u e)), refl)
    where
      same : (part : Part) → Has (closed (book_view b)) part → Has (book_view b) part
      same Part.the_book h = refl
      same (Part.the_shard k) h = h
      same (Part.the_pass i) h = h

  -- publishing

  fit_published : (J : List Entry) (words : List ℕ) (k n : ℕ) → AreCounts shards passes J words → k < shards → watermark words k ≤ n
      → (v : View) → (Has v (Part.the_shard k) → ⊥) → Fits shards passes J words v → Fits shards passes J (set words (2 + k) n) v
  fit_published J words k n c below more v apart f =
      let wide = c.wide in
      let here : watermark (set words (2 + k) n) k ≡ n = get_or-set_same words (2 + k) n 0 (omega arith) in
      let low : (i : ℕ) → i < 2 → get_or (set words (2 + k) n) i 0 ≡ get_or words i 0 = λ i l. get_or-set_other words (2 + k) i n 0 (λ e. omega arith) in
      let others : (j : ℕ) → j ≢ k → watermark (set words (2 + k) n) j ≡ watermark words j = λ j a. get_or-set_other words (2 + k) (2 + j) n 0 (λ e. a (omega arith)) in
      let zeroth = low 0 (omega arith) in
      let first = low 1 (omega arith) in record {
        opener = if_some v.opener (FitsOpener shards passes J words) (FitsOpener shards passes J (set words (2 + k) n))
            (λ o is g. record {
              of_shards = g.of_shards;
              marks = λ j l b. others j (λ e. apart (inr (subst (λ (z : Option Opener). Rattle.std.specs.Prelude.IsSomeAnd z (λ o. o.next_shard ≤ k)) (sym is) (let l' : o.next_shard ≤ j = l in omega arith)))) ∙ g.marks j l b;
              issued = g.issued;
            })
            f.opener;
        book = if_some v.book (FitsBook shards passes J words) (FitsBook shards passes J (set words (2 + k) n)) (λ b _ g. record { whole = g.whole; of_passes = g.of_passes; closed = λ h. first ∙ g.closed h }) f.book;
        shard = if_some v.shard (FitsShard shards passes J words) (FitsShard shards passes J (set words (2 + k) n))
            (λ s is g. record {
              number = g.number;
              due = g.due;
              done = others s.number (λ e. apart (inl (subst (λ (z : Option ShardView). Rattle.std.specs.Prelude.IsSomeAnd z (λ x. x.number ≡ k)) (sym is) e))) ∙ g.done;
              within = g.within;
              count = (let h = g.count in omega arith);
              closed = λ h. first ∙ g.closed h;
            })
            f.shard;
        pass = if_some v.pass (FitsPass shards passes J words) (FitsPass shards passes J (set words (2 + k) n))
            (λ p _ g. record {
              number = g.number;
              seen = g.seen;
              mine = g.mine;
              seen_within = g.seen_within;
              count = (let h = g.count in omega arith);
              marks_long = g.marks_long;
              marks = λ j l. dite (ℕ_discrete j k)
                  (λ (e : j ≡ k). let h = g.marks j l in let m : watermark (set words (2 + k) n) j ≡ n = ap (watermark (set words (2 + k) n)) e ∙ here in let w : watermark words j ≡ watermark words k = ap (watermark words) e in omega arith)
                  (λ a. let h = g.marks j l in let m = others j a in omega arith);
              closed = λ h. first ∙ g.closed h;
            })
            f.pass;
      }

  pub publishes : (slots id : ℕ) (s : ShardView) (held : List (ℕ × Unit {0})) (position : ℕ) → s.done ≤ position → position ≤ length s.due
      → Allows (IsKept shards passes) slots id (shard_view s, held) (2 + s.number) (λ n. max n position)
      (λ n. Becomes (published position (shard_view s)) (step slots (2 + s.number) position 0 none) (shard_view s, held) n)
  publishes slots id v held position more within s r _ at _ =
      let c = r.counts in
      let k : ℕ = v.number in
      let g = (r.fits id (shard_view v) at).shard in
      let below : k < shards = g.number in
      let found : ℕ = get_or s.words (2 + k) 0 in
      let done : found ≡ v.done = g.done in
      let n : ℕ = max found position in
      let words = set s.words (2 + k) n in
      let wide = c.wide in
      let here : watermark words k ≡ n = get_or-set_same s.words (2 + k) n 0 (omega arith) in
      let low : (i : ℕ) → i < 2 → get_or words i 0 ≡ get_or s.words i 0 = λ i l. get_or-set_other s.words (2 + k) i n 0 (λ e. omega arith) in
      let others : (j : ℕ) → j ≢ k → watermark words j ≡ watermark s.words j = λ j a. get_or-set_other s.words (2 + k) (2 + j) n 0 (λ e. a (omega arith)) in
      let zeroth = low 0 (omega arith) in
      let first = low 1 (omega arith) in
      let long = length-beginning v.due r.journal g.due in
      let counts : AreCounts shards passes r.journal words = record {
        wide = length-set s.words (2 + k) n ∙ c.wide;
        ticket = zeroth ∙ c.ticket;
        within = c.within;
        closed = (let h = c.closed in omega arith);
        watermarks = λ j l. dite (ℕ_discrete j k)
            (λ (e : j ≡ k). let m : watermark words j ≡ n = ap (watermark words) e ∙ here in let h = c.watermarks j l in let w : watermark s.words j ≡ found = ap (watermark s.words) e in omega arith)
            (λ a. let h = c.watermarks j l in let m = others j a in omega arith);
        bearers = c.bearers;
      } in
      let mine : Fits shards passes r.journal words (published position (shard_view v)) = record {
        opener = tt;
        book = tt;
        shard = record { number = g.number; due = g.due; done = (let e : n ≡ position = omega arith in here ∙ e); within = within; count = (let h = g.count in omega arith); closed = λ h. first ∙ g.closed h };
        pass = tt;
      } in (
        published position (shard_view v),
        keeps,
        tt,
        kept shards passes s r id (shard_view v) (published position (shard_view v)) r.journal words s.homes at counts mine same
            (λ j u away e. fit_published r.journal s.words k n c below (omega arith) u (λ has. away (r.apart (Part.the_shard k) j id u (shard_view v) e at has (inl refl))) (r.fits j u e)),
        (refl, record { shards = shards; passes = passes; journal = r.journal; words = s.words; counts = c; fits = r.fits id (shard_view v) at; found = refl }),
      )
    where
      same : (part : Part) → Has (published position (shard_view v)) part → Has (shard_view v) part
      same Part.the_book h = h
      same (Part.the_shard k) h = h
      same (Part.the_pass i) h = h

  -- issuing

  fit_issued : (J : List Entry) (words : List ℕ) (e : Entry) → AreCounts shards passes J words
      → (v : View) → (Has v Part.the_book → ⊥) → (Has v (Part.the_pass e.by) → ⊥) → Fits shards passes J words v → Fits shards passes (J ++ e ∷ []) (set words 0 (length J + 1)) v
  fit_issued J words e c v no_book no_pass f =
      let wide = c.wide in
      let t = c.ticket in
      let n : ℕ = length J + 1 in
      let zeroth : get_or (set words 0 n) 0 0 ≡ n = get_or-set_same words 0 n 0 (omega arith) in
      let later : (i : ℕ) → 0 < i → get_or (set words 0 n) i 0 ≡ get_or words i 0 = λ i l. get_or-set_other words 0 i n 0 (λ e. omega arith) in
      let first = later 1 (omega arith) in
      let marks : (k : ℕ) → watermark (set words 0 n) k ≡ watermark words k = λ k. later (2 + k) (omega arith) in record {
        opener = if_some v.opener (FitsOpener shards passes J words) (FitsOpener shards passes (J ++ e ∷ []) (set words 0 n))
            (λ o is g. record {
              of_shards = g.of_shards;
              marks = λ k l b. marks k ∙ g.marks k l b;
              issued = λ i l. made_by_other i J e (λ z. no_pass (inr (subst (λ (x : Option Opener). Rattle.std.specs.Prelude.IsSomeAnd x (λ o. o.next_pass ≤ e.by)) (sym is) (omega arith)))) ∙ g.issued i l;
            })
            f.opener;
        book = if_some v.book (FitsBook shards passes J words) (FitsBook shards passes (J ++ e ∷ []) (set words 0 n)) (λ b is _. absurd (no_book (ap Rattle.std.specs.Prelude.is_some is))) f.book;
        shard = if_some v.shard (FitsShard shards passes J words) (FitsShard shards passes (J ++ e ∷ []) (set words 0 n))
            (λ s is g. record { number = g.number; due = begins_longer s.due J e g.due; done = marks s.number ∙ g.done; within = g.within; count = (let h = g.count in omega arith); closed = λ h. first ∙ g.closed h })
            f.shard;
        pass = if_some v.pass (FitsPass shards passes J words) (FitsPass shards passes (J ++ e ∷ []) (set words 0 n))
            (λ p is g. record {
              number = g.number;
              seen = begins_longer p.seen J e g.seen;
              mine = g.mine ∙ sym (made_by_other p.number J e (λ z. no_pass (inl (subst (λ (x : Option PassView). Rattle.std.specs.Prelude.IsSomeAnd x (λ y. y.number ≡ e.by)) (sym is) (sym z)))));
              seen_within = g.seen_within;
              count = (let h = g.count in omega arith);
              marks_long = g.marks_long;
              marks = λ k l. (let h = g.marks k l in let m = marks k in omega arith);
              closed = λ h. first ∙ g.closed h;
            })
            f.pass;
      }

  pub issues : (slots id : ℕ) (b : BookView) (p : PassView) (held : List (ℕ × Unit {0})) (edit : Edit) → length b.journal < MOST_EDITS
      → Allows (IsKept shards passes) slots id (book_and_pass b p, held) 0 (λ n. (n + 1) % 2 ^ 64)
      (λ n. Becomes (issued (Some edit) (book_and_pass b p)) (step slots 0 1 0 none) (book_and_pass b p, held) n)
  issues slots id b p held edit room s r _ at _ =
      let v : View = book_and_pass b p in
      let w : View = issued (Some edit) v in
      let e : Entry = entry p.number edit in
      let c = r.counts in
      let f = r.fits id v at in
      let g = f.book in
      let q = f.pass in
      let J = r.journal in
      let J' = J ++ e ∷ [] in
      let long : length b.journal ≡ length J = ap length g.whole in
      let longer : length J' ≡ length J + 1 = length-append J (e ∷ []) in
      let n : ℕ = length J + 1 in
      let words = set s.words 0 n in
      let t = c.ticket in
      let wide = c.wide in
      let up : (get_or s.words 0 0 + 1) % 2 ^ 64 ≡ n = ap (λ (k : ℕ). (k + 1) % 2 ^ 64) t ∙ small (length J + 1) (omega arith) in
      let zeroth : get_or words 0 0 ≡ n = get_or-set_same s.words 0 n 0 (omega arith) in
      let later : (i : ℕ) → 0 < i → get_or words i 0 ≡ get_or s.words i 0 = λ i l. get_or-set_other s.words 0 i n 0 (λ e. omega arith) in
      let first = later 1 (omega arith) in
      let marks : (k : ℕ) → watermark words k ≡ watermark s.words k = λ k. later (2 + k) (omega arith) in
      let counts : AreCounts shards passes J' words = record {
        wide = length-set s.words 0 n ∙ c.wide;
        ticket = omega arith;
        within = omega arith;
        closed = (let h = c.closed in omega arith);
        watermarks = λ k l. (let h = c.watermarks k l in let m = marks k in omega arith);
        bearers = all_more (λ x. x.by < passes) J e c.bearers q.number;
      } in
      let mine : Fits shards passes J' words w = record {
        opener = tt;
        book = record { whole = ap (λ l. l ++ e ∷ []) g.whole; of_passes = g.of_passes; closed = λ h. first ∙ g.closed h };
        shard = tt;
        pass = record {
          number = q.number;
          seen = begins_longer p.seen J e q.seen;
          mine = ap (λ l. l ++ e ∷ []) q.mine ∙ sym (made_by_own p.number J e refl);
          seen_within = q.seen_within;
          count = (let h = q.count in omega arith);
          marks_long = q.marks_long;
          marks = λ k l. (let h = q.marks k l in let m = marks k in omega arith);
          closed = λ h. first ∙ q.closed h;
        };
      } in (
        w,
        keeps,
        tt,
        subst (λ (k : ℕ). IsKept shards passes record { words = set s.words 0 k; homes = s.homes; views = set s.views id w }) (sym up)
            (kept shards passes s r id v w J' words s.homes at counts mine same
            (λ j u away at'. fit_issued J s.words e c u (λ has. away (r.apart Part.the_book j id u v at' at has refl)) (λ has. away (r.apart (Part.the_pass p.number) j id u v at' at has (inl refl))) (r.fits j u at'))),
        (refl, record { shards = shards; passes = passes; journal = J; words = s.words; counts = c; fits = f; found = refl }),
      )
    where
      small : (k : ℕ) → k < 2 ^ 64 → k % 2 ^ 64 ≡ k
      small k l = omega arith

      same : (part : Part) → Has (issued (Some edit) (book_and_pass b p)) part → Has (book_and_pass b p) part
      same Part.the_book h = refl
      same (Part.the_shard k) h = h
      same (Part.the_pass i) h = h
