-- Seats are joined, parted and handed out, and the rule is kept.
use Rattle.std.proofs.Common.{◌≡◌, ◌⊎◌, ℕ, suc, zero, ◌+◌, ◌<◌, ◌≤◌, [], ◌∷◌, replicate, refl, sym, ◌∙◌, subst, inl, inr, ⊎_elim, arith}
use Rattle.std.proofs.lemmas.List.{length-replicate}
use Rattle.std.specs.Prelude.{slice_index}
use mathlib.Core.Option.{some, some-injective, some-ne-none}
use lib.ListN.{get_elem?}
use Rattle.atomic_table.specs.Table.{opening, Splits, Joins}
use Rattle.si_words.specs.declared.views.BookView.{BookView}
use Rattle.si_words.specs.declared.views.ShardView.{ShardView}
use Rattle.si_words.specs.declared.views.PassView.{PassView}
use Rattle.si_words.specs.declared.views.View.{View}
use Rattle.si_words.specs.Views.{book_view, shard_view, pass_view, opener_view, spent, book_and_pass, book_and_shard, shard_and_pass, book_and_opener, opener_from, opening_view, new_shard, new_pass}
use Rattle.si_words.specs.Rule.{Part, Has, IsKept, Fits}
use Rattle.si_words.specs.Steps.{together, without_shard, shard_alone, without_pass, pass_alone}
use Rattle.si_words.proofs.Lists.{nothing_begins}
use Rattle.si_words.proofs.Keeping.{splits, joins}

-- a list of zeros, wherever it is read
zero_at : (n i : ℕ) → slice_index (replicate n 0) i ≡ 0
zero_at zero i = refl
zero_at (suc n) zero = refl
zero_at (suc n) (suc i) = zero_at n i

module _ (shards passes : ℕ) where
  pub begins : IsKept shards passes (opening (replicate (2 + shards) 0) [] (opening_view shards passes))
  begins = record {
    journal = [];
    counts = record {
      wide = length-replicate (2 + shards) 0;
      ticket = zero_at (2 + shards) 0;
      within = omega arith;
      closed = (let z = zero_at (2 + shards) 1 in omega arith);
      watermarks = λ k l. (let z = zero_at (2 + shards) (2 + k) in omega arith);
      bearers = λ k d l. absurd (omega arith);
    };
    fits = λ j u e. one j u e;
    apart = λ part i j v w at_i at_j _ _. lone i v at_i ∙ sym (lone j w at_j);
  }
    where
      first : Fits shards passes [] (replicate (2 + shards) 0) (opening_view shards passes)
      first = record {
        opener = record { of_shards = refl; marks = λ k _ _. zero_at (2 + shards) (2 + k); issued = λ i _. refl };
        book = record { whole = refl; of_passes = refl; closed = λ h. absurd (cc) };
        shard = tt;
        pass = tt;
      }

      one : (j : ℕ) (u : View) → get_elem? (opening_view shards passes ∷ []) j ≡ some u → Fits shards passes [] (replicate (2 + shards) 0) u
      one zero u e = subst (Fits shards passes [] (replicate (2 + shards) 0)) (some-injective (opening_view shards passes) u e) first
      one (suc j) u e = absurd (some-ne-none u (sym e))

      lone : (j : ℕ) (u : View) → get_elem? (opening_view shards passes ∷ []) j ≡ some u → j ≡ 0
      lone zero u e = refl
      lone (suc j) u e = absurd (some-ne-none u (sym e))

  pub joins_book_pass : (id other : ℕ) (b : BookView) (p : PassView) → Joins (IsKept shards passes) id (book_view b) other (pass_view p) (together (book_view b) (pass_view p)) spent
  joins_book_pass id other b p = joins shards passes id other (book_view b) (pass_view p) (book_and_pass b p)
      (λ J words c f g. record { opener = tt; book = f.book; shard = tt; pass = g.pass }) halves
    where
      halves : (part : Part) → Has (book_and_pass b p) part → Has (book_view b) part ⊎ Has (pass_view p) part
      halves Part.the_book h = inl h
      halves (Part.the_shard k) h = inl h
      halves (Part.the_pass i) h = inr h

  pub joins_book_shard : (id other : ℕ) (b : BookView) (s : ShardView) → Joins (IsKept shards passes) id (book_view b) other (shard_view s) (together (book_view b) (shard_view s)) spent
  joins_book_shard id other b s = joins shards passes id other (book_view b) (shard_view s) (book_and_shard b s)
      (λ J words c f g. record { opener = tt; book = f.book; shard = g.shard; pass = tt }) halves
    where
      halves : (part : Part) → Has (book_and_shard b s) part → Has (book_view b) part ⊎ Has (shard_view s) part
      halves Part.the_book h = inl h
      halves (Part.the_shard k) h = inr h
      halves (Part.the_pass i) h = inl h

  pub joins_shard_pass : (id other : ℕ) (s : ShardView) (p : PassView) → Joins (IsKept shards passes) id (shard_view s) other (pass_view p) (together (shard_view s) (pass_view p)) spent
  joins_shard_pass id other s p = joins shards passes id other (shard_view s) (pass_view p) (shard_and_pass s p)
      (λ J words c f g. record { opener = tt; book = tt; shard = f.shard; pass = g.pass }) halves
    where
      halves : (part : Part) → Has (shard_and_pass s p) part → Has (shard_view s) part ⊎ Has (pass_view p) part
      halves Part.the_book h = inl h
      halves (Part.the_shard k) h = inl h
      halves (Part.the_pass i) h = inr h

  pub parts_pass_of_book : (id : ℕ) (b : BookView) (p : PassView) → Splits (IsKept shards passes) id (book_and_pass b p) (without_pass (book_and_pass b p)) (pass_alone (book_and_pass b p))
  parts_pass_of_book id b p = splits shards passes id (book_and_pass b p) (book_view b) (pass_view p)
      (λ J words c f. (record { opener = tt; book = f.book; shard = tt; pass = tt }, record { opener = tt; book = tt; shard = tt; pass = f.pass })) left right never
    where
      left : (part : Part) → Has (book_view b) part → Has (book_and_pass b p) part
      left Part.the_book h = h
      left (Part.the_shard k) h = h
      left (Part.the_pass i) h = ⊎_elim (λ z. absurd z) (λ z. absurd z) h

      right : (part : Part) → Has (pass_view p) part → Has (book_and_pass b p) part
      right Part.the_book h = refl
      right (Part.the_shard k) h = h
      right (Part.the_pass i) h = h

      never : (part : Part) → Has (book_view b) part → Has (pass_view p) part → ⊥
      never Part.the_book h k = cc
      never (Part.the_shard j) h k = ⊎_elim (λ z. z) (λ z. z) h
      never (Part.the_pass i) h k = ⊎_elim (λ z. z) (λ z. z) h

  pub parts_shard_of_book : (id : ℕ) (b : BookView) (s : ShardView) → Splits (IsKept shards passes) id (book_and_shard b s) (without_shard (book_and_shard b s)) (shard_alone (book_and_shard b s))
  parts_shard_of_book id b s = splits shards passes id (book_and_shard b s) (book_view b) (shard_view s)
      (λ J words c f. (record { opener = tt; book = f.book; shard = tt; pass = tt }, record { opener = tt; book = tt; shard = f.shard; pass = tt })) left right never
    where
      left : (part : Part) → Has (book_view b) part → Has (book_and_shard b s) part
      left Part.the_book h = h
      left (Part.the_shard k) h = ⊎_elim (λ z. absurd z) (λ z. absurd z) h
      left (Part.the_pass i) h = h

      right : (part : Part) → Has (shard_view s) part → Has (book_and_shard b s) part
      right Part.the_book h = refl
      right (Part.the_shard k) h = h
      right (Part.the_pass i) h = h

      never : (part : Part) → Has (book_view b) part → Has (shard_view s) part → ⊥
      never Part.the_book h k = cc
      never (Part.the_shard j) h k = ⊎_elim (λ z. z) (λ z. z) h
      never (Part.the_pass i) h k = ⊎_elim (λ z. z) (λ z. z) h

  pub parts_pass_of_shard : (id : ℕ) (s : ShardView) (p : PassView) → Splits (IsKept shards passes) id (shard_and_pass s p) (without_pass (shard_and_pass s p)) (pass_alone (shard_and_pass s p))
  parts_pass_of_shard id s p = splits shards passes id (shard_and_pass s p) (shard_view s) (pass_view p)
      (λ J words c f. (record { opener = tt; book = tt; shard = f.shard; pass = tt }, record { opener = tt; book = tt; shard = tt; pass = f.pass })) left right never
    where
      left : (part : Part) → Has (shard_view s) part → Has (shard_and_pass s p) part
      left Part.the_book h = h
      left (Part.the_shard k) h = h
      left (Part.the_pass i) h = ⊎_elim (λ z. absurd z) (λ z. absurd z) h

      right : (part : Part) → Has (pass_view p) part → Has (shard_and_pass s p) part
      right Part.the_book h = h
      right (Part.the_shard k) h = ⊎_elim (λ z. absurd z) (λ z. absurd z) h
      right (Part.the_pass i) h = h

      never : (part : Part) → Has (shard_view s) part → Has (pass_view p) part → ⊥
      never Part.the_book h k = cc
      never (Part.the_shard j) h k = ⊎_elim (λ z. z) (λ z. z) k
      never (Part.the_pass i) h k = ⊎_elim (λ z. z) (λ z. z) h

  pub gives_shard : (id k i : ℕ) (b : BookView) → k < shards
      → Splits (IsKept shards passes) id (book_and_opener b (opener_from shards k i)) (book_and_opener b (opener_from shards (k + 1) i)) (shard_view (new_shard k))
  gives_shard id k i b below = splits shards passes id (book_and_opener b (opener_from shards k i)) (book_and_opener b (opener_from shards (k + 1) i)) (shard_view (new_shard k))
      (λ J words c f. let o = f.opener in (
        record { opener = record { of_shards = o.of_shards; marks = λ j l h. o.marks j (omega arith) h; issued = o.issued }; book = f.book; shard = tt; pass = tt },
        record {
          opener = tt;
          book = tt;
          shard = record { number = below; due = nothing_begins J; done = o.marks k (omega arith) below; within = omega arith; count = omega arith; closed = λ h. absurd (cc) };
          pass = tt;
        },
      ))
      left right never
    where
      left : (part : Part) → Has (book_and_opener b (opener_from shards (k + 1) i)) part → Has (book_and_opener b (opener_from shards k i)) part
      left Part.the_book h = h
      left (Part.the_shard j) h = ⊎_elim (λ z. inl z) (λ (z : k + 1 ≤ j). inr (omega arith)) h
      left (Part.the_pass j) h = h

      right : (part : Part) → Has (shard_view (new_shard k)) part → Has (book_and_opener b (opener_from shards k i)) part
      right Part.the_book h = refl
      right (Part.the_shard j) h = ⊎_elim (λ (z : k ≡ j). inr (omega arith)) (λ z. absurd z) h
      right (Part.the_pass j) h = ⊎_elim (λ z. absurd z) (λ z. absurd z) h

      never : (part : Part) → Has (book_and_opener b (opener_from shards (k + 1) i)) part → Has (shard_view (new_shard k)) part → ⊥
      never Part.the_book h z = cc
      never (Part.the_shard j) h z = ⊎_elim (λ x. x) (λ (x : k + 1 ≤ j). ⊎_elim (λ (y : k ≡ j). absurd (omega arith)) (λ y. y) z) h
      never (Part.the_pass j) h z = ⊎_elim (λ x. x) (λ x. x) z

  pub gives_pass : (id k i : ℕ) (b : BookView) → i < passes
      → Splits (IsKept shards passes) id (book_and_opener b (opener_from shards k i)) (book_and_opener b (opener_from shards k (i + 1))) (pass_view (new_pass shards i))
  gives_pass id k i b below = splits shards passes id (book_and_opener b (opener_from shards k i)) (book_and_opener b (opener_from shards k (i + 1))) (pass_view (new_pass shards i))
      (λ J words c f. let o = f.opener in (
        record { opener = record { of_shards = o.of_shards; marks = o.marks; issued = λ j l. o.issued j (omega arith) }; book = f.book; shard = tt; pass = tt },
        record {
          opener = tt;
          book = tt;
          shard = tt;
          pass = record {
            number = below;
            seen = nothing_begins J;
            mine = sym (o.issued i (omega arith));
            seen_within = omega arith;
            count = omega arith;
            marks_long = length-replicate shards 0;
            marks = λ j l. (let z = zero_at shards j in omega arith);
            closed = λ h. absurd (cc);
          };
        },
      ))
      left right never
    where
      left : (part : Part) → Has (book_and_opener b (opener_from shards k (i + 1))) part → Has (book_and_opener b (opener_from shards k i)) part
      left Part.the_book h = h
      left (Part.the_shard j) h = h
      left (Part.the_pass j) h = ⊎_elim (λ z. inl z) (λ (z : i + 1 ≤ j). inr (omega arith)) h

      right : (part : Part) → Has (pass_view (new_pass shards i)) part → Has (book_and_opener b (opener_from shards k i)) part
      right Part.the_book h = refl
      right (Part.the_shard j) h = ⊎_elim (λ z. absurd z) (λ z. absurd z) h
      right (Part.the_pass j) h = ⊎_elim (λ (z : i ≡ j). inr (omega arith)) (λ z. absurd z) h

      never : (part : Part) → Has (book_and_opener b (opener_from shards k (i + 1))) part → Has (pass_view (new_pass shards i)) part → ⊥
      never Part.the_book h z = cc
      never (Part.the_shard j) h z = ⊎_elim (λ x. x) (λ x. x) z
      never (Part.the_pass j) h z = ⊎_elim (λ x. x) (λ (x : i + 1 ≤ j). ⊎_elim (λ (y : i ≡ j). absurd (omega arith)) (λ y. y) z) h

  pub drops_opener : (id k i : ℕ) (b : BookView) → Splits (IsKept shards passes) id (book_and_opener b (opener_from shards k i)) (book_view b) (opener_view (opener_from shards k i))
  drops_opener id k i b = splits shards passes id (book_and_opener b (opener_from shards k i)) (book_view b) (opener_view (opener_from shards k i))
      (λ J words c f. (record { opener = tt; book = f.book; shard = tt; pass = tt }, record { opener = f.opener; book = tt; shard = tt; pass = tt })) left right never
    where
      left : (part : Part) → Has (book_view b) part → Has (book_and_opener b (opener_from shards k i)) part
      left Part.the_book h = h
      left (Part.the_shard j) h = ⊎_elim (λ z. absurd z) (λ z. absurd z) h
      left (Part.the_pass j) h = ⊎_elim (λ z. absurd z) (λ z. absurd z) h

      right : (part : Part) → Has (opener_view (opener_from shards k i)) part → Has (book_and_opener b (opener_from shards k i)) part
      right Part.the_book h = refl
      right (Part.the_shard j) h = h
      right (Part.the_pass j) h = h

      never : (part : Part) → Has (book_view b) part → Has (opener_view (opener_from shards k i)) part → ⊥
      never Part.the_book h z = cc
      never (Part.the_shard j) h z = ⊎_elim (λ x. x) (λ x. x) h
      never (Part.the_pass j) h z = ⊎_elim (λ x. x) (λ x. x) h
