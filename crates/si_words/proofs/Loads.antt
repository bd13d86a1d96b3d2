-- Each kind of step that loads a word keeps the rule.
use Rattle.std.proofs.Common.{◌≡◌, ◌⊎◌, ℕ, ◌+◌, ◌-◌, ◌<◌, ◌≤◌, eqb, List, length, get_or, set, refl, ap, ◌∙◌, subst, arith, length-set, get_or-set_same, get_or-set_other, eqb-true}
use Rattle.std.specs.Prelude.{slice_index}
use mathlib.Core.Logic.{dite}
use mathlib.Core.Option.{none}
use native.Mathlib.Decide.{ℕ_discrete}
use Rattle.atomic_table.specs.Table.{step, Allows}
use Rattle.si_words.specs.declared.views.Entry.{Entry}
use Rattle.si_words.specs.declared.views.BookView.{BookView}
use Rattle.si_words.specs.declared.views.ShardView.{ShardView}
use Rattle.si_words.specs.declared.views.PassView.{PassView}
use Rattle.si_words.specs.Entries.{IsBeginning, longer}
use Rattle.si_words.specs.Views.{shard_view, pass_view, book_and_pass, book_and_shard, shard_and_pass, with_due, with_seen, with_mark, with_learned, with_count, pass_closed, shard_closed, shard_counted}
use Rattle.si_words.specs.Rule.{Part, Has, AreCounts, FitsBook, FitsShard, FitsPass, IsKept, watermark, ticket}
use Rattle.si_words.specs.Steps.{Becomes, pulled, sighted, looked, learned, counted, asked_closed}
use Rattle.si_words.proofs.Lists.{begins_whole, length-beginning, longer_is}
use Rattle.si_words.proofs.Keeping.{loads}

module _ (shards passes : ℕ) where
  -- the marks of a pass, after one of them was loaded
  marks_set : (J : List Entry) (words : List ℕ) (p : PassView) → FitsPass shards passes J words p → (k n : ℕ) → watermark words k ≡ n
      → (j : ℕ) → j < shards → slice_index (set p.marks k n) j ≤ watermark words j
  marks_set J words p f k n is j l = dite (ℕ_discrete j k)
      (λ same. let long = f.marks_long in
      let there : get_or (set p.marks k n) j 0 ≡ n = ap (λ (i : ℕ). get_or (set p.marks k n) i 0) same ∙ get_or-set_same p.marks k n 0 (omega arith) in
      let word : watermark words j ≡ n = ap (watermark words) same ∙ is in
      omega arith)
      (λ other. let there : get_or (set p.marks k n) j 0 ≡ get_or p.marks j 0 = get_or-set_other p.marks k j n 0 other in
      let was = f.marks j l in
      omega arith)

  fit_due : (J : List Entry) (words : List ℕ) (b : BookView) (s : ShardView) → FitsBook shards passes J words b → FitsShard shards passes J words s → FitsShard shards passes J words (with_due b.journal s)
  fit_due J words b s f g = record {
    number = g.number;
    due = begins_whole b.journal J f.whole;
    done = g.done;
    within = (let a = length-beginning s.due J g.due in let w = g.within in let e : length b.journal ≡ length J = ap length f.whole in omega arith);
    count = g.count;
    closed = g.closed;
  }

  fit_seen : (J : List Entry) (words : List ℕ) (b : BookView) (p : PassView) → AreCounts shards passes J words → FitsBook shards passes J words b → FitsPass shards passes J words p
      → FitsPass shards passes J words (with_seen b.journal p)
  fit_seen J words b p c f g = record {
    number = g.number;
    seen = begins_whole b.journal J f.whole;
    mine = g.mine;
    seen_within = omega arith;
    count = (let t = c.ticket in let e : length b.journal ≡ length J = ap length f.whole in omega arith);
    marks_long = g.marks_long;
    marks = g.marks;
    closed = g.closed;
  }

  fit_mark : (J : List Entry) (words : List ℕ) (p : PassView) (k n : ℕ) → watermark words k ≡ n → FitsPass shards passes J words p → FitsPass shards passes J words (with_mark k n p)
  fit_mark J words p k n is g = record {
    number = g.number;
    seen = g.seen;
    mine = g.mine;
    seen_within = g.seen_within;
    count = g.count;
    marks_long = length-set p.marks k n ∙ g.marks_long;
    marks = marks_set J words p g k n is;
    closed = g.closed;
  }

  fit_learned : (J : List Entry) (words : List ℕ) (s : ShardView) (p : PassView) (n : ℕ) → AreCounts shards passes J words → watermark words s.number ≡ n
      → FitsShard shards passes J words s → FitsPass shards passes J words p → FitsPass shards passes J words (with_learned s n p)
  fit_learned J words s p n c is f g =
      let list : List Entry = longer p.seen s.due in
      let begins : IsBeginning list J = longer_is (λ l. IsBeginning l J) p.seen s.due g.seen f.due in record {
        number = g.number;
        seen = begins;
        mine = g.mine;
        seen_within = omega arith;
        count = (let t = c.ticket in let a = length-beginning list J begins in let b = g.count in omega arith);
        marks_long = length-set p.marks s.number n ∙ g.marks_long;
        marks = marks_set J words p g s.number n is;
        closed = g.closed;
      }

  fit_count : (J : List Entry) (words : List ℕ) (p : PassView) (n : ℕ) → ticket words ≡ n → FitsPass shards passes J words p → FitsPass shards passes J words (with_count n p)
  fit_count J words p n is g = record {
    number = g.number;
    seen = g.seen;
    mine = g.mine;
    seen_within = (let a = g.seen_within in let b = g.count in omega arith);
    count = omega arith;
    marks_long = g.marks_long;
    marks = g.marks;
    closed = g.closed;
  }

  pub pulls : (slots id : ℕ) (b : BookView) (s : ShardView) (held : List (ℕ × Unit {0}))
      → Allows (IsKept shards passes) slots id (book_and_shard b s, held) 0 (λ n. n) (λ n. Becomes (pulled (book_and_shard b s)) (step slots 0 0 0 none) (book_and_shard b s, held) n)
  pulls slots id b s held = loads shards passes slots id 0 (book_and_shard b s) held (λ _. pulled (book_and_shard b s))
      (λ J words c f. record { opener = tt; book = f.book; shard = fit_due J words b s f.book f.shard; pass = tt })
      (λ _ part. same part)
    where
      same : (part : Part) → Has (book_and_shard b (with_due b.journal s)) part → Has (book_and_shard b s) part
      same Part.the_book h = h
      same (Part.the_shard k) h = h
      same (Part.the_pass i) h = h

  pub sees : (slots id : ℕ) (b : BookView) (p : PassView) (held : List (ℕ × Unit {0}))
      → Allows (IsKept shards passes) slots id (book_and_pass b p, held) 0 (λ n. n) (λ n. Becomes (sighted (book_and_pass b p)) (step slots 0 0 0 none) (book_and_pass b p, held) n)
  sees slots id b p held = loads shards passes slots id 0 (book_and_pass b p) held (λ _. sighted (book_and_pass b p))
      (λ J words c f. record { opener = tt; book = f.book; shard = tt; pass = fit_seen J words b p c f.book f.pass })
      (λ _ part. same part)
    where
      same : (part : Part) → Has (book_and_pass b (with_seen b.journal p)) part → Has (book_and_pass b p) part
      same Part.the_book h = h
      same (Part.the_shard k) h = h
      same (Part.the_pass i) h = h

  -- a pass stays the same one
  same_pass : (p q : PassView) → q.number ≡ p.number → (part : Part) → Has (pass_view q) part → Has (pass_view p) part
  same_pass p q e Part.the_book h = h
  same_pass p q e (Part.the_shard k) h = h
  same_pass p q e (Part.the_pass i) h = subst (λ (n : ℕ). (n ≡ i) ⊎ ⊥) e h

  pub looks : (slots id k : ℕ) (p : PassView) (held : List (ℕ × Unit {0})) → k < shards
      → Allows (IsKept shards passes) slots id (pass_view p, held) (2 + k) (λ n. n) (λ n. Becomes (looked (2 + k - 2) n (pass_view p)) (step slots (2 + k) 0 0 none) (pass_view p, held) n)
  looks slots id k p held below = loads shards passes slots id (2 + k) (pass_view p) held (λ n. looked (2 + k - 2) n (pass_view p))
      (λ J words c f. record { opener = tt; book = tt; shard = tt; pass = fit_mark J words p (2 + k - 2) (slice_index words (2 + k)) (let back : 2 + k - 2 ≡ k = omega arith in ap (watermark words) back) f.pass })
      (λ n part. same_pass p (with_mark (2 + k - 2) n p) refl part)

  pub learns : (slots id : ℕ) (s : ShardView) (p : PassView) (held : List (ℕ × Unit {0}))
      → Allows (IsKept shards passes) slots id (shard_and_pass s p, held) (2 + s.number) (λ n. n) (λ n. Becomes (learned n (shard_and_pass s p)) (step slots (2 + s.number) 0 0 none) (shard_and_pass s p, held) n)
  learns slots id s p held = loads shards passes slots id (2 + s.number) (shard_and_pass s p) held (λ n. learned n (shard_and_pass s p))
      (λ J words c f. record { opener = tt; book = tt; shard = f.shard; pass = fit_learned J words s p (slice_index words (2 + s.number)) c refl f.shard f.pass })
      (λ n part. same n part)
    where
      same : (n : ℕ) (part : Part) → Has (shard_and_pass s (with_learned s n p)) part → Has (shard_and_pass s p) part
      same n Part.the_book h = h
      same n (Part.the_shard k) h = h
      same n (Part.the_pass i) h = h

  pub counts : (slots id : ℕ) (p : PassView) (held : List (ℕ × Unit {0}))
      → Allows (IsKept shards passes) slots id (pass_view p, held) 0 (λ n. n) (λ n. Becomes (counted n (pass_view p)) (step slots 0 0 0 none) (pass_view p, held) n)
  counts slots id p held = loads shards passes slots id 0 (pass_view p) held (λ n. counted n (pass_view p))
      (λ J words c f. record { opener = tt; book = tt; shard = tt; pass = fit_count J words p (slice_index words 0) refl f.pass })
      (λ n part. same_pass p (with_count n p) refl part)

  pub counts_at : (slots id : ℕ) (s : ShardView) (held : List (ℕ × Unit {0}))
      → Allows (IsKept shards passes) slots id (shard_view s, held) 0 (λ n. n) (λ n. Becomes (counted n (shard_view s)) (step slots 0 0 0 none) (shard_view s, held) n)
  counts_at slots id s held = loads shards passes slots id 0 (shard_view s) held (λ n. counted n (shard_view s))
      (λ J words c f. let g = f.shard in record {
        opener = tt;
        book = tt;
        shard = record { number = g.number; due = g.due; done = g.done; within = g.within; count = omega arith; closed = g.closed };
        pass = tt;
      })
      (λ n part. same n part)
    where
      same : (n : ℕ) (part : Part) → Has (shard_view (shard_counted n s)) part → Has (shard_view s) part
      same n Part.the_book h = h
      same n (Part.the_shard k) h = h
      same n (Part.the_pass i) h = h

  pub asks : (slots id : ℕ) (p : PassView) (held : List (ℕ × Unit {0}))
      → Allows (IsKept shards passes) slots id (pass_view p, held) 1 (λ n. n) (λ n. Becomes (asked_closed n (pass_view p)) (step slots 1 0 0 none) (pass_view p, held) n)
  asks slots id p held = loads shards passes slots id 1 (pass_view p) held (λ n. asked_closed n (pass_view p))
      (λ J words c f. let g = f.pass in record {
        opener = tt;
        book = tt;
        shard = tt;
        pass = record {
          number = g.number;
          seen = g.seen;
          mine = g.mine;
          seen_within = g.seen_within;
          count = g.count;
          marks_long = g.marks_long;
          marks = g.marks;
          closed = λ h. eqb-true (get_or words 1 0) 1 h;
        };
      })
      (λ n part. same_pass p (pass_closed (eqb n 1) p) refl part)

  pub asks_at : (slots id : ℕ) (s : ShardView) (held : List (ℕ × Unit {0}))
      → Allows (IsKept shards passes) slots id (shard_view s, held) 1 (λ n. n) (λ n. Becomes (asked_closed n (shard_view s)) (step slots 1 0 0 none) (shard_view s, held) n)
  asks_at slots id s held = loads shards passes slots id 1 (shard_view s) held (λ n. asked_closed n (shard_view s))
      (λ J words c f. let g = f.shard in record {
        opener = tt;
        book = tt;
        shard = record { number = g.number; due = g.due; done = g.done; within = g.within; count = g.count; closed = λ h. eqb-true (get_or words 1 0) 1 h };
        pass = tt;
      })
      (λ n part. same n part)
    where
      same : (n : ℕ) (part : Part) → Has (shard_view (shard_closed (eqb n 1) s)) part → Has (shard_view s) part
      same n Part.the_book h = h
      same n (Part.the_shard k) h = h
      same n (Part.the_pass i) h = h
