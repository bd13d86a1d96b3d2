-- What a step owes so that it keeps the rule.
use Rattle.std.proofs.Common.{◌≡◌, ◌≢◌, ◌⊎◌, ℕ, List, length, get_or, set, refl, sym, ◌∙◌, subst, ⊎_elim}
use Rattle.std.specs.Prelude.{slice_index}
use mathlib.Core.Option.{Option, some, none}
use lib.ListN.{get_elem?}
use lib.Seq.{set-get_or}
use Rattle.atomic_table.specs.Table.{State, keeps, step, Allows, Splits, Joins}
use Rattle.atomic_table.proofs.Lists.{at_set, set_else}
use Rattle.si_words.specs.declared.views.Entry.{Entry}
use Rattle.si_words.specs.declared.views.View.{View}
use Rattle.si_words.specs.Rule.{Part, Has, AreCounts, Fits, IsKept}
use Rattle.si_words.specs.Views.{spent}
use Rattle.si_words.specs.Steps.{Becomes}
use Rattle.si_words.proofs.Apart.{apart_set, apart_split, apart_join, at_end}

module _ (shards passes : ℕ) where
  abbrev Table : Type 0
  Table = State (Unit {0}) View

  -- the views fit where the new one does, and each other one
  fit_set : (J : List Entry) (words : List ℕ) (views : List View) (id : ℕ) (w : View) → Fits shards passes J words w
      → ((j : ℕ) (u : View) → j ≢ id → get_elem? views j ≡ some u → Fits shards passes J words u)
      → (j : ℕ) (u : View) → get_elem? (set views id w) j ≡ some u → Fits shards passes J words u
  fit_set J words views id w mine others j u e = ⊎_elim
      (λ (t : (j ≡ id) × (w ≡ u)). subst (λ (x : View). Fits shards passes J words x) t.1 mine)
      (λ (t : (j ≢ id) × (get_elem? views j ≡ some u)). others j u t.0 t.1)
      (at_set views id j w u e)

  -- a step of the seat id, after which the journal is J and its view w
  pub kept : (s : Table) (r : IsKept shards passes s) (id : ℕ) (v w : View) (J : List Entry) (words : List ℕ) (homes : List (Option (Unit {0})))
      → get_elem? s.views id ≡ some v
      → AreCounts shards passes J words
      → Fits shards passes J words w
      → ((part : Part) → Has w part → Has v part)
      → ((j : ℕ) (u : View) → j ≢ id → get_elem? s.views j ≡ some u → Fits shards passes J words u)
      → IsKept shards passes record { words = words; homes = homes; views = set s.views id w }
  kept s r id v w J words homes at counts mine less others = record {
    journal = J;
    counts = counts;
    fits = fit_set J words s.views id w mine others;
    apart = apart_set s.views id v w at less r.apart;
  }

  -- a load, at which the view becomes one that fits too
  pub loads : (slots id i : ℕ) (v : View) (held : List (ℕ × Unit {0})) (after : ℕ → View)
      → ((J : List Entry) (words : List ℕ) → AreCounts shards passes J words → Fits shards passes J words v → Fits shards passes J words (after (slice_index words i)))
      → ((n : ℕ) (part : Part) → Has (after n) part → Has v part)
      → Allows (IsKept shards passes) slots id (v, held) i (λ n. n) (λ n. Becomes (after n) (step slots i 0 0 none) (v, held) n)
  loads slots id i v held after fit less s r _ at _ =
      let n : ℕ = get_or s.words i 0 in
      let mine = r.fits id v at in (
        after n,
        keeps,
        tt,
        subst (λ (words : List ℕ). IsKept shards passes record { words = words; homes = s.homes; views = set s.views id (after n) }) (sym (set-get_or s.words i 0))
            (kept s r id v (after n) r.journal s.words s.homes at r.counts (fit r.journal s.words r.counts mine) (less n) (λ j u _ e. r.fits j u e)),
        (refl, record { shards = shards; passes = passes; journal = r.journal; words = s.words; counts = r.counts; fits = mine; found = refl }),
      )

  pub splits : (id : ℕ) (v left right : View)
      → ((J : List Entry) (words : List ℕ) → AreCounts shards passes J words → Fits shards passes J words v → Fits shards passes J words left × Fits shards passes J words right)
      → ((part : Part) → Has left part → Has v part) → ((part : Part) → Has right part → Has v part) → ((part : Part) → Has left part → Has right part → ⊥)
      → Splits (IsKept shards passes) id v left right
  splits id v left right fit lefts rights never s r at =
      let both = fit r.journal s.words r.counts (r.fits id v at) in record {
        journal = r.journal;
        counts = r.counts;
        fits = λ j u e. ⊎_elim
            (λ old. fit_set r.journal s.words s.views id left both.0 (λ k x _ h. r.fits k x h) j u old)
            (λ (t : (j ≡ length (set s.views id left)) × (right ≡ u)). subst (λ (x : View). Fits shards passes r.journal s.words x) t.1 both.1)
            (at_end (set s.views id left) right u j e);
        apart = apart_split s.views id v left right at lefts rights never r.apart;
      }

  pub joins : (id other : ℕ) (v w both : View)
      → ((J : List Entry) (words : List ℕ) → AreCounts shards passes J words → Fits shards passes J words v → Fits shards passes J words w → Fits shards passes J words both)
      → ((part : Part) → Has both part → Has v part ⊎ Has w part)
      → Joins (IsKept shards passes) id v other w both spent
  joins id other v w both fit halves s r at away there =
      let stood : get_elem? s.views other ≡ some w = sym (set_else s.views id other both away) ∙ there in
      let joined = fit r.journal s.words r.counts (r.fits id v at) (r.fits other w stood) in record {
        journal = r.journal;
        counts = r.counts;
        fits = fit_set r.journal s.words (set s.views id both) other spent (record { opener = tt; book = tt; shard = tt; pass = tt })
            (λ j u _ e. fit_set r.journal s.words s.views id both joined (λ k x _ h. r.fits k x h) j u e);
        apart = apart_join s.views id other v w both at away stood halves r.apart;
      }
