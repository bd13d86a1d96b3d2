-- The lines among what was taken, by their sources.
use Rattle.std.proofs.Common.{◌≡◌, ◌≢◌, ⊎_elim, ℕ, zero, suc, ◌<◌, ◌≤◌, ◌==◌, Bool, true, false, ◌||◌, cond, List, [], ◌∷◌, ◌++◌, Option, Some, None, refl, sym, ap, ◌∙◌, subst, arith, append-nil, eq-eqb, ne_eqb}
use Rattle.std.specs.List.{Contains, cons_option}
use Rattle.std.proofs.lemmas.List.Elements.{filter-append, Contains-append_cases}
use Rattle.std.proofs.lemmas.Option.{none-some, same_Some}
use Rattle.si_lists.proofs.Members.{Contains-from_map, Contains-from_filter_map, Contains-nil, here, there}
use Rattle.si_intake.proofs.Sources.{same, or_false}
use Rattle.si_intake.specs.declared.items.Item.{Item as Told}
use Rattle.si_intake.specs.declared.items.What.{What}
use Rattle.si_intake.specs.declared.items.What.TheVariants.{Line, ReadFault, NoMemory, End}
use Rattle.si_intake.specs.Items.{of_source}
use Rattle.si_text.specs.Inputs.{Item}
use Rattle.si_run.specs.Outputs.{SourcedItem, from_source, sourced}
use Rattle.si_run.specs.Interleavings.{comes_from, items_from}
use Rattle.si_run.specs.Readings.{told}
use Rattle.si_run.specs.Takings.{has_fault, is_fault, line_of, line_told, lines_among}

-- one more was taken
one_more : (s source : ℕ) (what : What) (taken : List Told) → items_from s (lines_among taken) ≡ lines_among (of_source s taken)
    → items_from s (lines_among (told source what ∷ taken)) ≡ lines_among (of_source s (told source what ∷ taken))
one_more s source what taken before = by what
  where
    rest : List SourcedItem
    rest = lines_among taken

    own : List Told
    own = of_source s taken

    none : (other : What) → line_told source other ≡ None → items_from s rest ≡ lines_among (cond (source == s) (told source other ∷ own) own)
    none other is = elim (source == s) as (λ b. items_from s rest ≡ lines_among (cond b (told source other ∷ own) own)) [
      | true ↦ before ∙ ap (λ (o : Option SourcedItem). cons_option o (lines_among own)) (sym is)
      | false ↦ before
    ]

    one : (item : Item) → items_from s (sourced source item ∷ rest) ≡ lines_among (cond (source == s) (told source (Line item) ∷ own) own)
    one item =
        let line : SourcedItem = sourced source item in
        elim (source == s) as (λ b. cond b (line ∷ items_from s rest) (items_from s rest) ≡ lines_among (cond b (told source (Line item) ∷ own) own)) [
          | true ↦ ap (λ (l : List SourcedItem). line ∷ l) before
          | false ↦ before
        ]

    by : (other : What) → items_from s (cons_option (line_told source other) rest) ≡ lines_among (cond (source == s) (told source other ∷ own) own)
    by (Line item) = one item
    by ReadFault = none ReadFault refl
    by NoMemory = none NoMemory refl
    by End = none End refl

-- the lines that come from a source are those among what was taken of it
pub taken_lines : (s : ℕ) (taken : List Told) → items_from s (lines_among taken) ≡ lines_among (of_source s taken)
taken_lines s [] = refl
taken_lines s (item ∷ taken) = one_more s item.source item.what taken (taken_lines s taken)

-- what was taken of a source has no fault where nothing that was taken has one
pub own_faults : (s : ℕ) (taken : List Told) → has_fault taken ≡ false → has_fault (of_source s taken) ≡ false
own_faults s [] e = refl
own_faults s (item ∷ taken) e =
    let two = or_false (is_fault item.what) (has_fault taken) e in
    let before = own_faults s taken two.1 in
    elim (item.source == s) as (λ b. has_fault (cond b (item ∷ of_source s taken) (of_source s taken)) ≡ false) [
      | true ↦ ap (λ (b : Bool). b || has_fault (of_source s taken)) two.0 ∙ before
      | false ↦ before
    ]

-- each line is of the number of the source that told it
pub lines_within : (n : ℕ) (taken : List Told) → ((t : Told) → Contains taken t → t.source < n) → (line : SourcedItem) → Contains (lines_among taken) line → line.0 < n
lines_within n taken within line c =
    let m = Contains-from_filter_map line_of taken line c in
    subst (λ (k : ℕ). k < n) (by m.0.what m.0.source m.2) (within m.0 m.1)
  where
    by : (what : What) (source : ℕ) → line_told source what ≡ Some line → source ≡ line.0
    by (Line item) source e = ap (λ (i : SourcedItem). i.0) (same_Some (sourced source item) line e)
    by ReadFault source e = absurd (none-some line e)
    by NoMemory source e = absurd (none-some line e)
    by End source e = absurd (none-some line e)

-- ---- the items of sources, one behind the other

chosen : (s : ℕ) (line : SourcedItem) (items : List SourcedItem) → line.0 ≡ s → items_from s (line ∷ items) ≡ line ∷ items_from s items
chosen s line items e = ap (λ (b : Bool). cond b (line ∷ items_from s items) (items_from s items)) (eq-eqb line.0 s e)

passed : (s : ℕ) (line : SourcedItem) (items : List SourcedItem) → line.0 ≢ s → items_from s (line ∷ items) ≡ items_from s items
passed s line items n = ap (λ (b : Bool). cond b (line ∷ items_from s items) (items_from s items)) (ne_eqb line.0 s n)

pub own_all : (s : ℕ) (items : List Item) → items_from s (from_source s items) ≡ from_source s items
own_all s [] = refl
own_all s (item ∷ items) = chosen s (sourced s item) (from_source s items) refl ∙ ap (λ (l : List SourcedItem). sourced s item ∷ l) (own_all s items)

own_none : (s t : ℕ) (items : List Item) → t ≢ s → items_from s (from_source t items) ≡ []
own_none s t [] n = refl
own_none s t (item ∷ items) n = passed s (sourced t item) (from_source t items) n ∙ own_none s t items n

none_from : (s n : ℕ) (items : List SourcedItem) → ((line : SourcedItem) → Contains items line → line.0 < n) → n ≤ s → items_from s items ≡ []
none_from s n [] within below = refl
none_from s n (line ∷ items) within below =
    let first = within line (here line items) in
    passed s line items (λ e. (omega arith)) ∙ none_from s n items (λ l c. within l (there line items l c)) below

source_is : (s : ℕ) (items : List Item) (line : SourcedItem) → Contains (from_source s items) line → line.0 ≡ s
source_is s items line c = let m = Contains-from_map (sourced s) items line c in ap (λ (i : SourcedItem). i.0) (sym m.2)

-- the items of the first n sources that P allows, and no others
pub record AreRests (n : ℕ) (P : ℕ → List Item → Type 0) (items : List SourcedItem) : Type 0 where
  pub within : (line : SourcedItem) → Contains items line → line.0 < n
  pub own : (i : ℕ) → i < n → (rest : List Item) × P i rest × (items_from i items ≡ from_source i rest)

pub rests_of : (n : ℕ) (P : ℕ → List Item → Type 0) → ((i : ℕ) → i < n → (rest : List Item) × P i rest) → (items : List SourcedItem) × AreRests n P items
rests_of zero P f = ([], record { within = λ line c. absurd (Contains-nil line c); own = λ i below. absurd (omega arith) })
rests_of (suc n) P f =
    let before = rests_of n P (λ i below. f i (omega arith)) in
    let mine = f n (omega arith) in
    let items = before.0 ++ from_source n mine.0 in (
      items,
      record {
        within = λ line c. ⊎_elim
            (λ l. let w = before.1.within line l in omega arith)
            (λ r. let e = source_is n mine.0 line r in omega arith)
            (Contains-append_cases before.0 (from_source n mine.0) line c);
        own = λ i below. ⊎_elim
            (λ (is : i ≡ n). (
              mine.0,
              subst (λ (k : ℕ). P k mine.0) (sym is) mine.1,
              subst (λ (k : ℕ). items_from k items ≡ from_source k mine.0) (sym is) (
                  filter-append (comes_from n) before.0 (from_source n mine.0)
                  ∙ ap (λ (l : List SourcedItem). l ++ items_from n (from_source n mine.0)) (none_from n n before.0 before.1.within (omega arith))
                  ∙ own_all n mine.0
                  ),
            ))
            (λ (other : i ≢ n). let b = before.1.own i (omega arith) in (
              b.0,
              b.1,
              filter-append (comes_from i) before.0 (from_source n mine.0)
                  ∙ ap (λ (l : List SourcedItem). items_from i before.0 ++ l) (own_none i n mine.0 (λ e. other (sym e)))
                  ∙ append-nil (items_from i before.0) ∙ b.2,
            ))
            (same i n);
      },
    )
