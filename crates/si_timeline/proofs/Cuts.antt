-- Versions whose values rise with their commits.
use Rattle.std.proofs.Common.{◌≡◌, ◌∙◌, inl, inr, Bool, true, false, nat_eq, is_lt, nat_cmp, ℕ, zero, suc, ◌+◌, ◌<◌, ◌≤◌, List, [], ◌∷◌, length, get_or, None, sym, ap, arith}
use Rattle.std.specs.List.{Contains}
use Rattle.std.proofs.lemmas.Bool.{cases_lt}
use Rattle.std.proofs.lemmas.Bool.Decides.{nat_tests}
use Rattle.std.proofs.lemmas.List.{get_or_default}
use Rattle.si_lists.proofs.Members.{at_each}
use Rattle.si_model.specs.declared.numbers.Value.{Value}
use Rattle.si_timeline.specs.Timelines.{Dated, IsOfValue, IsRising, ValuesRise}

pub less_from : (a b : ℕ) (r : Bool) → r ≡ is_lt (nat_cmp a b) → r ≡ true → a < b
less_from a b r e t = grind (arith, nat_tests)

pub at_least_from : (a b : ℕ) (r : Bool) → r ≡ is_lt (nat_cmp a b) → r ≡ false → b ≤ a
at_least_from a b r e t = grind (arith, nat_tests)

pub differ_from : (a b : ℕ) (r : Bool) → r ≡ nat_eq a b → r ≡ false → a ≡ b → ⊥
differ_from a b r e t same = grind (arith, nat_tests)

-- the places before low have lesser values, those from high on have none
pub record IsCut (ds : List Dated) (v : Value) (low high : ℕ) : Type 0 where
  pub order : low ≤ high
  pub within : high ≤ length ds
  pub less : (i : ℕ) (d : Dated) → i < low → (get_or ds i d).1.value.0 < v.0
  pub rest : (i : ℕ) (d : Dated) → high ≤ i → i < length ds → v.0 ≤ (get_or ds i d).1.value.0

pub begun : (ds : List Dated) (v : Value) → IsCut ds v 0 (length ds)
begun ds v = record {
  order = omega arith;
  within = omega arith;
  less = λ i d lt. absurd (omega (arith, lt));
  rest = λ i d le lt. absurd (omega (arith, le, lt));
}

there : (ds : List Dated) (i : ℕ) (d : Dated) → i < length ds → Contains ds (get_or ds i d)
there ds i d lt = (i, lt, get_or_default ds i (get_or ds i d) d lt)

stamps_rise : (ds : List Dated) (i j : ℕ) (d : Dated) → IsRising ds → i < j → j < length ds → (get_or ds i d).0.0 < (get_or ds j d).0.0
stamps_rise [] i j d rises lt within = absurd (omega (arith, within))
stamps_rise (e ∷ es) zero zero d rises lt within = absurd (omega (arith, lt))
stamps_rise (e ∷ es) zero (suc j) d rises lt within = at_each (λ q. e.0.0 < q.0.0) es (get_or es j d) rises.0 (there es j d (omega (arith, within)))
stamps_rise (e ∷ es) (suc i) zero d rises lt within = absurd (omega (arith, lt))
stamps_rise (e ∷ es) (suc i) (suc j) d rises lt within = stamps_rise es i j d rises.1 (omega (arith, lt)) (omega (arith, within))

module _ (ds : List Dated) (rises : IsRising ds) (rise : ValuesRise ds) where
  values_at : (i j : ℕ) (d : Dated) → i < j → j < length ds → (get_or ds i d).1.value.0 < (get_or ds j d).1.value.0
  values_at i j d lt within = rise (get_or ds i d) (get_or ds j d) (there ds i d (omega (arith, lt, within))) (there ds j d within) (stamps_rise ds i j d rises lt within)

  -- the one in the middle has a lesser value
  pub cut_above : (v : Value) (low high at : ℕ) (e : Dated) → IsCut ds v low high → at < high → (get_or ds at e).1.value.0 < v.0 → IsCut ds v (at + 1) high
  cut_above v low high at e cut inside lt =
      let within = cut.within in
      record {
        order = omega (arith, inside);
        within = cut.within;
        less = less;
        rest = cut.rest;
      }
    where
      here : (d : Dated) → get_or ds at d ≡ get_or ds at e
      here d = get_or_default ds at d e (let within = cut.within in omega (arith, inside, within))

      less : (i : ℕ) (d : Dated) → i < at + 1 → (get_or ds i d).1.value.0 < v.0
      less i d before = elim (cases_lt i at) [
        | inl earlier ↦
            let within = cut.within in
            let rising = values_at i at d earlier (omega (arith, inside, within)) in
            let same = ap (λ (x : Dated). x.1.value.0) (here d) in
            omega (arith, rising, same, lt)
        | inr at_least ↦
            let same : i ≡ at = omega (arith, before, at_least) in
            let value = ap (λ n. (get_or ds n d).1.value.0) same ∙ ap (λ (x : Dated). x.1.value.0) (here d) in
            omega (arith, value, lt)
      ]

  -- it has none
  pub cut_below : (v : Value) (low high at : ℕ) (e : Dated) → IsCut ds v low high → low ≤ at → at < high → v.0 ≤ (get_or ds at e).1.value.0 → IsCut ds v low at
  cut_below v low high at e cut order inside le = record {
    order = order;
    within = (let within = cut.within in omega (arith, inside, within));
    less = cut.less;
    rest = rest;
  }
    where
      here : (d : Dated) → get_or ds at d ≡ get_or ds at e
      here d = get_or_default ds at d e (let within = cut.within in omega (arith, inside, within))

      rest : (i : ℕ) (d : Dated) → at ≤ i → i < length ds → v.0 ≤ (get_or ds i d).1.value.0
      rest i d from within = elim (cases_lt at i) [
        | inl later ↦
            let rising = values_at at i d later within in
            let same = ap (λ (x : Dated). x.1.value.0) (here d) in
            omega (arith, rising, same, le)
        | inr no_later ↦
            let same : i ≡ at = omega (arith, from, no_later) in
            let value = ap (λ n. (get_or ds n d).1.value.0) same ∙ ap (λ (x : Dated). x.1.value.0) (here d) in
            omega (arith, value, le)
      ]

  -- where the first one that isn't less has another value none has it
  pub other_there : (v : Value) (place : ℕ) (e : Dated) → place < length ds → ((get_or ds place e).1.value.0 ≡ v.0 → ⊥) → IsCut ds v place place → IsOfValue ds v None
  other_there v place e inside other cut d c same = elim (cases_lt c.0 place) [
    | inl before ↦
        let lt = cut.less c.0 d before in
        let value = ap (λ (x : Dated). x.1.value.0) c.2 in
        let number = ap (λ (x : Value). x.0) same in
        omega (arith, lt, value, number)
    | inr from ↦ elim (cases_lt place c.0) [
      | inl later ↦
          let rising = values_at place c.0 d later c.1 in
          let first = cut.rest place d (omega arith) inside in
          let value = ap (λ (x : Dated). x.1.value.0) c.2 in
          let number = ap (λ (x : Value). x.0) same in
          omega (arith, rising, first, value, number)
      | inr no_later ↦
          let at : c.0 ≡ place = omega (arith, from, no_later) in
          let here : get_or ds place e ≡ d = get_or_default ds place e d inside ∙ ap (λ n. get_or ds n d) (sym at) ∙ c.2 in
          other (ap (λ (x : Dated). x.1.value.0) here ∙ ap (λ (x : Value). x.0) same)
    ]
  ]
