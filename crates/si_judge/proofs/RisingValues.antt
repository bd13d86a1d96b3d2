-- Versions whose values rise with their commits, when one comes or goes.
use Rattle.std.proofs.Common.{◌≡◌, ◌∙◌, ◌⊎◌, inl, inr, suc, ◌-◌, ◌<◌, ◌≤◌, List, [], ◌∷◌, length, slice_get, Some, None, sym, ap, subst, arith}
use Rattle.std.specs.List.{Contains}
use Rattle.std.proofs.lemmas.Bool.{cases_lt}
use Rattle.si_lists.proofs.Members.{Contains-cons_cases, Contains-nil, get_contains, here, at_each, same_some}
use Rattle.si_model.specs.declared.numbers.Stamp.{Stamp}
use Rattle.si_model.specs.declared.numbers.Value.{Value}
use Rattle.si_timeline.specs.Timelines.{Adds, Dated, IsNearestAfter, IsNearestBefore, IsRising, ValuesRise}
use Rattle.si_timeline.specs.declared.versions.Version.{Version}
use Rattle.si_timeline.proofs.Entries.{alone}
use Rattle.si_judge.specs.Commits.{FitsRising, HaveValuesOnce}
use Rattle.si_judge.proofs.PartLists.{added_are}

module _ (ds : List Dated) (rises : IsRising ds) where
  -- two versions of one commit are one
  same_commit : (d e : Dated) → Contains ds d → Contains ds e → d.0.0 ≡ e.0.0 → d ≡ e
  same_commit d e in_d in_e same =
      let stamp : d.0 ≡ e.0 = ap (λ n. record { 0 = n }) same in
      let version : d.1 ≡ e.1 = alone e.0 e.1 d.1 ds rises in_e (subst (λ s. Contains ds (s, d.1)) stamp in_d) in
      ap (λ s. (s, d.1)) stamp ∙ ap (λ w. (e.0, w)) version

  module _ (rise : ValuesRise ds) where
    up_to : (d e : Dated) → Contains ds d → Contains ds e → d.0.0 ≤ e.0.0 → d.1.value.0 ≤ e.1.value.0
    up_to d e in_d in_e le = elim (cases_lt d.0.0 e.0.0) [
      | inl lt ↦ (let value = rise d e in_d in_e lt in omega (arith, value))
      | inr ge ↦ (let value = ap (λ (x : Dated). x.1.value.0) (same_commit d e in_d in_e (omega (arith, le, ge))) in omega (arith, value))
    ]

    -- no value stands twice
    pub once : HaveValuesOnce ds
    once d e in_d in_e same =
        let value = ap (λ (x : Value). x.0) same in
        elim (cases_lt d.0.0 e.0.0) [
          | inl lt ↦ (let low = rise d e in_d in_e lt in absurd (omega (arith, low, value)))
          | inr ge ↦ elim (cases_lt e.0.0 d.0.0) [
            | inl gt ↦ (let high = rise e d in_e in_d gt in absurd (omega (arith, high, value)))
            | inr le ↦ same_commit d e in_d in_e (omega (arith, ge, le))
          ]
        ]

    module _ (c : Stamp) (v : Value) where
      pub above_former : (f : Dated) → IsNearestBefore ds c (Some f) → f.1.value.0 < v.0 → (d : Dated) → Contains ds d → d.0.0 < c.0 → d.1.value.0 < v.0
      above_former f near less d in_d before = (let most = up_to d f in_d near.0 (near.2 d in_d before) in omega (arith, most, less))

      pub below_next : (n : Dated) → IsNearestAfter ds c (Some n) → v.0 < n.1.value.0 → (d : Dated) → Contains ds d → c.0 < d.0.0 → v.0 < d.1.value.0
      below_next n near less d in_d behind = (let least = up_to n d near.0 in_d (near.2 d in_d behind) in omega (arith, least, less))

pub above_none : (ds : List Dated) (c : Stamp) (v : Value) → IsNearestBefore ds c None → (d : Dated) → Contains ds d → d.0.0 < c.0 → d.1.value.0 < v.0
above_none ds c v near d in_d before = (let from = near d in_d in absurd (omega (arith, from, before)))

pub below_none : (ds : List Dated) (c : Stamp) (v : Value) → IsNearestAfter ds c None → (d : Dated) → Contains ds d → c.0 < d.0.0 → v.0 < d.1.value.0
below_none ds c v near d in_d behind = (let from = near d in_d in absurd (omega (arith, from, behind)))

-- one comes
pub rise_with : (few more : List Dated) (c : Stamp) (w : Version) → Adds c w few more → FitsRising few c w.value → ValuesRise more
rise_with few more c w adds fits d e in_d in_e lt = by ((added_are c w few more adds d).0 in_d) ((added_are c w few more adds e).0 in_e)
  where
    by : Contains few d ⊎ (d ≡ (c, w)) → Contains few e ⊎ (e ≡ (c, w)) → d.1.value.0 < e.1.value.0
    by (inl a) (inl b) = fits.0 d e a b lt
    by (inl a) (inr b) =
        let stamp = ap (λ (x : Dated). x.0.0) b in
        let value = ap (λ (x : Dated). x.1.value.0) b in
        let low = fits.1 d a (omega (arith, stamp, lt)) in
        omega (arith, low, value)
    by (inr a) (inl b) =
        let stamp = ap (λ (x : Dated). x.0.0) a in
        let value = ap (λ (x : Dated). x.1.value.0) a in
        let high = fits.2 e b (omega (arith, stamp, lt)) in
        omega (arith, high, value)
    by (inr a) (inr b) =
        let one = ap (λ (x : Dated). x.0.0) a in
        let other = ap (λ (x : Dated). x.0.0) b in
        absurd (omega (arith, one, other, lt))

-- one goes
pub rise_without : (few more : List Dated) (c : Stamp) (w : Version) → Adds c w few more → ValuesRise more → ValuesRise few
rise_without few more c w adds rise d e in_d in_e lt = rise d e ((added_are c w few more adds d).1 (inl in_d)) ((added_are c w few more adds e).1 (inl in_e)) lt

-- ---- behind all

last_greatest : (ds : List Dated) → IsRising ds → (d : Dated) → slice_get ds (length ds - 1) ≡ Some d → (e : Dated) → Contains ds e → e.0.0 ≤ d.0.0
last_greatest [] rises d is e c = absurd (Contains-nil e c)
last_greatest (x ∷ []) rises d is e c =
    let last : x ≡ d = same_some is in
    elim (Contains-cons_cases x [] e c) [
      | inl same ↦ (let stamp = ap (λ (y : Dated). y.0.0) (sym same ∙ last) in omega (arith, stamp))
      | inr none ↦ absurd (Contains-nil e none)
    ]
last_greatest (x ∷ y ∷ ds) rises d is e c =
    let behind : length (x ∷ y ∷ ds) - 1 ≡ suc (length (y ∷ ds) - 1) = omega arith in
    let rest = last_greatest (y ∷ ds) rises.1 d (sym (ap (slice_get (x ∷ y ∷ ds)) behind) ∙ is) in
    elim (Contains-cons_cases x (y ∷ ds) e c) [
      | inl same ↦
          let stamp = ap (λ (z : Dated). z.0.0) same in
          let first = at_each (λ z. x.0.0 < z.0.0) (y ∷ ds) y rises.0 (here y ds) in
          let most = rest y (here y ds) in
          omega (arith, stamp, first, most)
      | inr later ↦ rest e later
    ]

pub fits_behind : (ds : List Dated) (c : Stamp) (v : Value) (d : Dated) → IsRising ds → slice_get ds (length ds - 1) ≡ Some d → d.0.0 < c.0 → d.1.value.0 < v.0 → ValuesRise ds → FitsRising ds c v
fits_behind ds c v d rises is before less rise = (
  rise,
  above_former ds rises rise c v d (get_contains ds (length ds - 1) d is, before, λ e c _. last_greatest ds rises d is e c) less,
  λ e there behind. (let most = last_greatest ds rises d is e there in absurd (omega (arith, most, before, behind))),
)
