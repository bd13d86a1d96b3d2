-- The index of the commits stays one when a version comes or goes.
use Rattle.std.proofs.Common.{◌≤◌, ◌≡◌, ◌≢◌, ◌∙◌, ◌⊎◌, inl, inr, ◌↔◌, ℕ, ◌+◌, ◌<◌, ◌++◌, ◌∷◌, [], Bool, true, false, cond, List, Option, Some, None, length, take, drop, get_or, refl, sym, ap, subst}
use Rattle.std.specs.List.{Contains, find}
use Rattle.std.specs.Option.{MatchOption}
use Rattle.std.specs.Prelude.{⊤}
use Rattle.std.specs.Ordering.{eq_by_cmp}
use Rattle.std.proofs.lemmas.List.{take-append-drop, take_all, take_more}
use Rattle.std.proofs.Common.{drop}
use Rattle.std.proofs.lemmas.List.Elements.{Contains-append_cases, Contains-append_left, Contains-append_right}
use Rattle.si_lists.proofs.Tests.{find-None, find-Some}
use Rattle.si_model.specs.Operations.{same_value}
use Rattle.si_model.proofs.Equalities.{same_value_from, same_value_is}
use Rattle.si_lists.proofs.Members.{same_some, here, Contains-nil, Contains-cons_cases}
use Rattle.si_model.specs.declared.numbers.Stamp.{Stamp}
use Rattle.si_model.specs.declared.numbers.Value.{Value}
use Rattle.si_sorted.specs.Entries.{Sets}
use Rattle.si_timeline.specs.Timelines.{Adds, Dated, IsAt, IsOfValue, Lacks}
use Rattle.si_timeline.specs.declared.versions.Version.{Version}
use Rattle.si_judge.specs.Commits.{AreCommitsOf, HaveValuesOnce}
use Rattle.si_judge.specs.Values.{at_value, value_cmp}
use Rattle.si_judge.proofs.IndexEdits.{no_value}
use Rattle.si_judge.proofs.Orders.{value_decides}

-- values are the same or not
value_or_not : (v w : Value) → (v ≡ w) ⊎ (v ≢ w)
value_or_not v w = by (eq_by_cmp value_cmp v w) refl
  where
    by : (b : Bool) → eq_by_cmp value_cmp v w ≡ b → (v ≡ w) ⊎ (v ≢ w)
    by true e = inl ((value_decides v w).0 e)
    by false e = inr (λ same. true_false (sym ((value_decides v w).1 same) ∙ e))
      where
        true_false : true ≡ false → ⊥
        true_false f = cc

module _ (old new : List (Value × Stamp)) (v : Value) (o : Option Stamp) (sets : Sets value_cmp v o old new) where
  set_there : (q : Value) → v ≡ q → at_value new q ≡ o
  set_there q e = sets q ∙ ap (λ b. cond b o (at_value old q)) ((value_decides v q).1 e)

  set_other : (q : Value) → v ≢ q → at_value new q ≡ at_value old q
  set_other q other = sets q ∙ by (eq_by_cmp value_cmp v q) refl
    where
      by : (b : Bool) → eq_by_cmp value_cmp v q ≡ b → cond b o (at_value old q) ≡ at_value old q
      by true e = absurd (other ((value_decides v q).0 e))
      by false e = refl

module _ (few more : List Dated) (d : Dated) (joined : (e : Dated) → Contains more e ↔ (Contains few e ⊎ (e ≡ d))) (old new : List (Value × Stamp)) where
  -- one comes
  pub grown : HaveValuesOnce more → AreCommitsOf few old → Sets value_cmp d.1.value (Some d.0) old new → AreCommitsOf more new
  grown once is sets v c = by (value_or_not d.1.value v)
    where
      by : (d.1.value ≡ v) ⊎ (d.1.value ≢ v) → (at_value new v ≡ Some c) ↔ ((w : Version) × Contains more (c, w) × (w.value ≡ v))
      by (inl e) =
          let there = set_there old new d.1.value (Some d.0) sets v e in (
            (λ f. let same : d.0 ≡ c = same_some (sym there ∙ f) in (d.1, subst (λ s. Contains more (s, d.1)) same ((joined d).1 (inr refl)), e)),
            (λ x. there ∙ ap (λ (y : Dated). Some y.0) (once d (c, x.0) ((joined d).1 (inr refl)) x.1 (e ∙ sym x.2))),
          )
      by (inr other) =
          let stays = set_other old new d.1.value (Some d.0) sets v other in (
            (λ f. let x = (is v c).0 (sym stays ∙ f) in (x.0, (joined (c, x.0)).1 (inl x.1), x.2)),
            (λ x. elim ((joined (c, x.0)).0 x.1) [
              | inl m ↦ stays ∙ (is v c).1 (x.0, m, x.2)
              | inr s ↦ absurd (other (sym (ap (λ (y : Dated). y.1.value) s) ∙ x.2))
            ]),
          )

  -- one goes
  pub shrunk : Lacks few d.0 → AreCommitsOf more old → Sets value_cmp d.1.value None old new → AreCommitsOf few new
  shrunk lacks is sets v c = by (value_or_not d.1.value v)
    where
      by : (d.1.value ≡ v) ⊎ (d.1.value ≢ v) → (at_value new v ≡ Some c) ↔ ((w : Version) × Contains few (c, w) × (w.value ≡ v))
      by (inl e) =
          let there = set_there old new d.1.value None sets v e in (
            (λ f. absurd (no_value c (sym there ∙ f))),
            (λ x.
                let stood = (is v d.0).1 (d.1, (joined d).1 (inr refl), e) in
                let same : d.0 ≡ c = same_some (sym stood ∙ (is v c).1 (x.0, (joined (c, x.0)).1 (inl x.1), x.2)) in
                absurd (lacks x.0 (subst (λ s. Contains few (s, x.0)) (sym same) x.1))),
          )
      by (inr other) =
          let stays = set_other old new d.1.value None sets v other in (
            (λ f. let x = (is v c).0 (sym stays ∙ f) in elim ((joined (c, x.0)).0 x.1) [
              | inl m ↦ (x.0, m, x.2)
              | inr s ↦ absurd (other (sym (ap (λ (y : Dated). y.1.value) s) ∙ x.2))
            ]),
            (λ x. stays ∙ (is v c).1 (x.0, (joined (c, x.0)).1 (inl x.1), x.2)),
          )

pub none_of : (old : List (Value × Stamp)) → old ≡ [] → AreCommitsOf [] old
none_of old e v c = ((λ f. absurd (no_value c (sym (ap (λ l. at_value l v) e) ∙ f))), (λ x. absurd (Contains-nil (c, x.0) x.1)))

-- ---- all, one after the other

behind : (ds : List Dated) (d e : Dated) → Contains (ds ++ d ∷ []) e ↔ (Contains ds e ⊎ (e ≡ d))
behind ds d e = (
  (λ c. elim (Contains-append_cases ds (d ∷ []) e c) [
    | inl l ↦ inl l
    | inr r ↦ elim (Contains-cons_cases d [] e r) [ inl s ↦ inr (sym s) | inr n ↦ absurd (Contains-nil e n) ]
  ]),
  (λ x. elim x [ inl l ↦ Contains-append_left ds (d ∷ []) e l | inr s ↦ Contains-append_right ds (d ∷ []) e (subst (Contains (d ∷ [])) (sym s) (here d [])) ]),
)

pub one_more : (all : List Dated) (i : ℕ) (e : Dated) → HaveValuesOnce all → i < length all → (old new : List (Value × Stamp)) → AreCommitsOf (take i all) old
    → Sets value_cmp (get_or all i e).1.value (Some (get_or all i e).0) old new → AreCommitsOf (take (i + 1) all) new
one_more all i e once within old new so_far sets =
    let next = take_more all i e within in
    subst (λ l. AreCommitsOf l new) (sym next) (grown (take i all) (take i all ++ get_or all i e ∷ []) (get_or all i e) (behind (take i all) (get_or all i e)) old new
    (λ a b x y f. once a b (within_all a (subst (λ l. Contains l a) (sym next) x)) (within_all b (subst (λ l. Contains l b) (sym next) y)) f) so_far sets)
  where
    within_all : (a : Dated) → Contains (take (i + 1) all) a → Contains all a
    within_all a c = subst (λ l. Contains l a) (take-append-drop (i + 1) all) (Contains-append_left (take (i + 1) all) (drop (i + 1) all) a c)

-- at the end
pub all_walked : (ds all : List Dated) (i : ℕ) (commits : List (Value × Stamp)) → all ≡ ds → length all ≤ i → AreCommitsOf (take i all) commits → AreCommitsOf ds commits
all_walked ds all i commits same most is = subst (λ l. AreCommitsOf l commits) (take_all i all most ∙ same) is

-- ---- in a box

-- the index of the versions before one that came
pub came_with : {B : Type 0} (value : B → List (Value × Stamp)) (few more : List Dated) (c : Stamp) (w : Version) (o : Option B) → Adds c w few more
    → MatchOption o ⊤ (λ b. AreCommitsOf few (value b))
    → MatchOption o ⊤ (λ b. (fs : List Dated) × (v : Version) × AreCommitsOf fs (value b) × (v.value ≡ w.value) × Adds c v fs more)
came_with value few more c w None adds is = tt
came_with value few more c w (Some b) adds is = (few, w, is, refl, adds)

-- ---- what is found by it

module _ (ds : List Dated) (commits : List (Value × Stamp)) (is : AreCommitsOf ds commits) (v : Value) where
  pub none_found : at_value commits v ≡ None → IsOfValue ds v None
  none_found none = λ d c e. no_value d.0 (sym none ∙ (is v d.0).1 (d.1, c, e))

  pub is_there : (c : Stamp) → at_value commits v ≡ Some c → Lacks ds c → ⊥
  is_there c found lacks = let x = (is v c).0 found in lacks x.0 x.1

  pub one_found : (c : Stamp) (w : Version) → at_value commits v ≡ Some c → IsAt ds c w → IsOfValue ds v (Some (c, w))
  one_found c w found at = let x = (is v c).0 found in (at.0, sym (ap (λ (y : Version). y.value) (at.1 x.0 x.1)) ∙ x.2)

-- the same by a walk
pub walked : (ds : List Dated) (v : Value) (o : Option Dated) → o ≡ find (λ d. same_value d.1.value v) ds → IsOfValue ds v o
walked ds v None e = λ d c same. true_false (sym (same_value_from d.1.value v same) ∙ find-None (λ x. same_value x.1.value v) ds (sym e) d c)
  where
    true_false : true ≡ false → ⊥
    true_false f = cc
walked ds v (Some d) e = let f = find-Some (λ x. same_value x.1.value v) ds d (sym e) in (f.0, same_value_is d.1.value v f.1)
