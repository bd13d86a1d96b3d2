-- What is kept of many keys, each changed by itself.
use Rattle.std.proofs.Common.{◌≡◌, ◌≢◌, ◌∙◌, ◌↔◌, ◌⊎◌, inl, inr, ℕ, Bool, true, false, cond, List, [], ◌∷◌, ◌++◌, Option, Some, None, IfOk, Ok, Err, refl, sym, ap, subst, true≢false}
use Rattle.std.specs.List.{Contains}
use Rattle.std.specs.HashMap.{HashMap, Updates, get}
use Rattle.std.specs.declared.result.Result.{Result}
use Rattle.si_hashing.specs.declared.key_hashes.KeyHash.{KeyHash}
use Rattle.std.specs.BTreeSet.{BTreeSet, contains, Updates as SetUpdates}
use Rattle.std.specs.Ordering.{nat_cmp}
use Rattle.std.specs.Cmp.Lexicographic.{slice_cmp, texts_ties}
use Rattle.std.proofs.lemmas.List.Elements.{Contains-append_cases}
use Rattle.si_lists.proofs.Members.{Contains-nil, Contains-one}
use Rattle.si_model.specs.declared.parts.OnKey.{OnKey}
use Rattle.si_model.specs.Operations.{same_key}
use Rattle.si_model.specs.Findings.{cases}
use Rattle.si_model.specs.History.{IsOfHistory}
use Rattle.si_model.proofs.Equalities.{same_key_from, same_key_is}
use Rattle.si_judge.specs.Following.{empty_key}
use Rattle.si_judge.specs.Kept.{IsBare, IsRising, Kept, Shows, WouldShow}
use Rattle.si_judge.proofs.Bare.{empty_bare, nothing_found}
use Rattle.si_judge.proofs.Following.{nothing_of_history}
use Rattle.si_judge.proofs.MarkLists.{unmarked}
use Rattle.si_judge.proofs.Waitings.{would_show}
use Rattle.si_shard.specs.declared.key_changes.Change.{Change}
use Rattle.si_shard.specs.declared.key_states.KeyStates.{KeyStates}
use Rattle.si_shard.specs.KeyChanges.{CanChange, IsChanged, changed_on}
use Rattle.si_shard.specs.KeyStates.{AreKeysSettled, HasFinding, IsChangedAt, IsChangedIn, IsKeySettled, IsLeft, IsMadeAt, IsOn, IsOnKey, IsRisingAt, IsToldAt, IsToldSo, IsUnmarked, ShowsAt, StaysAt}

-- ---- where nothing is kept

pub bare_has_none : (x : List ℕ) (Q : OnKey) → IsOfHistory Q → IsBare Q → HasFinding x Q → ⊥
bare_has_none x Q history bare h = Contains-nil h.0 (subst (λ fs. Contains fs h.0) (nothing_found Q bare cases history x) h.1)

pub none_empty : (x : List ℕ) → HasFinding x empty_key → ⊥
none_empty x h = bare_has_none x empty_key nothing_of_history.of_history empty_bare h

-- of a key nothing is kept, and nothing is found there
pub none_kept : (ks : KeyStates) (x : List ℕ) → get same_key ks.states x ≡ None → contains (slice_cmp nat_cmp) ks.found x ≡ false → IsOn ks x empty_key
none_kept ks x kept found = subst (λ o. IsOnKey x o (contains (slice_cmp nat_cmp) ks.found x) (Contains ks.marked.items x) empty_key) (sym kept) (record {
  shows = (nothing_of_history.of_history, empty_bare);
  found = λ u. ((λ e. absurd (true≢false (sym e ∙ found))), (λ h. absurd (none_empty x h)));
  listed = inr tt;
  rising = tt;
})

-- what is on a key is of a history
pub of_history : (x : List ℕ) (o : Option Kept) (Q : OnKey) → ShowsAt x o Q → IsOfHistory Q
of_history x None Q shows = shows.0
of_history x (Some s) Q shows = shows.1.indexes.history

-- ---- one change

-- what stands on the key after a change that left this
abbrev pub standing : Bool → Kept → Option Kept
standing is_bare s = cond is_bare None (Some s)

module _ (x : List ℕ) (c : Change) (old new : KeyStates) (s : Kept) (is_bare has_findings is_marked was_marked : Bool)
    (key : s.key ≡ x) (shows : (Q : OnKey) → ShowsAt x (get same_key old.states x) Q → CanChange c Q → WouldShow cases (changed_on c Q) s) (left : IsLeft is_bare has_findings is_marked s)
    (was : (was_marked ≡ false) ↔ IsUnmarked (get same_key old.states x))
    (states : (y : List ℕ) → get same_key new.states y ≡ cond (same_key x y) (standing is_bare s) (get same_key old.states y))
    (so : IsToldSo x is_bare has_findings is_marked was_marked old.marked.items new.marked.items old.found new.found) where
  stands : get same_key new.states x ≡ standing is_bare s
  stands = states x ∙ ap (λ b. cond b (standing is_bare s) (get same_key old.states x)) (same_key_from x x refl)

  told : contains (slice_cmp nat_cmp) new.found x ≡ so.told
  told = so.is x ∙ ap (λ b. cond b so.told (contains (slice_cmp nat_cmp) old.found x)) (same_key_from x x refl)

  shown : (R : OnKey) → WouldShow cases R s → (b : Bool) → is_bare ≡ b → ShowsAt x (standing b s) R
  shown R r true e = (r.indexes.history, (left.bare R r).0 e)
  shown R r false e = (key, r, λ bare. true≢false (sym ((left.bare R r).1 bare) ∙ e))

  -- where no read is marked it is told rightly
  right : (R : OnKey) → WouldShow cases R s → is_marked ≡ false → (so.told ≡ true) ↔ HasFinding x R
  right R r none =
      let tells = left.found R (unmarked cases R s (left.marked.0 none) r) in
      let same = so.unmarked none in
      subst (λ y. (so.told ≡ true) ↔ HasFinding y R) key ((λ e. tells.0 (sym same ∙ e)), (λ h. same ∙ tells.1 h))

  -- on a bare key nothing is found
  of_bare : (R : OnKey) → WouldShow cases R s → is_bare ≡ true → (m : Bool) → is_marked ≡ m → (so.told ≡ true) ↔ HasFinding x R
  of_bare R r bare true e = ((λ t. absurd (true≢false (sym t ∙ so.bare e bare))), (λ h. absurd (bare_has_none x R r.indexes.history ((left.bare R r).0 bare) h)))
  of_bare R r bare false e = right R r e

  found_so : (R : OnKey) → WouldShow cases R s → (b : Bool) → is_bare ≡ b → IsUnmarked (standing b s) → (so.told ≡ true) ↔ HasFinding x R
  found_so R r true e u = of_bare R r e is_marked refl
  found_so R r false e u = right R r (left.marked.1 u)

  listed_so : Contains old.marked.items x ⊎ IsUnmarked (get same_key old.states x) → (b : Bool) → is_bare ≡ b → (m : Bool) → is_marked ≡ m → Contains new.marked.items x ⊎ IsUnmarked (standing b s)
  listed_so before true e m f = inr tt
  listed_so before false e false f = inr (left.marked.0 f)
  listed_so before false e true f = elim (so.listed f) [
    | inl there ↦ inl there
    | inr marked ↦ elim before [
      | inl there ↦ inl (so.kept x there)
      | inr none ↦ absurd (true≢false (sym marked ∙ was.1 none))
    ]
  ]

  rising_so : (b : Bool) → IsRisingAt (standing b s)
  rising_so true = tt
  rising_so false = left.rising

  made : IsMadeAt x c old new
  made Q on can =
      let R = changed_on c Q in
      let r = shows Q on.shows can in
      subst (λ o. IsOnKey x o (contains (slice_cmp nat_cmp) new.found x) (Contains new.marked.items x) R) (sym stands) (record {
        shows = shown R r is_bare refl;
        found = λ u. subst (λ b. (b ≡ true) ↔ HasFinding x R) (sym told) (found_so R r is_bare refl u);
        listed = listed_so on.listed is_bare refl is_marked refl;
        rising = rising_so is_bare;
      })

  others : (y : List ℕ) → y ≢ x → StaysAt y old new
  others y d Q on = by (same_key x y) refl
    where
      more : IsOnKey y (get same_key old.states y) (contains (slice_cmp nat_cmp) old.found y) (Contains new.marked.items y) Q
      more = record { shows = on.shows; found = on.found; listed = elim on.listed [ inl there ↦ inl (so.kept y there) | inr none ↦ inr none ]; rising = on.rising }

      by : (b : Bool) → same_key x y ≡ b → IsOn new y Q
      by true at = absurd (d (sym (same_key_is x y at)))
      by false at = subst (λ o. IsOnKey y o (contains (slice_cmp nat_cmp) new.found y) (Contains new.marked.items y) Q) (sym (states y ∙ ap (λ b. cond b (standing is_bare s) (get same_key old.states y)) at))
          (subst (λ f. IsOnKey y (get same_key old.states y) f (Contains new.marked.items y) Q) (sym (so.is y ∙ ap (λ b. cond b so.told (contains (slice_cmp nat_cmp) old.found y)) at)) more)

  pub changed_after : IsChangedAt x c old new
  changed_after = record { made = made; others = others }

-- the key is told so, and each other as before
pub found_set : (x : List ℕ) (old new : BTreeSet (List ℕ)) (has_findings : Bool) → SetUpdates (slice_cmp nat_cmp) old new x has_findings
    → IsToldAt x has_findings old new
found_set x old new has_findings found y = found.0 y ∙ ap (λ b. cond b has_findings (contains (slice_cmp nat_cmp) old y)) (sym (texts_ties x y))

-- where as much is found on a key as before, it was told so already
pub found_stays : (x : List ℕ) (old : BTreeSet (List ℕ)) (had has_findings : Bool) → (had ≡ true) ↔ (contains (slice_cmp nat_cmp) old x ≡ true) → has_findings ≡ had → IsToldAt x has_findings old old
found_stays x old had has_findings told same y = by (same_key x y) refl
  where
    same_tests : (a b : Bool) → (a ≡ true → b ≡ true) → (b ≡ true → a ≡ true) → a ≡ b
    same_tests true true f g = refl
    same_tests true false f g = sym (f refl)
    same_tests false true f g = g refl
    same_tests false false f g = refl

    by : (b : Bool) → same_key x y ≡ b → contains (slice_cmp nat_cmp) old y ≡ cond b has_findings (contains (slice_cmp nat_cmp) old y)
    by true e = ap (contains (slice_cmp nat_cmp) old) (sym (same_key_is x y e)) ∙ same_tests (contains (slice_cmp nat_cmp) old x) had told.1 told.0 ∙ sym same
    by false e = refl

-- whether something was found on the key is told of what is kept of it
pub told_before : (x : List ℕ) (s : Kept) (Q : OnKey) (test had : Bool) → s.key ≡ x → Shows cases Q s → ((M : OnKey) → Shows cases M s → (test ≡ true) ↔ HasFinding s.key M) → had ≡ test
    → (had ≡ true) ↔ HasFinding x Q
told_before x s Q test had key shows tells same =
    let told = subst (λ y. (test ≡ true) ↔ HasFinding y Q) key (tells Q shows) in
    ((λ e. told.0 (sym same ∙ e)), (λ h. same ∙ told.1 h))

-- what was so of a key of which this is kept
pub had_there : (x : List ℕ) (s : Kept) (o : Option Kept) (Q : OnKey) (had : Bool) → o ≡ Some s → ShowsAt x o Q → IsUnmarked o → (Shows cases Q s → (had ≡ true) ↔ HasFinding s.key Q) → (had ≡ true) ↔ HasFinding x Q
had_there x s o Q had there on none tells =
    let shown = subst (λ k. ShowsAt x k Q) there on in
    subst (λ y. (had ≡ true) ↔ HasFinding y Q) shown.0 (tells (unmarked cases Q s (subst IsUnmarked there none) shown.1))

pub was_there : (s : Kept) (o : Option Kept) (was : Bool) → o ≡ Some s → (was ≡ false) ↔ (s.marks ≡ []) → (was ≡ false) ↔ IsUnmarked o
was_there s o was there tells = subst (λ k. (was ≡ false) ↔ IsUnmarked k) (sym there) tells

-- where a call succeeds
pub where_ok : {A E : Type 0} (P R : A → Type 0) (r : Result A E) → IfOk r P → ((a : A) → P a → R a) → IfOk r R
where_ok P R (Ok a) p then = then a p
where_ok P R (Err e) p then = tt

-- what was kept of a key was changed so
pub changed_there : {S : Type 0} (x : List ℕ) (c : Change) (is_bare has_findings is_marked : Bool) (s new : Kept) (old_states new_states : HashMap (List ℕ) Kept S)
    → get same_key old_states x ≡ Some s → s.key ≡ x → IsChanged c s new → IsLeft is_bare has_findings is_marked new → Updates same_key old_states new_states x (Some new)
    → IsChangedIn x c is_bare has_findings is_marked old_states new_states
changed_there x c is_bare has_findings is_marked s new old_states new_states there key made left states = record {
  kept = new;
  key = made.key ∙ key;
  shows = λ Q on can. made.shows Q (subst (λ o. ShowsAt x o Q) there on).1 can;
  left = left;
  states = states;
}

-- what the calls of one change give: what is kept was changed, and it stayed or was dropped
module _ (x : List ℕ) (c : Change) (old new : KeyStates) (is_bare has_findings is_marked was_marked : Bool) (was : (was_marked ≡ false) ↔ IsUnmarked (get same_key old.states x))
    (so : IsToldSo x is_bare has_findings is_marked was_marked old.marked.items new.marked.items old.found new.found) where
  pub changed_kept : IsChangedIn x c is_bare has_findings is_marked old.states new.states → is_bare ≡ false → IsChangedAt x c old new
  changed_kept made e = changed_after x c old new made.kept is_bare has_findings is_marked was_marked made.key made.shows made.left was
      (λ y. made.states.0 y ∙ ap (λ b. cond (same_key x y) (standing b made.kept) (get same_key old.states y)) (sym e)) so

  pub changed_dropped : (mid : HashMap (List ℕ) Kept KeyHash) → IsChangedIn x c is_bare has_findings is_marked old.states mid → is_bare ≡ true
      → ((y : List ℕ) → get same_key new.states y ≡ cond (same_key x y) None (get same_key mid y)) → IsChangedAt x c old new
  changed_dropped mid made e dropped = changed_after x c old new made.kept is_bare has_findings is_marked was_marked made.key made.shows made.left was (λ y. by y (same_key x y) refl) so
    where
      by : (y : List ℕ) (b : Bool) → same_key x y ≡ b → get same_key new.states y ≡ cond (same_key x y) (standing is_bare made.kept) (get same_key old.states y)
      by y true at = dropped y ∙ ap (λ b. cond b None (get same_key mid y)) at ∙ ap (λ b. standing b made.kept) (sym e)
          ∙ ap (λ b. cond b (standing is_bare made.kept) (get same_key old.states y)) (sym at)
      by y false at = dropped y ∙ ap (λ b. cond b None (get same_key mid y)) at ∙ made.states.0 y
          ∙ ap (λ b. cond b (Some made.kept) (get same_key old.states y)) at
          ∙ ap (λ b. cond b (standing is_bare made.kept) (get same_key old.states y)) (sym at)

-- nothing else is told of any key
pub nothing_told : (x : List ℕ) (old : BTreeSet (List ℕ)) → IsToldAt x (contains (slice_cmp nat_cmp) old x) old old
nothing_told x old y = by (same_key x y) refl
  where
    by : (b : Bool) → same_key x y ≡ b → contains (slice_cmp nat_cmp) old y ≡ cond b (contains (slice_cmp nat_cmp) old x) (contains (slice_cmp nat_cmp) old y)
    by true e = ap (contains (slice_cmp nat_cmp) old) (sym (same_key_is x y e))
    by false e = refl

-- where the reads of a key aren't marked, it is told so and nothing is listed
pub told_unmarked : (x : List ℕ) (is_bare has_findings is_marked was_marked : Bool) (list : List (List ℕ)) (old new : BTreeSet (List ℕ)) → is_marked ≡ false → IsToldAt x has_findings old new
    → IsToldSo x is_bare has_findings is_marked was_marked list list old new
told_unmarked x is_bare has_findings is_marked was_marked list old new none told = record {
  kept = λ y there. there;
  listed = λ e. absurd (true≢false (sym e ∙ none));
  told = has_findings;
  is = told;
  unmarked = λ e. refl;
  bare = λ e b. absurd (true≢false (sym e ∙ none));
}

-- ---- where no key is listed

unlisted : (ks : KeyStates) (x : List ℕ) (Q : OnKey) → ks.marked.items ≡ [] → IsOn ks x Q → IsUnmarked (get same_key ks.states x)
unlisted ks x Q none on = elim on.listed [
  | inl there ↦ absurd (Contains-nil x (subst (λ l. Contains l x) none there))
  | inr unmarked ↦ unmarked
]

pub told_settled : (ks : KeyStates) (x : List ℕ) (Q : OnKey) → ks.marked.items ≡ [] → IsOn ks x Q → (contains (slice_cmp nat_cmp) ks.found x ≡ true) ↔ HasFinding x Q
told_settled ks x Q none on = on.found (unlisted ks x Q none on)

-- what is kept of the key shows Q then
pub shows_settled : (ks : KeyStates) (x : List ℕ) (s : Kept) (Q : OnKey) → ks.marked.items ≡ [] → get same_key ks.states x ≡ Some s → IsOn ks x Q → (s.key ≡ x) × Shows cases Q s
shows_settled ks x s Q none there on =
    let shown = subst (λ o. ShowsAt x o Q) there on.shows in
    (shown.0, unmarked cases Q s (subst IsUnmarked there (unlisted ks x Q none on)) shown.1)

-- ---- one key settled

settled_key_by : (x y : List ℕ) {A : Type 0} (a b c : A) → y ≢ x → c ≡ cond (same_key x y) a b → c ≡ b
settled_key_by x y a b c differs is = by (same_key x y) refl
  where
    by : (t : Bool) → same_key x y ≡ t → c ≡ b
    by true e = absurd (differs (sym (same_key_is x y e)))
    by false e = is ∙ ap (λ t. cond t a b) e

pub settled_key : {S : Type 0} (x : List ℕ) (old new : HashMap (List ℕ) Kept S) (told more : BTreeSet (List ℕ)) (s k : Kept) (has : Bool) → get same_key old x ≡ Some s → Updates same_key old new x (Some k)
    → k.key ≡ s.key → k.marks ≡ [] → ((M : OnKey) → WouldShow cases M s → Shows cases M k) → ((M : OnKey) → Shows cases M k → (has ≡ true) ↔ HasFinding k.key M) → IsRising k → IsToldAt x has told more
    → IsKeySettled x old new told more
settled_key x old new told more s k has there states key none settles tells rises so = record {
  rising = λ r. subst IsRisingAt (sym (states.0 x ∙ ap (λ b. cond b (Some k) (get same_key old x)) (same_key_from x x refl))) rises;
  here = λ Q shown found.
      (let was = subst (λ o. ShowsAt x o Q) there shown in
      let shows = settles Q was.1 in
      let at = states.0 x ∙ ap (λ b. cond b (Some k) (get same_key old x)) (same_key_from x x refl) in
      let is = so x ∙ ap (λ b. cond b has (contains (slice_cmp nat_cmp) told x)) (same_key_from x x refl) in (
        subst (λ o. ShowsAt x o Q) (sym at) (key ∙ was.0, would_show cases Q k shows, was.2),
        subst IsUnmarked (sym at) none,
        subst (λ b. (b ≡ true) ↔ HasFinding x Q) (sym is) (subst (λ y. (has ≡ true) ↔ HasFinding y Q) (key ∙ was.0) (tells Q shows)),
      ));
  states = λ y differs. settled_key_by x y (Some k) (get same_key old y) (get same_key new y) differs (states.0 y);
  found = λ y differs. settled_key_by x y has (contains (slice_cmp nat_cmp) told y) (contains (slice_cmp nat_cmp) more y) differs (so y);
}

-- of a key nothing is kept, and so nothing is marked
pub settled_none : {S : Type 0} (x : List ℕ) (states : HashMap (List ℕ) Kept S) (told : BTreeSet (List ℕ)) → get same_key states x ≡ None → IsKeySettled x states states told told
settled_none x states told none = record {
  here = λ Q shown found. (let unmarked = subst IsUnmarked (sym none) tt in (shown, unmarked, found unmarked));
  rising = λ r. r;
  states = λ y differs. refl;
  found = λ y differs. refl;
}

-- where one key more is settled
abbrev Goes : {S : Type 0} → List (List ℕ) → (old new : HashMap (List ℕ) Kept S) → BTreeSet (List ℕ) → List ℕ → OnKey → Type 0
Goes list old new more x Q = ShowsAt x (get same_key new x) Q × (IsUnmarked (get same_key new x) → (contains (slice_cmp nat_cmp) more x ≡ true) ↔ HasFinding x Q)
    × (Contains list x ⊎ IsUnmarked (get same_key old x) → IsUnmarked (get same_key new x))

module _ {S : Type 0} (list : List (List ℕ)) (k : List ℕ) (old mid new : HashMap (List ℕ) Kept S) (between more : BTreeSet (List ℕ)) (one : IsKeySettled k mid new between more) where
  goes_on : (x : List ℕ) (Q : OnKey) → Goes list old mid between x Q → (b : Bool) → same_key k x ≡ b → Goes (list ++ k ∷ []) old new more x Q
  goes_on x Q was true e =
      let same = same_key_is k x e in
      let done = subst (λ y. ShowsAt y (get same_key mid y) Q → (IsUnmarked (get same_key mid y) → (contains (slice_cmp nat_cmp) between y ≡ true) ↔ HasFinding y Q)
      → ShowsAt y (get same_key new y) Q × IsUnmarked (get same_key new y) × ((contains (slice_cmp nat_cmp) more y ≡ true) ↔ HasFinding y Q)) same (one.here Q) was.0 was.1 in
      (done.0, (λ u. done.2), (λ u. done.1))
  goes_on x Q was false e =
      let differs : x ≢ k = λ is. true≢false (sym (same_key_from k x (sym is)) ∙ e) in
      let there = one.states x differs in (
        subst (λ o. ShowsAt x o Q) (sym there) was.0,
        (λ u. subst (λ b. (b ≡ true) ↔ HasFinding x Q) (sym (one.found x differs)) (was.1 (subst IsUnmarked there u))),
        (λ u. subst IsUnmarked (sym there) (was.2 (elim u [
          | inl c ↦ elim (Contains-append_cases list (k ∷ []) x c) [ inl d ↦ inl d | inr d ↦ absurd (differs (sym (Contains-one k x d))) ]
          | inr none ↦ inr none
        ]))),
      )

  rises : (x : List ℕ) → IsRisingAt (get same_key mid x) → (b : Bool) → same_key k x ≡ b → IsRisingAt (get same_key new x)
  rises x r true e = subst (λ y. IsRisingAt (get same_key mid y) → IsRisingAt (get same_key new y)) (same_key_is k x e) one.rising r
  rises x r false e = subst IsRisingAt (sym (one.states x (λ is. true≢false (sym (same_key_from k x (sym is)) ∙ e)))) r

  pub settled_more : (told : BTreeSet (List ℕ)) → AreKeysSettled list old mid told between → AreKeysSettled (list ++ k ∷ []) old new told more
  settled_more told before = record {
    shows = λ x Q shown found. goes_on x Q (before.shows x Q shown found) (same_key k x) refl;
    rising = λ x r. rises x (before.rising x r) (same_key k x) refl;
  }

pub settled_none_yet : {S : Type 0} (old : HashMap (List ℕ) Kept S) (told : BTreeSet (List ℕ)) → AreKeysSettled [] old old told told
settled_none_yet old told = record {
  shows = λ x Q shown found. (shown, found, λ u. elim u [ inl c ↦ absurd (Contains-nil x c) | inr none ↦ none ]);
  rising = λ x r. r;
}
