-- Where nothing is asked of what could have been found, it changes neither the lines nor the status.
use Rattle.std.proofs.Common.{◌≡◌, ℕ, Bool, true, false, ◌||◌, List, [], ◌++◌, Option, Some, None, refl, sym, ◌∙◌, append-nil}
use Rattle.std.specs.Prelude.{is_some, if◌then◌else◌, nat_lt}
use Rattle.si_model.specs.declared.chances.Chances.{Chances}
use Rattle.si_text.specs.declared.endings.Asked.{Asked}
use Rattle.si_text.specs.declared.endings.ExpectedPlaces.{ExpectedPlaces}
use Rattle.si_text.specs.Texts.{are_few, are_known_few, asks, few_line, few_lines, is_few, lines_asked, told_chances}

-- which kinds are asked of is told one by one
record IsUnasked (a : Asked) : Type 0 where
  tells : a.tells ≡ false
  own : a.expected.own ≡ None
  aborted : a.expected.aborted ≡ None
  intermediate : a.expected.intermediate ≡ None
  future : a.expected.future ≡ None
  stale : a.expected.stale ≡ None
  overlap : a.expected.overlap ≡ None

no_or : (a b : Bool) → (a || b) ≡ false → (a ≡ false) × (b ≡ false)
no_or true b e = cc
no_or false b e = (refl, e)

none : (o : Option ℕ) → is_some o ≡ false → o ≡ None
none None e = refl
none (Some n) e = cc

unasked_of : (a : Asked) → asks a ≡ false → IsUnasked a
unasked_of a e =
    let b = no_or _ (is_some a.expected.overlap) e in
    let c = no_or _ (is_some a.expected.stale) b.0 in
    let d = no_or _ (is_some a.expected.future) c.0 in
    let f = no_or _ (is_some a.expected.intermediate) d.0 in
    let g = no_or _ (is_some a.expected.aborted) f.0 in
    let h = no_or a.tells (is_some a.expected.own) g.0 in
    record {
      tells = h.0;
      own = none _ h.1;
      aborted = none _ g.1;
      intermediate = none _ f.1;
      future = none _ d.1;
      stale = none _ c.1;
      overlap = none _ b.1;
    }

-- no line stands beside those of a shortage
pub no_lines : (a : Asked) (c : Chances) (short : List ℕ) → asks a ≡ false → told_chances a.tells c ++ (short ++ few_lines a.expected c) ≡ short
no_lines a c short e = (λ i. told_chances (u.tells i) c ++ (short ++ few_lines (record {
  own = u.own i;
  aborted = u.aborted i;
  intermediate = u.intermediate i;
  future = u.future i;
  stale = u.stale i;
  overlap = u.overlap i;
}) c)) ∙ append-nil short
  where
    u : IsUnasked a
    u = unasked_of a e

-- and nothing is too few
pub none_few : (a : Asked) (c : Chances) → asks a ≡ false → are_few a.expected c ≡ false
none_few a c e = λ i. are_few (record {
  own = u.own i;
  aborted = u.aborted i;
  intermediate = u.intermediate i;
  future = u.future i;
  stale = u.stale i;
  overlap = u.overlap i;
}) c
  where
    u : IsUnasked a
    u = unasked_of a e

-- the lines of what is asked, where what could have been found is known exactly where something is asked
pub asked_lines : (a : Asked) (c : Chances) (short : List ℕ)
    → lines_asked a short (if asks a then Some c else None) ≡ told_chances a.tells c ++ (short ++ few_lines a.expected c)
asked_lines a c short = by (asks a) refl
  where
    by : (b : Bool) → asks a ≡ b → lines_asked a short (if b then Some c else None) ≡ told_chances a.tells c ++ (short ++ few_lines a.expected c)
    by true e = refl
    by false e = sym (no_lines a c short e)

-- and whether something is too few
pub asked_few : (a : Asked) (c : Chances) → are_known_few a.expected (if asks a then Some c else None) ≡ are_few a.expected c
asked_few a c = by (asks a) refl
  where
    by : (b : Bool) → asks a ≡ b → are_known_few a.expected (if b then Some c else None) ≡ are_few a.expected c
    by true e = refl
    by false e = sym (none_few a c e)
