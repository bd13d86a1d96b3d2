-- Two beginnings of one journal: the shorter begins the longer.
use Rattle.std.proofs.Common.{◌≡◌, ℕ, ◌≤◌, Bool, true, false, List, [], ◌∷◌, ◌++◌, length, refl, sym, ap, ◌∙◌, subst, arith}
use Rattle.std.specs.Prelude.{nat_lt, if◌then◌else◌}
use Rattle.std.proofs.lemmas.Bool.Decides.{nat_tests}
use Rattle.si_words.specs.declared.views.Entry.{Entry}
use Rattle.si_words.specs.declared.views.ShardView.{ShardView}
use Rattle.si_words.specs.declared.views.PassView.{PassView}
use Rattle.si_words.specs.declared.views.View.{View}
use Rattle.si_words.specs.Entries.{IsBeginning, longer}
use Rattle.si_words.specs.Views.{pass_view, shard_and_pass}
use Rattle.si_words.specs.Seats.{first_pass, pass_in}
use Rattle.si_words.specs.Steps.{SeatView, Fitted, learned}
use Rattle.si_words.proofs.Lists.{begins_itself}

pub shorter_begins : (xs ys whole : List Entry) → IsBeginning xs whole → IsBeginning ys whole → length xs ≤ length ys → IsBeginning xs ys
shorter_begins [] ys whole b c h = (ys, refl)
shorter_begins (x ∷ xs) [] whole b c h = absurd (omega arith)
shorter_begins (x ∷ xs) (y ∷ ys) [] b c h = absurd (let e = b.1 in cc)
shorter_begins (x ∷ xs) (y ∷ ys) (z ∷ zs) b c h =
    let one : zs ≡ xs ++ b.0 = (let e = b.1 in cc) in
    let two : zs ≡ ys ++ c.0 = (let e = c.1 in cc) in
    let same : x ≡ y = (let e = b.1 in let f = c.1 in cc) in
    let rest = shorter_begins xs ys zs (b.0, one) (c.0, two) (omega arith) in
    (rest.0, λ i. sym same i ∷ rest.1 i)

module _ (xs ys whole : List Entry) (b : IsBeginning xs whole) (c : IsBeginning ys whole) where
  first_begins : (t : Bool) → nat_lt (length xs) (length ys) ≡ t → IsBeginning xs (if t then ys else xs)
  first_begins true e = shorter_begins xs ys whole b c (grind (arith, nat_tests))
  first_begins false e = begins_itself xs

  second_begins : (t : Bool) → nat_lt (length xs) (length ys) ≡ t → IsBeginning ys (if t then ys else xs)
  second_begins true e = begins_itself ys
  second_begins false e = shorter_begins ys xs whole c b (grind (arith, nat_tests))

  pub both_begin : IsBeginning xs (longer xs ys) × IsBeginning ys (longer xs ys)
  both_begin = (first_begins (nat_lt (length xs) (length ys)) refl, second_begins (nat_lt (length xs) (length ys)) refl)

-- what a pass has seen, and what a shard is due, both begin what the pass has seen after it learned
pub learned_begins : (s : ShardView) (p : PassView) (before after : SeatView) (views : List View) (i n : ℕ) → before ≡ (shard_and_pass s p, []) → Fitted before.0 i n
    → after ≡ (learned n before.0, before.1) → views ≡ pass_view (pass_in after.0) ∷ []
    → IsBeginning p.seen (first_pass views).seen × IsBeginning s.due (first_pass views).seen
learned_begins s p before after views i n is f step left =
    let m : Fitted (shard_and_pass s p) i n = subst (λ (x : SeatView). Fitted x.0 i n) is f in
    let seen : (first_pass views).seen ≡ longer p.seen s.due =
    ap (λ (l : List View). (first_pass l).seen) left ∙ ap (λ (x : SeatView). (pass_in x.0).seen) step ∙ ap (λ (x : SeatView). (pass_in (learned n x.0)).seen) is
    in
    let both = both_begin p.seen s.due m.journal m.fits.pass.seen m.fits.shard.due in
    subst (λ (l : List Entry). IsBeginning p.seen l × IsBeginning s.due l) (sym seen) both
