-- Counts of answers add up.
use Rattle.std.proofs.Common.{◌≡◌, ◌∙◌, ℕ, zero, suc, ◌+◌, ap, arith}
use Rattle.si_judge.specs.Judges.{one_more}
use Rattle.si_judge.specs.Mending.{RisesBy, risen}

pub risen_more : (n j k : ℕ) → risen (risen n j) k ≡ risen n (j + k)
risen_more n j zero = ap (risen n) (let e : j ≡ j + 0 = omega arith in e)
risen_more n j (suc k) = ap one_more (risen_more n j k) ∙ ap (risen n) (let e : suc (j + k) ≡ j + suc k = omega arith in e)

pub rises_on : (a b x y z : ℕ) → RisesBy a x y → RisesBy b y z → RisesBy (a + b) x z
rises_on a b x y z r s = (r.0 + s.0, (let h = r.1 in let l = s.1 in omega (arith, h, l)), s.2 ∙ ap (λ n. risen n s.0) r.2 ∙ risen_more x r.0 s.0)

pub rises : (x k y : ℕ) → y ≡ risen x k → RisesBy k x y
rises x k y e = (k, omega arith, e)
