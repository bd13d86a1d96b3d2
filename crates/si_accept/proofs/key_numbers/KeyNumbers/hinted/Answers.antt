use Rattle.std.proofs.Common.{◌≡◌, ◌∙◌, ◌<◌, length, ap, sym, subst, arith}
use Rattle.std.specs.List.{IsDistinct}
use Rattle.std.proofs.lemmas.Bool.Decides.{nat_tests}
use Rattle.si_model.specs.Operations.{same_key}
use Rattle.si_accept.proofs.KeyPlaces.{number_found}
use Rattle.si_accept.proofs.key_numbers.KeyNumbers.hinted.Goals as goal

pub returns-in-Some : goal.returns-in-Some
returns-in-Some c =
    let keys = c.as_slice.result.now in
    let found = c.in-Some.ensures.lookup in
    let inside : c.place-number.result < length keys = grind (arith, nat_tests) in
    let is = c.as_slice.ensures.keys ∙ c.self.view_is in
    subst (λ ks. Rattle.si_accept.specs.KeyNumbers.number_of ks c.args.key.now ≡ Rattle.std.proofs.Common.Some c.place-number.result) is
    (number_found keys c.args.key.now c.in-Some.there.now _ c.place-number.result (subst (IsDistinct same_key) (sym c.as_slice.ensures.keys) c.as_slice.ensures.unique) inside found.1 (sym c.eq.ensures ∙ c.if-eq.true))
