use Rattle.std.proofs.Common.{◌≡◌, get_or, refl, sym, ◌∙◌, arith}
use Rattle.std.proofs.lemmas.Bool.{true≢false, eq-eqb}
use Rattle.si_text.proofs.UsualBytes.{number_taken}
use Rattle.si_text.proofs.usual_bytes.Rest.number.Goals as goal
use Rattle.si_text.proofs.usual_bytes.Rest.number.Goals.{then-count-gt1, else-count-gt1}

pub returns : goal.returns
returns c =
    let count = c.digits-number.result.1 in
    let bytes = c.self.inside.bytes.now in
    let lead : get_or bytes 0 0 ≡ 48 → count ≡ 1 = λ zero. elim c.if-count-gt1.branch [
      | then-count-gt1 w ↦ absurd (true≢false (sym (eq-eqb _ _ zero) ∙ sym w.value-is ∙ c.if-self-eq48.false))
      | else-count-gt1 w ↦ omega arith
    ] in
    number_taken c.digits-number.result.0 count bytes c.args.self.now c.pass.new.self c.self.view_is c.digits-number.ensures.digits (omega arith) c.digits-number.ensures.few c.digits-number.ensures.within lead c.pass.ensures
    (c.if-not-ends_value.ensures refl)
