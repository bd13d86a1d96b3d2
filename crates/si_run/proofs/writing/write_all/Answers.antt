use Rattle.std.proofs.Common.{◌≡◌, ◌++◌, ◌||◌, Bool, true, false, refl, take, drop, sym, ap, ◌∙◌, append_assoc, take-append-drop}
use Rattle.std.proofs.KnownBytes.{Appends-trans}
use Rattle.si_run.proofs.writing.write_all.Goals as goal

or_false : (b : Bool) → (b || false) ≡ b
or_false true = refl
or_false false = refl

-- what was taken joins what was taken before
pub loop-rest-preserved : goal.loop-rest-preserved
loop-rest-preserved g c =
    let seen = g.W.ByteSink.seen in
    let before = c.loop-rest.invariant.0 in
    let rest = c.loop-rest.rest.now in
    let taken = take c.in_ok-count.count rest in
    let left = drop c.in_ok-count.count rest in (
      (
        before.0 ++ taken,
        before.1 ∙ ap (λ l. before.0 ++ l) (sym (take-append-drop c.in_ok-count.count rest)) ∙ sym (append_assoc before.0 taken left) ∙ ap (λ l. (before.0 ++ taken) ++ l) (sym c.split_at.ensures.back),
        Appends-trans (seen c.args.writer.now).written (seen c.loop-rest.writer).written (seen c.write.new.self).written before.0 taken before.2 c.in_ok-count.ensures.bytes,
      ),
      c.in_ok-count.ensures.failed ∙ or_false (seen c.loop-rest.writer).failed ∙ c.loop-rest.invariant.1,
    )
