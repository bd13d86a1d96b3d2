use Rattle.std.proofs.Common.{get_or, ap, ◌∙◌, arith}
use Rattle.si_text.proofs.UsualBytes.{behind_first, plain_more, key_taken}
use Rattle.si_text.proofs.usual_bytes.Rest.long_key.Goals as goal

pub bytes-preserved : goal.bytes-preserved
bytes-preserved c = record { plain = plain_more (behind_first c.self.inside.bytes.now) c.bytes.count (omega arith) c.bytes.invariant.plain (c.is_plain.ensures c.if-is_plain.true); within = omega arith }

pub returns-clause-text : goal.returns-clause-text
returns-clause-text c =
    key_taken c.bytes.count c.in-Ok-key.key c.self.inside.bytes.now c.args.self.now c.pass.new.self c.self.view_is (c.in-Ok-key.ensures.key ∙ c.in-Ok.ensures.cases.0) (omega arith) (ap (λ l. get_or l 0 0) c.self.view_is ∙ c.requires.quote) c.bytes.invariant.plain (omega arith)
    c.if-text-count-ne34.false c.pass.ensures
