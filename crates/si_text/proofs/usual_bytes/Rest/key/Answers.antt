use Rattle.std.proofs.Common.{ℕ, get_or, length-set, refl, sym, ap, subst, ◌∙◌, arith}
use Rattle.std.specs.Str.{IsUtf8}
use Rattle.si_model.specs.KeyTexts.{shard_hash_with}
use Rattle.si_text.proofs.UsualBytes.{behind_first, plain_more, plain_utf8, hash_none, hash_more, copied_more, key_taken}
use Rattle.si_text.proofs.usual_bytes.Rest.key.Goals as goal

pub bytes-init : goal.bytes-init
bytes-init c = record { plain = tt; copied = refl; hash = sym hash_none; room = refl; few = omega arith; within = omega arith }

pub bytes-preserved : goal.bytes-preserved
bytes-preserved c =
    let text = behind_first c.self.inside.bytes.now in
    let count = c.bytes.count in
    record {
      plain = plain_more text count c.if-count-text.true c.bytes.invariant.plain (c.is_plain.ensures c.if-not-is_plain.false);
      copied = copied_more c.bytes.bytes text count (omega arith) c.if-count-text.true c.bytes.invariant.copied;
      hash = c.hash_with-hash.ensures ∙ ap (λ h. shard_hash_with h (get_or text count 0)) c.bytes.invariant.hash ∙ sym (hash_more text count c.if-count-text.true);
      room = omega (arith, length-set {A = ℕ});
      few = omega arith;
      within = omega arith;
    }

pub of_short-requires-clause-text : goal.of_short-requires-clause-text
of_short-requires-clause-text c = subst IsUtf8 (sym c.bytes.invariant.copied) (plain_utf8 _ c.bytes.invariant.plain)

pub returns-clause-text : goal.returns-clause-text
returns-clause-text c =
    key_taken c.bytes.count c.of_short.result c.self.inside.bytes.now c.args.self.now c.pass.new.self c.self.view_is (c.of_short.ensures ∙ c.bytes.invariant.copied) (omega arith) c.if-self-ne34.false
    c.bytes.invariant.plain (omega arith) c.if-text-count-ne34.false c.pass.ensures
