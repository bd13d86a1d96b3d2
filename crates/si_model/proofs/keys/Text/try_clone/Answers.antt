-- A copy of a short text has the same bytes and the same hash.
use Rattle.std.proofs.Common.{ap, subst, sym, ◌∙◌}
use Rattle.si_model.specs.Keys.{IsWhole, text_bytes}
use Rattle.si_model.proofs.keys.Text.try_clone.Goals as goal

pub returns-in-Short : goal.returns-in-Short
returns-in-Short c = λ xs t. record {
  bytes = sym (ap text_bytes c.in-Short.is) ∙ t.bytes;
  hash = c.hash-hash.ensures ∙ t.hash;
  whole = subst IsWhole c.in-Short.is t.whole;
}
