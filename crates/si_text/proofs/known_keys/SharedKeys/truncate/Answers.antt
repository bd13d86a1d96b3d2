use Rattle.std.proofs.Common.{ap, ◌∙◌, sym, take}
use Rattle.std.proofs.lemmas.List.{take-map}
use Rattle.std.specs.Map.{values_of}
use Rattle.si_text.proofs.known_keys.SharedKeys.truncate.Goals as goal

pub returns : goal.returns
returns c = ap values_of c.truncate.ensures.entries ∙ sym (take-map _ c.args.len c.self.inside.known.entries) ∙ ap (take c.args.len) c.self.view_is
