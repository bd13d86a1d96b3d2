use Rattle.std.proofs.Common.{◌≡◌, ℕ, List, map}
use Rattle.std.specs.List.{flat_map}
use Rattle.si_model.specs.declared.parts.OnKey.{OnKey}
use Rattle.si_shard.specs.KeyStates.{AreOn, findings_at}
use Rattle.si_shard.proofs.key_states.KeyStates.findings.Given as goal

abbrev pub invariant-loop-key : goal.invariant-loop-key
invariant-loop-key l = (on : List ℕ → OnKey) → AreOn l.self on → l.all.items ≡ flat_map (findings_at on) (map (λ key. key.now) l.yielded)
