use Rattle.std.proofs.Common.{◌≡◌, ◌∙◌, List, [], ◌∷◌, ◌++◌, ap, map, sym}
use Rattle.std.specs.List.{flat_map}
use Rattle.std.proofs.lemmas.Grind.{flat_map-append}
use Rattle.std.proofs.lemmas.List.{append-nil, map-append}
use Rattle.std.proofs.lemmas.List.Concat.{flat_map-cons}
use Rattle.si_shard.specs.KeyStates.{findings_at}
use Rattle.si_shard.proofs.key_states.KeyStates.findings.Goals as goal

one_more : {X Y A : Type 0} (f : Y → List A) (g : X → Y) (xs : List X) (x : X) → flat_map f (map g (xs ++ x ∷ [])) ≡ flat_map f (map g xs) ++ f (g x)
one_more f g xs x =
    let last : flat_map f (g x ∷ []) ≡ f (g x) = flat_map-cons f (g x) [] ∙ append-nil (f (g x)) in
    ap (flat_map f) (map-append g xs (x ∷ [])) ∙ flat_map-append f (map g xs) (g x ∷ []) ∙ ap (λ l. flat_map f (map g xs) ++ l) last

pub loop-key-preserved : goal.loop-key-preserved
loop-key-preserved c = λ on are.
    let x = c.in-Some.key.now in
    let told = c.in_ok-add_findings.ensures (on x) (are x) in
    told ∙ ap (λ l. l ++ findings_at on x) (c.loop-key.invariant on are) ∙ sym (one_more (findings_at on) (λ key. key.now) c.loop-key.yielded c.in-Some.key)
