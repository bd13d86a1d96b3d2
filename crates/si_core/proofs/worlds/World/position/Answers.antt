use Rattle.std.proofs.Common.{rules, ◌≡◌, ◌∙◌, ◌<◌, ◌≤◌, ℕ, List, length, map, sym, ap, Some, Option, option_map, slice_get}
use Rattle.std.proofs.lemmas.Option.{slice_get-get_or, slice_get-map, slice_get_past}
use Rattle.si_shard.specs.declared.journal_shards.JournalShard.{JournalShard}
use Rattle.si_core.specs.Machine.{Machine, Progress}
use Rattle.si_core.specs.Worlds.{progress_of}
use Rattle.si_core.proofs.worlds.World.position.Goals as goal

-- what is told of a shard of a machine, by what is found in the list of its shards
told : (M : Machine) (shards : List JournalShard) (k : ℕ) (s : Option JournalShard) → M.shards ≡ map progress_of shards → slice_get shards k ≡ s
    → option_map (λ (p : Progress). p.position) (slice_get M.shards k) ≡ option_map (λ (p : Progress). p.position) (option_map progress_of s)
told M shards k s is at = ap (option_map (λ (p : Progress). p.position)) (ap (λ l. slice_get l k) is ∙ slice_get-map progress_of shards k ∙ ap (option_map progress_of) at)

pub returns-in-Some : goal.returns-in-Some
returns-in-Some c =
    let shards = c.deref.result.now in
    let k = c.args.shard in
    let s = c.in-Some.shard.now in
    let within : k < length shards = search rules in
    let at = slice_get-get_or shards k s within ∙ ap Some (sym c.in-Some.ensures.lookup.1) in
    let is = ap (λ (M : Machine). M.shards) (sym c.self.view_is) ∙ ap (map progress_of) (sym c.deref.ensures.value) in
    ap Some c.position.ensures ∙ sym (told c.args.self.now shards k (Some s) is at)

pub returns-in-None : goal.returns-in-None
returns-in-None c =
    let shards = c.deref.result.now in
    let k = c.args.shard in
    let beyond : length shards ≤ k = search rules in
    let is = ap (λ (M : Machine). M.shards) (sym c.self.view_is) ∙ ap (map progress_of) (sym c.deref.ensures.value) in
    sym (told c.args.self.now shards k _ is (slice_get_past shards k beyond))
