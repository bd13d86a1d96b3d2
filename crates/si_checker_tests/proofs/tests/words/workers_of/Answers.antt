use Rattle.std.proofs.Common.{◌≡◌, Some}
use Rattle.std.proofs.lemmas.List.Elements.{All-pop}
use Rattle.si_words.specs.declared.seats.ShardSeat.{ShardSeat}
use Rattle.si_checker_tests.specs.declared.tests.words.Worker.{Worker}
use Rattle.si_checker_tests.proofs.Pushed.{All-pushed}
use Rattle.si_checker_tests.proofs.tests.words.workers_of.Goals as goal

pub invariant_of-worker : goal.invariant_of-worker
invariant_of-worker g c =
    let popped = All-pop (λ (s : ShardSeat). (s.table ≡ c.args.words.now.table) × (s.view.done ≡ 0)) _ _ (Some c.in-Some.seat) c.in-Some.ensures.items c.loop.invariant.0 in
    record { applied = popped.1.1 }

pub loop-preserved : goal.loop-preserved
loop-preserved g c =
    let popped = All-pop (λ (s : ShardSeat). (s.table ≡ c.args.words.now.table) × (s.view.done ≡ 0)) _ _ (Some c.in-Some.seat) c.in-Some.ensures.items c.loop.invariant.0 in
    (popped.0, All-pushed (λ (w : Worker). w.seat.table ≡ c.args.words.now.table) c.loop.workers.items c.push.new.self.items _ _ c.push.ensures.items c.loop.invariant.1 popped.1.0)
