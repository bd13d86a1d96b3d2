use Rattle.std.proofs.Common.{◌≡◌, All, Result, Ok, Err, Option, Some, IfOk, sym, ◌∙◌, subst}
use Rattle.std.proofs.lemmas.List.Elements.{All-pop}
use Rattle.std.specs.Result.{result_ok}
use Rattle.si_words.specs.Seats.{new_passes}
use Rattle.embedded_checker.proofs.Passes.{IsOf, of_table}
use Rattle.embedded_checker.proofs.opened.Goals as goal

-- what `.ok()?` took of an answer is what the answer promises
taken : {A E : Type 0} (r : Result A E) (v : A) (P : A → Type 0) → result_ok r ≡ Some v → IfOk r P → P v
taken (Ok a) v P e p =
    let same : a ≡ v = cc in
    subst P same p
taken (Err x) v P e p = cc

pub shared-requires-clause-own : goal.shared-requires-clause-own
shared-requires-clause-own g c κs within =
    let board = c.in_ok-parts.parts.board in
    let opened = taken c.open.result (c.in_ok-parts.parts, c.in_ok-parts.all) (λ o. o.1.items ≡ new_passes o.0.board.table 4 3) (sym c.ok-2.ensures.value ∙ c.in_ok-parts.was) c.open.ensures.seats in
    let own = subst (All (IsOf board)) (sym opened) (of_table board 4 3) in
    let first = All-pop (IsOf board) c.in_ok-parts.all.items c.pop.new.self.items (Some c.in_ok-pop.field-0) c.in_ok-pop.ensures.items own in
    let second = All-pop (IsOf board) c.pop.new.self.items c.pop-2.new.self.items (Some c.in_ok-pop-2.field-0) c.in_ok-pop-2.ensures.items first.0 in
    let third = All-pop (IsOf board) c.pop-2.new.self.items c.pop-3.new.self.items (Some c.in_ok-pop-3.field-0) c.in_ok-pop-3.ensures.items second.0 in
    (first.1, second.1, third.1)
