use Rattle.std.proofs.Common.{◌≡◌, false, ◌&&◌, not, ap, sym}
use Rattle.si_model.specs.declared.parts.Placed.{Placed}
use Rattle.si_model.specs.declared.parts.Part.{Part}
use Rattle.si_model.specs.Chances.{is_committed, is_own_read, is_free_read, is_read_access, wrote_before}
use Rattle.si_chances.proofs.Walking.{count_none}
use Rattle.si_chances.proofs.summaries.summary_of.Goals as goal

not_own : (T : Part) (a : Placed) → is_committed T.status ≡ false → is_own_read T a ≡ false
not_own T a e = ap (λ b. b && (is_read_access a.access && wrote_before T a.place)) e

not_free : (T : Part) (a : Placed) → is_committed T.status ≡ false → is_free_read T a ≡ false
not_free T a e = ap (λ b. b && (is_read_access a.access && not (wrote_before T a.place))) e

pub returns-then-not-is_committed-clause-own : goal.returns-then-not-is_committed-clause-own
returns-then-not-is_committed-clause-own c =
    let T = c.args.part.now in
    let no : is_committed T.status ≡ false = sym (c.if-not-is_committed.ensures) in
    sym (count_none (is_own_read T) T.accesses (λ a. not_own T a no))

pub returns-then-not-is_committed-clause-free : goal.returns-then-not-is_committed-clause-free
returns-then-not-is_committed-clause-free c =
    let T = c.args.part.now in
    let no : is_committed T.status ≡ false = sym (c.if-not-is_committed.ensures) in
    sym (count_none (is_free_read T) T.accesses (λ a. not_free T a no))
