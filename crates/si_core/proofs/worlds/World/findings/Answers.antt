use Rattle.std.proofs.Common.{◌≡◌, ◌∙◌, ◌<◌, ◌≤◌, Some, length, false, sym, ap, subst}
use Rattle.std.specs.List.{Contains}
use Rattle.si_model.specs.Findings.{findings}
use Rattle.si_model.specs.Journals.{IsAccepted, present}
use Rattle.si_model.proofs.PresentHistories.{present_history}
use Rattle.si_shard.specs.declared.journal_shards.JournalShard.{JournalShard}
use Rattle.si_core.specs.Machine.{IsLeastPosition, IsLeastSpoiled, IsSettled, Machine}
use Rattle.si_core.specs.Worlds.{AllFollow, AreFoundOf, IsFirstSpoiled, IsLeastOf}
use Rattle.si_core.proofs.Settled.{all_follow, found_of_journal, is_settled, least_spoiled, least_unsettled}
use Rattle.si_core.proofs.worlds.World.findings.Goals as goal

pub returns-in-Some-clause-fault : goal.returns-in-Some-clause-fault
returns-in-Some-clause-fault c =
    let book = c.self.inside.book in
    let first = subst (λ l. IsFirstSpoiled l (Some c.in-Some.shard)) c.as_slice.ensures.value c.in-Some.ensures in
    subst (λ M. IsLeastSpoiled M c.in-Some.shard) c.self.view_is (least_spoiled book c.self.inside.shards.items c.in-Some.shard first)

pub returns-then-position-journal-clause-fault : goal.returns-then-position-journal-clause-fault
returns-then-position-journal-clause-fault c =
    let n = c.least_position-position.result in
    let whole = subst (λ l. (s : JournalShard) → Contains l s → s.spoiled ≡ false) c.as_slice.ensures.value c.in_default.ensures in
    let least = subst (λ l. IsLeastOf l n) c.as_slice-2.ensures.value c.least_position-position.ensures in
    let left = subst (λ J. n < length J) c.journal-journal.ensures.journal c.if-position-journal.true in
    subst (λ M. IsLeastPosition M n) c.self.view_is (least_unsettled c.self.inside.book c.self.inside.shards.items n whole least left)

pub findings_of-requires-clause-some : goal.findings_of-requires-clause-some
findings_of-requires-clause-some c = subst (λ l. 1 ≤ length l) (sym c.as_slice-3.ensures.value) c.self.invariant.some

pub findings_of-requires-clause-whole : goal.findings_of-requires-clause-whole
findings_of-requires-clause-whole c = λ s at. c.in_default.ensures s (subst (λ l. Contains l s) (c.as_slice-3.ensures.value ∙ sym c.as_slice.ensures.value) at)

pub findings_of-requires-clause-follow : goal.findings_of-requires-clause-follow
findings_of-requires-clause-follow c =
    let book = c.self.inside.book in
    (book.journal, c.journal-journal.ensures.accepted, subst (AllFollow book.journal) (sym c.as_slice-3.ensures.value) (all_follow book c.self.inside.shards.items c.self.invariant))

pub returns-in_default-findings_of-clause-fault : goal.returns-in_default-findings_of-clause-fault
returns-in_default-findings_of-clause-fault c =
    let n = c.least_position-position.result in
    let whole = subst (λ l. (s : JournalShard) → Contains l s → s.spoiled ≡ false) c.as_slice.ensures.value c.in_default.ensures in
    let least = subst (λ l. IsLeastOf l n) c.as_slice-2.ensures.value c.least_position-position.ensures in
    let all = subst (λ J. length J ≤ n) c.journal-journal.ensures.journal c.if-position-journal.false in
    subst IsSettled c.self.view_is (is_settled c.self.inside.book c.self.inside.shards.items c.self.invariant n least all whole)

found_is : (c : goal.After-snapshots_are_clean) → c.in-Ok.found.items ≡ findings (present c.args.self.now.journal)
found_is c =
    let n = c.least_position-position.result in
    let book = c.self.inside.book in
    let shards = c.self.inside.shards.items in
    let least = subst (λ l. IsLeastOf l n) c.as_slice-2.ensures.value c.least_position-position.ensures in
    let all = subst (λ J. length J ≤ n) c.journal-journal.ensures.journal c.if-position-journal.false in
    let P = present book.journal in
    c.in-Ok.ensures book.journal P c.journal-journal.ensures.accepted (subst (AllFollow book.journal) (sym c.as_slice-3.ensures.value) (all_follow book shards c.self.invariant))
    (present_history book.journal c.journal-journal.ensures.accepted)
    (subst (AreFoundOf book.journal P) (sym c.as_slice-3.ensures.value) (found_of_journal book shards c.self.invariant n least all))
    ∙ ap (λ (M : Machine). findings (present M.journal)) c.self.view_is

pub returns-clause-found : goal.returns-clause-found
returns-clause-found c = found_is c

pub returns-clause-empty : goal.returns-clause-empty
returns-clause-empty c =
    let accepted = subst (λ (M : Machine). IsAccepted M.journal) c.self.view_is c.journal-journal.ensures.accepted in
    let exact = c.emptiness_is_exact.ensures (present c.args.self.now.journal) (present_history c.args.self.now.journal accepted) in
    ((λ e. exact.0 (sym (found_is c) ∙ e)), (λ w. found_is c ∙ exact.1 w))

pub returns-clause-snapshot : goal.returns-clause-snapshot
returns-clause-snapshot c =
    let accepted = subst (λ (M : Machine). IsAccepted M.journal) c.self.view_is c.journal-journal.ensures.accepted in
    let exact = c.snapshots_are_clean.ensures (present c.args.self.now.journal) (present_history c.args.self.now.journal accepted) in
    ((λ e. exact.0 (sym (found_is c) ∙ e)), (λ w. found_is c ∙ exact.1 w))

pub returns-clause-settled : goal.returns-clause-settled
returns-clause-settled c =
    let n = c.least_position-position.result in
    let whole = subst (λ l. (s : JournalShard) → Contains l s → s.spoiled ≡ false) c.as_slice.ensures.value c.in_default.ensures in
    let least = subst (λ l. IsLeastOf l n) c.as_slice-2.ensures.value c.least_position-position.ensures in
    let all = subst (λ J. length J ≤ n) c.journal-journal.ensures.journal c.if-position-journal.false in
    subst IsSettled c.self.view_is (is_settled c.self.inside.book c.self.inside.shards.items c.self.invariant n least all whole)
