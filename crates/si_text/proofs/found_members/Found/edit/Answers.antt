use Rattle.std.proofs.Common.{Some, ap, ◌∙◌}
use Rattle.si_text.proofs.FoundMembers.{arrival_means, resolution_means, withdrawal_means, set_up_means}
use Rattle.si_text.proofs.found_members.Found.edit.Goals as goal

pub returns-in_ok-ops-in-Arrive : goal.returns-in_ok-ops-in-Arrive
returns-in_ok-ops-in-Arrive c =
    arrival_means c.args.self c.in_ok-status-in-Arrive.field-0
    (record { id = record { 0 = c.in_ok-id-in-Arrive.field-0 }; start = record { 0 = c.in_ok-start-in-Arrive.field-0 }; status = c.in_ok-with-in-Arrive.field-0; ops = c.in_ok-ops-in-Arrive.field-0 })
    (c.in_ok-kind.was ∙ ap Some c.in-Arrive.is) c.in_ok-id-in-Arrive.was c.in_ok-start-in-Arrive.was c.in_ok-status-in-Arrive.was c.in_ok-with-in-Arrive.ensures c.in_ok-ops-in-Arrive.was

pub returns-in_ok-outcome-in-Resolve : goal.returns-in_ok-outcome-in-Resolve
returns-in_ok-outcome-in-Resolve c =
    resolution_means c.args.self c.in_ok-status-in-Resolve.field-0 (record { 0 = c.in_ok-id-in-Resolve.field-0 }) c.in_ok-outcome-in-Resolve.field-0
    (c.in_ok-kind.was ∙ ap Some c.in-Resolve.is) c.in_ok-id-in-Resolve.was c.in_ok-status-in-Resolve.was c.in_ok-outcome-in-Resolve.ensures

pub returns-in_ok-id-in-Withdraw : goal.returns-in_ok-id-in-Withdraw
returns-in_ok-id-in-Withdraw c = withdrawal_means c.args.self (record { 0 = c.in_ok-id-in-Withdraw.field-0 }) (c.in_ok-kind.was ∙ ap Some c.in-Withdraw.is) c.in_ok-id-in-Withdraw.was

pub returns-in_ok-value-in-SetUp : goal.returns-in_ok-value-in-SetUp
returns-in_ok-value-in-SetUp c =
    set_up_means c.args.self c.in_ok-key-in-SetUp.field-0 (record { 0 = c.in_ok-value-in-SetUp.field-0 }) (c.in_ok-kind.was ∙ ap Some c.in-SetUp.is) c.in_ok-key-in-SetUp.was c.in_ok-value-in-SetUp.was
