use Rattle.std.proofs.Common.{◌≡◌, ℕ, List, sym, ◌∙◌, subst}
use Rattle.std.specs.List.{count_by}
use Rattle.si_model.specs.Chances.{own_on, aborted_on, intermediate_on, future_on, stale_on, overlap_on}
use Rattle.si_chances.specs.OnKeys.{on, installed_in}
use Rattle.si_chances.proofs.EachKind.{own_is, aborted_is, intermediate_is, future_is, stale_is, overlap_is, places_made}
use Rattle.si_chances.proofs.on_keys.places_on.Goals as goal

pub returns : goal.returns
returns c =
    let parts = c.args.parts.now in
    let own : c.in_ok-own_reads.field-0 ≡ own_on (on parts) = c.in_ok-own_reads.ensures ∙ sym (own_is parts) in
    let aborted : c.aborted_before.result ≡ aborted_on (on parts) = c.aborted_before.ensures ∙ sym (aborted_is parts c.last_reader.result c.last_reader.ensures) in
    let intermediate : c.in_ok-reads_beside.field-0 ≡ intermediate_on (on parts) = c.in_ok-reads_beside.ensures ∙ sym (intermediate_is parts) in
    let future : c.in_ok-reads_beside-2.field-0 ≡ future_on (on parts) = c.in_ok-reads_beside-2.ensures ∙ sym (future_is parts) in
    let values = c.in_ok-returned.field-0.items in
    let stale : c.installed_among.result ≡ stale_on (on parts) =
    c.installed_among.ensures ∙ subst (λ (vs : List ℕ). count_by (installed_in vs) parts ≡ stale_on (on parts)) (sym c.deref.ensures.value) (sym (stale_is parts values c.requires c.in_ok-returned.ensures.values)) in
    let overlap : c.aborted_before-2.result ≡ overlap_on (on parts) = c.aborted_before-2.ensures ∙ sym (overlap_is parts c.last_installer.result c.last_installer.ensures) in
    places_made (on parts) _ _ _ _ _ _ own aborted intermediate future stale overlap
