-- An evidence that holds is of a phenomenon that is there, or of what no stamps mend.
use Rattle.std.proofs.Common.{◌≡◌, [], refl}
use Rattle.si_model.specs.declared.transactions.Status.{Status}
use Rattle.si_model.specs.declared.transactions.Status.TheVariants as status
use Rattle.si_model.specs.declared.transactions.Txn.{Txn}
use Rattle.si_model.specs.declared.evidence.Evidence.{Evidence}
use Rattle.si_model.specs.declared.evidence.Evidence.TheVariants as evidence
use Rattle.si_model.specs.Parts.{Present}
use Rattle.si_model.specs.Findings.{findings}
use Rattle.si_model.specs.Form.{IsWellFormed}
use Rattle.si_model.specs.History.{IsHistory}
use Rattle.si_graph.specs.Phenomena.{IsPlSi}
use Rattle.si_graph.specs.Unstamped.{IsSameOutcome, IsRestamped, HasOtherStamps}
use Rattle.si_graph.specs.Laws.{ModelLaws, ShownIsThere, NothingIsShown}
use Rattle.si_graph.proofs.Phenomena.{phenomenon_is_there}
use Rattle.si_graph.proofs.Emptiness.{empty_both}
use Rattle.si_graph.proofs.UnstampedFindings.{no_stamps_mend_fork, no_stamps_mend_knot}

pub shown_is_there : ModelLaws → ShownIsThere
shown_is_there laws P (evidence.AbortedRead t i w) h s = phenomenon_is_there P (evidence.AbortedRead t i w) h tt s
shown_is_there laws P (evidence.IntermediateRead t i w) h s = phenomenon_is_there P (evidence.IntermediateRead t i w) h tt s
shown_is_there laws P (evidence.Interference e) h s = phenomenon_is_there P (evidence.Interference e) h tt s
shown_is_there laws P (evidence.Missed es) h s = phenomenon_is_there P (evidence.Missed es) h tt s
shown_is_there laws P (evidence.Fork x a b) h s = λ Q other g none. no_stamps_mend_fork laws P Q x a b s other g none
shown_is_there laws P (evidence.Knot es) h s = λ Q other g none. no_stamps_mend_knot laws P Q es s other g none

-- with its own stamps a history differs from itself in none
same_stamps : (P : Present) → HasOtherStamps P P
same_stamps P = record { initial = refl; kept = λ T at. (T, at, unchanged T); alone = λ T at. (T, at, unchanged T) }
  where
    same : (s : Status) → IsSameOutcome s s
    same (status.Committed c) = tt
    same status.Aborted = tt
    same status.InDoubt = tt

    unchanged : (T : Txn) → IsRestamped T T
    unchanged T = record { id = refl; ops = refl; outcome = same T.status }

-- a well-formed history of snapshot isolation has no finding
no_finding : ModelLaws → (P : Present) → IsHistory P → IsPlSi P → IsWellFormed P → findings P ≡ []
no_finding laws P h none form = (empty_both laws P h).1 (form, none)

pub nothing_is_shown : ModelLaws → NothingIsShown
nothing_is_shown laws P (evidence.AbortedRead t i w) h none form s = none.aborted_reads (shown_is_there laws P (evidence.AbortedRead t i w) h s)
nothing_is_shown laws P (evidence.IntermediateRead t i w) h none form s = none.intermediate_reads (shown_is_there laws P (evidence.IntermediateRead t i w) h s)
nothing_is_shown laws P (evidence.Interference e) h none form s = none.interference (shown_is_there laws P (evidence.Interference e) h s)
nothing_is_shown laws P (evidence.Missed es) h none form s = none.missed_effects (shown_is_there laws P (evidence.Missed es) h s)
nothing_is_shown laws P (evidence.Fork x a b) h none form s = shown_is_there laws P (evidence.Fork x a b) h s P (same_stamps P) h (no_finding laws P h none form)
nothing_is_shown laws P (evidence.Knot es) h none form s = shown_is_there laws P (evidence.Knot es) h s P (same_stamps P) h (no_finding laws P h none form)
