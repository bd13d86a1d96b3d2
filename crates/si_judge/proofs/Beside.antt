-- What is on a key, whose transactions stand beside its findings.
use Rattle.std.proofs.Common.{◌≡◌, ◌∙◌, inr, ℕ, Bool, List, false, refl, sym, ap, subst}
use Rattle.std.specs.List.{Contains}
use Rattle.si_model.specs.declared.numbers.TxnId.{TxnId}
use Rattle.si_model.specs.declared.parts.Part.{Part}
use Rattle.si_model.specs.declared.parts.OnKey.{OnKey}
use Rattle.si_model.specs.Findings.{Rules}
use Rattle.si_model.specs.History.{IsOfHistory}
use Rattle.si_model.proofs.Histories.{one_part}
use Rattle.si_model.specs.declared.transactions.Outcome.{Outcome}
use Rattle.si_model.specs.Edits.{status_after}
use Rattle.si_model.specs.KeyEdits.{arrived_on, resolved_on}
use Rattle.si_judge.specs.KeyParts.{AreNamedApart, IsLeftBy}
use Rattle.si_judge.specs.Indexes.{Joins}
use Rattle.si_judge.specs.Kept.{IsInDoubt, IsShown, Kept, Shows}
use Rattle.si_judge.proofs.Asked.{push_history, push_joins, resolution_joins, same_joined}
use Rattle.si_judge.specs.States.{AreSameOnKey, HasDoubt, IsMended, present_of}
use Rattle.si_model.specs.Laws.{HaveSame}
use Rattle.si_judge.proofs.Coming.{history_within}

-- what is shown is what stands beside, where the transactions are those
pub beside_is : (J : Rules) (R : OnKey) (s : Kept) (parts : List Part) → Shows J R s → parts ≡ R.parts → R ≡ present_of s parts
beside_is J R s parts shows e = λ i. record { initial = sym shows.indexes.initial i; parts = sym e i }

pub shows_beside : (J : Rules) (R : OnKey) (s : Kept) (parts : List Part) → Shows J R s → parts ≡ R.parts → Shows J (present_of s parts) s
shows_beside J R s parts shows e = subst (λ Q. Shows J Q s) (beside_is J R s parts shows e) shows

pub mended_beside : (J : Rules) (Touched : OnKey → TxnId × ℕ → Type 0) (asked Q R : OnKey) (old new : Kept) (parts : List Part) (b : Bool) → IsShown J (Touched R) R old new
    → AreSameOnKey asked R → parts ≡ R.parts → new.key ≡ old.key
    → IsMended (Touched (present_of new parts)) asked (record { key = old.key; present = Q; judged = old.judged; spoiled = b })
    (record { key = new.key; present = present_of new parts; judged = new.judged; spoiled = false })
mended_beside J Touched asked Q R old new parts b shown same e key =
    subst (λ N. IsMended (Touched N) asked (record { key = old.key; present = Q; judged = old.judged; spoiled = b }) (record { key = new.key; present = N; judged = new.judged; spoiled = false }))
    (beside_is J R new parts shown.shows e)
    (record { key = key; present = same; history = shown.shows.indexes.history; judged = shown.judged; whole = refl })

-- ---- one is taken out

-- what is left of them without the one that was taken out
abbrev pub without : OnKey → List Part → OnKey
without Q rest = record { initial = Q.initial; parts = rest }

pub joins_rest : (T : Part) (Q : OnKey) (rest : List Part) → IsLeftBy T Q.parts rest → Joins T (without Q rest) Q
joins_rest T Q rest left = record { initial = refl; absent = left.absent; parts = left.parts }

pub taken_there : (T : Part) (M Q : OnKey) → Joins T M Q → Contains Q.parts T
taken_there T M Q joins = (joins.parts T).1 (inr refl)

-- what was asked for of an id is asked for of the transaction that was taken out
pub asked_of : (T : Part) (M Q : OnKey) (u : TxnId) (o : Outcome) → IsOfHistory Q → Joins T M Q → T.id ≡ u → HasDoubt Q u × IsOfHistory (resolved_on u o Q)
    → IsInDoubt T Q × IsOfHistory (resolved_on T.id o Q)
asked_of T M Q u o h joins e asked = (
  record { part = taken_there T M Q joins; doubt = sym (ap (λ (X : Part). X.status) (one_part Q h asked.0.0 T asked.0.1 (taken_there T M Q joins) (asked.0.2 ∙ sym e))) ∙ asked.0.3 },
  subst (λ v. IsOfHistory (resolved_on v o Q)) (sym e) asked.1,
)

-- with the transaction resolved, the same is there as was asked for
pub resolved_same : (T : Part) (M Q : OnKey) (o : Outcome) → Joins T M Q → AreSameOnKey (resolved_on T.id o Q) (arrived_on (record T { status = status_after o }) M)
resolved_same T M Q o joins =
    same_joined (record T { status = status_after o }) M (resolved_on T.id o Q) (arrived_on (record T { status = status_after o }) M) (resolution_joins T o M Q joins) (push_joins (record T { status = status_after o }) M joins.absent)

pub resolved_history : (T : Part) (M Q : OnKey) (o : Outcome) → Joins T M Q → AreNamedApart M.parts → IsOfHistory (resolved_on T.id o Q) → IsOfHistory (arrived_on (record T { status = status_after o }) M)
resolved_history T M Q o joins named h = push_history (record T { status = status_after o }) M (resolved_on T.id o Q) (resolution_joins T o M Q joins) h named

-- ---- one comes

-- the transactions that stand beside are those of R in another order
abbrev pub among : OnKey → List Part → OnKey
among R parts = record { initial = R.initial; parts = parts }

pub same_among : (A R : OnKey) (parts : List Part) → AreSameOnKey A R → HaveSame R.parts parts → AreSameOnKey A (among R parts)
same_among A R parts same have = record {
  initial = same.initial;
  parts = λ X. ((λ c. (have X).0 ((same.parts X).0 c)), (λ c. (same.parts X).1 ((have X).1 c)));
}

pub history_among : (R : OnKey) (parts : List Part) → IsOfHistory R → HaveSame R.parts parts → AreNamedApart parts → IsOfHistory (among R parts)
history_among R parts h have named = history_within R (among R parts) h refl (λ X c. (have X).1 c) named
