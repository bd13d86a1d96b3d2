-- The edits of a key, each whole.
use Rattle.std.proofs.Common.{◌≡◌, ◌≢◌, ◌∙◌, inl, inr, ℕ, Option, refl, sym, ap}
use Rattle.std.specs.List.{Contains}
use Rattle.si_model.specs.declared.numbers.TxnId.{TxnId}
use Rattle.si_model.specs.declared.numbers.Stamp.{Stamp}
use Rattle.si_model.specs.declared.numbers.Value.{Value}
use Rattle.si_model.specs.declared.transactions.Outcome.{Outcome}
use Rattle.si_model.specs.declared.transactions.Status.{Status}
use Rattle.si_model.specs.declared.transactions.Status.TheVariants as status
use Rattle.si_model.specs.declared.parts.Part.{Part}
use Rattle.si_model.specs.declared.parts.OnKey.{OnKey}
use Rattle.si_model.specs.declared.sights.Installer.{Installer}
use Rattle.si_model.specs.Edits.{status_after}
use Rattle.si_model.specs.KeyEdits.{arrived_on}
use Rattle.si_model.specs.Versions.{IsInstaller, commit_of}
use Rattle.si_model.specs.Reads.{IsRead}
use Rattle.si_model.specs.Findings.{Rules}
use Rattle.si_model.specs.History.{IsOfHistory}
use Rattle.si_model.proofs.Histories.{one_part}
use Rattle.si_judge.specs.declared.reads.KeptRead.{KeptRead}
use Rattle.si_judge.specs.declared.indexes.Indexes.{Indexes}
use Rattle.si_judge.specs.Indexes.{AreIndexes, Fits, IsTouchedBy, Joins}
use Rattle.si_judge.specs.Mending.{Found, IsJudgedWith, IsJudgedWithout, IsRight}
use Rattle.si_judge.proofs.Asked.{arrival_joins}
use Rattle.si_judge.proofs.Edited.{WithinBound, bound_with, bound_without, right_with, right_without}
use Rattle.si_judge.proofs.IndexEdits.{no_value}
use Rattle.si_judge.proofs.PartLists.{version_from}
use Rattle.si_judge.proofs.Touching.{IsSide}

-- what an edit of the transaction u leaves right where Q was on the key, and R is
pub record IsWhole (J : Rules) (Q R : OnKey) (u : TxnId) (old new : Found) : Type 0 where
  pub right : IsRight J R new
  pub bound : WithinBound Q R u old new

pub arrival_fits : (T : Part) (Q : OnKey) → IsOfHistory (arrived_on T Q) → Fits T Q
arrival_fits T Q h = (arrived_on T Q, arrival_joins T Q h, h)

-- ---- beside an arrival

module _ {M R : OnKey} (h : IsOfHistory M) (T : Part) (joins : Joins T M R) where
  pub new_side : IsSide M T M
  new_side = record { history = h; initial = refl; above = λ X c. c; within = λ X c. inl c }

  pub new_silent : (X : Part) (i : ℕ) (v : Option Value) → IsRead M X i v → X.id ≡ T.id → ⊥
  new_silent X i v read e = joins.absent X read.part e

  pub new_idle : (n : Installer) → IsInstaller M n → n.txn ≢ T.id
  new_idle n i e = joins.absent i.0 i.1 (sym i.2.txn ∙ e)

pub arrived : (J : Rules) {M R : OnKey} (ix new_ix : Indexes) (T : Part) (old new : Found) → AreIndexes M ix → AreIndexes R new_ix → Joins T M R
    → IsRight J M old → IsJudgedWith J T R ix new_ix old new → IsWhole J M R T.id old new
arrived J {M} {R} ix new_ix T old new is is_new joins right judged =
    let side = new_side is.history T joins in
    let silent = new_silent is.history T joins in
    let idle = new_idle is.history T joins in
    record {
      right = right_with J ix new_ix is is_new T T joins M side refl (λ r t. t) silent idle old new right judged;
      bound = bound_with J ix new_ix is is_new T T joins M side refl (λ r t. t) silent idle old new right judged;
    }

-- ---- beside a resolution

-- one in doubt has no commit
no_commit : (s : Status) (c : Stamp) → s ≡ status.InDoubt → s ≡ status.Committed c → ⊥
no_commit s c e f = no_value c (sym (ap commit_of e) ∙ ap commit_of f)

module _ {M : OnKey} (ix : Indexes) (T : Part) (o : Outcome) (Q : OnKey) (h : IsOfHistory Q) (was : Joins T M Q) (doubt : T.status ≡ status.InDoubt) where
  pub doubt_side : IsSide M T Q
  doubt_side = record { history = h; initial = was.initial; above = λ X c. (was.parts X).1 (inl c); within = λ X c. (was.parts X).0 c }

  is_T : (X : Part) → Contains Q.parts X → X.id ≡ T.id → X ≡ T
  is_T X c e = one_part Q h X T c ((was.parts T).1 (inr refl)) e

  pub doubt_less : (r : KeptRead) → IsTouchedBy ix T r → IsTouchedBy ix (record T { status = status_after o }) r
  doubt_less r (inl w) = inl w
  doubt_less r (inr i) = absurd (no_commit T.status i.0.0 doubt (version_from T i.0 i.2).committed)

  pub doubt_silent : (X : Part) (i : ℕ) (v : Option Value) → IsRead Q X i v → X.id ≡ T.id → ⊥
  doubt_silent X i v read e = no_commit X.status read.committed.0 (ap (λ (Y : Part). Y.status) (is_T X read.part e) ∙ doubt) read.committed.1

  pub doubt_idle : (n : Installer) → IsInstaller Q n → n.txn ≢ T.id
  doubt_idle n i e = no_commit (i.0).status n.commit (ap (λ (Y : Part). Y.status) (is_T i.0 i.1 (sym i.2.txn ∙ e)) ∙ doubt) i.2.committed

pub resolved : (J : Rules) {M R : OnKey} (ix new_ix : Indexes) (T : Part) (o : Outcome) (Q : OnKey) (old new : Found) → AreIndexes M ix → AreIndexes R new_ix → IsOfHistory Q → Joins T M Q
    → T.status ≡ status.InDoubt → Joins (record T { status = status_after o }) M R → IsRight J Q old → IsJudgedWith J (record T { status = status_after o }) R ix new_ix old new
    → IsWhole J Q R T.id old new
resolved J {M} {R} ix new_ix T o Q old new is is_new h was doubt joins right judged =
    let side = doubt_side ix T o Q h was doubt in
    let less = doubt_less ix T o Q h was doubt in
    let silent = doubt_silent ix T o Q h was doubt in
    let idle = doubt_idle ix T o Q h was doubt in
    record {
      right = right_with J ix new_ix is is_new (record T { status = status_after o }) T joins Q side refl less silent idle old new right judged;
      bound = bound_with J ix new_ix is is_new (record T { status = status_after o }) T joins Q side refl less silent idle old new right judged;
    }

pub withdrawn : (J : Rules) {R : OnKey} (ix : Indexes) (T : Part) (Q : OnKey) (old new : Found) → AreIndexes R ix → IsOfHistory Q → Joins T R Q → IsRight J Q old → IsJudgedWithout J T R ix old new
    → IsWhole J Q R T.id old new
withdrawn J ix T Q old new is h joins right judged = record {
  right = right_without J ix is T Q h joins old new right judged;
  bound = bound_without J ix is T Q h joins old new right judged;
}
