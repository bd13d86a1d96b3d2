-- A key on which nothing is looked for.
use Rattle.std.proofs.Common.{◌≡◌, ◌∙◌, inl, inr, ℕ, cond, List, [], ◌∷◌, Option, Some, None, refl, sym, ap, subst}
use Rattle.std.specs.List.{Contains, find}
use Rattle.si_lists.proofs.Members.{Contains-nil, here}
use Rattle.si_model.specs.declared.numbers.Stamp.{Stamp}
use Rattle.si_model.specs.declared.numbers.Value.{Value}
use Rattle.si_model.specs.declared.parts.Part.{Part}
use Rattle.si_model.specs.declared.parts.OnKey.{OnKey}
use Rattle.si_model.specs.declared.kinds.Kind.{Kind}
use Rattle.si_model.specs.declared.sights.Installer.{Installer}
use Rattle.si_model.specs.Findings.{IsFoundOn, Rules, findings_on}
use Rattle.si_model.specs.History.{IsOfHistory}
use Rattle.si_model.specs.Operations.{same_value}
use Rattle.si_model.specs.Reads.{IsRead, own_value}
use Rattle.si_model.specs.Versions.{IsInstaller}
use Rattle.si_model.proofs.Exact.{key_findings_exact}
use Rattle.si_model.proofs.LastWrites.{last_written}
use Rattle.si_timeline.specs.Timelines.{Dated}
use Rattle.si_judge.specs.declared.indexes.Indexes.{Indexes}
use Rattle.si_judge.specs.declared.judgements.ReadId.{ReadId}
use Rattle.si_judge.specs.declared.reads.KeptRead.{KeptRead}
use Rattle.si_judge.specs.declared.reads.Write.{Write}
use Rattle.si_judge.specs.Indexes.{AreIndexes, kept_read_of, reads_in, version_by, write_of, writes_of}
use Rattle.si_judge.specs.Following.{empty_key}
use Rattle.si_judge.specs.Kept.{IsBare, Kept, Shows, found_in}
use Rattle.si_judge.specs.KeptReads.{AreInOrder, own_at, kept_read_cmp}
use Rattle.si_judge.specs.Values.{at_value}
use Rattle.si_sorted.proofs.Rising.{none_rises}
use Rattle.si_judge.proofs.IndexEdits.{no_value}
use Rattle.si_judge.proofs.Mended.{reader_read}
use Rattle.si_judge.proofs.Orders.{kept_read_decides, value_decides}
use Rattle.si_judge.proofs.PartLists.{installs_version, other_from, version_from, write_from, write_to}
use Rattle.si_judge.proofs.Told.{unwritten}

nothing_in : {X : Type 0} (xs : List X) → ((x : X) → Contains xs x → ⊥) → xs ≡ []
nothing_in [] none = refl
nothing_in (x ∷ xs) none = absurd (none x (here x xs))

nothing_of : {X : Type 0} (xs : List X) (x : X) → xs ≡ [] → Contains xs x → ⊥
nothing_of xs x e c = Contains-nil x (subst (λ l. Contains l x) e c)

pub empty_bare : IsBare empty_key
empty_bare = record { initial = refl; writes = λ T c. absurd (Contains-nil T c); reads = λ T c. absurd (Contains-nil T c) }

-- ---- what is looked for is nothing exactly there

module _ {M : OnKey} (ix : Indexes) (is : AreIndexes M ix) where
  pub bare_from : ix.initial ≡ None → ix.timeline ≡ [] → ix.writes ≡ [] → ix.reads ≡ [] → IsBare M
  bare_from initial timeline writes kept = record {
    initial = sym is.initial ∙ initial;
    writes = λ T c. nothing_in (writes_of T) (λ w h. let f = write_from T w.0 w.1 h in
        unwritten ix is w.0 (ap (λ l. at_value l w.0) writes) (ap (find (λ d. same_value d.1.value w.0)) timeline) T c (f.0, f.1));
    reads = λ T c. nothing_in (reads_in T) (λ p h. no_value p.1 (ap (λ l. own_at l p.0) (sym kept) ∙ (is.reads p.0 p.1).1 (T, c, h)));
  }

  pub bare_is : IsBare M → (ix.initial ≡ None) × (ix.timeline ≡ []) × (ix.writes ≡ []) × (ix.reads ≡ [])
  bare_is bare = (is.initial ∙ bare.initial, nothing_in ix.timeline versions, writes ix.writes refl, readers ix.reads refl)
    where
      versions : (d : Dated) → Contains ix.timeline d → ⊥
      versions d c =
          let x = (is.timeline d).0 c in
          let w = last_written x.0 d.1.value (version_from x.0 d x.2).value in
          nothing_of (writes_of x.0) (write_of x.0 w.0 d.1.value) (bare.writes x.0 x.1) (write_to x.0 w.0 d.1.value w.1)

      writes : (es : List (Value × Write)) → ix.writes ≡ es → es ≡ []
      writes [] e = refl
      writes (w ∷ es) e =
          let x = (is.writes w.0 w.1).0 (ap (λ l. at_value l w.0) e ∙ ap (λ b. cond b (Some w.1) (at_value es w.0)) ((value_decides w.0 w.0).1 refl)) in
          absurd (nothing_of (writes_of x.0) w (bare.writes x.0 x.1) (other_from x.0 w.0 w.1 x.2).0)

      readers : (es : List (KeptRead × Option Value)) → ix.reads ≡ es → es ≡ []
      readers [] e = refl
      readers (p ∷ es) e =
          let x = (is.reads p.0 p.1).0 (ap (λ l. own_at l p.0) e ∙ ap (λ b. cond b (Some p.1) (own_at es p.0)) ((kept_read_decides p.0 p.0).1 refl)) in
          absurd (nothing_of (reads_in x.0) p (bare.reads x.0 x.1) x.2)

-- ---- nothing is found there

module _ (M : OnKey) (bare : IsBare M) where
  no_version : (T : Part) (d : Dated) → Contains M.parts T → version_by T ≡ Some d → ⊥
  no_version T d c e =
      let w = last_written T d.1.value (version_from T d e).value in
      nothing_of (writes_of T) (write_of T w.0 d.1.value) (bare.writes T c) (write_to T w.0 d.1.value w.1)

  pub no_read : (T : Part) (i : ℕ) (v : Option Value) → IsRead M T i v → ⊥
  no_read T i v read = nothing_of (reads_in T) (kept_read_of T i v, own_value T i) (bare.reads T read.part) (reader_read M T i v read)

  pub no_installer : (n : Installer) → IsInstaller M n → ⊥
  no_installer n i = let v = installs_version i.0 n i.2 in no_version i.0 v.0 i.1 v.1

  pub nothing_found : (J : Rules) → IsOfHistory M → (x : List ℕ) → findings_on J x M ≡ []
  nothing_found J h x = nothing_in (findings_on J x M) (λ f c. by f.kind ((key_findings_exact J M h x).sound f c).1)
    where
      by : (k : Kind) → IsFoundOn J M k → ⊥
      by k (inl r) = no_read r.part r.place r.value r.returned
      by k (inr p) = no_installer p.first p.installs

  -- what keeps nothing shows it
  pub shows_bare : (J : Rules) (s : Kept) → IsOfHistory M → s.indexes.initial ≡ None → s.indexes.timeline ≡ [] → s.indexes.writes ≡ [] → s.indexes.reads ≡ []
      → ((o : ReadId) → (found_in s).reads o ≡ None) → ((c : Stamp) → (found_in s).overlaps c ≡ None) → Shows J M s
  shows_bare J s h initial timeline writes readers no_reads no_overlaps = record {
    indexes = record {
      history = h;
      initial = initial ∙ sym bare.initial;
      timeline = λ d. ((λ c. absurd (nothing_of s.indexes.timeline d timeline c)), (λ x. absurd (no_version x.0 d x.1 x.2)));
      writes = λ v w. ((λ e. absurd (no_value w (ap (λ l. at_value l v) (sym writes) ∙ e))), (λ x. absurd (nothing_of (writes_of x.0) (v, w) (bare.writes x.0 x.1) (other_from x.0 v w x.2).0)));
      reads = λ r own. ((λ e. absurd (no_value own (ap (λ l. own_at l r) (sym readers) ∙ e))), (λ x. absurd (nothing_of (reads_in x.0) (r, own) (bare.reads x.0 x.1) x.2)));
      ordered = subst AreInOrder (sym readers) (none_rises kept_read_cmp);
    };
    right = record {
      reads = λ o k. ((λ e. absurd (no_value k (sym (no_reads o) ∙ e))), (λ f. absurd (no_read f.0 o.place f.1 f.2)));
      overlaps = λ c k. ((λ e. absurd (no_value k (sym (no_overlaps c) ∙ e))), (λ f. absurd (no_installer f.0 f.2)));
    };
  }
