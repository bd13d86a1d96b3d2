-- The next version that a walk finds is the next version, and there is one at most.
use Rattle.std.proofs.Common.{◌≡◌, ◌⊎◌, inl, inr, ◌↔◌, ℕ, ◌+◌, ◌<◌, ◌≤◌, Bool, true, false, nat_lt, List, [], ◌∷◌, ◌++◌, Option, Some, None, zero, suc, refl, sym, ap, subst, ◌∙◌, arith, cond}
use Rattle.std.specs.List.{Contains}
use Rattle.std.proofs.lemmas.Bool.{ltb-true, ltb-false, lt-ltb}
use Rattle.si_model.specs.declared.numbers.Stamp.{Stamp}
use Rattle.si_model.specs.declared.parts.Part.{Part}
use Rattle.si_model.specs.declared.parts.OnKey.{OnKey}
use Rattle.si_model.specs.declared.sights.Installer.{Installer}
use Rattle.si_model.specs.declared.sights.VersionId.{VersionId}
use Rattle.si_model.specs.declared.sights.VersionId.TheVariants as version
use Rattle.si_model.specs.Versions.{Installs, IsInstaller, IsAfter, IsNext, IsNextIfAny, install, is_after, earlier, nearer, next_after}
use Rattle.si_model.specs.History.{IsOfHistory}
use Rattle.si_lists.proofs.Members.{same_some, Contains-nil}
use Rattle.si_lists.proofs.Pushes.{push_cases, push_last, push_keeps, fold_keeps}
use Rattle.si_model.proofs.Histories.{one_installer}
use Rattle.si_model.proofs.LastWrites.{install_is}

-- ---- the version order

pub after_is : (a : VersionId) (c : Stamp) → (is_after a c ≡ true) ↔ IsAfter a c
after_is version.Initial c = (λ e. tt, λ i. refl)
after_is (version.Installed a) c = (ltb-true a.0 c.0, lt-ltb a.0 c.0)

-- ---- the walk, over the parts that are passed

-- n installs a version among these parts
Among : List Part → Installer → Type 0
Among done n = (T : Part) × Contains done T × Installs T n

-- the next version among these parts
IsNearest : List Part → VersionId → Option Installer → Type 0
IsNearest done a None = (m : Installer) → Among done m → IsAfter a m.commit → ⊥
IsNearest done a (Some n) = Among done n × IsAfter a n.commit × ((m : Installer) → Among done m → IsAfter a m.commit → n.commit.0 ≤ m.commit.0)

still : (done : List Part) (T : Part) (m : Installer) → Among done m → Among (done ++ T ∷ []) m
unfolding Among
still done T m i = (i.0, push_keeps done T i.0 i.1, i.2)

last : (done : List Part) (T : Part) (m : Installer) → Installs T m → Among (done ++ T ∷ []) m
unfolding Among
last done T m i = (T, push_last done T, i)

among_cases : (done : List Part) (T : Part) (m : Installer) → Among (done ++ T ∷ []) m → Among done m ⊎ Installs T m
unfolding Among
among_cases done T m i = elim (push_cases done T i.0 i.1) [ inl c ↦ inl (i.0, c, i.2) | inr e ↦ inr (subst (λ U. Installs U m) (sym e) i.2) ]

-- a transaction that installs nothing that comes after changes nothing
passed : (done : List Part) (T : Part) (a : VersionId) (best : Option Installer) → ((m : Installer) → Installs T m → IsAfter a m.commit → ⊥) → IsNearest done a best → IsNearest (done ++ T ∷ []) a best
unfolding IsNearest
passed done T a None none h = λ m i l. elim (among_cases done T m i) [ inl j ↦ h m j l | inr j ↦ none m j l ]
passed done T a (Some b) none h = (still done T b h.0, h.1, λ m i l. elim (among_cases done T m i) [ inl j ↦ h.2 m j l | inr j ↦ absurd (none m j l) ])

-- one that does is compared with the best so far
compared : (done : List Part) (T : Part) (a : VersionId) (best : Option Installer) (n : Installer) → install T ≡ Some n → IsAfter a n.commit → IsNearest done a best → IsNearest (done ++ T ∷ []) a (earlier best n)
unfolding IsNearest
compared done T a best n e l h = go best h
  where
    mine : Installs T n
    mine = (install_is T n).0 e

    same : (m : Installer) → Installs T m → n ≡ m
    same m i = same_some (sym e ∙ (install_is T m).1 i)

    go : (best : Option Installer) → IsNearest done a best → IsNearest (done ++ T ∷ []) a (earlier best n)
    go None h = (
      last done T n mine,
      l,
      λ m i k. elim (among_cases done T m i) [
        | inl j ↦ absurd (h m j k)
        | inr j ↦ (let s = ap (λ k. k.commit.0) (same m j) in omega arith)
      ],
    )
    go (Some b) h = by (nat_lt n.commit.0 b.commit.0) refl
      where
        by : (t : Bool) → nat_lt n.commit.0 b.commit.0 ≡ t → IsNearest (done ++ T ∷ []) a (cond t (Some n) (Some b))
        by true t = (
          last done T n mine,
          l,
          λ m i k. elim (among_cases done T m i) [
            | inl j ↦ (let u = h.2 m j k in let v = ltb-true n.commit.0 b.commit.0 t in omega arith)
            | inr j ↦ (let s = ap (λ k. k.commit.0) (same m j) in omega arith)
          ],
        )
        by false t = (
          still done T b h.0,
          h.1,
          λ m i k. elim (among_cases done T m i) [
            | inl j ↦ h.2 m j k
            | inr j ↦ (let s = ap (λ k. k.commit.0) (same m j) in let v = ltb-false n.commit.0 b.commit.0 t in omega arith)
          ],
        )

step : (a : VersionId) (done : List Part) (T : Part) (best : Option Installer) → IsNearest done a best → IsNearest (done ++ T ∷ []) a (nearer a best (install T))
step a done T best h = by (install T) refl
  where
    by : (o : Option Installer) → install T ≡ o → IsNearest (done ++ T ∷ []) a (nearer a best o)
    by None e = passed done T a best (λ m i l. let some = sym e ∙ (install_is T m).1 i in cc) h
    by (Some n) e = tested (is_after a n.commit) refl
      where
        tested : (t : Bool) → is_after a n.commit ≡ t → IsNearest (done ++ T ∷ []) a (cond t (earlier best n) best)
        tested true t = compared done T a best n e ((after_is a n.commit).0 t) h
        tested false t = passed done T a best (λ m i l.
            let s : n ≡ m = same_some (sym e ∙ (install_is T m).1 i) in
            let u = (after_is a n.commit).1 (subst (λ k. IsAfter a k.commit) (sym s) l) in cc) h

found : (Q : OnKey) (a : VersionId) → IsNearest Q.parts a (next_after Q.parts a)
unfolding next_after IsNearest Among
found Q a = fold_keeps (λ done best. IsNearest done a best) (λ best T. nearer a best (install T)) (step a) [] Q.parts None (λ m i l. absurd (Contains-nil i.0 i.1))

-- what the walk finds is the next version
pub next_is : (Q : OnKey) (a : VersionId) → IsNextIfAny Q a (next_after Q.parts a)
unfolding IsNearest Among
next_is Q a = by (next_after Q.parts a) (found Q a)
  where
    by : (o : Option Installer) → IsNearest Q.parts a o → IsNextIfAny Q a o
    by None h = h
    by (Some n) h = record { installs = h.0; after = h.1; first = h.2 }

-- ---- one next version at most

same_stamps : (s t : Stamp) → s.0 ≤ t.0 → t.0 ≤ s.0 → s ≡ t
same_stamps s t a b = let e : s.0 ≡ t.0 = omega arith in ap (λ n. record { 0 = n }) e

pub same_installer : (Q : OnKey) → IsOfHistory Q → (m n : Installer) → IsInstaller Q m → IsInstaller Q n → m.commit ≡ n.commit → m ≡ n
same_installer Q h m n i j e =
    let one = one_installer Q h i.0 j.0 m n i.1 j.1 i.2 j.2 e in
    same_some (sym ((install_is i.0 m).1 i.2) ∙ ap install one ∙ (install_is j.0 n).1 j.2)

pub same_next : (Q : OnKey) → IsOfHistory Q → (a : VersionId) (m n : Option Installer) → IsNextIfAny Q a m → IsNextIfAny Q a n → m ≡ n
same_next Q h a None None i j = refl
same_next Q h a None (Some n) i j = absurd (i n j.installs j.after)
same_next Q h a (Some m) None i j = absurd (j m i.installs i.after)
same_next Q h a (Some m) (Some n) i j = ap Some (same_installer Q h m n i.installs j.installs (same_stamps m.commit n.commit (i.first n j.installs j.after) (j.first m i.installs i.after)))

pub next_exact : (Q : OnKey) (a : VersionId) (n : Option Installer) → IsOfHistory Q → IsNextIfAny Q a n ↔ (n ≡ next_after Q.parts a)
next_exact Q a n h = (λ is. same_next Q h a n (next_after Q.parts a) is (next_is Q a), λ e. subst (IsNextIfAny Q a) (sym e) (next_is Q a))

-- ---- the version before

-- the version before n's, where an installer is at most so many stamps before: it is that installer's, or a later one
pub before_next : (Q : OnKey) (n : Installer) → IsInstaller Q n → (most : ℕ) (m : Installer) → IsInstaller Q m → m.commit.0 < n.commit.0 → n.commit.0 ≤ m.commit.0 + most
    → (b : Installer) × IsInstaller Q b × IsNext Q (version.Installed b.commit) n × (m.commit.0 ≤ b.commit.0)
before_next Q n at zero m i less near = absurd (omega arith)
before_next Q n at (suc most) m i less near = by (before_next Q n at most) (next_after Q.parts (version.Installed m.commit)) (next_is Q (version.Installed m.commit))
  where
    by : ((b : Installer) → IsInstaller Q b → b.commit.0 < n.commit.0 → n.commit.0 ≤ b.commit.0 + most → (d : Installer) × IsInstaller Q d × IsNext Q (version.Installed d.commit) n × (b.commit.0 ≤ d.commit.0))
        → (o : Option Installer) → IsNextIfAny Q (version.Installed m.commit) o → (d : Installer) × IsInstaller Q d × IsNext Q (version.Installed d.commit) n × (m.commit.0 ≤ d.commit.0)
    by further None none = absurd (none n at less)
    by further (Some b) is = tested (nat_lt b.commit.0 n.commit.0) refl
      where
        tested : (t : Bool) → nat_lt b.commit.0 n.commit.0 ≡ t → (d : Installer) × IsInstaller Q d × IsNext Q (version.Installed d.commit) n × (m.commit.0 ≤ d.commit.0)
        tested true t =
            let after = is.after in
            let f = further b is.installs (ltb-true b.commit.0 n.commit.0 t) (omega arith) in
            let past = f.3 in
            (f.0, f.1, f.2, omega arith)
        tested false t =
            let past = ltb-false b.commit.0 n.commit.0 t in
            (m, i, record { installs = at; after = less; first = λ q j k. let first = is.first q j k in let nearest = is.first n at less in omega arith }, omega arith)
