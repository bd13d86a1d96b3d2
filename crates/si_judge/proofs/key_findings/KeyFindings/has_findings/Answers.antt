use Rattle.std.proofs.Common.{◌≡◌, ◌⊎◌, inl, inr, ◌↔◌, ℕ, max, ◌<◌, IsTrue, nat_lt, length, arith, subst}
use Rattle.std.specs.List.{Contains}
use Rattle.std.proofs.lemmas.Bool.{cases_lt, lt-ltb, ltb-true}
use Rattle.si_model.specs.declared.parts.OnKey.{OnKey}
use Rattle.si_model.specs.declared.findings.Finding.{Finding}
use Rattle.si_model.specs.Findings.{findings_on}
use Rattle.si_judge.specs.Kept.{Shows}
use Rattle.si_judge.proofs.Listed.{some_found, some_kept}
use Rattle.si_judge.proofs.key_findings.KeyFindings.has_findings.Goals as goal

either : (s a b m n : ℕ) → s ≡ max a b → a ≡ m → b ≡ n → 0 < s → (0 < m) ⊎ (0 < n)
either s a b m n most e f lt = elim (cases_lt 0 m) [ inl some ↦ inl some | inr none ↦ inr (omega (arith, most, e, f, lt, none)) ]

together : (s a b m n : ℕ) → s ≡ max a b → a ≡ m → b ≡ n → (0 < m) ⊎ (0 < n) → 0 < s
together s a b m n most e f (inl some) = omega (arith, most, e, f, some)
together s a b m n most e f (inr some) = omega (arith, most, e, f, some)

pub returns-clause-found : goal.returns-clause-found
returns-clause-found g c =
    let J = g.J.Judge.rules in
    let m = c.self.inside.judgements in
    let a = c.len-reads.result in
    let b = c.len-overlaps.result in
    let most = c.max.result in
    subst (λ s. (M : OnKey) → Shows J M s → IsTrue (nat_lt 0 most) ↔ ((f : Finding) × Contains (findings_on J s.key M) f)) c.self.view_is (λ M shows. (
      (λ t. some_found J M shows.indexes.history m.reads m.overlaps shows.right.reads shows.right.overlaps c.len-reads.ensures.rising c.len-overlaps.ensures.rising c.self.inside.key
          (either most a b (length m.reads) (length m.overlaps) c.max.ensures c.len-reads.ensures.count c.len-overlaps.ensures.count (ltb-true 0 most t))),
      (λ x. lt-ltb 0 most (together most a b (length m.reads) (length m.overlaps) c.max.ensures c.len-reads.ensures.count c.len-overlaps.ensures.count
          (some_kept J M shows.indexes.history m.reads m.overlaps shows.right.reads shows.right.overlaps c.self.inside.key x.0 x.1))),
    ))
