-- What walks are made of, and where they lead.
use Rattle.std.proofs.Common.{◌≡◌, ◌∙◌, inl, inr, Bool, true, false, cond, List, [], ◌∷◌, ◌++◌, length, refl, sym, ap, subst, arith}
use Rattle.std.specs.List.{Contains, filter}
use Rattle.std.proofs.lemmas.List.Elements.{Contains-append_cases, Contains-append_left, Contains-append_right}
use Rattle.std.proofs.lemmas.List.Sums.{length-filter}
use Rattle.si_model.specs.declared.numbers.TxnId.{TxnId}
use Rattle.si_model.specs.declared.evidence.Edge.{Edge}
use Rattle.si_model.specs.Parts.{Present}
use Rattle.si_model.specs.History.{IsHistory}
use Rattle.si_graph.specs.Edges.{IsStartDependency}
use Rattle.si_graph.specs.Walks.{IsWalk, IsClosed, HasOneRw, is_rw_edge}
use Rattle.si_lists.proofs.Members.{here, there, Contains-cons_cases}
use Rattle.si_graph.proofs.StartEdges.{chain}

-- a list with one rw edge, cut there
record Split (es : List Edge) : Type 0 where
  before : List Edge
  rw : Edge
  after : List Edge
  is : es ≡ before ++ rw ∷ after
  test : is_rw_edge rw ≡ true
  none_before : (e : Edge) → Contains before e → is_rw_edge e ≡ false
  none_after : (e : Edge) → Contains after e → is_rw_edge e ≡ false

none_in : (es : List Edge) → length (filter is_rw_edge es) ≡ 0 → (e : Edge) → Contains es e → is_rw_edge e ≡ false
none_in [] h e c = absurd (omega (arith, c.1))
none_in (f ∷ es) h e c = go (is_rw_edge f) refl h (none_in es)
  where
    go : (b : Bool) → is_rw_edge f ≡ b → length (cond b (f ∷ filter is_rw_edge es) (filter is_rw_edge es)) ≡ 0
        → (length (filter is_rw_edge es) ≡ 0 → (e : Edge) → Contains es e → is_rw_edge e ≡ false) → is_rw_edge e ≡ false
    go true is g rest = absurd (omega (arith, g))
    go false is g rest = elim (Contains-cons_cases f es e c) [ inl same ↦ ap is_rw_edge (sym same) ∙ is | inr more ↦ rest g e more ]

cut : (es : List Edge) → length (filter is_rw_edge es) ≡ 1 → Split es
cut [] h = absurd (omega (arith, h))
cut (f ∷ es) h = go (is_rw_edge f) refl h (cut es)
  where
    go : (b : Bool) → is_rw_edge f ≡ b → length (cond b (f ∷ filter is_rw_edge es) (filter is_rw_edge es)) ≡ 1 → (length (filter is_rw_edge es) ≡ 1 → Split es) → Split (f ∷ es)
    go true is g rest = record {
      before = [];
      rw = f;
      after = es;
      is = refl;
      test = is;
      none_before = λ e c. absurd (omega (arith, c.1));
      none_after = none_in es (omega (arith, g));
    }
    go false is g rest =
        let s = rest g in record {
          before = f ∷ s.before;
          rw = s.rw;
          after = s.after;
          is = ap (λ l. f ∷ l) s.is;
          test = s.test;
          none_before = λ e c. elim (Contains-cons_cases f s.before e c) [ inl same ↦ ap is_rw_edge (sym same) ∙ is | inr more ↦ s.none_before e more ];
          none_after = s.none_after;
        }

join : (xs ys : List Edge) (a b c : TxnId) → IsWalk a xs b → IsWalk b ys c → IsWalk a (xs ++ ys) c
join [] ys a b c w v = subst (λ k. IsWalk k ys c) (sym w) v
join (e ∷ xs) ys a b c w v = (w.0, join xs ys e.to b c w.1 v)

split : (xs ys : List Edge) (a c : TxnId) → IsWalk a (xs ++ ys) c → (b : TxnId) × IsWalk a xs b × IsWalk b ys c
split [] ys a c w = (a, refl, w)
split (e ∷ xs) ys a c w = let r = split xs ys e.to c w.1 in (r.0, (w.0, r.1), r.2)

pub round : (es : List Edge) → IsClosed es → (a : TxnId) × IsWalk a es a
round [] closed = absurd closed
round (e ∷ es) closed = (e.from, (refl, closed))

-- a closed walk, begun behind one of its edges
turned : (before : List Edge) (r : Edge) (after : List Edge) (a : TxnId) → IsWalk a (before ++ r ∷ after) a → IsWalk r.to (after ++ before) r.from
turned before r after a w =
    let s = split before (r ∷ after) a a w in
    subst (λ k. IsWalk r.to (after ++ before) k) (sym s.2.0) (join after before r.to a s.0 s.2.1 s.1)

-- a closed walk with one rw edge, begun with that edge
pub record BegunAtRw (es : List Edge) : Type 0 where
  pub rw : Edge
  pub rest : List Edge
  pub within : (e : Edge) → Contains (rw ∷ rest) e → Contains es e
  pub test : is_rw_edge rw ≡ true
  pub others : (e : Edge) → Contains rest e → is_rw_edge e ≡ false
  pub walk : IsWalk rw.to rest rw.from

pub begun_at_rw : (es : List Edge) → IsClosed es → HasOneRw es → BegunAtRw es
begun_at_rw es closed one = by (cut es (length-filter is_rw_edge es ∙ one)) (round es closed)
  where
    by : Split es → (a : TxnId) × IsWalk a es a → BegunAtRw es
    by s r = record {
      rw = s.rw;
      rest = s.after ++ s.before;
      within = λ e c. subst (λ l. Contains l e) (sym s.is) (elim (Contains-append_cases (s.rw ∷ s.after) s.before e c) [
        | inl later ↦ Contains-append_right s.before (s.rw ∷ s.after) e later
        | inr earlier ↦ Contains-append_left s.before (s.rw ∷ s.after) e earlier
      ]);
      test = s.test;
      others = λ e c. elim (Contains-append_cases s.after s.before e c) [ inl later ↦ s.none_after e later | inr earlier ↦ s.none_before e earlier ];
      walk = turned s.before s.rw s.after r.0 (subst (λ l. IsWalk r.0 l r.0) s.is r.1);
    }

-- a walk of start edges is one start edge
pub walk_starts : (P : Present) → IsHistory P → (es : List Edge) (a m b : TxnId) → IsStartDependency P a m → ((e : Edge) → Contains es e → IsStartDependency P e.from e.to) → IsWalk m es b
    → IsStartDependency P a b
walk_starts P history [] a m b s all w = subst (IsStartDependency P a) w s
walk_starts P history (e ∷ es) a m b s all w =
    let step : IsStartDependency P m e.to = subst (λ k. IsStartDependency P k e.to) w.0 (all e (here e es)) in
    walk_starts P history es a e.to b (chain P history a m e.to s step) (λ f c. all f (there e es f c)) w.1

-- a walk of start edges that isn't empty
pub some_starts : (P : Present) → IsHistory P → (e : Edge) (es : List Edge) (a b : TxnId) → ((f : Edge) → Contains (e ∷ es) f → IsStartDependency P f.from f.to) → IsWalk a (e ∷ es) b
    → IsStartDependency P a b
some_starts P history e es a b all w =
    walk_starts P history es a e.to b (subst (λ k. IsStartDependency P k e.to) w.0 (all e (here e es))) (λ f c. all f (there e es f c)) w.1
