-- A closed walk is cut to a cycle, which has no other edges.
use Rattle.std.proofs.Common.{◌≡◌, ◌≢◌, ◌∙◌, ◌⊎◌, inl, inr, true, false, cond, List, [], ◌∷◌, length, refl, sym, ap, subst, arith}
use Rattle.std.specs.List.{Contains, AllPairs, filter}
use Rattle.std.proofs.lemmas.Bool.{cases_order}
use Rattle.std.proofs.lemmas.List.Sums.{length-filter}
use Rattle.si_model.specs.declared.numbers.TxnId.{TxnId}
use Rattle.si_model.specs.declared.evidence.Edge.{Edge}
use Rattle.si_model.specs.Parts.{Present}
use Rattle.si_graph.specs.Edges.{IsEdge}
use Rattle.si_graph.specs.Walks.{IsWalk, IsClosedWalk, IsCycle, AreDependencies, is_rw_edge, HasOneRw}
use Rattle.si_graph.specs.Phenomena.{HasCircularFlow, HasMissedEffects}
use Rattle.si_graph.specs.Laws.{CircularWalksHaveCycles, MissedWalksHaveCycles}
use Rattle.si_lists.proofs.Members.{Contains-nil, here, there, Contains-cons_cases}
use Rattle.si_lists.proofs.Names.{pairs_nil, pairs_tail, pairs_cons}
use Rattle.si_graph.proofs.ClosedWalks.{begun_at_rw}

-- two edges begin at different nodes
abbrev BeginApart : Edge → Edge → Type 0
BeginApart e f = e.from ≢ f.from

one_or_other : (u w : TxnId) → (u ≡ w) ⊎ (u ≢ w)
one_or_other u w = elim (cases_order u.0 w.0) [
  | inl same ↦ inl (λ i. record { 0 = same i })
  | inr rest ↦ inr (λ e. (let same : u.0 ≡ w.0 = ap (λ (k : TxnId). k.0) e in elim rest [ inl lt ↦ omega (arith, same, lt) | inr gt ↦ omega (arith, same, gt) ]))
]

-- a walk from a to b that begins no two edges at one node, and none at b
record IsPath (a : TxnId) (es : List Edge) (b : TxnId) : Type 0 where
  walk : IsWalk a es b
  once : AllPairs BeginApart es
  before : (e : Edge) → Contains es e → e.from ≢ b

-- such a walk of edges of a list
record PathWithin (a b : TxnId) (es : List Edge) : Type 0 where
  edges : List Edge
  path : IsPath a edges b
  within : (e : Edge) → Contains edges e → Contains es e

-- what is within a list is within it behind one more edge
behind : (e : Edge) (qs es : List Edge) → ((f : Edge) → Contains qs f → Contains es f) → (f : Edge) → Contains (e ∷ qs) f → Contains (e ∷ es) f
behind e qs es within f c = elim (Contains-cons_cases e qs f c) [ inl same ↦ subst (Contains (e ∷ es)) same (here e es) | inr more ↦ there e es f (within f more) ]

-- the walk of no edge
stay : (a b : TxnId) (es : List Edge) → a ≡ b → PathWithin a b es
stay a b es same = record {
  edges = [];
  path = record { walk = same; once = pairs_nil BeginApart; before = λ e c. absurd (Contains-nil e c) };
  within = λ e c. absurd (Contains-nil e c);
}

-- a path that comes to a node is cut to one from there
from_node : (a m b : TxnId) (es : List Edge) → IsPath m es b → PathWithin a b es ⊎ ((e : Edge) → Contains es e → e.from ≢ a)
from_node a m b [] p = inr (λ e c. absurd (Contains-nil e c))
from_node a m b (f ∷ es) p = elim (one_or_other f.from a) [
  | inl same ↦ inl (record { edges = f ∷ es; path = record { walk = (same, p.walk.1); once = p.once; before = p.before }; within = λ e c. c })
  | inr differ ↦ elim (from_node a f.to b es (record { walk = p.walk.1; once = pairs_tail BeginApart f es p.once; before = λ e c. p.before e (there f es e c) })) [
    | inl q ↦ inl (record { edges = q.edges; path = q.path; within = λ e c. there f es e (q.within e c) })
    | inr none ↦ inr (λ e c. elim (Contains-cons_cases f es e c) [ inl same ↦ subst (λ (g : Edge). g.from ≢ a) same differ | inr more ↦ none e more ])
  ]
]

-- a walk is cut to a path
path_within : (a b : TxnId) (es : List Edge) → IsWalk a es b → PathWithin a b es
path_within a b [] w = stay a b [] w
path_within a b (e ∷ es) w =
    let q = path_within e.to b es w.1 in
    elim (one_or_other a b) [
      | inl same ↦ stay a b (e ∷ es) same
      | inr differ ↦ elim (from_node a e.to b q.edges q.path) [
        | inl p ↦ record { edges = p.edges; path = p.path; within = λ f c. there e es f (q.within f (p.within f c)) }
        | inr none ↦ record {
          edges = e ∷ q.edges;
          path = record {
            walk = (w.0, q.path.walk);
            once = pairs_cons BeginApart e q.edges (λ f c same. none f c (sym same ∙ w.0)) q.path.once;
            before = λ f c. elim (Contains-cons_cases e q.edges f c) [ inl same ↦ (λ at. differ (sym w.0 ∙ ap (λ (g : Edge). g.from) same ∙ at)) | inr more ↦ q.path.before f more ];
          };
          within = behind e q.edges es q.within;
        }
      ]
    ]

-- an edge and a walk back to where it begins are cut to a cycle that begins with the edge
cycle_within : (P : Present) (e : Edge) (es : List Edge) → ((f : Edge) → Contains (e ∷ es) f → IsEdge P f) → IsWalk e.to es e.from
    → (qs : List Edge) × IsCycle P (e ∷ qs) × ((f : Edge) → Contains qs f → Contains es f)
cycle_within P e es edges w =
    let q = path_within e.to e.from es w in (
      q.edges,
      record {
        walk = record {
          edges = λ f c. edges f (behind e q.edges es q.within f c);
          closed = q.path.walk;
        };
        once = pairs_cons BeginApart e q.edges (λ f c same. q.path.before f c (sym same)) q.path.once;
      },
      q.within,
    )

-- ---- cycles of ww and wr edges

circular_cycle : (P : Present) (es : List Edge) → IsClosedWalk P es → AreDependencies es → HasCircularFlow P
circular_cycle P [] w deps = absurd w.closed
circular_cycle P (e ∷ es) w deps =
    let q = cycle_within P e es w.edges w.closed in
    (e ∷ q.0, q.1, λ f c. deps f (behind e q.0 es q.2 f c))

pub circular_walks_have_cycles : CircularWalksHaveCycles
circular_walks_have_cycles P = (λ h. circular_cycle P h.0 h.1 h.2, λ h. (h.0, h.1.walk, h.2))

-- ---- cycles with one rw edge

none_kept : (es : List Edge) → ((e : Edge) → Contains es e → is_rw_edge e ≡ false) → length (filter is_rw_edge es) ≡ 0
none_kept [] none = refl
none_kept (e ∷ es) none =
    ap (λ b. length (cond b (e ∷ filter is_rw_edge es) (filter is_rw_edge es))) (none e (here e es)) ∙ none_kept es (λ f c. none f (there e es f c))

one_rw : (e : Edge) (es : List Edge) → is_rw_edge e ≡ true → ((f : Edge) → Contains es f → is_rw_edge f ≡ false) → HasOneRw (e ∷ es)
one_rw e es is none =
    let rest = none_kept es none in
    sym (length-filter is_rw_edge (e ∷ es)) ∙ ap (λ b. length (cond b (e ∷ filter is_rw_edge es) (filter is_rw_edge es))) is ∙ omega (arith, rest)

missed_cycle : (P : Present) (es : List Edge) → IsClosedWalk P es → HasOneRw es → HasMissedEffects P
missed_cycle P es w one =
    let r = begun_at_rw es w.closed one in
    let q = cycle_within P r.rw r.rest (λ e c. w.edges e (r.within e c)) r.walk in
    (r.rw ∷ q.0, q.1, one_rw r.rw q.0 r.test (λ e c. r.others e (q.2 e c)))

pub missed_walks_have_cycles : MissedWalksHaveCycles
missed_walks_have_cycles P = (λ h. missed_cycle P h.0 h.1 h.2, λ h. (h.0, h.1.walk, h.2))
