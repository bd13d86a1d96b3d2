-- The last write, the own value and a later write are what they are called, and a transaction installs where it is taken to.
use Rattle.std.proofs.Common.{◌≡◌, ◌⊎◌, inl, inr, ◌↔◌, ℕ, ◌<◌, ◌≤◌, Bool, true, nat_lt, List, [], ◌∷◌, Option, Some, None, refl, sym, ap, subst, ◌∙◌, arith}
use Rattle.std.specs.List.{Contains, filter, fold}
use Rattle.std.specs.Option.{option_or}
use Rattle.std.proofs.lemmas.Bool.{and_parts, and_from, ltb-true, lt-ltb}
use Rattle.std.proofs.lemmas.List.Kept.{AllPairs-filter}
use Rattle.si_model.specs.declared.numbers.Stamp.{Stamp}
use Rattle.si_model.specs.declared.numbers.Value.{Value}
use Rattle.si_model.specs.declared.transactions.Status.{Status}
use Rattle.si_model.specs.declared.transactions.Status.TheVariants as status
use Rattle.si_model.specs.declared.parts.Access.{Access}
use Rattle.si_model.specs.declared.parts.Access.TheVariants as access
use Rattle.si_model.specs.declared.parts.Placed.{Placed}
use Rattle.si_model.specs.declared.parts.Part.{Part}
use Rattle.si_model.specs.declared.parts.OnKey.{OnKey}
use Rattle.si_model.specs.declared.sights.Installer.{Installer}
use Rattle.si_model.specs.Operations.{same_value}
use Rattle.si_model.specs.Versions.{WritesAt, Writes, IsFinalWrite, Installs, written, is_write_of, part_writes, last_write, commit_of, install_with, install}
use Rattle.si_model.specs.Reads.{IsOwnValue, WritesLater, own_value, is_later_write, writes_later}
use Rattle.si_model.specs.History.{IsOfHistory}
use Rattle.si_lists.proofs.Members.{same_some, Contains-nil, here, there, Contains-cons_cases, Contains-filter, Contains-from_filter}
use Rattle.si_lists.proofs.Names.{pairs_head, pairs_tail}
use Rattle.si_lists.proofs.Tests.{any_is, any_from}
use Rattle.si_model.proofs.Equalities.{same_value_is, same_value_from}
use Rattle.si_model.proofs.KeyParts.{Rise}

-- ---- writes of a value

write_is : (v : Value) (a : Access) → is_write_of v a ≡ true → a ≡ access.Write v
write_is v (access.Read w) e = cc
write_is v (access.Write w) e = ap access.Write (same_value_is w v e)

at_place : (ys : List Placed) (a : Placed) (b : Access) → Contains ys a → a.access ≡ b → Contains ys (record { place = a.place; access = b })
at_place ys a b c e = subst (λ d. Contains ys (record { place = a.place; access = d })) e c

pub writes_are : (v : Value) (T : Part) → (part_writes v T ≡ true) ↔ Writes T v
writes_are v T = (
  λ e. (let f = any_is (λ a. is_write_of v a.access) T.accesses e in (f.0.place, at_place T.accesses f.0 (access.Write v) f.1 (write_is v f.0.access f.2))),
  λ w. any_from (λ a. is_write_of v a.access) T.accesses (record { place = w.0; access = access.Write v }) w.1 (same_value_from v v refl),
)

pub later_are : (T : Part) (i : ℕ) (v : Option Value) → (writes_later T i v ≡ true) ↔ ((w : Value) × (v ≡ Some w) × WritesLater T i w)
unfolding writes_later
later_are T i None = (λ e. cc, λ l. (let none = l.1 in cc))
later_are T i (Some v) = (
  λ e.
      (let f = any_is (is_later_write i v) T.accesses e in
      let both = and_parts (nat_lt i f.0.place) (is_write_of v f.0.access) f.2 in
      (v, refl, (f.0.place, ltb-true i f.0.place both.0, at_place T.accesses f.0 (access.Write v) f.1 (write_is v f.0.access both.1)))),
  λ l. any_from (is_later_write i v) T.accesses (record { place = l.2.0; access = access.Write v }) (subst (λ w. WritesAt T l.2.0 w) (sym (same_some l.1)) l.2.2)
      (and_from (nat_lt i l.2.0) (same_value v v) (lt-ltb i l.2.0 l.2.1) (same_value_from v v refl)),
)

-- ---- the last write of a list

-- nothing is written
NothingWritten : List Placed → Type 0
NothingWritten ys = (j : ℕ) (w : Value) → Contains ys (record { place = j; access = access.Write w }) → ⊥

-- the write at the place has none after it
record IsLast (ys : List Placed) (v : Value) : Type 0 where
  place : ℕ
  is : Contains ys (record { place = place; access = access.Write v })
  last : (j : ℕ) (w : Value) → Contains ys (record { place = j; access = access.Write w }) → j ≤ place

last_from : Option Value → List Placed → Option Value
last_from o ys = fold (λ last a. option_or (written a.access) last) o ys

last_cases : (o : Option Value) (ys : List Placed) (v : Value) → Rise ys → last_from o ys ≡ Some v → ((o ≡ Some v) × NothingWritten ys) ⊎ IsLast ys v
unfolding last_from NothingWritten
last_cases o [] v r e = inl (e, λ j w c. Contains-nil _ c)
last_cases o (a ∷ ys) v r e = elim (last_cases (option_or (written a.access) o) ys v (pairs_tail (λ b c. b.place < c.place) a ys r) e) [
  | inl f ↦ by a.access refl f.0 f.1
  | inr l ↦ inr (record {
    place = l.place;
    is = there a ys (record { place = l.place; access = access.Write v }) l.is;
    last = λ j w c. elim (Contains-cons_cases a ys (record { place = j; access = access.Write w }) c) [
      | inl s ↦ (let later = pairs_head (λ b c. b.place < c.place) a ys r (record { place = l.place; access = access.Write v }) l.is in let p = ap (λ d. d.place) s in omega arith)
      | inr d ↦ l.last j w d
    ];
  })
]
  where
    by : (u : Access) → a.access ≡ u → option_or (written u) o ≡ Some v → NothingWritten ys → ((o ≡ Some v) × NothingWritten (a ∷ ys)) ⊎ IsLast (a ∷ ys) v
    by (access.Read u) s f none = inl (f, λ j w c. elim (Contains-cons_cases a ys (record { place = j; access = access.Write w }) c) [ inl t ↦ (let wrong = sym s ∙ ap (λ d. d.access) t in cc) | inr d ↦ none j w d ])
    by (access.Write u) s f none = inr (record {
      place = a.place;
      is = at_place (a ∷ ys) a (access.Write v) (here a ys) (s ∙ ap access.Write (same_some f));
      last = λ j w c. elim (Contains-cons_cases a ys (record { place = j; access = access.Write w }) c) [ inl t ↦ (let p = ap (λ d. d.place) t in omega arith) | inr d ↦ absurd (none j w d) ];
    })

last_some : (o : Option Value) (ys : List Placed) (v : Value) → o ≡ Some v → (w : Value) × (last_from o ys ≡ Some w)
unfolding last_from
last_some o [] v e = (v, e)
last_some o (a ∷ ys) v e = elim (written a.access) as (λ u. (w : Value) × (fold (λ last b. option_or (written b.access) last) (option_or u o) ys ≡ Some w)) [
  | None ↦ last_some o ys v e
  | Some u ↦ last_some (Some u) ys u refl
]

last_of : (o : Option Value) (ys : List Placed) (i : ℕ) (v : Value) → Contains ys (record { place = i; access = access.Write v }) → (w : Value) × (last_from o ys ≡ Some w)
unfolding last_from
last_of o [] i v c = absurd (Contains-nil _ c)
last_of o (b ∷ ys) i v c = elim (Contains-cons_cases b ys (record { place = i; access = access.Write v }) c) [
  | inl s ↦ last_some (option_or (written b.access) o) ys v (ap (λ u. option_or u o) (ap (λ d. written d.access) s))
  | inr d ↦ last_of (option_or (written b.access) o) ys i v d
]

-- among accesses with a write one is the last
pub some_last : (T : Part) (v : Value) → Writes T v → (w : Value) × (last_write T.accesses ≡ Some w)
unfolding last_from
some_last T v w = last_of None T.accesses w.0 v w.1

last_from_cases : (o : Option Value) (ys : List Placed) (v : Value) → last_from o ys ≡ Some v → (o ≡ Some v) ⊎ ((i : ℕ) × Contains ys (record { place = i; access = access.Write v }))
unfolding last_from
last_from_cases o [] v e = inl e
last_from_cases o (a ∷ ys) v e = elim (last_from_cases (option_or (written a.access) o) ys v e) [
  | inl f ↦ by a.access refl f
  | inr r ↦ inr (r.0, there a ys (record { place = r.0; access = access.Write v }) r.1)
]
  where
    by : (w : Access) → a.access ≡ w → option_or (written w) o ≡ Some v → (o ≡ Some v) ⊎ ((i : ℕ) × Contains (a ∷ ys) (record { place = i; access = access.Write v }))
    by (access.Read u) s f = inl f
    by (access.Write u) s f = inr (a.place, at_place (a ∷ ys) a (access.Write v) (here a ys) (s ∙ ap access.Write (same_some f)))

-- the last write is a write
pub last_written : (T : Part) (v : Value) → last_write T.accesses ≡ Some v → Writes T v
unfolding last_from
last_written T v e = elim (last_from_cases None T.accesses v e) [ inl f ↦ cc | inr r ↦ r ]

-- ---- places that rise

same_place : (ys : List Placed) (a b : Placed) → Rise ys → Contains ys a → Contains ys b → a.place ≡ b.place → a ≡ b
same_place [] a b r c d e = absurd (Contains-nil a c)
same_place (y ∷ ys) a b r c d e = elim (Contains-cons_cases y ys a c) [
  | inl s ↦ elim (Contains-cons_cases y ys b d) [
    | inl t ↦ sym s ∙ t
    | inr f ↦ absurd (let later = pairs_head (λ b c. b.place < c.place) y ys r b f in let p = ap (λ w. w.place) s in omega arith)
  ]
  | inr g ↦ elim (Contains-cons_cases y ys b d) [
    | inl t ↦ absurd (let later = pairs_head (λ b c. b.place < c.place) y ys r a g in let p = ap (λ w. w.place) t in omega arith)
    | inr f ↦ same_place ys a b (pairs_tail (λ b c. b.place < c.place) y ys r) g f e
  ]
]

-- two accesses of a part at one place are one
pub one_access : (Q : OnKey) → IsOfHistory Q → (T : Part) (a b : Placed) → Contains Q.parts T → Contains T.accesses a → Contains T.accesses b → a.place ≡ b.place → a ≡ b
one_access Q h T a b c = same_place T.accesses a b (h.places T c)

pub final : (T : Part) (v : Value) → Rise T.accesses → last_write T.accesses ≡ Some v → IsFinalWrite T v
unfolding last_from
final T v r e = elim (last_cases None T.accesses v r e) [
  | inl f ↦ (let none = f.0 in cc)
  | inr l ↦ record { place = l.place; is = l.is; last = l.last }
]

write_value : (v w : Value) → access.Write v ≡ access.Write w → v ≡ w
write_value v w e = cc

pub last_from_final : (T : Part) (v : Value) → Rise T.accesses → IsFinalWrite T v → last_write T.accesses ≡ Some v
last_from_final T v r f =
    let s = some_last T v (f.place, f.is) in
    let g = final T s.0 r s.1 in
    let place : g.place ≡ f.place = (let a = f.last g.place s.0 g.is in let b = g.last f.place v f.is in omega arith) in
    let same = same_place T.accesses (record { place = g.place; access = access.Write s.0 }) (record { place = f.place; access = access.Write v }) r g.is f.is place in
    s.1 ∙ ap Some (write_value s.0 v (ap (λ a. a.access) same))

pub last_is_final : (Q : OnKey) (T : Part) (v : Value) → IsOfHistory Q → Contains Q.parts T → (last_write T.accesses ≡ Some v) ↔ IsFinalWrite T v
last_is_final Q T v h c = (final T v (h.places T c), last_from_final T v (h.places T c))

-- ---- own values

abbrev is_before : ℕ → Placed → Bool
is_before i a = nat_lt a.place i

abbrev cut : Part → ℕ → Part
cut T i = record T { accesses = filter (is_before i) T.accesses }

cut_at : (T : Part) (i j : ℕ) (w : Value) → WritesAt T j w → j < i → WritesAt (cut T i) j w
cut_at T i j w c l = Contains-filter (is_before i) T.accesses (record { place = j; access = access.Write w }) c (lt-ltb j i l)

cut_from : (T : Part) (i j : ℕ) (w : Value) → WritesAt (cut T i) j w → WritesAt T j w × (j < i)
cut_from T i j w c = let f = Contains-from_filter (is_before i) T.accesses (record { place = j; access = access.Write w }) c in (f.0, ltb-true j i f.1)

own_from : (T : Part) (i : ℕ) (w : Value) → IsFinalWrite (cut T i) w → IsOwnValue T i w
own_from T i w f = let at = cut_from T i f.place w f.is in record {
  place = f.place;
  before = at.1;
  is = at.0;
  last = λ j u c l. f.last j u (cut_at T i j u c l);
}

own_to : (T : Part) (i : ℕ) (w : Value) → IsOwnValue T i w → IsFinalWrite (cut T i) w
own_to T i w o = record {
  place = o.place;
  is = cut_at T i o.place w o.is o.before;
  last = λ j u c. let f = cut_from T i j u c in o.last j u f.0 f.1;
}

pub own_is_last : (Q : OnKey) (T : Part) (i : ℕ) (w : Value) → IsOfHistory Q → Contains Q.parts T → (own_value T i ≡ Some w) ↔ IsOwnValue T i w
unfolding own_value
own_is_last Q T i w h c =
    let r = AllPairs-filter (λ a b. a.place < b.place) (is_before i) T.accesses (h.places T c) in
    (λ e. own_from T i w (final (cut T i) w r e), λ o. last_from_final (cut T i) w r (own_to T i w o))

-- where there is a write before, there is an own value
pub own_before : (T : Part) (i j : ℕ) (v : Value) → WritesAt T j v → j < i → (w : Value) × (own_value T i ≡ Some w)
unfolding own_value
own_before T i j v at less = some_last (cut T i) v (j, cut_at T i j v at less)

-- ---- installers

pub commit_is : (s : Status) (c : Stamp) → commit_of s ≡ Some c → s ≡ status.Committed c
commit_is (status.Committed d) c e = ap status.Committed (same_some e)
commit_is status.Aborted c e = cc
commit_is status.InDoubt c e = cc

installed : (T : Part) (c : Option Stamp) (v : Option Value) (n : Installer) → install_with T c v ≡ Some n → (n.txn ≡ T.id) × (n.start ≡ T.start) × (c ≡ Some n.commit) × ((w : Value) × (v ≡ Some w))
installed T (Some c) (Some v) n e = let s = sym (same_some e) in (ap (λ k. k.txn) s, ap (λ k. k.start) s, ap (λ k. Some k.commit) (sym s), (v, refl))
installed T (Some c) None n e = cc
installed T None v n e = cc

install_from : (T : Part) (n : Installer) → install T ≡ Some n → Installs T n
install_from T n e = let is = installed T (commit_of T.status) (last_write T.accesses) n e in record {
  txn = is.0;
  start = is.1;
  committed = commit_is T.status n.commit is.2;
  writes = (is.3.0, last_written T is.3.0 is.3.1);
}

install_to : (T : Part) (n : Installer) → Installs T n → install T ≡ Some n
install_to T n is =
    let last = some_last T is.writes.0 is.writes.1 in
    let same : record { txn = T.id; start = T.start; commit = n.commit } ≡ n = (λ i. record { txn = sym is.txn i; start = sym is.start i; commit = n.commit }) in
    ap (λ s. install_with T (commit_of s) (last_write T.accesses)) is.committed ∙ ap (install_with T (Some n.commit)) last.1 ∙ ap Some same

pub install_is : (T : Part) (n : Installer) → (install T ≡ Some n) ↔ Installs T n
install_is T n = (install_from T n, install_to T n)
