-- What is seen at a read, and that a transaction has no part in what it read from another.
use Rattle.std.proofs.Common.{◌≡◌, ◌∙◌, inl, inr, ℕ, ◌<◌, Bool, true, false, List, [], ◌∷◌, Option, Some, None, refl, sym, ap, subst, nat_lt}
use Rattle.std.specs.List.{Contains, filter, fold}
use Rattle.std.specs.Option.{option_or}
use Rattle.std.proofs.lemmas.Bool.{cases_order}
use Rattle.std.proofs.lemmas.Bool.Decides.{Decides-ltb}
use Rattle.si_model.specs.declared.numbers.Value.{Value}
use Rattle.si_model.specs.declared.parts.Access.TheVariants as access
use Rattle.si_model.specs.declared.parts.Placed.{Placed}
use Rattle.si_model.specs.declared.parts.Part.{Part}
use Rattle.si_model.specs.declared.parts.OnKey.{OnKey}
use Rattle.si_model.specs.declared.sights.Installer.{Installer}
use Rattle.si_model.specs.declared.sights.Source.{Source}
use Rattle.si_model.specs.declared.sights.Sight.{Sight}
use Rattle.si_model.specs.Parts.{Present, on_key}
use Rattle.si_model.specs.Versions.{WritesAt, Writes, written}
use Rattle.si_model.specs.Reads.{IsRead, IsSight, own_value, writes_later}
use Rattle.si_model.specs.Form.{IsWellFormedOn}
use Rattle.si_model.specs.History.{IsHistory}
use Rattle.si_graph.specs.Laws.{ModelLaws}
use Rattle.si_lists.proofs.Members.{Contains-nil, Contains-cons_cases, Contains-filter}
use Rattle.si_lists.proofs.Tests.{none_both}
use Rattle.si_graph.proofs.OnKeys.{part_from, op_at}

-- what is seen at T's read of v at the place i, where that is the source and that was missed
abbrev pub sight_with : Part → ℕ → Option Value → Source → Option Installer → Sight
sight_with T i v s n = record { txn = T.id; op = i; start = T.start; read = v; own = own_value T i; later = writes_later T i v; source = s; missed = n }

pub sight_is : (Q : OnKey) (T : Part) (i : ℕ) (v : Option Value) (s : Sight) → IsSight Q T i v s → s ≡ sight_with T i v s.source s.missed
sight_is Q T i v s is = λ j. record { txn = is.txn j; op = is.op j; start = is.start j; read = is.read j; own = is.own j; later = is.later j; source = s.source; missed = s.missed }

-- accesses with no last write have no write
none_written : (o : Option Value) (ys : List Placed) → fold (λ last a. option_or (written a.access) last) o ys ≡ None → (o ≡ None) × ((a : Placed) → Contains ys a → written a.access ≡ None)
none_written o [] e = (e, λ a c. absurd (Contains-nil a c))
none_written o (b ∷ ys) e =
    let r = none_written (option_or (written b.access) o) ys e in
    let both = none_both (written b.access) o r.0 in
    (both.1, λ a c. elim (Contains-cons_cases b ys a c) [ inl s ↦ ap (λ (d : Placed). written d.access) (sym s) ∙ both.0 | inr d ↦ r.1 a d ])

-- where there is no own value, nothing is written before
no_earlier : (T : Part) (i j : ℕ) (v : Value) → own_value T i ≡ None → WritesAt T j v → j < i → ⊥
unfolding own_value
no_earlier T i j v none w before =
    let kept = Contains-filter (λ a. nat_lt a.place i) T.accesses (record { place = j; access = access.Write v }) w ((Decides-ltb j i).1 before) in
    cc ((none_written None (filter (λ a. nat_lt a.place i) T.accesses) none).1 (record { place = j; access = access.Write v }) kept)

module _ (laws : ModelLaws) (P : Present) (x : List ℕ) (T : Part) (i : ℕ) (v : Option Value) (read : IsRead (on_key x P) T i v) where
  -- a read with no own value before it, whose value its transaction doesn't write later, isn't of an own write
  pub not_own : own_value T i ≡ None → writes_later T i v ≡ false → (w : Value) → v ≡ Some w → Writes T w → ⊥
  not_own none no_later w is own = elim (cases_order own.0 i) [
    | inl same ↦ (
        let f = part_from laws x P.txns T read.part in
        let reads = op_at laws x f.0.ops (record { place = i; access = access.Read v }) (subst (λ (Q : Part). Contains Q.accesses (record { place = i; access = access.Read v })) f.2 read.returned) in
        let writes = op_at laws x f.0.ops (record { place = own.0; access = access.Write w }) (subst (λ (Q : Part). Contains Q.accesses (record { place = own.0; access = access.Write w })) f.2 own.1) in
        cc
        )
    | inr rest ↦ elim rest [
      | inl before ↦ no_earlier T i own.0 w none own.1 before
      | inr behind ↦ (let later = (laws.later T i v).1 (w, is, (own.0, behind, own.1)) in cc)
    ]
  ]

  -- in a well-formed history, a read of what its transaction doesn't write has no own value and no later own write
  pub plain_read : IsHistory P → IsWellFormedOn (on_key x P) → ((w : Value) → v ≡ Some w → Writes T w → ⊥) → (own_value T i ≡ None) × (writes_later T i v ≡ false)
  plain_read h form never = (no_own (own_value T i) refl, no_later (writes_later T i v) refl)
    where
      no_own : (o : Option Value) → own_value T i ≡ o → o ≡ None
      no_own None is = refl
      no_own (Some w) is =
          let own = (laws.own (on_key x P) T i w (laws.keys P x h) read.part).0 is in
          absurd (never w (form.own T i v w read is) (own.place, own.is))

      no_later : (b : Bool) → writes_later T i v ≡ b → b ≡ false
      no_later false is = refl
      no_later true is = let r = (laws.later T i v).0 is in absurd (never r.0 r.1 (r.2.0, r.2.2))
