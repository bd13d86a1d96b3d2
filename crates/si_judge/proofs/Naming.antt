-- The cases name the read that was seen.
use Rattle.std.proofs.Common.{◌≡◌, Bool, true, false, cond, nat_lt, Option, Some, None, is_some, unwrap_or, refl, sym, ap, subst, true≢false}
use Rattle.std.specs.Option.{option_eq, IfSome}
use Rattle.si_model.specs.declared.numbers.Value.{Value}
use Rattle.si_model.specs.declared.sights.Installer.{Installer}
use Rattle.si_model.specs.declared.sights.Source.{Source}
use Rattle.si_model.specs.declared.sights.Source.TheVariants as source
use Rattle.si_model.specs.declared.sights.Sight.{Sight}
use Rattle.si_model.specs.declared.kinds.Kind.{Kind}
use Rattle.si_model.specs.declared.kinds.Kind.TheVariants as kind
use Rattle.si_model.specs.Operations.{same_value}
use Rattle.si_model.specs.Reads.{kind_of, judged_by_own, judged_by_source, judged_by_next}
use Rattle.si_judge.specs.Judges.{NamesRead}

-- what is said of the kind that is given
Said : Sight → Option Kind → Type 0
Said s o = (k : Kind) → o ≡ Some k → NamesRead s.txn s.op k

given : (s : Sight) (k : Kind) → NamesRead s.txn s.op k → Said s (Some k)
unfolding Said
given s k names l e = subst (NamesRead s.txn s.op) (ap (λ o. unwrap_or o k) e) names

nothing : (s : Sight) → Said s None
unfolding Said
nothing s k e = absurd (true≢false (sym (ap is_some e)))

either : (s : Sight) (b : Bool) (o p : Option Kind) → Said s o → Said s p → Said s (cond b o p)
either s true o p x y = x
either s false o p x y = y

by_next : (s : Sight) (n : Option Installer) → Said s (judged_by_next s n)
by_next s None = nothing s
by_next s (Some n) = given s (kind.Stale s.txn s.op s.read n.txn) (refl, refl)

by_source : (s : Sight) (from : Source) → Said s (judged_by_source s from)
by_source s source.Missing = given s (kind.Unknown s.txn s.op s.read) (refl, refl)
by_source s (source.InDoubt u) = given s (kind.Doubt s.txn s.op s.read u) (refl, refl)
by_source s (source.Aborted u) = given s (kind.Aborted s.txn s.op s.read u) (refl, refl)
by_source s (source.Earlier u) = given s (kind.Intermediate s.txn s.op s.read u) (refl, refl)
by_source s (source.Installed u c) = either s (nat_lt s.start.0 c.0) _ _ (given s (kind.Future s.txn s.op s.read u) (refl, refl)) (by_next s s.missed)
by_source s source.Initial = by_next s s.missed

by_own : (s : Sight) (own : Option Value) (later : Bool) → Said s (judged_by_own s own later)
by_own s (Some w) later = either s (option_eq same_value s.read (Some w)) _ _ (nothing s) (given s (kind.Own s.txn s.op s.read (Some w)) (refl, refl))
by_own s None true = given s (kind.Own s.txn s.op s.read None) (refl, refl)
by_own s None false = by_source s s.source

named : (s : Sight) (o : Option Kind) → Said s o → IfSome o (NamesRead s.txn s.op)
unfolding Said
named s None h = tt
named s (Some k) h = h k refl

pub kind_names : (s : Sight) → IfSome (kind_of s) (NamesRead s.txn s.op)
unfolding kind_of
kind_names s = named s _ (by_own s s.own s.later)
