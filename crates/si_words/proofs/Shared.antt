-- The laws of the rule.
use Rattle.std.proofs.Common.{◌≡◌, ℕ, zero, suc, ◌<◌, ◌≤◌, true, false, List, [], ◌∷◌, length, Some, Option, refl, sym, ap, ◌∙◌, subst, inl, inr, arith}
use Rattle.std.specs.Prelude.{All, IfSome, IsSomeAnd, is_some, if◌then◌else◌}
use mathlib.Core.Logic.{dite}
use native.Mathlib.Decide.{dec_le}
use Rattle.atomic_table.specs.Table.{State}
use Rattle.std.proofs.lemmas.Bool.{eq-eqb, ne_eqb}
use Rattle.std.proofs.lemmas.List.Elements.{filter-append}
use Rattle.si_words.specs.declared.views.Entry.{Entry}
use Rattle.si_words.specs.declared.views.BookView.{BookView}
use Rattle.si_words.specs.declared.views.ShardView.{ShardView}
use Rattle.si_words.specs.declared.views.PassView.{PassView}
use Rattle.si_words.specs.declared.views.View.{View}
use Rattle.si_words.specs.Entries.{bears, made_by}
use Rattle.si_words.specs.Rule.{Part, IsKept, FitsBook, FitsShard, FitsPass}
use Rattle.si_words.specs.Laws.{KnowsBook, KnowsShard, KnowsPass, OneJournalForAll, BeginningsAgree, EntriesStayInOrder, made_below, EachEntryIsOfOnePass, LonePassIssuesAll, NoPartIsShared}
use Rattle.si_words.proofs.Telling.{shorter_begins}

-- what holds of the value, if there is one, holds of this one
here : {T : Type 0} (o : Option T) (x : T) (P : T → Type 0) → o ≡ Some x → IfSome o P → P x
here o x P e h = subst (λ z. IfSome z P) e h

module _ (shards passes : ℕ) (table : State (Unit {0}) View) (r : IsKept shards passes table) where
  book_fits : (seat : ℕ) (b : BookView) → KnowsBook table seat b → FitsBook shards passes r.journal table.words b
  book_fits seat b k = here k.0.book b (FitsBook shards passes r.journal table.words) k.2 (r.fits seat k.0 k.1).book

  shard_fits : (seat : ℕ) (s : ShardView) → KnowsShard table seat s → FitsShard shards passes r.journal table.words s
  shard_fits seat s k = here k.0.shard s (FitsShard shards passes r.journal table.words) k.2 (r.fits seat k.0 k.1).shard

  pass_fits : (seat : ℕ) (p : PassView) → KnowsPass table seat p → FitsPass shards passes r.journal table.words p
  pass_fits seat p k = here k.0.pass p (FitsPass shards passes r.journal table.words) k.2 (r.fits seat k.0 k.1).pass

pub one_journal : OneJournalForAll
one_journal shards passes table r = let c = r.counts in (
  r.journal,
  record {
    counted = c.ticket;
    within = c.within;
    of_book = λ seat b k. (book_fits shards passes table r seat b k).whole;
    of_shard = λ seat s k. (shard_fits shards passes table r seat s k).due;
    of_pass = λ seat p k. (pass_fits shards passes table r seat p k).seen;
    bearers = c.bearers;
    made = λ seat p k. (pass_fits shards passes table r seat p k).mine;
    applied = λ seat s k. let f = shard_fits shards passes table r seat s k in (f.done, f.within);
    watermarks = c.watermarks;
    marks = λ seat p k known l. (pass_fits shards passes table r seat p known).marks k l;
    counts = λ seat p k. let f = pass_fits shards passes table r seat p k in let t = c.ticket in let h = f.count in (f.seen_within, omega arith);
    shard_counts = λ seat s k. let t = c.ticket in let h = (shard_fits shards passes table r seat s k).count in omega arith;
  },
)

pub agree : BeginningsAgree
agree xs ys journal b c = dite (dec_le (length xs) (length ys)) (λ l. inl (shorter_begins xs ys journal b c l)) (λ n. inr (shorter_begins ys xs journal c b (omega arith)))

pub in_order : EntriesStayInOrder
in_order i xs ys = filter-append (bears i) xs ys

-- the tail of a list of which all hold
all_rest : (P : Entry → Type 0) (e : Entry) (es : List Entry) → All P (e ∷ es) → All P es
all_rest P e es all k d l = all (suc k) d (omega arith)

-- one entry more is one more among those of its pass, and none of another's
below_all : (n : ℕ) (e : Entry) (es : List Entry) → n ≤ e.by → made_below n (e ∷ es) ≡ made_below n es
below_all zero e es l = refl
below_all (suc n) e es l =
    let other : bears n e ≡ false = ne_eqb e.by n (λ h. omega arith) in
    let same : length (made_by n (e ∷ es)) ≡ length (made_by n es) = ap (λ t. length (if t then e ∷ made_by n es else made_by n es)) other in
    let rest = below_all n e es (omega arith) in
    omega arith

below_one : (n : ℕ) (e : Entry) (es : List Entry) → e.by < n → made_below n (e ∷ es) ≡ suc (made_below n es)
below_one zero e es l = absurd (omega arith)
below_one (suc n) e es l = dite (dec_le n e.by)
    (λ above.
    let mine : bears n e ≡ true = eq-eqb e.by n (omega arith) in
    let more : length (made_by n (e ∷ es)) ≡ suc (length (made_by n es)) = ap (λ t. length (if t then e ∷ made_by n es else made_by n es)) mine in
    let rest = below_all n e es above in
    omega arith)
    (λ under.
    let other : bears n e ≡ false = ne_eqb e.by n (λ h. omega arith) in
    let same : length (made_by n (e ∷ es)) ≡ length (made_by n es) = ap (λ t. length (if t then e ∷ made_by n es else made_by n es)) other in
    let rest = below_one n e es (omega arith) in
    omega arith)

below_none : (n : ℕ) → made_below n [] ≡ 0
below_none zero = refl
below_none (suc n) = let rest = below_none n in omega arith

pub one_pass_each : EachEntryIsOfOnePass
one_pass_each n [] all = below_none n
one_pass_each n (e ∷ es) all = below_one n e es (all 0 e (omega arith)) ∙ ap suc (one_pass_each n es (all_rest (λ x. x.by < n) e es all))

pub lone_pass : LonePassIssuesAll
lone_pass [] all = refl
lone_pass (e ∷ es) all =
    let first : e.by < 1 = all 0 e (omega arith) in
    let mine : bears 0 e ≡ true = eq-eqb e.by 0 (omega arith) in
    ap (λ t. if t then e ∷ made_by 0 es else made_by 0 es) mine ∙ ap (λ l. e ∷ l) (lone_pass es (all_rest (λ x. x.by < 1) e es all))

pub known_once : NoPartIsShared
known_once shards passes table r = record {
  book = λ i j b c k l. r.apart Part.the_book i j k.0 l.0 k.1 l.1 (ap is_some k.2) (ap is_some l.2);
  shard = λ i j s t k l e. r.apart (Part.the_shard t.number) i j k.0 l.0 k.1 l.1
      (inl (subst (λ (z : Option ShardView). IsSomeAnd z (λ x. x.number ≡ t.number)) (sym k.2) e))
      (inl (subst (λ (z : Option ShardView). IsSomeAnd z (λ x. x.number ≡ t.number)) (sym l.2) refl));
  pass = λ i j p q k l e. r.apart (Part.the_pass q.number) i j k.0 l.0 k.1 l.1
      (inl (subst (λ (z : Option PassView). IsSomeAnd z (λ x. x.number ≡ q.number)) (sym k.2) e))
      (inl (subst (λ (z : Option PassView). IsSomeAnd z (λ x. x.number ≡ q.number)) (sym l.2) refl));
}
