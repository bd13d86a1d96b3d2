-- What came and what went on the keys of a shard.
use Rattle.std.proofs.Common.{◌≡◌, ◌≢◌, ◌∙◌, ◌&&◌, ℕ, ◌+◌, ◌<◌, ◌≤◌, nat_lt, not, Bool, true, false, cond, List, [], ◌∷◌, map, Option, Some, None, refl, sym, ap, subst, arith, true≢false}
use Rattle.std.specs.HashMap.{HashMap, get}
use Rattle.std.specs.Map.{values_of}
use Rattle.std.proofs.lemmas.List.Sums.{sum_by-append, sum_by-cons}
use Rattle.si_lists.proofs.Members.{Contains-filter, Contains-from_filter, Contains-from_map}
use Rattle.std.specs.List.{Contains, filter, list_any}
use Rattle.std.specs.List.Sorted.{IsStrictlySortedBy}
use Rattle.std.proofs.lemmas.Bool.{lt-ltb, ltb-true}
use Rattle.std.proofs.lemmas.List.Kept.{IsStrictlySortedBy-filter}
use Rattle.std.proofs.lemmas.Map.Views.{Contains-from_any, list_any-from_Contains}
use Rattle.si_model.specs.declared.findings.Finding.{Finding}
use Rattle.si_model.specs.declared.kinds.Kind.{Kind}
use Rattle.si_model.specs.declared.kinds.Kind.TheVariants as kind
use Rattle.si_model.specs.declared.numbers.Stamp.{Stamp}
use Rattle.si_model.specs.declared.parts.OnKey.{OnKey}
use Rattle.si_model.specs.Findings.{cases, finding_at, findings_on}
use Rattle.si_model.specs.Operations.{same_key}
use Rattle.si_model.specs.Order.{finding_cmp, finding_eq, kind_eq}
use Rattle.si_model.proofs.FindingOrder.{exact_findings, findings_total}
use Rattle.si_model.proofs.InOrder.{Contains-from_in_order, Contains-in_order, same_sorted, sorted-in_order}
use Rattle.si_model.proofs.Equalities.{same_key_from, same_key_is}
use Rattle.si_judge.specs.declared.judgements.ReadId.{ReadId}
use Rattle.si_judge.specs.Kept.{Kept, Noted, Shows, WouldShow}
use Rattle.si_judge.specs.Notes.{KeepsNotesOf, WasFound, times, times_found}
use Rattle.si_judge.proofs.Bare.{nothing_found}
use Rattle.si_judge.proofs.Counted.{counted_cons, counted_once, counted_there, none_counted, one_if, there_counted}
use Rattle.si_judge.proofs.FoundTimes.{equals, finding_itself, found_times, same_finding}
use Rattle.si_shard.specs.declared.key_changes.Change.{Change}
use Rattle.si_shard.specs.declared.key_notes.Changes.{Changes}
use Rattle.si_shard.specs.declared.key_notes.KeyNotes.{KeyNotes}
use Rattle.si_shard.specs.KeyChanges.{IsChanged}
use Rattle.si_shard.specs.declared.key_states.KeyStates.{KeyStates}
use Rattle.si_shard.specs.Counts.{more_often}
use Rattle.si_shard.specs.KeyNotes.{AreBegun, IsBlank, IsChangedTo, IsGathered, KeepsNotes, KeepsNotesAt, not_among, times_in, times_kept}
use Rattle.si_shard.specs.KeyStates.{IsOn, IsRisingAt, ShowsAt, WereFoundOn}
use Rattle.si_shard.proofs.OnKeys.{shows_settled}

-- ---- what is kept shows as much with other notes

would_show_with : (Q : OnKey) (s : Kept) (n : Noted) → WouldShow cases Q s → WouldShow cases Q (record s { notes = n })
would_show_with Q s n w = record { indexes = w.indexes; reads = w.reads; overlaps = w.overlaps }

shows_with : (Q : OnKey) (s : Kept) (n : Noted) → Shows cases Q s → Shows cases Q (record s { notes = n })
shows_with Q s n w = record { indexes = w.indexes; right = record { reads = w.right.reads; overlaps = w.right.overlaps } }

module _ (s t : Kept) (same : t ≡ record s { notes = t.notes }) where
  pub would_show_lent : (Q : OnKey) → WouldShow cases Q s → WouldShow cases Q t
  would_show_lent Q w = subst (WouldShow cases Q) (sym same) (would_show_with Q s t.notes w)

  pub shows_lent : (Q : OnKey) → Shows cases Q s → Shows cases Q t
  shows_lent Q w = subst (Shows cases Q) (sym same) (shows_with Q s t.notes w)

-- what was changed with notes lent to it was changed
pub changed_lent : (c : Change) (s lent made t : Kept) → lent ≡ record s { notes = lent.notes } → IsChanged c lent made → t ≡ record made { notes = t.notes } → IsChanged c s t
changed_lent c s lent made t first changed last = record {
  key = ap (λ (k : Kept). k.key) last ∙ changed.key ∙ ap (λ (k : Kept). k.key) first;
  shows = λ Q would can. would_show_lent made t last _ (changed.shows Q (would_show_lent s lent first Q would) can);
}

-- ---- how often findings on one key are among others

here_counted : (x : List ℕ) (k : Kind) (ks : List Kind) → times_in (finding_at x k) (map (finding_at x) ks) ≡ times k ks
here_counted x k [] = refl
here_counted x k (j ∷ ks) =
    let same : one_if (finding_eq (finding_at x k) (finding_at x j)) ≡ one_if (kind_eq k j) = ap (λ b. one_if (b && kind_eq k j)) (same_key_from x x refl) in
    let all : times_in (finding_at x k) (finding_at x j ∷ map (finding_at x) ks) ≡ one_if (finding_eq (finding_at x k) (finding_at x j)) + times_in (finding_at x k) (map (finding_at x) ks) = counted_cons same_finding finding_itself (finding_at x k) (finding_at x j) (map (finding_at x) ks) in
    let kinds : times k (j ∷ ks) ≡ one_if (kind_eq k j) + times k ks = sum_by-cons (λ i. one_if (kind_eq k i)) j ks in
    omega (arith, same, all, kinds, here_counted x k ks)

elsewhere_counted : (f : Finding) (x : List ℕ) (ks : List Kind) → f.key ≢ x → times_in f (map (finding_at x) ks) ≡ 0
elsewhere_counted f x ks differs = none_counted same_finding finding_itself f (map (finding_at x) ks) (λ c. (let m = Contains-from_map (finding_at x) ks f c in differs (ap (λ (g : Finding). g.key) (sym m.2))))

-- ---- what was noted on a key is taken over

blank_found : (o : Noted) → IsBlank o → (k : Kind) (m : ℕ) → WasFound o k m m
blank_found None blank k m = blank
blank_found (Some b) blank k m = ap (λ l. m + times k l) (blank.0 ∙ sym blank.1)

gathered_blank : (x : List ℕ) (o : Noted) (old new : KeyNotes) → IsGathered x o old new → (k : Kind) (n m : ℕ) → WasFound o k n m → IsBlank new.lent
gathered_blank x None old new gathered k n m was = absurd was
gathered_blank x (Some b) old new gathered k n m was = gathered.0

gathered_here : (x : List ℕ) (o : Noted) (old new : KeyNotes) → IsGathered x o old new → (k : Kind) (n m l : ℕ) → WasFound o k m l → IsChangedTo old.changes (finding_at x k) n m → IsChangedTo new.changes (finding_at x k) n l
gathered_here x None old new gathered k n m l was is = absurd was
gathered_here x (Some b) old new gathered k n m l was is =
    let f = finding_at x k in
    let came : times_in f new.changes.came.items ≡ times_in f old.changes.came.items + times k b.value.came.items =
    ap (times_in f) gathered.1 ∙ sum_by-append (λ g. one_if (finding_eq f g)) old.changes.came.items (map (finding_at x) b.value.came.items)
    ∙ ap (λ n. times_in f old.changes.came.items + n) (here_counted x k b.value.came.items) in
    let went : times_in f new.changes.went.items ≡ times_in f old.changes.went.items + times k b.value.went.items =
    ap (times_in f) gathered.2 ∙ sum_by-append (λ g. one_if (finding_eq f g)) old.changes.went.items (map (finding_at x) b.value.went.items)
    ∙ ap (λ n. times_in f old.changes.went.items + n) (here_counted x k b.value.went.items) in
    omega (arith, came, went, was, is)

gathered_elsewhere : (x : List ℕ) (o : Noted) (old new : KeyNotes) → IsGathered x o old new → (k : Kind) (i j : ℕ) → WasFound o k i j → (f : Finding) (n m : ℕ) → f.key ≢ x → IsChangedTo old.changes f n m → IsChangedTo new.changes f n m
gathered_elsewhere x None old new gathered k i j was f n m differs is = absurd was
gathered_elsewhere x (Some b) old new gathered k i j was f n m differs is =
    let came : times_in f new.changes.came.items ≡ times_in f old.changes.came.items =
    ap (times_in f) gathered.1 ∙ sum_by-append (λ g. one_if (finding_eq f g)) old.changes.came.items (map (finding_at x) b.value.came.items)
    ∙ (let none = elsewhere_counted f x b.value.came.items differs in let e : times_in f old.changes.came.items + times_in f (map (finding_at x) b.value.came.items) ≡ times_in f old.changes.came.items = omega (arith, none) in e) in
    let went : times_in f new.changes.went.items ≡ times_in f old.changes.went.items =
    ap (times_in f) gathered.2 ∙ sum_by-append (λ g. one_if (finding_eq f g)) old.changes.went.items (map (finding_at x) b.value.went.items)
    ∙ (let none = elsewhere_counted f x b.value.went.items differs in let e : times_in f old.changes.went.items + times_in f (map (finding_at x) b.value.went.items) ≡ times_in f old.changes.went.items = omega (arith, none) in e) in
    omega (arith, came, went, is)

-- notes were lent to what is kept of a key, it was changed, and they were gathered
module _ (x : List ℕ) (s lent made t : Kept) (old mid new : KeyNotes) (first : lent ≡ record s { notes = lent.notes }) (is_lent : IsBlank old.lent → lent.notes ≡ old.lent) (changes : mid.changes ≡ old.changes)
    (keeps : KeepsNotesOf lent made) (last : t ≡ record made { notes = t.notes }) (gathered : IsGathered x made.notes mid new) where
  noted : IsBlank old.lent → (k : Kind) → WasFound made.notes k (times_found k s.reads s.overlaps) (times_found k made.reads made.overlaps)
  noted blank k = keeps k (times_found k s.reads s.overlaps)
      (subst (λ (l : Kept). WasFound lent.notes k (times_found k s.reads s.overlaps) (times_found k l.reads l.overlaps)) (sym first)
      (subst (λ o. WasFound o k (times_found k s.reads s.overlaps) (times_found k s.reads s.overlaps)) (sym (is_lent blank)) (blank_found old.lent blank k (times_found k s.reads s.overlaps))))

  some_kind : Kind
  some_kind = kind.Overlap (record { 0 = 0 }) (record { 0 = 0 })

  pub keeps_lent : KeepsNotesAt x old new (Some s) (Some t)
  keeps_lent = record {
    blank = λ blank. gathered_blank x made.notes mid new gathered some_kind _ _ (noted blank some_kind);
    here = λ blank k n is. subst (λ (l : Kept). IsChangedTo new.changes (finding_at x k) n (times_found k l.reads l.overlaps)) (sym last)
        (gathered_here x made.notes mid new gathered k n _ _ (noted blank k) (subst (λ (c : Changes). IsChangedTo c (finding_at x k) n (times_found k s.reads s.overlaps)) (sym changes) is));
    others = λ blank f n m differs is. gathered_elsewhere x made.notes mid new gathered some_kind _ _ (noted blank some_kind) f n m differs (subst (λ (c : Changes). IsChangedTo c f n m) (sym changes) is);
  }

-- ---- among all keys

-- what is kept of the key x is another, and of each other key as before
pub keeps_all : {S : Type 0} (x : List ℕ) (was is : Option Kept) (old new : KeyNotes) (before after : HashMap (List ℕ) Kept S) → get same_key before x ≡ was
    → ((y : List ℕ) → get same_key after y ≡ cond (same_key x y) is (get same_key before y)) → KeepsNotesAt x old new was is → KeepsNotes old new (get same_key before) (get same_key after)
keeps_all x was is old new before after there states keeps found were = record {
  blank = keeps.blank were.blank;
  each = λ f. by f (same_key x f.key) refl;
}
  where
    by : (f : Finding) (b : Bool) → same_key x f.key ≡ b → IsChangedTo new.changes f (times_in f found) (times_kept f.kind (get same_key after f.key))
    by f true e =
        let key = same_key_is x f.key e in
        let before_is : get same_key before f.key ≡ was = ap (get same_key before) (sym key) ∙ there in
        let after_is : get same_key after f.key ≡ is = states f.key ∙ ap (λ b. cond b is (get same_key before f.key)) e in
        let f_is : finding_at x f.kind ≡ f = λ i. record { key = key i; kind = f.kind } in
        subst (λ o. IsChangedTo new.changes f (times_in f found) (times_kept f.kind o)) (sym after_is)
        (subst (λ g. IsChangedTo new.changes g (times_in f found) (times_kept f.kind is)) f_is
        (keeps.here were.blank f.kind (times_in f found)
        (subst (λ g. IsChangedTo old.changes g (times_in f found) (times_kept f.kind was)) (sym f_is)
        (subst (λ o. IsChangedTo old.changes f (times_in f found) (times_kept f.kind o)) before_is (were.each f)))))
    by f false e =
        let after_is : get same_key after f.key ≡ get same_key before f.key = states f.key ∙ ap (λ b. cond b is (get same_key before f.key)) e in
        subst (λ o. IsChangedTo new.changes f (times_in f found) (times_kept f.kind o)) (sym after_is)
        (keeps.others were.blank f (times_in f found) (times_kept f.kind (get same_key before f.key)) (λ same. true≢false (sym (same_key_from x f.key (sym same)) ∙ e)) (were.each f))

-- nothing was found by what is kept anew
pub from_fresh : (x : List ℕ) (s : Kept) (is : Option Kept) (old new : KeyNotes) → (s.reads ≡ []) × (s.overlaps ≡ []) → KeepsNotesAt x old new (Some s) is → KeepsNotesAt x old new None is
from_fresh x s is old new nothing keeps = record {
  blank = keeps.blank;
  here = λ blank k n changed. keeps.here blank k n (subst (IsChangedTo old.changes (finding_at x k) n) (sym (none k)) changed);
  others = keeps.others;
}
  where
    none : (k : Kind) → times_found k s.reads s.overlaps ≡ 0
    none k =
        let reads : times k (values_of s.reads) ≡ 0 = ap (λ (l : List (ReadId × Kind)). times k (values_of l)) nothing.0 in
        let pairs : times k (values_of s.overlaps) ≡ 0 = ap (λ (l : List (Stamp × Kind)). times k (values_of l)) nothing.1 in
        omega (arith, reads, pairs)

-- where nothing is found by what was kept, it may go
pub keeps_without : (x : List ℕ) (s : Kept) (notes : KeyNotes) → ((k : Kind) → times_found k s.reads s.overlaps ≡ 0) → KeepsNotesAt x notes notes (Some s) None
keeps_without x s notes none = record {
  blank = λ blank. blank;
  here = λ blank k n changed. subst (IsChangedTo notes.changes (finding_at x k) n) (none k) changed;
  others = λ blank f n m differs changed. changed;
}

-- ---- what is found now

-- where no key is listed, a kind is found by what is kept of a key as often as it is among the findings there
pub kept_times : (ks : KeyStates) (x : List ℕ) (Q : OnKey) (k : Kind) → ks.marked.items ≡ [] → IsOn ks x Q → times_kept k (get same_key ks.states x) ≡ times_in (finding_at x k) (findings_on cases x Q)
kept_times ks x Q k none on = by (get same_key ks.states x) refl
  where
    by : (o : Option Kept) → get same_key ks.states x ≡ o → times_kept k (get same_key ks.states x) ≡ times_in (finding_at x k) (findings_on cases x Q)
    by None e =
        let bare = subst (λ o. ShowsAt x o Q) e on.shows in
        ap (times_kept k) e ∙ sym (ap (times_in (finding_at x k)) (nothing_found Q bare.1 cases bare.0 x))
    by (Some s) e =
        let shows = shows_settled ks x s Q none e on in
        ap (times_kept k) e ∙ found_times Q s shows.1 (subst IsRisingAt e on.rising) k x

-- notes that were begun now are of what is found now
pub begun_now : (found : List Finding) (ks : KeyStates) → AreBegun ks.notes → ((f : Finding) → times_in f found ≡ times_kept f.kind (get same_key ks.states f.key)) → WereFoundOn found ks
begun_now found ks begun is = record {
  blank = begun.blank;
  each = λ f.
      (let came : times_in f ks.notes.changes.came.items ≡ 0 = ap (times_in f) begun.came in
      let went : times_in f ks.notes.changes.went.items ≡ 0 = ap (times_in f) begun.went in
      omega (arith, came, went, is f));
}

-- ---- what came and what went

not_there : (f : Finding) (others : List Finding) → (Contains others f → ⊥) → not (list_any (finding_eq f) others) ≡ true
not_there f others none = by (list_any (finding_eq f) others) refl
  where
    by : (b : Bool) → list_any (finding_eq f) others ≡ b → not b ≡ true
    by true e = absurd (none (Contains-from_any same_finding f others e))
    by false e = refl

is_there : (f : Finding) (others : List Finding) → Contains others f → not (list_any (finding_eq f) others) ≡ true → ⊥
is_there f others c e = by (list_any (finding_eq f) others) (list_any-from_Contains equals f others c) e
  where
    by : (b : Bool) → b ≡ true → not b ≡ true → ⊥
    by true s t = true≢false (sym t)
    by false s t = true≢false (sym s)

-- those that aren't among the others are there, and not among the others
pub not_in : (f : Finding) (others found : List Finding) → Contains (not_among others found) f → Contains found f × (Contains others f → ⊥)
not_in f others found c = let parts = Contains-from_filter (λ g. not (list_any (finding_eq g) others)) found f c in (parts.0, λ d. is_there f others d parts.1)

pub in_not_among : (f : Finding) (others found : List Finding) → Contains found f → (Contains others f → ⊥) → Contains (not_among others found) f
in_not_among f others found c none = Contains-filter (λ g. not (list_any (finding_eq g) others)) found f c (not_there f others none)

-- where counts differ by what came and what went, these tell what one list has and the other hasn't
pub difference : (before now came went : List Finding) → IsStrictlySortedBy finding_cmp before → IsStrictlySortedBy finding_cmp now
    → ((f : Finding) → times_in f before + times_in f came ≡ times_in f now + times_in f went) → more_often came went ≡ not_among before now
difference before now came went rose rises balance = same_sorted findings_total (more_often came went) (not_among before now)
    (sorted-in_order findings_total (filter (λ f. nat_lt (times_in f went) (times_in f came)) came)) (IsStrictlySortedBy-filter finding_cmp (λ f. not (list_any (finding_eq f) before)) now rises) into from
  where
    there : (f : Finding) (fs : List Finding) → 0 < times_in f fs → Contains fs f
    there f fs lt = counted_there same_finding finding_itself f fs lt

    counts : (f : Finding) (fs : List Finding) → Contains fs f → 0 < times_in f fs
    counts f fs c = there_counted same_finding finding_itself f fs c

    into : (f : Finding) → Contains (more_often came went) f → Contains (not_among before now) f
    into f c =
        let in_came = Contains-from_filter (λ g. nat_lt (times_in g went) (times_in g came)) came f (Contains-from_in_order findings_total (filter (λ g. nat_lt (times_in g went) (times_in g came)) came) f c) in
        let more = ltb-true (times_in f went) (times_in f came) in_came.1 in
        let once = counted_once same_finding finding_itself findings_total f now rises in
        let is : 0 < times_in f now = omega (arith, more, balance f) in
        Contains-filter (λ g. not (list_any (finding_eq g) before)) now f (there f now is)
        (not_there f before (λ d. (let was = counts f before d in (let no : 1 ≤ 0 = omega (arith, more, once, was, balance f) in absurd (omega (arith, no))))))

    from : (f : Finding) → Contains (not_among before now) f → Contains (more_often came went) f
    from f c =
        let in_now = Contains-from_filter (λ g. not (list_any (finding_eq g) before)) now f c in
        let is = counts f now in_now.0 in
        let was = none_counted same_finding finding_itself f before (λ d. is_there f before d in_now.1) in
        let more : times_in f went < times_in f came = omega (arith, is, was, balance f) in
        Contains-in_order findings_total exact_findings (filter (λ g. nat_lt (times_in g went) (times_in g came)) came) f
        (Contains-filter (λ g. nat_lt (times_in g went) (times_in g came)) came f (there f came (omega (arith, more))) (lt-ltb (times_in f went) (times_in f came) more))
