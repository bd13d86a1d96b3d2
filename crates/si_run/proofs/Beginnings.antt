-- What was written for items is a beginning of the text of those and all that follow.
use Rattle.std.proofs.Common.{◌≡◌, ℕ, ◌+◌, Bool, true, false, cond, ◌||◌, ◌&&◌, List, [], ◌∷◌, ◌++◌, Option, None, refl, sym, ap, subst, ◌∙◌, inl, inr, append_assoc, append-nil}
use Rattle.std.specs.Io.KnownBytes.{Appends}
use Rattle.std.proofs.KnownBytes.{Appends-trans, Appends-nil}
use Rattle.std.proofs.lemmas.List.Elements.{filter_map-append}
use Rattle.std.proofs.lemmas.List.Folds.{list_any-append}
use Rattle.si_intake.specs.Ends.{Accepting, AllEnded}
use Rattle.si_intake.specs.declared.items.Item.{Item as Told}
use Rattle.si_intake.specs.declared.items.What.{What}
use Rattle.si_intake.specs.declared.items.What.TheVariants.{Line, ReadFault, NoMemory, End}
use Rattle.std.specs.Prelude.{Result, Ok, Err, IfOk, OnOk, IfErr}
use Rattle.std.specs.List.{cons_option}
use Rattle.si_text.specs.Devices.{Lent, Output, lent}
use Rattle.si_text.specs.Inputs.{Item}
use Rattle.si_run.specs.declared.statuses.ExitStatus.{ExitStatus}
use Rattle.si_run.specs.declared.faults.RunFault.{RunFault}
use Rattle.si_run.specs.declared.faults.RunFault.TheVariants as fault
use Rattle.si_run.specs.Outputs.{SourcedItem, sourced, Terms, Progress, start, behind_report, decided_after, is_due, progress_after, progress_through, violations_at, report_at, item_text, items_text, output_of, status_at, status_of}
use Rattle.si_run.specs.Readings.{told}
use Rattle.si_run.specs.Runs.{AppendsBeginning, IsUnwritten}
use Rattle.si_run.specs.Takings.{IsAccepted, IsBegun, IsCutInReport, IsCutOff, IsDecided, IsMetAt, IsFinished, has_fault, is_fault, line_of, line_told, lines_among}

-- ---- the texts of items, one more at the end

pub progress_through-push : (terms : Terms) (p : Progress) (items : List SourcedItem) (item : SourcedItem) → progress_through terms p (items ++ item ∷ []) ≡ progress_after terms (progress_through terms p items) item
progress_through-push terms p [] item = refl
progress_through-push terms p (first ∷ items) item = progress_through-push terms (progress_after terms p first) items item

items_text-push : (terms : Terms) (p : Progress) (items : List SourcedItem) (item : SourcedItem) → items_text terms p (items ++ item ∷ []) ≡ items_text terms p items ++ item_text terms (progress_through terms p items) item
items_text-push terms p [] item = append-nil (item_text terms p item)
items_text-push terms p (first ∷ items) item =
    ap (λ text. item_text terms p first ++ text) (items_text-push terms (progress_after terms p first) items item)
    ∙ sym (append_assoc (item_text terms p first) (items_text terms (progress_after terms p first) items) (item_text terms (progress_through terms (progress_after terms p first) items) item))

pub nothing : (old : Option (List ℕ)) (text : List ℕ) → AppendsBeginning old old text
nothing old text = ([], text, refl, Appends-nil old)

-- a beginning of what comes behind a text is, behind that text, a beginning of both
pub behind : (old mid new : Option (List ℕ)) (before text tail : List ℕ) → Appends old mid before → AppendsBeginning mid new text → AppendsBeginning old new (before ++ (text ++ tail))
behind old mid new before text tail wrote part =
    let one : before ++ (text ++ tail) ≡ (before ++ part.0) ++ (part.1 ++ tail) =
    ap (λ t. before ++ (t ++ tail)) part.2 ∙ ap (λ t. before ++ t) (append_assoc part.0 part.1 tail) ∙ sym (append_assoc before part.0 (part.1 ++ tail)) in
    (before ++ part.0, part.1 ++ tail, one, Appends-trans old mid new before part.0 wrote part.3)

-- ---- what is left to write

progress_through-append : (terms : Terms) (p : Progress) (xs ys : List SourcedItem) → progress_through terms p (xs ++ ys) ≡ progress_through terms (progress_through terms p xs) ys
progress_through-append terms p [] ys = refl
progress_through-append terms p (x ∷ xs) ys = progress_through-append terms (progress_after terms p x) xs ys

items_text-append : (terms : Terms) (p : Progress) (xs ys : List SourcedItem) → items_text terms p (xs ++ ys) ≡ items_text terms p xs ++ items_text terms (progress_through terms p xs) ys
items_text-append terms p [] ys = refl
items_text-append terms p (x ∷ xs) ys =
    ap (λ text. item_text terms p x ++ text) (items_text-append terms (progress_after terms p x) xs ys)
    ∙ sym (append_assoc (item_text terms p x) (items_text terms (progress_after terms p x) xs) (items_text terms (progress_through terms (progress_after terms p x) xs) ys))

-- what is written for items and at the end
abbrev rest_of : Terms → Progress → List SourcedItem → List ℕ
rest_of terms p items = items_text terms p items ++ report_at terms (progress_through terms p items)

output-append : (terms : Terms) (xs ys : List SourcedItem) → output_of terms (xs ++ ys) ≡ items_text terms start xs ++ rest_of terms (progress_through terms start xs) ys
unfolding output_of
output-append terms xs ys =
    ap (λ text. text ++ report_at terms (progress_through terms start (xs ++ ys))) (items_text-append terms start xs ys)
    ∙ append_assoc (items_text terms start xs) (items_text terms (progress_through terms start xs) ys) (report_at terms (progress_through terms start (xs ++ ys)))
    ∙ ap (λ q. items_text terms start xs ++ (items_text terms (progress_through terms start xs) ys ++ report_at terms q)) (progress_through-append terms start xs ys)

pub counts_on : (terms : Terms) (p : Progress) → (behind_report terms p).decided ≡ p.decided
unfolding behind_report
counts_on terms p = elim (is_due terms.every p.decided && terms.only_new) as (λ b. (cond b (record p { told = violations_at p }) p).decided ≡ p.decided) [
  | true ↦ refl
  | false ↦ refl
]

pub decided_one : (terms : Terms) (p : Progress) (item : SourcedItem) → (progress_after terms p item).decided ≡ p.decided + 1
unfolding progress_after decided_after
decided_one terms p item = counts_on terms (decided_after terms p item)

-- ---- one item more

or_both : (a b : Bool) → a ≡ false → b ≡ false → (a || b) ≡ false
or_both a b e f = ap (λ (x : Bool). x || b) e ∙ f

no_more_faults : (taken : List Told) (t : Told) → has_fault taken ≡ false → is_fault t.what ≡ false → has_fault (taken ++ t ∷ []) ≡ false
no_more_faults taken t e f = list_any-append (λ (i : Told). is_fault i.what) taken (t ∷ []) ∙ or_both (has_fault taken) (is_fault t.what || false) e (or_both (is_fault t.what) false f refl)

-- a line was taken, decided and its text written
pub line_decided : (terms : Terms) (taken : List Told) (old mid new : Option (List ℕ)) (p q : Progress) (source : ℕ) (item : Item) (text : List ℕ)
    → IsDecided terms taken old mid p → Appends mid new text → text ≡ item_text terms p (sourced source item) → q ≡ progress_after terms p (sourced source item)
    → IsDecided terms (taken ++ told source (Line item) ∷ []) old new q
line_decided terms taken old mid new p q source item text way adds text_is q_is =
    let line : SourcedItem = sourced source item in
    let lines : lines_among (taken ++ told source (Line item) ∷ []) ≡ lines_among taken ++ line ∷ [] = filter_map-append line_of taken (told source (Line item) ∷ []) in
    let texts : items_text terms start (lines_among (taken ++ told source (Line item) ∷ [])) ≡ items_text terms start (lines_among taken) ++ text =
    ap (items_text terms start) lines ∙ items_text-push terms start (lines_among taken) line
    ∙ ap (λ t. items_text terms start (lines_among taken) ++ t) (ap (λ r. item_text terms r line) (sym way.progress) ∙ sym text_is) in
    record {
      faultless = no_more_faults taken (told source (Line item)) way.faultless refl;
      wrote = subst (Appends old new) (sym texts) (Appends-trans old mid new (items_text terms start (lines_among taken)) text way.wrote adds);
      progress = q_is ∙ ap (λ r. progress_after terms r line) way.progress ∙ sym (progress_through-push terms start (lines_among taken) line) ∙ ap (progress_through terms start) (sym lines);
    }

-- an end was taken
pub end_decided : (terms : Terms) (taken : List Told) (old new : Option (List ℕ)) (p : Progress) (source : ℕ) → IsDecided terms taken old new p → IsDecided terms (taken ++ told source End ∷ []) old new p
end_decided terms taken old new p source way =
    let lines : lines_among (taken ++ told source End ∷ []) ≡ lines_among taken = filter_map-append line_of taken (told source End ∷ []) ∙ append-nil (lines_among taken) in
    record {
      faultless = no_more_faults taken (told source End) way.faultless refl;
      wrote = subst (λ (l : List SourcedItem). Appends old new (items_text terms start l)) (sym lines) way.wrote;
      progress = way.progress ∙ ap (progress_through terms start) (sym lines);
    }

-- ---- at a fault

-- behind the lines that were decided a beginning of what comes next was written
begun : (terms : Terms) (old mid new : Option (List ℕ)) (lines more : List SourcedItem) (p : Progress) (text tail : List ℕ)
    → Appends old mid (items_text terms start lines) → p ≡ progress_through terms start lines
    → AppendsBeginning mid new text → rest_of terms p more ≡ text ++ tail
    → AppendsBeginning old new (output_of terms (lines ++ more))
begun terms old mid new lines more p text tail wrote progress part next =
    let before = items_text terms start lines in
    let all : output_of terms (lines ++ more) ≡ before ++ (text ++ tail) =
    output-append terms lines more ∙ ap (λ q. before ++ rest_of terms q more) (sym progress) ∙ ap (λ t. before ++ t) next in
    subst (AppendsBeginning old new) (sym all) (behind old mid new before text tail wrote part)

-- nothing more was written
pub stops : (terms : Terms) (taken : List Told) (old new : Option (List ℕ)) (p : Progress) → IsDecided terms taken old new p → IsBegun terms (lines_among taken) old new
stops terms taken old new p way = λ more. begun terms old new new (lines_among taken) more p [] (rest_of terms p more) way.wrote way.progress (nothing new []) refl

-- what was begun stays so with more lines
more_begun : (terms : Terms) (lines all next : List SourcedItem) (old new : Option (List ℕ)) → all ≡ lines ++ next → IsBegun terms lines old new → IsBegun terms all old new
more_begun terms lines all next old new is begun = λ more.
    subst (λ (l : List SourcedItem). AppendsBeginning old new (output_of terms l)) (sym (ap (λ (l : List SourcedItem). l ++ more) is ∙ append_assoc lines next more)) (begun (next ++ more))

-- a part of the text of one more line was written
pub stops_in_line : (terms : Terms) (taken : List Told) (old mid new : Option (List ℕ)) (p : Progress) (source : ℕ) (item : Item) (text : List ℕ)
    → IsDecided terms taken old mid p → AppendsBeginning mid new text → text ≡ item_text terms p (sourced source item)
    → IsBegun terms (lines_among (taken ++ told source (Line item) ∷ [])) old new
stops_in_line terms taken old mid new p source item text way part text_is = λ more.
    let line : SourcedItem = sourced source item in
    let q = progress_after terms p line in
    let next : rest_of terms p (line ∷ more) ≡ text ++ rest_of terms q more =
    append_assoc (item_text terms p line) (items_text terms q more) (report_at terms (progress_through terms q more))
    ∙ ap (λ t. t ++ rest_of terms q more) (sym text_is) in
    let lines : lines_among (taken ++ told source (Line item) ∷ []) ++ more ≡ lines_among taken ++ line ∷ more =
    ap (λ (l : List SourcedItem). l ++ more) (filter_map-append line_of taken (told source (Line item) ∷ [])) ∙ append_assoc (lines_among taken) (line ∷ []) more in
    subst (λ (l : List SourcedItem). AppendsBeginning old new (output_of terms l)) (sym lines)
    (begun terms old mid new (lines_among taken) (line ∷ more) p text (rest_of terms q more) way.wrote way.progress part next)

-- ---- at the end

pub finishes : (terms : Terms) (taken : List Told) (old mid new : Option (List ℕ)) (p q : Progress) (status : ExitStatus)
    → IsDecided terms taken old mid p → q ≡ p → Appends mid new (report_at terms p) → status ≡ status_at terms p → IsFinished terms taken old new q status
unfolding output_of status_of
finishes terms taken old mid new p q status way still adds status_is =
    let before = items_text terms start (lines_among taken) in
    record {
      faultless = way.faultless;
      wrote = subst (λ t. Appends old new (before ++ t)) (ap (report_at terms) way.progress) (Appends-trans old mid new before (report_at terms p) way.wrote adds);
      progress = still ∙ way.progress;
      ends = status_is ∙ ap (status_at terms) way.progress;
    }

-- ---- what isn't written whole

-- a beginning of it was
pub unwritten_begins : (out : Lent Output) (text : List ℕ) (f : RunFault) → IsUnwritten out text f → AppendsBeginning out.before.written out.after.written text
unwritten_begins out text (fault.Input source) m = absurd m
unwritten_begins out text (fault.Open opening) m = absurd m
unwritten_begins out text fault.Output m = (m.1.0, m.1.1, m.1.2, m.1.4)
unwritten_begins out text fault.Memory m = subst (λ (x : Option (List ℕ)). AppendsBeginning out.before.written x text) (sym m.1) (nothing out.before.written text)

-- what was written is a beginning of the text of all lines that were taken until the fault was met, and whatever lines follow
pub cut_begun : (terms : Terms) (taken : List Told) (out : Lent Output) (q : Progress) (f : RunFault)
    → IsCutOff terms taken out q f → IsBegun terms (lines_among taken) out.before.written out.after.written
cut_begun terms taken out q f cut = subst (λ (l : List Told). IsBegun terms (lines_among l) old new) (sym cut.order) (by cut.last.what cut.met)
  where
    old : Option (List ℕ)
    old = out.before.written

    new : Option (List ℕ)
    new = out.after.written

    source : ℕ
    source = cut.last.source

    -- a source told a fault
    quiet : (what : What) → line_told source what ≡ None → new ≡ cut.mid.written → IsBegun terms (lines_among (cut.before ++ told source what ∷ [])) old new
    quiet what none same =
        let lines : lines_among (cut.before ++ told source what ∷ []) ≡ lines_among cut.before =
        filter_map-append line_of cut.before (told source what ∷ [])
        ∙ ap (λ (o : Option SourcedItem). lines_among cut.before ++ cons_option o []) none
        ∙ append-nil (lines_among cut.before) in
        subst (λ (l : List SourcedItem). IsBegun terms l old new) (sym lines)
        (subst (λ (x : Option (List ℕ)). IsBegun terms (lines_among cut.before) old x) (sym same) (stops terms cut.before old cut.mid.written cut.p cut.decided))

    by : (what : What) → IsMetAt terms cut.p source what (lent cut.mid out.after) q f → IsBegun terms (lines_among (cut.before ++ told source what ∷ [])) old new
    by (Line item) m =
        let text = item_text terms cut.p (sourced source item) in
        stops_in_line terms cut.before old cut.mid.written new cut.p source item text cut.decided (unwritten_begins (lent cut.mid out.after) text f m.0) refl
    by ReadFault m = quiet ReadFault refl m.1.1
    by NoMemory m = quiet NoMemory refl m.1.1
    by End m = absurd m

-- so it is where more was taken and dropped
pub stop_begun : (terms : Terms) (taken met dropped : List Told) (out : Lent Output) (q : Progress) (f : RunFault)
    → taken ≡ met ++ dropped → IsCutOff terms met out q f → IsBegun terms (lines_among taken) out.before.written out.after.written
stop_begun terms taken met dropped out q f order cut =
    more_begun terms (lines_among met) (lines_among taken) (lines_among dropped) out.before.written out.after.written
    (ap lines_among order ∙ filter_map-append line_of met dropped) (cut_begun terms met out q f cut)

-- where the last report wasn't written whole, what was written is a beginning of the text of all lines
pub report_begun : (terms : Terms) (taken : List Told) (out : Lent Output) (q : Progress) (f : RunFault)
    → IsCutInReport terms taken out q f → AppendsBeginning out.before.written out.after.written (output_of terms (lines_among taken))
report_begun terms taken out q f cut =
    subst (λ (l : List SourcedItem). AppendsBeginning out.before.written out.after.written (output_of terms l)) (append-nil (lines_among taken))
    (begun terms out.before.written cut.mid.written out.after.written (lines_among taken) [] q (report_at terms q) [] cut.decided.wrote cut.decided.progress
    (unwritten_begins (lent cut.mid out.after) (report_at terms q) f cut.met) (sym (append-nil (report_at terms q))))

-- ---- all was taken

-- everything was decided, and then the last report written, or not the whole of it
pub reported : (terms at : Terms) (old new : Accepting) (before mid after : Output) (p q : Progress) (result : Result ExitStatus RunFault)
    → at ≡ terms → new ≡ record old { taken = new.taken } → AllEnded new → IsDecided terms new.taken before.written mid.written p → q ≡ p
    → OnOk result (Appends mid.written after.written (report_at at p)) → IfOk result (λ status. status ≡ status_at at p) → OnOk result (after.failed ≡ false)
    → IfErr result (IsUnwritten (lent mid after) (report_at at p))
    → IsAccepted terms old new (lent before after) q result
reported terms at old new before mid after p q (Ok status) is same ended way still adds status_is works fault = record {
  same = same;
  ended = ended;
  ok = finishes terms new.taken before.written mid.written after.written p q status way still (subst (λ (t : Terms). Appends mid.written after.written (report_at t p)) is adds)
      (subst (λ (t : Terms). status ≡ status_at t p) is status_is);
  works = works;
  err = tt;
}
reported terms at old new before mid after p q (Err f) is same ended way still adds status_is works fault = record {
  same = same;
  ended = ended;
  ok = tt;
  works = tt;
  err = inr (record {
    mid = mid;
    decided = subst (IsDecided terms new.taken before.written mid.written) (sym still) way;
    met = subst (λ (r : Progress). IsUnwritten (lent mid after) (report_at terms r) f) (sym still) (subst (λ (t : Terms). IsUnwritten (lent mid after) (report_at t p) f) is fault);
  });
}

-- a fault was met, and what was left was taken and dropped
pub dropped : (terms : Terms) (old mid new : Accepting) (more : List Told) (out : Lent Output) (q : Progress) (f : RunFault)
    → mid ≡ record old { taken = mid.taken } → new ≡ record mid { taken = mid.taken ++ more } → AllEnded new
    → IsCutOff terms mid.taken out q f
    → IsAccepted terms old new out q (Err f)
dropped terms old mid new more out q f same goes_on ended cut =
    let taken : new.taken ≡ mid.taken ++ more = ap (λ (a : Accepting). a.taken) goes_on in
    record {
      same = goes_on ∙ ap (λ (a : Accepting). record a { taken = mid.taken ++ more }) same ∙ ap (λ (l : List Told). record old { taken = l }) (sym taken);
      ended = ended;
      ok = tt;
      works = tt;
      err = inl (mid.taken, more, taken, cut);
    }
