-- KeptReads, whose transactions' own values stand apart.
use Rattle.std.proofs.Common.{◌≡◌, ◌∙◌, Bool, true, false, cond, List, [], ◌∷◌, Option, Some, None, length, slice_get, ◌-◌, is_some, refl, sym, ap, ap₂, true≢false}
use Rattle.std.specs.BTreeMap.{is_at}
use Rattle.std.specs.Map.{keys_of}
use Rattle.std.specs.Option.{option_map}
use Rattle.std.specs.Ordering.{eq_by_cmp}
use Rattle.std.proofs.lemmas.List.{length-map}
use Rattle.std.proofs.lemmas.Option.{slice_get-map}
use Rattle.si_model.specs.declared.numbers.Value.{Value}
use Rattle.si_sorted.specs.Entries.{Sets, value_at}
use Rattle.si_judge.specs.declared.reads.KeptRead.{KeptRead}
use Rattle.si_judge.specs.KeptReads.{AreOfKeptReads, own_at, kept_read_cmp, with_own}
use Rattle.si_judge.proofs.Orders.{kept_read_decides}

module _ {X : Type 0} where
  -- they are the same readers
  pub keys_with_own : (own : List (KeptRead × Value)) (es : List (KeptRead × X)) → keys_of (with_own own es) ≡ keys_of es
  keys_with_own own [] = refl
  keys_with_own own (e ∷ es) = ap (λ l. e.0 ∷ l) (keys_with_own own es)

  pub last_with_own : (own : List (KeptRead × Value)) (es : List (KeptRead × X))
      → option_map (λ e. e.0) (slice_get es (length es - 1)) ≡ slice_get (keys_of (with_own own es)) (length (with_own own es) - 1)
  last_with_own own es = sym (slice_get-map (λ e. e.0) es (length es - 1)) ∙ ap₂ (λ rs n. slice_get rs (n - 1)) (sym (keys_with_own own es)) (sym (length-map es _))

  -- there is none only where there was none
  pub none_with_own : (own : List (KeptRead × Value)) (es : List (KeptRead × X)) → with_own own es ≡ [] → es ≡ []
  none_with_own own [] e = refl
  none_with_own own (d ∷ es) e = absurd (true≢false (ap is_cons e))
    where
      is_cons : List (KeptRead × Option Value) → Bool
      is_cons [] = false
      is_cons (x ∷ xs) = true

  -- what stands beside one
  pub own_with_own : (own : List (KeptRead × Value)) (es : List (KeptRead × X)) (q : KeptRead)
      → own_at (with_own own es) q ≡ option_map (λ _. value_at kept_read_cmp own q) (value_at kept_read_cmp es q)
  own_with_own own [] q = refl
  own_with_own own (e ∷ es) q = by (is_at (kept_read_cmp q) e.0) refl (own_with_own own es q)
    where
      by : (b : Bool) → is_at (kept_read_cmp q) e.0 ≡ b
          → own_at (with_own own es) q ≡ option_map (λ _. value_at kept_read_cmp own q) (value_at kept_read_cmp es q)
          → cond b (Some (value_at kept_read_cmp own e.0)) (own_at (with_own own es) q)
          ≡ option_map (λ _. value_at kept_read_cmp own q) (cond b (Some e.1) (value_at kept_read_cmp es q))
      by true at rest = ap (λ r. Some (value_at kept_read_cmp own r)) (sym ((kept_read_decides q e.0).0 at))
      by false at rest = rest

  -- a reader comes with its own value, or both go
  pub both_set : (r : KeptRead) (o : Option X) (v : Option Value) (es ds : List (KeptRead × X)) (old new : List (KeptRead × Value))
      → Sets kept_read_cmp r o es ds → Sets kept_read_cmp r v old new → Sets kept_read_cmp r (option_map (λ _. v) o) (with_own old es) (with_own new ds)
  both_set r o v es ds old new sets own_sets q =
      own_with_own new ds q ∙ ap (λ w. option_map (λ _. w) (value_at kept_read_cmp ds q)) (own_sets q) ∙ ap (option_map (λ _. cond (eq_by_cmp kept_read_cmp r q) v (value_at kept_read_cmp old q))) (sets q)
      ∙ by (eq_by_cmp kept_read_cmp r q)
    where
      by : (b : Bool) → option_map (λ _. cond b v (value_at kept_read_cmp old q)) (cond b o (value_at kept_read_cmp es q))
          ≡ cond b (option_map (λ _. v) o) (own_at (with_own old es) q)
      by true = refl
      by false = sym (own_with_own old es q)

  -- where a reader comes an own value still stands apart only for one that is there
  pub more_reads : (r : KeptRead) (x : X) (own : List (KeptRead × Value)) (es ds : List (KeptRead × X))
      → Sets kept_read_cmp r (Some x) es ds → AreOfKeptReads own es → AreOfKeptReads own ds
  more_reads r x own es ds sets are q none = by (eq_by_cmp kept_read_cmp r q) (sym (sets q) ∙ none)
    where
      by : (b : Bool) → cond b (Some x) (value_at kept_read_cmp es q) ≡ None → value_at kept_read_cmp own q ≡ None
      by true e = absurd (true≢false (ap is_some e))
      by false e = are q e

  -- the same where a reader goes, and its own value with it
  pub fewer_reads : (r : KeptRead) (own new : List (KeptRead × Value)) (es ds : List (KeptRead × X))
      → Sets kept_read_cmp r None es ds → Sets kept_read_cmp r None own new → AreOfKeptReads own es → AreOfKeptReads new ds
  fewer_reads r own new es ds sets own_sets are q none = own_sets q ∙ by (eq_by_cmp kept_read_cmp r q) (sym (sets q) ∙ none)
    where
      by : (b : Bool) → cond b None (value_at kept_read_cmp es q) ≡ None → cond b None (value_at kept_read_cmp own q) ≡ None
      by true e = refl
      by false e = are q e
