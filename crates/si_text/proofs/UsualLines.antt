-- Bytes that were taken are the tokens of members and operations.
use Rattle.std.proofs.Common.{◌≡◌, ◌<◌, ◌==◌, ◌++◌, inl, inr, ℕ, List, [], ◌∷◌, length, codes, decimal, Bool, true, false, Some, None, refl, sym, ap, subst, ◌∙◌, arith, append_assoc}
use Rattle.std.proofs.lemmas.Bool.{false≢true, eqb-true}
use Rattle.std.proofs.lemmas.List.{length_push}
use Rattle.json.specs.Token as tokens
use Rattle.json.specs.Token.{Token}
use Rattle.json.specs.Json.{read_key}
use Rattle.json.specs.Text.{content}
use Rattle.json.specs.Word.{is_operator, word}
use Rattle.json.specs.Lex as lex
use Rattle.json.specs.Lex.{Lexeme, token, comma, colon, between, Place, fresh, after_value, after_comma, after_key, may_begin, punctuate}
use Rattle.serde_json.specs.Data.{number, string, unsigned}
use Rattle.serde_json.proofs.Numbers.{number_of-decimal}
use Rattle.si_model.specs.KeyTexts.{IsKeyText}
use Rattle.si_model.specs.declared.numbers.Value.{Value}
use Rattle.si_model.specs.declared.operations.Op.{Op}
use Rattle.si_model.specs.declared.operations.Op.TheVariants.{Read, Write}
use Rattle.si_model.specs.declared.operations.TheConstants.{MOST_OPS}
use Rattle.si_text.specs.FoundMembers.{member_name, member_value, IsWithin, TakesValue, TakesObject, Joins}
use Rattle.si_text.specs.TokenOperations.{TakesItems}
use Rattle.si_text.specs.UsualBytes.{Takes, EndsValue, TakesWhole, TakesToken, TakesText, TakesNumber, TakesName, TakesMemberAt, op_word, TakesOpWord, TakesLast, TakesOpAt, left}
use Rattle.si_text.specs.declared.found_members.Found.{Found}
use Rattle.si_text.specs.declared.found_members.Member.{Member}
use Rattle.si_text.proofs.FoundMembers.{numeral_value, text_value, found_none, AreRead, none_read, one_read, all_read}
use Rattle.si_text.proofs.TokenOperations.{AreTaken}
use Rattle.si_text.proofs.UsualBytes.{space_passed, string_taken}

-- ---- words

-- what the lexer makes of a word that ends outside of texts and numbers, whether a space stands behind it or not
pub taken_after : (word old mid new : List ℕ) → mid ≡ old → Takes word mid new → Takes word old new
taken_after word old mid new e h = subst (λ l. Takes word l new) e h

pub whole_after : (word old mid new : List ℕ) → mid ≡ old → TakesWhole word mid new → TakesWhole word old new
whole_after word old mid new e h = subst (λ l. TakesWhole word l new) e h

word_lexed : (word old new : List ℕ) (ls : List Lexeme → List Lexeme) → ((rest : List ℕ) → lex.lex between (word ++ rest) ≡ ls (lex.lex between rest)) → Takes word old new
    → lex.lex between old ≡ ls (lex.lex between new)
unfolding lex.lex
word_lexed word old new ls h (inl e) = ap (lex.lex between) e ∙ h new
word_lexed word old new ls h (inr e) = ap (lex.lex between) e ∙ h (32 ∷ new)

-- the byte that ends a value
end_lexed : (end : ℕ) (old new : List ℕ) → is_operator end ≡ true → Takes (end ∷ []) old new → lex.lex between old ≡ lex.lex between (end ∷ new)
end_lexed end old new h (inl e) = ap (lex.lex between) e
end_lexed end old new h (inr e) = ap (lex.lex between) e ∙ space_passed end new h

pub comma_taken : (old new : List ℕ) → Takes (44 ∷ []) old new → left after_value old ≡ left after_comma new
unfolding lex.lex punctuate
comma_taken old new h = ap (punctuate after_value) (end_lexed 44 old new refl h)

pub brace_taken : (old new : List ℕ) → Takes (125 ∷ []) old new → left after_value old ≡ tokens.end_object ∷ left after_value new
unfolding lex.lex punctuate
brace_taken old new h = ap (punctuate after_value) (end_lexed 125 old new refl h)

-- an array ends behind a value, and where it has none
pub bracket_taken : (old new : List ℕ) → Takes (93 ∷ []) old new → (left after_value old ≡ tokens.end_array ∷ left after_value new) × (left fresh old ≡ tokens.end_array ∷ left after_value new)
unfolding lex.lex punctuate
bracket_taken old new h = (ap (punctuate after_value) (end_lexed 93 old new refl h), ap (punctuate fresh) (end_lexed 93 old new refl h))

-- ---- the names of members

name_placed : (name : List ℕ) (ls : List Lexeme) (p : Place) → may_begin p ≡ true → punctuate p (token (tokens.string name) ∷ colon ∷ ls) ≡ tokens.key name ∷ punctuate fresh ls
unfolding punctuate
name_placed name ls fresh h = refl
name_placed name ls after_value h = absurd (false≢true h)
name_placed name ls after_comma h = refl
name_placed name ls after_key h = absurd (false≢true h)

module _ (old new : List ℕ) where
  name_taken : (name text : List ℕ) → ((rest : List ℕ) → lex.lex between (text ++ rest) ≡ token (tokens.string name) ∷ colon ∷ lex.lex between rest) → Takes text old new → TakesName name old new
  name_taken name text lexed taken p may = ap (punctuate p) (word_lexed text old new (λ ls. token (tokens.string name) ∷ colon ∷ ls) lexed taken) ∙ name_placed name (lex.lex between new) p may

  pub do_named : Takes (codes "\"do\":") old new → TakesName (codes "do") old new
  unfolding lex.lex content
  do_named taken = name_taken (codes "do") (codes "\"do\":") (λ rest. refl) taken

  pub id_named : Takes (codes "\"id\":") old new → TakesName (codes "id") old new
  unfolding lex.lex content
  id_named taken = name_taken (codes "id") (codes "\"id\":") (λ rest. refl) taken

  pub start_named : Takes (codes "\"start\":") old new → TakesName (codes "start") old new
  unfolding lex.lex content
  start_named taken = name_taken (codes "start") (codes "\"start\":") (λ rest. refl) taken

  pub status_named : Takes (codes "\"status\":") old new → TakesName (codes "status") old new
  unfolding lex.lex content
  status_named taken = name_taken (codes "status") (codes "\"status\":") (λ rest. refl) taken

  pub commit_named : Takes (codes "\"commit\":") old new → TakesName (codes "commit") old new
  unfolding lex.lex content
  commit_named taken = name_taken (codes "commit") (codes "\"commit\":") (λ rest. refl) taken

  pub ops_named : Takes (codes "\"ops\":") old new → TakesName (codes "ops") old new
  unfolding lex.lex content
  ops_named taken = name_taken (codes "ops") (codes "\"ops\":") (λ rest. refl) taken

  pub key_named : Takes (codes "\"key\":") old new → TakesName (codes "key") old new
  unfolding lex.lex content
  key_named taken = name_taken (codes "key") (codes "\"key\":") (λ rest. refl) taken

  pub value_named : Takes (codes "\"value\":") old new → TakesName (codes "value") old new
  unfolding lex.lex content
  value_named taken = name_taken (codes "value") (codes "\"value\":") (λ rest. refl) taken

  -- words that are whole values

  word_taken : (text word : List ℕ) → ((rest : List ℕ) → lex.lex between (word ++ rest) ≡ token (tokens.string text) ∷ lex.lex between rest) → TakesWhole word old new → TakesToken (tokens.string text) old new
  word_taken text word lexed taken = string_taken text old new (ap (lex.lex between) taken.0 ∙ lexed new) taken.1

  pub arrival_word : TakesWhole (codes "\"txn\"") old new → TakesToken (tokens.string (codes "txn")) old new
  unfolding lex.lex content
  arrival_word taken = word_taken (codes "txn") (codes "\"txn\"") (λ rest. refl) taken

  pub resolution_word : TakesWhole (codes "\"resolve\"") old new → TakesToken (tokens.string (codes "resolve")) old new
  unfolding lex.lex content
  resolution_word taken = word_taken (codes "resolve") (codes "\"resolve\"") (λ rest. refl) taken

  pub withdrawal_word : TakesWhole (codes "\"withdraw\"") old new → TakesToken (tokens.string (codes "withdraw")) old new
  unfolding lex.lex content
  withdrawal_word taken = word_taken (codes "withdraw") (codes "\"withdraw\"") (λ rest. refl) taken

  pub set_up_word : TakesWhole (codes "\"setup\"") old new → TakesToken (tokens.string (codes "setup")) old new
  unfolding lex.lex content
  set_up_word taken = word_taken (codes "setup") (codes "\"setup\"") (λ rest. refl) taken

  pub committed_word : TakesWhole (codes "\"committed\"") old new → TakesToken (tokens.string (codes "committed")) old new
  unfolding lex.lex content
  committed_word taken = word_taken (codes "committed") (codes "\"committed\"") (λ rest. refl) taken

  pub aborted_word : TakesWhole (codes "\"aborted\"") old new → TakesToken (tokens.string (codes "aborted")) old new
  unfolding lex.lex content
  aborted_word taken = word_taken (codes "aborted") (codes "\"aborted\"") (λ rest. refl) taken

  pub in_doubt_word : TakesWhole (codes "\"indoubt\"") old new → TakesToken (tokens.string (codes "indoubt")) old new
  unfolding lex.lex content
  in_doubt_word taken = word_taken (codes "indoubt") (codes "\"indoubt\"") (λ rest. refl) taken

-- ---- members

module _ (m : Member) (r0 r1 r2 : List ℕ) (named : TakesName (member_name m) r0 r1) where
  pub member_taken : TakesValue m (left fresh r1) (left after_value r2) → TakesMemberAt m r0 r2
  member_taken value p may = record { mid = left fresh r1; name = named p may; value = value }

  pub number_member : (n : ℕ) → member_value m ≡ number (unsigned n) → IsWithin m → TakesNumber n r1 r2 → TakesMemberAt m r0 r2
  number_member n is within h = member_taken (numeral_value m n (left fresh r1) (left after_value r2) is within (record { text = decimal n; is = h.1 fresh refl; reads = number_of-decimal n h.0 }))

  pub text_member : (text : List ℕ) → member_value m ≡ string text → IsWithin m → TakesToken (tokens.string text) r1 r2 → TakesMemberAt m r0 r2
  text_member text is within h = member_taken (text_value m text (left fresh r1) (left after_value r2) is within (h fresh refl))

-- these members were taken since the start of their object, and one more may begin
pub record AreReadAt (start rest : List ℕ) (found : Found) : Type 0 where
  pub place : Place
  pub begins : may_begin place ≡ true
  pub read : AreRead (left fresh start) (left place rest) found

pub none_at : (start : List ℕ) (found : Found) → found ≡ found_none → AreReadAt start start found
none_at start found is = record { place = fresh; begins = refl; read = none_read (left fresh start) found is }

module _ (start r0 r1 r2 : List ℕ) (before after : Found) (m : Member) (h : AreReadAt start r0 before) (taken : TakesMemberAt m r0 r1) (joins : Joins before m after) where
  one_more : AreRead (left fresh start) (left after_value r1) after
  one_more = one_read (left fresh start) (left h.place r0) (left after_value r1) before after m h.read joins (taken h.place h.begins)

  pub one_at : Takes (44 ∷ []) r1 r2 → AreReadAt start r2 after
  one_at ends = record { place = after_comma; begins = refl; read = subst (λ ts. AreRead (left fresh start) ts after) (comma_taken r1 r2 ends) one_more }

  pub all_at : Takes (125 ∷ []) r1 r2 → TakesObject after (tokens.begin_object ∷ left fresh start) (left after_value r2)
  all_at ends = all_read (left fresh start) (left after_value r1) (left after_value r2) after one_more (ap read_key (brace_taken r1 r2 ends))

-- ---- an operation

op_placed : (word : List ℕ) (ls : List Lexeme) (p : Place) → may_begin p ≡ true → punctuate p (token tokens.begin_array ∷ token (tokens.string word) ∷ comma ∷ ls) ≡ tokens.begin_array ∷ tokens.string word ∷ punctuate after_comma ls
unfolding punctuate
op_placed word ls fresh h = refl
op_placed word ls after_value h = absurd (false≢true h)
op_placed word ls after_comma h = refl
op_placed word ls after_key h = absurd (false≢true h)

pub write_begun : (r0 r1 : List ℕ) → Takes (codes "[\"w\",") r0 r1 → TakesOpWord true r0 r1
unfolding lex.lex content
write_begun r0 r1 taken p may = ap (punctuate p) (word_lexed (codes "[\"w\",") r0 r1 (λ ls. token tokens.begin_array ∷ token (tokens.string (codes "w")) ∷ comma ∷ ls) (λ rest. refl) taken) ∙ op_placed (codes "w") (lex.lex between r1) p may

pub read_begun : (r0 r1 : List ℕ) → Takes (codes "[\"r\",") r0 r1 → TakesOpWord false r0 r1
unfolding lex.lex content
read_begun r0 r1 taken p may = ap (punctuate p) (word_lexed (codes "[\"r\",") r0 r1 (λ ls. token tokens.begin_array ∷ token (tokens.string (codes "r")) ∷ comma ∷ ls) (λ rest. refl) taken) ∙ op_placed (codes "r") (lex.lex between r1) p may

null_left : (r2 r3 : List ℕ) → Takes (codes "null]") r2 r3 → left after_comma r2 ≡ tokens.null ∷ tokens.end_array ∷ left after_value r3
unfolding lex.lex word punctuate
null_left r2 r3 taken = ap (punctuate after_comma) (word_lexed (codes "null]") r2 r3 (λ ls. token tokens.null ∷ token tokens.end_array ∷ ls) (λ rest. refl) taken)

pub last_taken : (n : ℕ) (r3 r4 r5 : List ℕ) → TakesNumber n r3 r4 → Takes (93 ∷ []) r4 r5 → TakesLast n r3 r5
last_taken n r3 r4 r5 h closes = (h.0, h.1 after_comma refl ∙ ap (λ ts. tokens.number (decimal n) ∷ ts) (bracket_taken r4 r5 closes).0)

-- a comma ends a value
comma_ends : (old new : List ℕ) → Takes (44 ∷ []) old new → EndsValue old
comma_ends old new (inl e) = record { end = 44; others = new; is = e; ends = inl refl }
comma_ends old new (inr e) = record { end = 44; others = 32 ∷ new; is = e; ends = inl refl }

module _ (key r0 r1 r2 r3 : List ℕ) (fits : IsKeyText key) (text : TakesText key r1 r2) (ends : Takes (44 ∷ []) r2 r3) where
  key_left : left after_comma r1 ≡ tokens.string key ∷ left after_comma r3
  key_left = string_taken key r1 r2 text (comma_ends r2 r3 ends) after_comma refl ∙ ap (λ ts. tokens.string key ∷ ts) (comma_taken r2 r3 ends)

  op_left : (writes : Bool) (t : Token) (r4 : List ℕ) → TakesOpWord writes r0 r1 → left after_comma r3 ≡ t ∷ tokens.end_array ∷ left after_value r4 → (p : Place) → may_begin p ≡ true
      → left p r0 ≡ tokens.begin_array ∷ tokens.string (op_word writes) ∷ tokens.string key ∷ t ∷ tokens.end_array ∷ left after_value r4
  op_left writes t r4 begun last p may = begun p may ∙ ap (λ ts. tokens.begin_array ∷ tokens.string (op_word writes) ∷ ts) (key_left ∙ ap (λ ts. tokens.string key ∷ ts) last)

  pub first_read_taken : (r4 : List ℕ) → TakesOpWord false r0 r1 → Takes (codes "null]") r3 r4 → TakesOpAt (Read key None) r0 r4
  first_read_taken r4 begun last p may = record {
    word = codes "r";
    text = key;
    value = tokens.null;
    is = op_left false tokens.null r4 begun (null_left r3 r4 last) p may;
    fits = fits;
    means = (refl, refl, refl);
  }

  module _ (value : Value) (r5 : List ℕ) (number : TakesLast value.0 r3 r5) where
    pub write_taken : TakesOpWord true r0 r1 → TakesOpAt (Write key value) r0 r5
    write_taken begun p may = record {
      word = codes "w";
      text = key;
      value = tokens.number (decimal value.0);
      is = op_left true (tokens.number (decimal value.0)) r5 begun number.1 p may;
      fits = fits;
      means = (refl, refl, record { text = decimal value.0; is = refl; reads = number_of-decimal value.0 number.0 });
    }

    pub read_taken : TakesOpWord false r0 r1 → TakesOpAt (Read key (Some value)) r0 r5
    read_taken begun p may = record {
      word = codes "r";
      text = key;
      value = tokens.number (decimal value.0);
      is = op_left false (tokens.number (decimal value.0)) r5 begun number.1 p may;
      fits = fits;
      means = (refl, refl, record { text = decimal value.0; is = refl; reads = number_of-decimal value.0 number.0 });
    }

-- ---- the operations

-- these operations were gathered since the start of their array, and one more may begin
pub record AreGathered (start rest : List ℕ) (ops : List Op) : Type 0 where
  pub place : Place
  pub begins : may_begin place ≡ true
  pub taken : AreTaken (left fresh start) (left place rest) ops

pub none_gathered : (start : List ℕ) → AreGathered start start []
none_gathered start = record { place = fresh; begins = refl; taken = record { rest = λ more new h. h; few = omega arith } }

module _ (start r0 r1 r2 : List ℕ) (ops : List Op) (op : Op) (gathered : AreGathered start r0 ops) (next : TakesOpAt op r0 r1) where
  pub one_gathered : length ops < MOST_OPS → Takes (44 ∷ []) r1 r2 → AreGathered start r2 (ops ++ op ∷ [])
  one_gathered room taken = record {
    place = after_comma;
    begins = refl;
    taken = record {
      rest = λ more new h.
          subst (λ l. TakesItems l (left fresh start) new) (sym (append_assoc ops (op ∷ []) more))
          (gathered.taken.rest (op ∷ more) new (left after_value r1, next gathered.place gathered.begins, subst (λ ts. TakesItems more ts new) (sym (comma_taken r1 r2 taken)) h));
      few = omega (arith, length_push ops op);
    };
  }

  pub all_gathered : Takes (93 ∷ []) r1 r2 → TakesItems (ops ++ op ∷ []) (left fresh start) (left after_value r2)
  all_gathered taken = gathered.taken.rest (op ∷ []) (left after_value r2) (left after_value r1, next gathered.place gathered.begins, (bracket_taken r1 r2 taken).0)

pub array_begun : (r0 r1 : List ℕ) → Takes (91 ∷ []) r0 r1 → left fresh r0 ≡ tokens.begin_array ∷ left fresh r1
unfolding lex.lex punctuate
array_begun r0 r1 taken = ap (punctuate fresh) (word_lexed (91 ∷ []) r0 r1 (λ ls. token tokens.begin_array ∷ ls) (λ rest. refl) taken)

-- ---- the line

pub object_begun : (line rest : List ℕ) → Takes (codes "{") line rest → lex.tokens line ≡ tokens.begin_object ∷ left fresh rest
unfolding lex.lex punctuate
object_begun line rest taken = ap (punctuate fresh) (word_lexed (codes "{") line rest (λ ls. token tokens.begin_object ∷ ls) (λ r. refl) taken)

pub nothing_left : (rest : List ℕ) → true ≡ (length rest == 0) → left after_value rest ≡ []
unfolding lex.lex punctuate
nothing_left [] h = refl
nothing_left (x ∷ xs) h = absurd (omega (arith, eqb-true (length (x ∷ xs)) 0 (sym h)))
