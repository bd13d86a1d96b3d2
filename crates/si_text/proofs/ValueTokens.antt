-- The tokens with which a JSON value begins, and the value that they are, built from its parts.
use Rattle.std.proofs.Common.{◌≡◌, ◌≤◌, ◌<◌, ◌-◌, ℕ, List, [], ◌∷◌, length, Some, None, option_map, option_and_then, refl, ap, ◌∙◌, arith}
use Rattle.json.specs.Token as tokens
use Rattle.json.specs.Token.{Token}
use Rattle.json.specs.Json as json
use Rattle.json.specs.Json.{value, items, members, after_end_array, read_key, parse_map, if_last}
use Rattle.json.specs.Lex as lex
use Rattle.json.proofs.Grammar.{left, value_is, value-begin_array, value-begin_object, items_end, items_more, members_end, members_more, read_key-shorter, skip_value-shorter}
use Rattle.serde_json.specs.Data.{unsigned, Data, null, number, string, array, object, Items, no_items, item, Members, no_members, put}
use Rattle.serde_json.specs.Read.{number_of, of_json, of_items, of_members, read}
use Rattle.si_text.specs.FoundMembers.{Begins}

shorter : (depth : ℕ) (d : Data) (old new : List Token) → Begins depth d old new → length new < length old
shorter depth d old new h = skip_value-shorter depth old new (ap left h.reads)

module _ (depth : ℕ) (new : List Token) where
  pub null_begins : Begins depth null (tokens.null ∷ new) new
  null_begins = record { from = json.null; reads = value_is depth (tokens.null ∷ new); means = refl }

  pub string_begins : (s : List ℕ) → Begins depth (string s) (tokens.string s ∷ new) new
  string_begins s = record { from = json.string s; reads = value_is depth (tokens.string s ∷ new); means = refl }

  pub number_begins : (text : List ℕ) (n : ℕ) → number_of text ≡ Some (unsigned n) → Begins depth (number (unsigned n)) (tokens.number text ∷ new) new
  number_begins text n e = record { from = json.number text; reads = value_is depth (tokens.number text ∷ new); means = ap (option_map number) e }

-- ---- arrays

-- the tokens begin with the rest of an array
pub record ItemsBegin (depth : ℕ) (ds : Items) (old new : List Token) : Type 0 where
  pub from : json.Items
  pub reads : (n : ℕ) → length old ≤ n → items (value depth) n old ≡ Some (from, new)
  pub means : of_items from ≡ Some ds

pub no_item_begins : (depth : ℕ) (old new : List Token) → after_end_array old ≡ Some new → ItemsBegin depth no_items old new
no_item_begins depth old new e = record { from = json.no_items; reads = λ n enough. items_end (value depth) n old new enough e; means = refl }

pub item_begins : (depth : ℕ) (d : Data) (ds : Items) (old mid new : List Token) → after_end_array old ≡ None → Begins depth d old mid → ItemsBegin depth ds mid new → ItemsBegin depth (item d ds) old new
item_begins depth d ds old mid new going first others =
    let less = shorter depth d old mid first in record {
      from = json.item first.from others.from;
      reads = λ n enough. items_more (value depth) n old mid first.from (omega (arith, less, enough)) going first.reads ∙ ap (parse_map (json.item first.from)) (others.reads (n - 1) (omega (arith, less, enough)));
      means = ap (option_and_then (λ x. option_map (item x) (of_items others.from))) first.means ∙ ap (option_map (item d)) others.means;
    }

pub array_begins : (depth : ℕ) (ds : Items) (old new : List Token) → 0 < depth → ItemsBegin (depth - 1) ds old new → Begins depth (array ds) (tokens.begin_array ∷ old) new
array_begins depth ds old new some h = record {
  from = json.array h.from;
  reads = value-begin_array depth old some ∙ ap (parse_map json.array) (h.reads (length old) (omega arith));
  means = ap (option_map array) h.means;
}

-- ---- objects

-- the tokens begin with the rest of an object, whose earlier members are those that were found
pub record MembersBegin (depth : ℕ) (found ds : Members) (old new : List Token) : Type 0 where
  pub from : json.Members
  pub reads : (n : ℕ) → length old ≤ n → members (value depth) n old ≡ Some (from, new)
  pub means : of_members from found ≡ Some ds

pub no_member_begins : (depth : ℕ) (found : Members) (old new : List Token) → read_key old ≡ Some (None, new) → MembersBegin depth found found old new
no_member_begins depth found old new e = record { from = json.no_members; reads = λ n enough. members_end (value depth) n old new enough e; means = refl }

pub member_begins : (depth : ℕ) (name : List ℕ) (d : Data) (found ds : Members) (old next mid new : List Token) → read_key old ≡ Some (Some name, next) → Begins depth d next mid
    → MembersBegin depth (put name d found) ds mid new → MembersBegin depth found ds old new
member_begins depth name d found ds old next mid new named first others =
    let key_less = read_key-shorter old (Some name) next named in
    let less = shorter depth d next mid first in record {
      from = json.member name first.from others.from;
      reads = λ n enough. members_more (value depth) n name old next mid first.from (omega (arith, key_less, less, enough)) named first.reads ∙ ap (parse_map (json.member name first.from)) (others.reads (n - 1) (omega (arith, key_less, less, enough)));
      means = ap (option_and_then (λ x. of_members others.from (put name x found))) first.means ∙ others.means;
    }

pub object_begins : (depth : ℕ) (ds : Members) (old new : List Token) → 0 < depth → MembersBegin (depth - 1) no_members ds old new → Begins depth (object ds) (tokens.begin_object ∷ old) new
object_begins depth ds old new some h = record {
  from = json.object h.from;
  reads = value-begin_object depth old some ∙ ap (parse_map json.object) (h.reads (length old) (omega arith));
  means = ap (option_map object) h.means;
}

-- ---- a text

pub whole_read : (text : List ℕ) (d : Data) → Begins 127 d (lex.tokens text) [] → read text ≡ Some d
whole_read text d h = ap (λ o. option_and_then of_json (option_and_then (λ p. if_last p.0 p.1) o)) h.reads ∙ h.means
