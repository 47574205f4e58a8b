-- How what is read one after the other makes a whole, and which pairs the library's maps are.
use Rattle.std.proofs.Common.{◌≡◌, ℕ, List, [], ◌∷◌, Option, Some, option_map, Result, Ok, Err, IfOk, Ordering, Less, Equal, Greater, String, Vec, BTreeMap, Global, map, string_bytes, string_cmp, nat_cmp, refl, sym, ap, subst, ◌∙◌, inl, inr}
use Rattle.std.specs.BTreeMap.{insert_entry}
use Rattle.std.specs.Cmp.Lexicographic.{slice_cmp}
use Rattle.serde.specs.Event as event
use Rattle.serde.specs.Event.{Event}
use Rattle.std.specs.Ordering.{match_ordering}
use Rattle.upon_types.specs.Val.{Val, list_val, map_val, entry_then}
use Rattle.upon_types.specs.View.{view, vals_of, entries_view}
use Rattle.upon_types.specs.declared.value.Value.{Value, List as ListValue, Map as MapValue}
use Rattle.upon_types.proofs.Views.{view-List, view-Map}
use Rattle.upon_serde.specs.Data.{signed_key, unsigned_key, character_key, text_key, unit_variant_key, key_events, key_text, unit, truth, signed, unsigned, character, text, octets, unit_variant, sequence, mapping, events, datum_value, no_data, datum_then, no_members, member_then, flattened_then, flattened_unit_then, member_events, with_members, Pairs, with_pair, entries_from}
use Rattle.upon_serde.specs.declared.note.Note.{Note}
use Rattle.upon_serde.specs.Notes.{note_event, noted}
use Rattle.upon_serde.proofs.Noting.{noted_one}
use Rattle.upon_serde.specs.Reads.{ReadsDatum, ReadsItems, ReadsEntries, ReadsFlattened, ReadsKey, datum_of, event_key, entry_pairs}

abbrev pub Entry : Type 0
Entry = String Global × Value

-- ---- what is one event
reads_one : (e : Event) (after : List Event) (v : Val) → option_map datum_value (datum_of e) ≡ Some v → ReadsDatum (e ∷ after) after v
reads_one event.nothing after v is = (unit, refl, cc)
reads_one (event.boolean b) after v is = (truth b, refl, cc)
reads_one (event.signed z) after v is = (signed z, refl, cc)
reads_one (event.unsigned n) after v is = (unsigned n, refl, cc)
reads_one (event.character c) after v is = (character c, refl, cc)
reads_one (event.text s) after v is = (text s, refl, cc)
reads_one (event.octets bytes) after v is = (octets bytes, refl, cc)
reads_one (event.unit_variant name case) after v is = (unit_variant name case, refl, cc)
reads_one _ after v is = absurd cc

reads_key : (e : Event) (after : List Event) (word : List ℕ) → option_map key_text (event_key e) ≡ Some word → ReadsKey (event.key_begins ∷ e ∷ event.key_ends ∷ after) after word
reads_key (event.signed z) after word is = (signed_key z, refl, cc)
reads_key (event.unsigned n) after word is = (unsigned_key n, refl, cc)
reads_key (event.character c) after word is = (character_key c, refl, cc)
reads_key (event.text s) after word is = (text_key s, refl, cc)
reads_key (event.unit_variant name case) after word is = (unit_variant_key name case, refl, cc)
reads_key _ after word is = absurd cc

no_key : (e : Event) (word : List ℕ) → e ≡ event.key_begins → option_map key_text (event_key e) ≡ Some word → ⊥
no_key e word begins is = cc

pub reads_inner_key : (n : Note) (before mid after : List Event) (word : List ℕ) → before ≡ noted n mid → mid ≡ event.key_ends ∷ after → option_map key_text (event_key (note_event n)) ≡ Some word → ReadsKey (event.key_begins ∷ before) after word
reads_inner_key n before mid after word first second is =
    let one = noted_one n mid (λ begins. no_key (note_event n) word begins is) in
    subst (λ es. ReadsKey (event.key_begins ∷ es) after word) (sym (first ∙ one ∙ ap (λ es. note_event n ∷ es) second)) (reads_key (note_event n) after word is)

no_datum : (e : Event) (v : Val) → e ≡ event.key_begins → option_map datum_value (datum_of e) ≡ Some v → ⊥
no_datum e v begins is = cc

-- a note of a value alone
pub reads_note : (n : Note) (before after : List Event) (v : Value) → before ≡ noted n after → option_map datum_value (datum_of (note_event n)) ≡ Some (view v) → ReadsDatum before after (view v)
reads_note n before after v begins is =
    let one = noted_one n after (λ key. no_datum (note_event n) (view v) key is) in
    subst (λ es. ReadsDatum es after (view v)) (sym (begins ∙ one)) (reads_one (note_event n) after (view v) is)

-- a note of a value alone, where the value is what a call answers, if it does not fail
pub reads_note_ok : {E : Type 0} (n : Note) (before after : List Event) (r : Result Value E) → before ≡ noted n after → IfOk r (λ v. option_map datum_value (datum_of (note_event n)) ≡ Some (view v)) → IfOk r (λ v. ReadsDatum before after (view v))
reads_note_ok n before after (Ok v) begins is = reads_note n before after v begins is
reads_note_ok n before after (Err error) begins is = tt

-- ---- items
pub items_end : (before after : List Event) → before ≡ event.seq_ends ∷ after → ReadsItems before after []
items_end before after ends = (no_data, ends, refl)

pub items_one : (before mid after : List Event) (v : Val) (vs : List Val) → ReadsDatum before mid v → ReadsItems mid after vs → ReadsItems before after (v ∷ vs)
items_one before mid after v vs one rest =
    (datum_then one.0 rest.0, one.1 ∙ ap (events one.0) rest.1, λ i. one.2 i ∷ rest.2 i)

-- ---- members
pub members_end : (before after : List Event) (pairs : Pairs) → before ≡ event.map_ends ∷ after → ReadsEntries before after pairs pairs
members_end before after pairs ends = (no_members, ends, refl)

pub members_one : (before named mid after : List Event) (key : List ℕ) (v : Val) (old new : Pairs) → ReadsKey before named key → ReadsDatum named mid v → ReadsEntries mid after (with_pair key v old) new → ReadsEntries before after old new
members_one before named mid after key v old new name one rest = (
  member_then name.0 one.0 rest.0,
  name.1 ∙ ap (key_events name.0) (one.1 ∙ ap (events one.0) rest.1),
  (λ i. with_members rest.0 (with_pair (name.2 i) (one.2 i) old)) ∙ rest.2,
)

pub members_flattened : (before flat mid after : List Event) (old between new : Pairs) → before ≡ event.flattens ∷ flat → ReadsFlattened flat mid old between → ReadsEntries mid after between new → ReadsEntries before after old new
members_flattened before flat mid after old between new begins (inl (length, inside, opens, inner)) rest = (
  flattened_then length inner.0 rest.0,
  begins ∙ ap (λ es. event.flattens ∷ es) (opens ∙ ap (λ es. event.map_begins length ∷ es) (inner.1 ∙ ap (member_events inner.0) rest.1)),
  ap (with_members rest.0) inner.2 ∙ rest.2,
)
members_flattened before flat mid after old between new begins (inr (nothing, same)) rest = (
  flattened_unit_then rest.0,
  begins ∙ ap (λ es. event.flattens ∷ es) (nothing ∙ ap (λ es. event.nothing ∷ es) rest.1),
  ap (with_members rest.0) same ∙ rest.2,
)

-- ---- what the library's maps are
match_ordering-map : {A B : Type 0} (f : A → B) (o : Ordering) (x y z : A) → f (match_ordering o x y z) ≡ match_ordering o (f x) (f y) (f z)
match_ordering-map f Less x y z = refl
match_ordering-map f Equal x y z = refl
match_ordering-map f Greater x y z = refl

pub pairs_of-insert : (es : List Entry) (k : String Global) (v : Value) → entry_pairs (insert_entry string_cmp es k v) ≡ with_pair (string_bytes k) (view v) (entry_pairs es)
pairs_of-insert [] k v = refl
pairs_of-insert (e ∷ es) k v =
    let key = string_bytes k in
    let order = slice_cmp nat_cmp key (string_bytes e.0) in
    let here : List (List ℕ × Val) = (key, view v) ∷ entry_pairs (e ∷ es) in
    let same : List (List ℕ × Val) = (string_bytes e.0, view v) ∷ entry_pairs es in
    match_ordering-map entry_pairs (string_cmp k e.0) ((k, v) ∷ e ∷ es) ((e.0, v) ∷ es) (e ∷ insert_entry string_cmp es k v)
    ∙ ap (λ later. match_ordering order here same ((string_bytes e.0, view e.1) ∷ later)) (pairs_of-insert es k v)

pub entries_from-pairs_of : (es : List Entry) → entries_from (entry_pairs es) ≡ entries_view es
entries_from-pairs_of [] = refl
entries_from-pairs_of (e ∷ es) = ap (entry_then (string_bytes e.0) (view e.1)) (entries_from-pairs_of es)

-- ---- lists and maps
pub reads_list : (length : Option ℕ) (before inside after : List Event) (items : Vec Value Global) → before ≡ event.seq_begins length ∷ inside → ReadsItems inside after (map view items.items) → ReadsDatum before after (view (ListValue items))
reads_list length before inside after items begins rest =
    (sequence length rest.0, begins ∙ ap (λ es. event.seq_begins length ∷ es) rest.1, ap (λ vs. list_val (vals_of vs)) rest.2 ∙ sym (view-List items))

pub reads_map : (length : Option ℕ) (before inside after : List Event) (m : BTreeMap (String Global) Value) → before ≡ event.map_begins length ∷ inside → ReadsEntries inside after [] (entry_pairs m.entries) → ReadsDatum before after (view (MapValue m))
reads_map length before inside after m begins rest = (
  mapping length rest.0,
  begins ∙ ap (λ es. event.map_begins length ∷ es) rest.1,
  ap (λ pairs. map_val (entries_from pairs)) rest.2 ∙ ap map_val (entries_from-pairs_of m.entries) ∙ sym (view-Map m),
)
