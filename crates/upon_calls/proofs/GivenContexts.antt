-- Contexts that options give, and why they give none.
use Rattle.std.proofs.Common.{◌≡◌, ◌⊎◌, ◌∙◌, ◌&&◌, ◌||◌, ◌==◌, ◌∷◌, [], ℕ, List, length, arith, Bool, true, false, Option, Some, None, BTreeMap, String, Global, bytes_eq, codes, option_map, string_bytes, refl, sym, ap, subst, inl, inr}
use Rattle.std.specs.Prelude.{if◌then◌else◌, ⊤}
use Rattle.std.proofs.lemmas.Bool.{eqb-true}
use Rattle.std.proofs.lemmas.Slice.Eq.{bytes_eq-Decides}
use Rattle.upon_types.specs.Val.{Val, none_val, bool_val, int_val, text_val, list_val, map_val, key_of, entry_at, Entries, no_entries, entry_then}
use Rattle.upon_types.specs.View.{view, vals_view}
use Rattle.upon_types.specs.declared.value.Value.{Value}
use Rattle.upon_types.specs.declared.value.Value.TheVariants.{Map as MapValue}
use Rattle.upon_types.proofs.Views.{view-Map}
use Rattle.upon_shape_spec.specs.Shape.{Shape}
use Rattle.upon_schema.specs.Refusal.{Refusal, refusal, unknown_keyword, wrong_value, no_definition, too_deep, too_large, out_of_memory}
use Rattle.upon_schema.specs.Refused.{IsRefusedSchema}
use Rattle.upon_schema.specs.declared.fault.SchemaFault.{SchemaFault}
use Rattle.upon_schema.specs.declared.fault.SchemaFault.TheVariants.{UnknownKeyword, WrongValue, NoDefinition, TooDeep, TooLarge, OutOfMemory as NoMemory}
use Rattle.upon_calls.specs.Arguments.{HasNoArgumentValue, IsArgumentValue}
use Rattle.upon_calls.specs.Asked.{are_keys, has_keys, is_check_key, is_option_key, is_known, Asked, Asks, AsksNothing}
use Rattle.upon_calls.specs.Contexts.{pages_in, read_each, sample_in, samples_in, AsksCheck, AsksNoCheck, Contexts, IsCheckAsked, IsCheckUnasked, IsShapeBy, IsUnreadSchema, NoShapeBy}
use Rattle.upon_calls.specs.Failure.{RefusedIf}
use Rattle.upon_calls.specs.declared.failure.Argument.TheVariants.{Options}
use Rattle.upon_calls.specs.declared.failure.Failure.{Failure}
use Rattle.upon_calls.specs.declared.failure.Failure.TheVariants.{Faults, Refused, NotText, OutOfMemory}
use Rattle.upon_calls.specs.declared.options.Known.TheVariants.{Rendering, OnContexts}
use Rattle.upon_calls.proofs.Kept.{first_true, second_true}
use Rattle.upon_calls.proofs.Values.{one_value}

-- ---- keys
both_true : (x y : Bool) → x ≡ true → y ≡ true → (x && y) ≡ true
both_true true y a b = b
both_true false y a b = a

-- a check on contexts knows each key that a rendering knows
keys_on : (es : Entries) → are_keys Rendering es ≡ true → are_keys OnContexts es ≡ true
keys_on no_entries are = refl
keys_on (entry_then key v es) are =
    both_true (is_known OnContexts key) (are_keys OnContexts es)
    (ap (λ b. b || is_check_key key) (first_true (is_option_key key) (are_keys Rendering es) are))
    (keys_on es (second_true (is_option_key key) (are_keys Rendering es) are))

has_keys_on : (v : Val) → has_keys Rendering v ≡ true → has_keys OnContexts v ≡ true
has_keys_on none_val has = refl
has_keys_on (bool_val b) has = refl
has_keys_on (int_val n) has = refl
has_keys_on (text_val text) has = refl
has_keys_on (list_val vs) has = refl
has_keys_on (map_val es) has = keys_on es has

asks_on : (v : Val) (asked : Asked) → Asks Rendering v asked → Asks OnContexts v asked
asks_on v asked asks = record {
  keys = has_keys_on v asks.keys;
  escape = asks.escape;
  delimiters = asks.delimiters;
  depth = asks.depth;
  functions = asks.functions;
  limits = asks.limits;
}

-- what a rendering knows has no other key
not_here : (key k : List ℕ) (v : Val) (rest : Option Val) (b : Bool) → bytes_eq key k ≡ b → is_option_key k ≡ true → is_option_key key ≡ false → rest ≡ None → (if b then Some v else rest) ≡ None
not_here key k v rest true same is not none =
    let no : true ≡ false = sym is ∙ ap is_option_key (sym ((bytes_eq-Decides key k).0 same)) ∙ not in absurd cc
not_here key k v rest false same is not none = none

no_entry : (key : List ℕ) → is_option_key key ≡ false → (es : Entries) → are_keys Rendering es ≡ true → entry_at key es ≡ None
no_entry key not no_entries are = refl
no_entry key not (entry_then k v es) are =
    not_here key k v (entry_at key es) (bytes_eq key k) refl (first_true (is_option_key k) (are_keys Rendering es) are) not
    (no_entry key not es (second_true (is_option_key k) (are_keys Rendering es) are))

no_key_of : (key : List ℕ) → is_option_key key ≡ false → (v : Val) → has_keys Rendering v ≡ true → key_of key v ≡ None
no_key_of key not none_val has = refl
no_key_of key not (bool_val b) has = refl
no_key_of key not (int_val n) has = refl
no_key_of key not (text_val text) has = refl
no_key_of key not (list_val vs) has = refl
no_key_of key not (map_val es) has = no_entry key not es has

-- ---- a rendering has no contexts
plain_shape_by : (v : Val) (asked : Asked) → Asks Rendering v asked → IsShapeBy (key_of (codes "samples") v) (key_of (codes "schema") v) None
plain_shape_by v asked asks =
    let samples = no_key_of (codes "samples") refl v asks.keys in
    let schema = no_key_of (codes "schema") refl v asks.keys in
    subst (λ o. IsShapeBy o (key_of (codes "schema") v) None) (sym samples) (subst (λ o. IsShapeBy None o None) (sym schema) tt)

-- of the same there is a shape, or none
one_shape_by : (samples schema : Option Val) (s : Shape) → IsShapeBy samples schema None → IsShapeBy samples schema (Some s) → ⊥
one_shape_by None None s none some = some
one_shape_by None (Some schema) s none some = none
one_shape_by (Some samples) None s none some = none
one_shape_by (Some samples) (Some schema) s none some = none

-- ---- why a check is asked for nothing
-- there are pages alone
pub lone_pages : (v pages : Val) → key_of (codes "pages") v ≡ Some pages → AsksNothing Rendering v
lone_pages v pages there asked asks =
    let no : Some pages ≡ None = sym there ∙ no_key_of (codes "pages") refl v asks.keys in absurd cc

-- a schema is not read
schema_refused_so : (schema : Val) (r : Refusal) (f : Failure) → (r ≡ out_of_memory → ⊥) → RefusedIf Options ⊤ f → IsRefusedSchema 128 65536 schema r → RefusedIf Options (IsUnreadSchema schema) f
schema_refused_so schema r (Faults pictures) some refused is = refused
schema_refused_so schema r (Refused argument reason) some refused is = (refused.0, (r, some, is))
schema_refused_so schema r (NotText argument) some refused is = refused
schema_refused_so schema r OutOfMemory some refused is = tt

pub schema_unread : (schema : Val) (fault : SchemaFault) (f : Failure) → (fault ≡ NoMemory → f ≡ OutOfMemory) → RefusedIf Options ⊤ f → IsRefusedSchema 128 65536 schema (refusal fault) → RefusedIf Options (IsUnreadSchema schema) f
schema_unread schema (UnknownKeyword path) f memory refused is = schema_refused_so schema (unknown_keyword (string_bytes path)) f (λ no. absurd cc) refused is
schema_unread schema (WrongValue path) f memory refused is = schema_refused_so schema (wrong_value (string_bytes path)) f (λ no. absurd cc) refused is
schema_unread schema (NoDefinition path) f memory refused is = schema_refused_so schema (no_definition (string_bytes path)) f (λ no. absurd cc) refused is
schema_unread schema TooDeep f memory refused is = schema_refused_so schema too_deep f (λ no. absurd cc) refused is
schema_unread schema TooLarge f memory refused is = schema_refused_so schema too_large f (λ no. absurd cc) refused is
schema_unread schema NoMemory f memory refused is = subst (RefusedIf Options (IsUnreadSchema schema)) (sym (memory refl)) tt

-- there is no shape
shapeless : (v : Val) → ((shape : Option Shape) → IsShapeBy (key_of (codes "samples") v) (key_of (codes "schema") v) shape → ⊥) → (asked : Asked) (contexts : Option Contexts) → AsksCheck v asked contexts → ⊥
shapeless v none asked None asks = none None (plain_shape_by v asked asks)
shapeless v none asked (Some contexts) asks = none (Some contexts.shape) asks.shape

pub no_shape : (v : Val) → NoShapeBy (key_of (codes "samples") v) (key_of (codes "schema") v) → AsksNoCheck v
no_shape v (inl none) = inl (shapeless v none)
no_shape v (inr schema) = inr schema

-- there are no contexts, and nothing that a rendering knows
nothing_plain : (v : Val) → IsShapeBy (key_of (codes "samples") v) (key_of (codes "schema") v) None → AsksNothing Rendering v → (asked : Asked) (contexts : Option Contexts) → AsksCheck v asked contexts → ⊥
nothing_plain v none nothing asked None asks = nothing asked asks
nothing_plain v none nothing asked (Some contexts) asks =
    one_shape_by (key_of (codes "samples") v) (key_of (codes "schema") v) contexts.shape none asks.shape

pub not_plain : (v : Val) → IsShapeBy (key_of (codes "samples") v) (key_of (codes "schema") v) None → AsksNothing Rendering v → AsksNoCheck v
not_plain v none nothing = inl (nothing_plain v none nothing)

-- there are contexts, and nothing beside that a check knows
nothing_on : (v : Val) → AsksNothing OnContexts v → (asked : Asked) (contexts : Option Contexts) → AsksCheck v asked contexts → ⊥
nothing_on v nothing asked None asks = nothing asked (asks_on v asked asks)
nothing_on v nothing asked (Some contexts) asks = nothing asked asks.asks

pub not_on : (v : Val) → AsksNothing OnContexts v → AsksNoCheck v
not_on v nothing = inl (nothing_on v nothing)

-- there are contexts, and no names of pages
nothing_paged : (v : Val) (s : Shape) → IsShapeBy (key_of (codes "samples") v) (key_of (codes "schema") v) (Some s) → pages_in (key_of (codes "pages") v) ≡ None → (asked : Asked) (contexts : Option Contexts) → AsksCheck v asked contexts → ⊥
nothing_paged v s some none asked None asks =
    one_shape_by (key_of (codes "samples") v) (key_of (codes "schema") v) s (plain_shape_by v asked asks) some
nothing_paged v s some none asked (Some contexts) asks = let no : Some contexts.pages ≡ None = sym asks.pages ∙ none in absurd cc

pub not_paged : (v : Val) (s : Shape) → IsShapeBy (key_of (codes "samples") v) (key_of (codes "schema") v) (Some s) → pages_in (key_of (codes "pages") v) ≡ None → AsksNoCheck v
not_paged v s some none = inl (nothing_paged v s some none)

-- ---- of a text
pub unchecked_value : (text : List ℕ) → HasNoArgumentValue text → IsCheckUnasked text
unchecked_value text none v is = absurd (none v is)

pub unchecked : (text : List ℕ) (v : Val) → IsArgumentValue text v → AsksNoCheck v → IsCheckUnasked text
unchecked text v read nothing w is = subst AsksNoCheck (one_value text v w read is) nothing

-- ---- samples
pub sample_map : (v : Value) (m : BTreeMap (String Global) Value) → v ≡ MapValue m → sample_in (view v) ≡ Some (view v)
sample_map v m is =
    let viewed = ap view is ∙ view-Map m in ap sample_in viewed ∙ ap Some (sym viewed)

pub no_samples : (items : List Value) → (length items == 0) ≡ true → samples_in (list_val (vals_view items)) ≡ None
no_samples [] is = refl
no_samples (item ∷ items) is = let none : length (item ∷ items) ≡ 0 = eqb-true (length (item ∷ items)) 0 is in absurd (omega arith)

pub some_samples : (items : List Value) → (length items == 0) ≡ false → samples_in (list_val (vals_view items)) ≡ read_each sample_in (vals_view items)
some_samples [] is = absurd cc
some_samples (item ∷ items) is = refl
