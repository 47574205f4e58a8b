-- What options ask for.
use Rattle.std.specs.Prelude.{◌≡◌, ◌||◌, ◌&&◌, ℕ, pos, List, Bool, true, false, Option, Some, None, option_map, option_and_then, unwrap_or, codes, bytes_eq}
use Rattle.upon_types.specs.Val.{Val, bool_val, int_val, text_val, map_val, key_of, Entries, no_entries, entry_then}
use Rattle.upon_language_spec.specs.Search.{DelimiterText}
use Rattle.upon_delimiters.specs.Syntax.{syntax_delimiters}
use Rattle.upon_vm.specs.declared.limits.Limits.{Limits}
use Rattle.upon_calls.specs.Arguments.{IsArgumentValue}
use Rattle.upon_calls.specs.Escaping.{language_in}
use Rattle.upon_calls.specs.Pairs.{delimiters_in}
use Rattle.upon_calls.specs.declared.escaping.Language.{Language}
use Rattle.upon_calls.specs.declared.escaping.Language.TheVariants.{Html}
use Rattle.upon_calls.specs.declared.options.Known.{Known}
use Rattle.upon_calls.specs.declared.options.Known.TheVariants.{Rendering, OnContexts}
use Rattle.upon_calls.specs.declared.options.Options.{Options}

-- the language into which values are written, the delimiters of templates, how deep includes may go, whether the
-- standard functions are there, and how far a rendering may go
pub record Asked : Type 0 where
  pub escape : Option Language
  pub delimiters : List DelimiterText
  pub depth : ℕ
  pub functions : Bool
  pub limits : Limits

-- what the code's options ask for
abbrev pub asked_by : Options → Asked
asked_by o = record {
  escape = o.escape;
  delimiters = syntax_delimiters o.syntax;
  depth = o.depth;
  functions = o.functions;
  limits = o.limits;
}

-- whether a key is one of an option
abbrev pub is_option_key : List ℕ → Bool
is_option_key key = bytes_eq key (codes "escape") || (bytes_eq key (codes "html") || (bytes_eq key (codes "syntax")
    || (bytes_eq key (codes "functions") || (bytes_eq key (codes "max_include_depth")
    || (bytes_eq key (codes "max_steps")
    || (bytes_eq key (codes "max_output") || bytes_eq key (codes "max_memory")))))))

-- whether a key is one of an option that a check on contexts has beside
abbrev pub is_check_key : List ℕ → Bool
is_check_key key = bytes_eq key (codes "samples") || (bytes_eq key (codes "schema") || bytes_eq key (codes "pages"))

-- whether a key is one of an option, of a rendering or also of a check on contexts
abbrev pub is_known : Known → List ℕ → Bool
is_known Rendering key = is_option_key key
is_known OnContexts key = is_option_key key || is_check_key key

-- whether each key is one of an option
abbrev pub are_keys : Known → Entries → Bool
are_keys known no_entries = true
are_keys known (entry_then key v es) = is_known known key && are_keys known es

-- whether each key of a value is one of an option; a value that is no map has no keys
abbrev pub has_keys : Known → Val → Bool
has_keys known (map_val es) = are_keys known es
has_keys known _ = true

-- the truth value that is there, or false where nothing is; none of another value
abbrev pub flag_of : Option Val → Option Bool
flag_of None = Some false
flag_of (Some (bool_val b)) = Some b
flag_of (Some _) = None

-- the number from 0 on that is there, or nothing where nothing is; none of another value
abbrev pub asked_number : Option Val → Option (Option ℕ)
asked_number None = Some None
asked_number (Some (int_val (pos n))) = Some (Some n)
asked_number (Some _) = None

-- the language of a word, of which no other one than HTML agrees with `html`
abbrev pub agreed : Bool → Option Language → Option Language
agreed html None = None
agreed html (Some Html) = Some Html
agreed false (Some language) = Some language
agreed true (Some language) = None

-- the language of `html` and `escape`
abbrev pub language_of : Bool → Option Val → Option (Option Language)
language_of false None = Some None
language_of true None = Some (Some Html)
language_of html (Some (text_val word)) = option_map (λ language. Some language) (agreed html (language_in word))
language_of html (Some _) = None

-- the truth value at a key
abbrev pub flag_at : List ℕ → Val → Option Bool
flag_at key v = flag_of (key_of key v)

-- the number at a key
abbrev pub number_at : List ℕ → Val → Option (Option ℕ)
number_at key v = asked_number (key_of key v)

-- the language that is asked for
abbrev pub escape_at : Val → Option (Option Language)
escape_at v = option_and_then (λ html. language_of html (key_of (codes "escape") v)) (flag_at (codes "html") v)

-- how deep includes may go: 64 if nothing is said
abbrev pub depth_at : Val → Option ℕ
depth_at v = option_map (λ depth. unwrap_or depth 64) (number_at (codes "max_include_depth") v)

-- the limits that a value sets
pub record HasLimits (v : Val) (limits : Limits) : Type 0 where
  pub steps : number_at (codes "max_steps") v ≡ Some limits.steps
  pub output : number_at (codes "max_output") v ≡ Some limits.output
  pub values : number_at (codes "max_memory") v ≡ Some limits.values

-- it sets none, as one is no number
abbrev pub HasNoLimits : Val → Type 0
HasNoLimits v = (limits : Limits) → HasLimits v limits → ⊥

-- A value asks for this: each of its keys is one of an option, and what is at each key is of its kind.
pub record Asks (known : Known) (v : Val) (asked : Asked) : Type 0 where
  pub keys : has_keys known v ≡ true
  pub escape : escape_at v ≡ Some asked.escape
  pub delimiters : delimiters_in (key_of (codes "syntax") v) ≡ Some asked.delimiters
  pub depth : depth_at v ≡ Some asked.depth
  pub functions : flag_at (codes "functions") v ≡ Some asked.functions
  pub limits : HasLimits v asked.limits

-- it asks for nothing that is an option
abbrev pub AsksNothing : Known → Val → Type 0
AsksNothing known v = (asked : Asked) → Asks known v asked → ⊥

-- the text of options asks for this
abbrev pub IsAsked : List ℕ → Asked → Type 0
IsAsked text asked = (v : Val) × IsArgumentValue text v × Asks Rendering v asked

-- it asks for nothing that is an option, or is no JSON
abbrev pub IsUnasked : List ℕ → Type 0
IsUnasked text = (asked : Asked) → IsAsked text asked → ⊥
