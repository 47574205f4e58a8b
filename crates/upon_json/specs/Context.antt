-- The context of a text of JSON, or of none, with texts set over it.
use Rattle.std.specs.Prelude.{◌≡◌, ℕ, nat_eq, List, [], ◌∷◌, drop, map, codes, Bool, true, false, Option, Some, None, option_and_then, IsTrue, if◌then◌else◌}
use Rattle.std.specs.Borrow.{Bor}
use Rattle.std.specs.List.{starts_with}
use Rattle.json.specs.Lex.{tokens}
use Rattle.upon_types.specs.Conversions.{last_at, or_else}
use Rattle.upon_types.specs.Val.{Val, none_val, bool_val, int_val, text_val, list_val, map_val, Entries, no_entries, entry_then, entry_at, rises}
use Rattle.upon_json.specs.Reads.{reads_whole}
use Rattle.upon_json.specs.declared.context.DataFault.{DataFault}
use Rattle.upon_json.specs.declared.context.DataFault.TheVariants.{Refused, NotObject, OutOfMemory}

-- keys with the texts that are set
abbrev pub set_pairs : List (Bor (List ℕ) × Bor (List ℕ)) → List (List ℕ × Val)
set_pairs set = map (λ pair. (pair.0.now, text_val pair.1.now)) set

-- the bytes of a byte order mark, which is U+FEFF
abbrev pub byte_order_mark : List ℕ
byte_order_mark = 239 ∷ 187 ∷ 191 ∷ []

-- a text without a byte order mark at its begin
abbrev pub without_mark : List ℕ → List ℕ
without_mark text = if starts_with nat_eq text byte_order_mark then drop 3 text else text

-- the value that a text of JSON is, passing over a byte order mark
abbrev pub text_value : List ℕ → Option Val
text_value text = reads_whole (tokens (without_mark text))

-- the entries of a context: those of a map, or of a list the one entry `items`
abbrev pub entries_in : Val → Option Entries
entries_in none_val = None
entries_in (bool_val b) = None
entries_in (int_val n) = None
entries_in (text_val text) = None
entries_in (list_val vs) = Some (entry_then (codes "items") (list_val vs) no_entries)
entries_in (map_val es) = Some es

-- the entries of the object or the list that a text of JSON is; of no text, none
abbrev pub HasEntries : Option (List ℕ) → Entries → Type 0
HasEntries None es = es ≡ no_entries
HasEntries (Some text) es = option_and_then entries_in (text_value text) ≡ Some es

-- the map of some entries with the last of the values that are paired with a key at the key
abbrev pub IsSetOver : List (List ℕ × Val) → Entries → Val → Type 0
IsSetOver pairs es (map_val new) = IsTrue (rises new)
    × ((key : List ℕ) → entry_at key new ≡ or_else (last_at key pairs) (entry_at key es))
IsSetOver pairs es v = ⊥

-- the context: the entries of the text, with the texts set over them
abbrev pub IsJsonContext : Option (List ℕ) → List (List ℕ × Val) → Val → Type 0
IsJsonContext json pairs v = (es : Entries) × HasEntries json es × IsSetOver pairs es v

-- a text of JSON that is neither an object nor a list
abbrev pub IsNoObject : List ℕ → Type 0
IsNoObject text = (v : Val) × (text_value text ≡ Some v) × (entries_in v ≡ None)

-- Memory is out, or the text has no entries: it is no JSON, or it is neither an object nor a list.
abbrev pub IsContextRefusal : Option (List ℕ) → DataFault → Type 0
IsContextRefusal json OutOfMemory = Unit {0}
IsContextRefusal None (Refused refusal) = ⊥
IsContextRefusal None NotObject = ⊥
IsContextRefusal (Some text) (Refused refusal) = text_value text ≡ None
IsContextRefusal (Some text) NotObject = IsNoObject text

-- memory is out
abbrev pub is_context_memory : DataFault → Bool
is_context_memory (Refused refusal) = false
is_context_memory NotObject = false
is_context_memory OutOfMemory = true

-- a text is no JSON, or memory is out
abbrev pub is_refused : DataFault → Bool
is_refused (Refused refusal) = true
is_refused NotObject = false
is_refused OutOfMemory = true
