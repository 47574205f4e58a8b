-- The text of JSON that a value is, with no white space (RFC 8259).
use Rattle.std.specs.Prelude.{ℕ, List, [], ◌∷◌, ◌++◌, Bool, true, false, codes}
use Rattle.std.specs.Fmt.{signed_decimal}
use Rattle.std.specs.Str.{byte}
use Rattle.upon_meaning_spec.specs.DefaultFormat.{bool_text}
use Rattle.upon_quote.specs.Json.{json_escape_of}
use Rattle.upon_quote.specs.Tokens.{quoted_bytes}
use Rattle.upon_types.specs.Val.{Val, none_val, bool_val, int_val, text_val, list_val, map_val, Vals, no_vals, val_then, Entries, no_entries, entry_then}

-- a text in double quotes, with the escapes that it needs
abbrev pub json_string : List ℕ → List ℕ
json_string text = byte "\"" ∷ (quoted_bytes json_escape_of text ++ (byte "\"" ∷ []))

-- the name of an entry, and the colon after it
abbrev pub entry_name_text : List ℕ → List ℕ
entry_name_text key = json_string key ++ (byte ":" ∷ [])

-- what stands before an item or an entry: nothing before the first, else a comma
abbrev pub before : Bool → List ℕ
before true = []
before false = byte "," ∷ []

-- the text of a list, by that of its items
abbrev pub in_brackets : List ℕ → List ℕ
in_brackets items = byte "[" ∷ (items ++ (byte "]" ∷ []))

-- the text of a map, by that of its entries
abbrev pub in_braces : List ℕ → List ℕ
in_braces entries = byte "{" ∷ (entries ++ (byte "}" ∷ []))

abbrev mutual
  -- the text of a value
  pub json_text : Val → List ℕ
  json_text none_val = codes "null"
  json_text (bool_val b) = bool_text b
  json_text (int_val z) = signed_decimal z
  json_text (text_val text) = json_string text
  json_text (list_val vs) = in_brackets (json_items vs true)
  json_text (map_val es) = in_braces (json_entries es true)

  -- the texts of items, the first of which is the first of the list or not
  pub json_items : Vals → Bool → List ℕ
  json_items no_vals is_first = []
  json_items (val_then v vs) is_first = before is_first ++ (json_text v ++ json_items vs false)

  -- the texts of entries, the first of which is the first of the map or not
  pub json_entries : Entries → Bool → List ℕ
  json_entries no_entries is_first = []
  json_entries (entry_then key v es) is_first =
      before is_first ++ (entry_name_text key ++ (json_text v ++ json_entries es false))
