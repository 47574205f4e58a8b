-- What the words of a call say of its data.
use Rattle.std.specs.Prelude.{◌≡◌, ℕ, List, [], ◌∷◌, All, Contains, Bool, true, false, ◌==◌, ◌||◌, ◌&&◌, not, if◌then◌else◌, Option, Some, None, length, unwrap_or}
use Rattle.std.specs.Borrow.{Bor}
use Rattle.std.specs.List.{list_any, before_first, after_first}
use Rattle.upon_types.specs.Bytes.{equals_sign}
use Rattle.upon_data.specs.Format.{format_named, format_of_path}
use Rattle.upon_data.specs.declared.format.Format.{Format}
use Rattle.upon_data.specs.declared.format.Format.TheVariants.{Json}
use Rattle.upon_tool_io.specs.declared.arguments.DataCall.{DataCall}
use Rattle.upon_tool_data.specs.Sources.{is_standard}
use Rattle.upon_tool_data.specs.declared.fault.ContextFault.{ContextFault}
use Rattle.upon_tool_data.specs.declared.fault.ContextFault.TheVariants.{LacksText, LacksValue, InputTwice, Unreadable, NotText}
use Rattle.upon_tool_data.specs.declared.fault.ContextFault.TheVariants.{NotOfFormat, NotObject, NotJson, NotMap, OutOfMemory}
use Rattle.upon_tool_data.specs.declared.words.DataWords.{DataWords}

-- a `=` (61)
abbrev pub is_equals : ℕ → Bool
is_equals b = b == equals_sign

-- whether a word has a `=`
abbrev pub has_equals : List ℕ → Bool
has_equals word = list_any is_equals word

-- a `/` (47)
abbrev pub is_folder_end : ℕ → Bool
is_folder_end b = b == 47

-- a text that can be the key of a file: it is not empty, and has no `/`
abbrev pub is_key : List ℕ → Bool
is_key text = not (length text == 0) && not (list_any is_folder_end text)

-- whether a word is `KEY=FILE`: what is before its first `=` can be a key
abbrev pub has_key : List ℕ → Bool
has_key word = has_equals word && is_key (before_first is_equals word)

-- the key of a word, if it has one
abbrev pub word_key : List ℕ → Option (List ℕ)
word_key word = if has_key word then Some (before_first is_equals word) else None

-- the file of a word
abbrev pub file_of : List ℕ → List ℕ
file_of word = if has_key word then after_first is_equals word else word

-- the format of a name, if one is given
abbrev pub format_asked : Option (Bor (List ℕ)) → Option Format
format_asked None = None
format_asked (Some name) = format_named name.now

-- the format of a file: the one that is given for all, or the one that its name says, or JSON
abbrev pub format_for : Option Format → List ℕ → Format
format_for given name = unwrap_or given (unwrap_or (format_of_path name) Json)

-- the file of a word is standard input
abbrev pub is_input : List ℕ → Bool
is_input word = is_standard (file_of word)

-- whether standard input is asked for by these words, and was before, or is twice
abbrev pub asks_again : Bool → List (Bor (List ℕ)) → Bool
asks_again asked [] = false
asks_again asked (word ∷ words) = (asked && is_input word.now) || asks_again (asked || is_input word.now) words

-- the words of a call's data
pub record AreWordsOf (call : DataCall) (words : DataWords) : Type 0 where
  pub env : words.env ≡ call.env
  pub files : words.files.now ≡ call.files.items
  pub format : words.format ≡ call.format
  pub values : words.values.now ≡ call.set_json.items
  pub texts : words.texts.now ≡ call.set.items

-- Standard input is asked for once at most, and each word that is to set a value has a `=`.
abbrev pub AreRightWords : Bool → List (Bor (List ℕ)) → List (Bor (List ℕ)) → List (Bor (List ℕ)) → Type 0
AreRightWords taken files values texts = (asks_again taken files ≡ false)
    × All (λ word. has_equals word.now ≡ true) values × All (λ word. has_equals word.now ≡ true) texts

-- it is not so, for this reason
abbrev pub IsWordFault : Bool → List (Bor (List ℕ)) → List (Bor (List ℕ)) → List (Bor (List ℕ)) → ContextFault → Type 0
IsWordFault taken files values texts InputTwice = asks_again taken files ≡ true
IsWordFault taken files values texts (LacksValue word) = Contains values word × (has_equals word.now ≡ false)
IsWordFault taken files values texts (LacksText word) = Contains texts word × (has_equals word.now ≡ false)
IsWordFault taken files values texts (Unreadable name error) = ⊥
IsWordFault taken files values texts (NotText name) = ⊥
IsWordFault taken files values texts (NotOfFormat name refusal) = ⊥
IsWordFault taken files values texts (NotObject name) = ⊥
IsWordFault taken files values texts (NotJson word refusal) = ⊥
IsWordFault taken files values texts (NotMap word) = ⊥
IsWordFault taken files values texts OutOfMemory = ⊥
