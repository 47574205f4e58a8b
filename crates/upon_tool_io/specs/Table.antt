-- What words in memory say.
use Rattle.std.specs.Prelude.{ℕ, List, [], ◌∷◌, Bool, false, ◌||◌, Option, Some, None, bytes_eq, if◌then◌else◌}
use Rattle.std.specs.Borrow.{Bor}
use Rattle.upon_tool_io.specs.Exact.{exact_words, KnownWords}
use Rattle.upon_tool_io.specs.Said.{lent_text, Said}
use Rattle.upon_tool_io.specs.declared.table.Table.{Table}

-- the first value of a name
abbrev pub value_under : {V : Type 0} → List ℕ → List (Bor (List ℕ) × V) → Option V
value_under name [] = None
value_under name (row ∷ rows) = if bytes_eq row.0.now name then Some row.1 else value_under name rows

-- the texts of a name, in their order
abbrev pub texts_under : List ℕ → List (Bor (List ℕ) × Bor (List ℕ)) → List (List ℕ)
texts_under name [] = []
texts_under name (row ∷ rows) =
    if bytes_eq row.0.now name then row.1.now ∷ texts_under name rows else texts_under name rows

-- a name is among those of flags
abbrev pub has_flag : List ℕ → List (Bor (List ℕ)) → Bool
has_flag name [] = false
has_flag name (flag ∷ flags) = bytes_eq flag.now name || has_flag name flags

-- what the words in memory say
abbrev pub known_words : Table → KnownWords
known_words table = record {
  text = λ name. lent_text (value_under name table.texts.items);
  texts = λ name. texts_under name table.texts.items;
  flag = λ name. has_flag name table.flags.items;
  number = λ name. value_under name table.numbers.items;
}

-- they say just that
abbrev pub table_words : Table → Said
table_words table = exact_words (known_words table)
