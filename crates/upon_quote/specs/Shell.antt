-- Texts as words of a POSIX shell (POSIX.1-2017, Shell Command Language, section 2.2).
use Rattle.std.specs.Prelude.{ℕ, List, [], ◌∷◌, ◌++◌, Option, Some, None, Bool, ◌||◌, ◌==◌, if◌then◌else◌, codes, option_map}
use Rattle.std.specs.List.{list_any}
use Rattle.std.specs.Str.{byte}
use Rattle.upon_quote.specs.Quoted.{Escapes, quoted_by}

-- the escape of `'`: the quotes are closed, `\'` is between, and they are opened again
abbrev pub shell_escape_of : Escapes
shell_escape_of c = if c == byte "'" then Some (codes "'\\''") else None

-- a text as one word, in single quotes
abbrev pub quoted_shell : List ℕ → List ℕ
quoted_shell text = byte "'" ∷ (quoted_by shell_escape_of text ++ (byte "'" ∷ []))

-- U+0000 is in the text
abbrev pub has_nul : List ℕ → Bool
has_nul text = list_any (λ c. c == 0x0) text

-- how the next character is read: in no quotes, after `\`, or in single quotes
pub data Quoting : Type 0 where
  bare : Quoting
  behind_backslash : Quoting
  in_quotes : Quoting

-- What the rest of a word reads as, once its quotes are removed. All between single quotes is itself, and so is what
-- comes after `\`, but for a line feed. A character in neither may mean more to the shell, and U+0000 is in no word.
abbrev pub shell_rest : Quoting → List ℕ → Option (List ℕ)
shell_rest bare [] = Some []
shell_rest behind_backslash [] = None
shell_rest in_quotes [] = None
shell_rest bare (c ∷ cs) = if c == byte "'" then shell_rest in_quotes cs else
    (if c == byte "\\" then shell_rest behind_backslash cs else None)
shell_rest behind_backslash (c ∷ cs) =
    if (c == 0x0) || (c == 0xA) then None else option_map (λ text. c ∷ text) (shell_rest bare cs)
shell_rest in_quotes (c ∷ cs) = if c == byte "'" then shell_rest bare cs else
    (if c == 0x0 then None else option_map (λ text. c ∷ text) (shell_rest in_quotes cs))

-- the text that a word means, which only quotes make empty
abbrev pub shell_word : List ℕ → Option (List ℕ)
shell_word [] = None
shell_word (c ∷ cs) = shell_rest bare (c ∷ cs)
