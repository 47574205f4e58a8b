-- What a formatter has written.
use Rattle.std.specs.Prelude.{◌≡◌, ℕ, List, ◌++◌, Bool, true, false, None, Result, Ok, Err, string_bytes}
use Rattle.upon_types.specs.Answers.{FormatEnd, well, refused, Formatted}
use Rattle.upon_fmt.specs.declared.fmt.Error.{Error}
use Rattle.upon_fmt.specs.declared.fmt.Formatter.{Formatter}
use Rattle.upon_fmt.specs.Error.{message_of}

-- the text so far
abbrev pub text_of : Formatter → List ℕ
text_of f = string_bytes f.buffer

-- whether memory was refused
abbrev pub is_marked : Formatter → Bool
is_marked f = f.is_marked

-- the text is appended, and no mark is set; or nothing is appended, and the mark is set
abbrev pub Writes : Formatter → Formatter → Result (Unit {0}) Error → List ℕ → Type 0
Writes old new (Ok u) text =
    (is_marked old ≡ false) × (is_marked new ≡ false) × (text_of new ≡ text_of old ++ text)
Writes old new (Err e) text =
    (message_of e ≡ None) × (is_marked new ≡ true) × (text_of new ≡ text_of old)

-- the result is this end
abbrev pub HasEnd : Result (Unit {0}) Error → FormatEnd → Type 0
HasEnd (Ok u) end = end ≡ well
HasEnd (Err e) end = end ≡ refused (message_of e)

-- if no mark is set afterwards: none was set before, this text is appended, and the result is this end
abbrev pub Formats : Formatter → Formatter → Result (Unit {0}) Error → Formatted → Type 0
Formats old new result o =
    is_marked new ≡ false
    → (is_marked old ≡ false) × (text_of new ≡ text_of old ++ o.text) × HasEnd result o.end
