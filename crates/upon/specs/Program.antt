-- The arguments of the program, its statuses, and what a run shows.
use Rattle.std.specs.Prelude.{◌≡◌, ◌⊎◌, ℕ, ◌==◌, List, [], ◌∷◌, map, Bool, false, Option, Some, None, Result, Ok, Err, String, string_bytes}
use Rattle.std.specs.Io.KnownBytes.{Keeps}
use Rattle.std.specs.List.{list_all, list_any, before_first, after_first}
use Rattle.std.specs.Str.{IsUtf8}
use Rattle.std.specs.declared.alloc.Global.{Global}
use Rattle.upon_types.specs.Bytes.{equals_sign}
use Rattle.upon_types.specs.Conversions.{HoldsLast}
use Rattle.upon_types.specs.Error.{fault_of}
use Rattle.upon_types.specs.Fault.{out_of_memory}
use Rattle.upon_types.specs.Tree.{Statements}
use Rattle.upon_types.specs.Val.{Val, text_val}
use Rattle.upon_types.specs.declared.error.Error.{Error}
use Rattle.upon_language_spec.specs.DefaultDelimiters.{default_delimiters}
use Rattle.upon_language_spec.specs.Grammar.{HasTree}
use Rattle.upon_engine.specs.Changes.{empty_engine, with_text}
use Rattle.upon_engine.specs.Faults.{IsSyntaxErrorOf}
use Rattle.upon_engine.specs.Texts.{Texts}
use Rattle.upon_engine.specs.Theorem.{Sends}
use Rattle.upon.specs.declared.program.Failure.{Failure}
use Rattle.upon.specs.declared.program.Failure.TheVariants.{Usage, Unreadable, NotText, Fault}

-- a `=` (61)
abbrev pub is_equals_sign : ℕ → Bool
is_equals_sign b = b == equals_sign

-- a text that has a `=`
abbrev pub word_has_equals : String Global → Bool
word_has_equals word = list_any is_equals_sign (string_bytes word)

-- a file's name, and then words that have a `=` each
abbrev pub is_call : List (String Global) → Bool
is_call [] = false
is_call (file ∷ words) = list_all word_has_equals words

-- the key and the text of a word: what is before its first `=`, and what is after it
abbrev pub word_pair : String Global → List ℕ × Val
word_pair word = (
  before_first is_equals_sign (string_bytes word),
  text_val
      (after_first is_equals_sign (string_bytes word)),
)

-- the program's status for a failure: 1 for a fault of the engine, of memory or of the output, else 2
abbrev pub status_of : Failure → ℕ
status_of Usage = 2
status_of Unreadable = 2
status_of NotText = 2
status_of (Fault error) = 1

-- memory is out
abbrev pub IsMemoryFailure : Failure → Type 0
IsMemoryFailure Usage = ⊥
IsMemoryFailure Unreadable = ⊥
IsMemoryFailure NotText = ⊥
IsMemoryFailure (Fault error) = fault_of error ≡ out_of_memory

-- the program's status by how its work ended: 0 if all went well
abbrev pub end_status : Result (Unit {0}) Failure → ℕ
end_status (Ok u) = 0
end_status (Err failure) = status_of failure

-- an engine that holds one text, under a name
abbrev pub holding : List ℕ → List ℕ → Texts
holding name text = with_text name text empty_engine

-- the text has a tree, and what that means on a value was sent to an output, by what the output has and had
abbrev pub Shown : List ℕ → List ℕ → Val → Result (Unit {0}) Error → Option (List ℕ) → Option (List ℕ) → Type 0
Shown name text v end old new = (tree : Statements) × ∥ HasTree default_delimiters text tree ∥₁
    × Sends (holding name text) (Some name) text tree v end old new

-- A text is rendered on a value. If all went well, it was shown. Else it was shown until its rendering, memory or the
-- output failed; or it was refused with its first fault, or memory was out, and nothing was sent.
abbrev pub RendersValue : List ℕ → List ℕ → Val → Result (Unit {0}) Error → Option (List ℕ) → Option (List ℕ) → Type 0
RendersValue name text v (Ok u) old new = Shown name text v (Ok tt) old new
RendersValue name text v (Err e) old new =
    Shown name text v (Err e) old new ⊎ (IsSyntaxErrorOf name default_delimiters text e × Keeps old new)

-- a text is rendered on the map that the words make, with each text at its key; of words with one key the last counts
abbrev pub RendersOn : List ℕ → List (String Global) → List ℕ → Result (Unit {0}) Error → Option (List ℕ)
    → Option (List ℕ) → Type 0
RendersOn name words text (Ok u) old new =
    (v : Val) × HoldsLast (map word_pair words) v × RendersValue name text v (Ok tt) old new
RendersOn name words text (Err e) old new =
    ((v : Val) × HoldsLast (map word_pair words) v × RendersValue name text v (Err e) old new)
    ⊎ ((fault_of e ≡ out_of_memory) × Keeps old new)

-- the text is these bytes, if they are known
abbrev pub IsKnown : Option (List ℕ) → List ℕ → Type 0
IsKnown None text = Unit {0}
IsKnown (Some bytes) text = text ≡ bytes

-- the bytes, if they are known, are not UTF-8
abbrev pub IsNoText : Option (List ℕ) → Type 0
IsNoText None = Unit {0}
IsNoText (Some bytes) = IsUtf8 bytes → ⊥

-- A file was read whose bytes may be known: its text, or it is no text; or it could not be read, or memory was out.
abbrev pub ReadsFile : Option (List ℕ) → Result (String Global) Failure → Type 0
ReadsFile file (Ok text) = IsKnown file (string_bytes text)
ReadsFile file (Err Usage) = ⊥
ReadsFile file (Err Unreadable) = Unit {0}
ReadsFile file (Err NotText) = IsNoText file
ReadsFile file (Err (Fault error)) = fault_of error ≡ out_of_memory

-- A run on words ends, of a file whose bytes may be known. If all went well, or by a fault, the first word is a name
-- and the file's text was rendered under it on the other words; or memory was out. Else nothing was sent: the words
-- are those of no call, the file was not read, or it is not UTF-8.
abbrev pub RunEnds : List (String Global) → Option (List ℕ) → Result (Unit {0}) Failure → Option (List ℕ)
    → Option (List ℕ) → Type 0
RunEnds [] file end old new = (end ≡ Err Usage) × Keeps old new
RunEnds (name ∷ words) file (Ok u) old new =
    (text : List ℕ) × IsKnown file text × RendersOn (string_bytes name) words text (Ok tt) old new
RunEnds (name ∷ words) file (Err (Fault e)) old new =
    ((text : List ℕ) × IsKnown file text × RendersOn (string_bytes name) words text (Err e) old new)
    ⊎ ((fault_of e ≡ out_of_memory) × Keeps old new)
RunEnds (name ∷ words) file (Err Usage) old new = (list_all word_has_equals words ≡ false) × Keeps old new
RunEnds (name ∷ words) file (Err Unreadable) old new = Keeps old new
RunEnds (name ∷ words) file (Err NotText) old new = IsNoText file × Keeps old new
