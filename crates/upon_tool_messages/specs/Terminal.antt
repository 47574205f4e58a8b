-- What a terminal hands on, and what it holds.
use Rattle.std.specs.Prelude.{◌≡◌, ℕ, ◌==◌, List, ◌++◌, Bool, true, false, not, ◌&&◌, Option, Some, string_bytes, encode_utf8, if◌then◌else◌}
use Rattle.std.specs.Char.{is_control}
use Rattle.std.specs.Char.Escape.{escape_unicode}
use Rattle.std.specs.List.{flat_map}
use Rattle.std.specs.Str.{chars}
use Rattle.std.specs.Io.KnownBytes.{Appends}
use denote.Ref.{MutBor}
use Rattle.upon_tool_messages.specs.Colors.{tint_code, reset_code}
use Rattle.upon_tool_messages.specs.declared.color.Tint.{Tint}
use Rattle.upon_tool_messages.specs.declared.terminal.Terminal.{Terminal}

-- the writer that it hands on to
abbrev pub terminal_writer : {E : Type 0} → Terminal E → MutBor E
terminal_writer terminal = terminal.err

-- what it holds of a line that has not ended
abbrev pub held_line : {E : Type 0} → Terminal E → List ℕ
held_line terminal = string_bytes terminal.line

-- whether it paints lines
abbrev pub paints_lines : {E : Type 0} → Terminal E → Bool
paints_lines terminal = terminal.has_colors

-- whether the rest of a line is handed on as it is
abbrev pub hands_plain : {E : Type 0} → Terminal E → Bool
hands_plain terminal = terminal.is_plain

-- whether a character is spelled: a control character, but for a line feed and a tabulator
abbrev pub is_spelled : ℕ → Bool
is_spelled letter = is_control letter && not (letter == 10) && not (letter == 9)

-- a character as it is shown: spelled, as `\u{1b}`, or as it is
abbrev pub shown_letter : ℕ → List ℕ
shown_letter letter = if is_spelled letter then escape_unicode letter else encode_utf8 letter

-- a text with each character as it is shown
abbrev pub shown_text : List ℕ → List ℕ
shown_text text = flat_map shown_letter (chars text)

-- a text as it is sent with colors: as it is, or with parts of it between the code of a tint and the reset
pub data Painted : List ℕ → List ℕ → Type 0 where
  plain : (text : List ℕ) → Painted text text
  tinted : (tint : Tint) (code text : List ℕ) → tint_code tint ≡ Some code → Painted text (code ++ text ++ reset_code)
  both : {a b c d : List ℕ} → Painted a b → Painted c d → Painted (a ++ c) (b ++ d)

-- a text as it is sent, with colors or without
abbrev pub SentAs : Bool → List ℕ → List ℕ → Type 0
SentAs false text sent = sent ≡ text
SentAs true text sent = Painted text sent

-- a text was sent with colors
abbrev pub SendsPart : List ℕ → Option (List ℕ) → Option (List ℕ) → Type 0
SendsPart text old new = (sent : List ℕ) × Painted text sent × Appends old new sent

-- A terminal that holds a text takes one: the two are what it sends on, in colors or without, and what it holds then.
pub record PassesOn (paints : Bool) (held held' : List ℕ) (old new : Option (List ℕ)) (text : List ℕ) : Type 0 where
  pub sent : List ℕ
  pub received : List ℕ
  pub parts : held ++ text ≡ sent ++ held'
  pub as_sent : SentAs paints sent received
  pub appended : Appends old new received
