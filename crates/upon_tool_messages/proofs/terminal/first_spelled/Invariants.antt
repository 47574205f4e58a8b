use Rattle.std.proofs.Common.{◌≡◌, ◌≤◌, ◌++◌, length, take, drop}
use Rattle.std.specs.Str.{IsUtf8}
use Rattle.std.specs.Str.Iter.{chars_rest}
use Rattle.upon_tool_messages.specs.Terminal.{shown_text}
use Rattle.upon_tool_messages.proofs.terminal.first_spelled.Given as goal

-- what was passed is shown as it is
abbrev pub invariant-loop-letter : goal.invariant-loop-letter
invariant-loop-letter l = record {
  within : l.len ≤ length l.text;
  left : drop l.len l.text ≡ chars_rest l.letter-iterator;
  utf8 : IsUtf8 (chars_rest l.letter-iterator);
  shown : shown_text l.text ≡ take l.len l.text ++ shown_text (chars_rest l.letter-iterator);
}
