use Rattle.std.proofs.Common.{◌≡◌, ◌-◌, chars}
use Rattle.std.specs.Str.{IsUtf8}
use Rattle.std.specs.Str.Iter.{chars_rest}
use Rattle.upon_std.specs.Encoding.Columns.{columns_of}
use Rattle.upon_std.proofs.encoding.columns.columns_beside.Given as goal

-- what is left beside the characters so far, less those that come, is what is left beside all
abbrev pub invariant-loop-character : goal.invariant-loop-character
invariant-loop-character l = record {
  utf8 : IsUtf8 (chars_rest l.character-iterator);
  counted : l.left - columns_of (chars (chars_rest l.character-iterator)) ≡ l.most - columns_of (chars l.text);
}
