use Rattle.std.proofs.Common.{◌≡◌, ◌++◌, chars, encode_utf8_all, string_bytes}
use Rattle.std.specs.Str.{IsUtf8}
use Rattle.std.specs.Str.Iter.{chars_rest}
use Rattle.upon_std.specs.Encoding.Truncating.{front}
use Rattle.upon_std.proofs.encoding.truncating.front.Given as goal

-- the characters so far, and the front of those that come, are the front
abbrev pub invariant-loop-character : goal.invariant-loop-character
invariant-loop-character l = record {
  utf8 : IsUtf8 (chars_rest l.character-iterator);
  written : string_bytes l.cut ++ encode_utf8_all (front l.left (chars (chars_rest l.character-iterator)))
      ≡ encode_utf8_all (front l.columns (chars l.text));
}
