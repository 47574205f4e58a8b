use Rattle.std.proofs.Common.{◌≡◌, chars, nat_le}
use Rattle.std.specs.Str.{IsUtf8}
use Rattle.std.specs.Str.Iter.{chars_rest}
use Rattle.upon_std.specs.Encoding.Columns.{columns_of}
use Rattle.upon_std.proofs.encoding.columns.fits.Given as goal

-- the characters that come fit into what is left where all fit
abbrev pub invariant-loop-character : goal.invariant-loop-character
invariant-loop-character l = record {
  utf8 : IsUtf8 (chars_rest l.character-iterator);
  counted : nat_le (columns_of (chars (chars_rest l.character-iterator))) l.left ≡ nat_le (columns_of (chars l.text)) l.most;
}
