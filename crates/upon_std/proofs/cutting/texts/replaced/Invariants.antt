use Rattle.std.proofs.Common.{◌≡◌, ◌++◌, ◌≤◌, length, string_bytes}
use denote.Shadow.{shadow}
use denote.Text.{Utf8}
use Rattle.std.specs.Str.Iter.{split_text, split_has_more, split_pattern}
use Rattle.upon_std.specs.Basic.Parts.{most_bytes}
use Rattle.upon_std.specs.Cutting.Pieces.{put_together, replaced}
use Rattle.upon_std.proofs.CuttingLemmas.Pieces.{shown}
use Rattle.upon_std.proofs.cutting.texts.replaced.Given as goal

-- what is made so far, and then the parts that are left, are the whole
abbrev pub invariant-loop-piece : goal.invariant-loop-piece
invariant-loop-piece l = record {
  text : shadow (Utf8 l.before);
  pattern : (split_pattern l.piece-iterator).now ≡ l.fn.from;
  within : length (string_bytes l.made) ≤ most_bytes;
  whole : string_bytes l.made ++ put_together l.before l.to (shown l.fn.from (split_has_more l.piece-iterator) (split_text l.piece-iterator)) ≡ replaced l.fn.from l.to l.text;
}
