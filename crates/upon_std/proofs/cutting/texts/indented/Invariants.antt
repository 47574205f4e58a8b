use Rattle.std.proofs.Common.{◌≡◌, ◌++◌, ◌≤◌, length, string_bytes, codes}
use Rattle.std.specs.Str.Iter.{split_text, split_has_more, split_pattern}
use Rattle.upon_std.specs.Basic.Parts.{most_bytes}
use Rattle.upon_std.specs.Cutting.Pieces.{indented_lines, indented}
use Rattle.upon_std.proofs.CuttingLemmas.Pieces.{shown}
use Rattle.upon_std.proofs.cutting.texts.indented.Given as goal

-- what is made so far, and then the lines that are left, are the whole
abbrev pub invariant-loop-line : goal.invariant-loop-line
invariant-loop-line l = record {
  pattern : (split_pattern l.line-iterator).now ≡ codes "\n";
  within : length (string_bytes l.made) ≤ most_bytes;
  whole : string_bytes l.made ++ indented_lines l.is_first l.width (shown (codes "\n") (split_has_more l.line-iterator) (split_text l.line-iterator)) ≡ indented l.width l.text;
}
