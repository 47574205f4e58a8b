-- What a builder of a syntax has set.
use Rattle.std.specs.Prelude.{option_map}
use Rattle.upon_delimiters.specs.SetTexts.{SetTexts}
use Rattle.upon_delimiters.specs.TagTexts.{pair_of}
use Rattle.upon_delimiters.specs.declared.syntax.builder.SyntaxBuilder.{SyntaxBuilder}

-- the pairs that it has set
abbrev pub builder_texts : SyntaxBuilder → SetTexts
builder_texts builder = record {
  expr = option_map pair_of builder.expr;
  block = option_map pair_of builder.block;
  comment = option_map pair_of builder.comment;
}
