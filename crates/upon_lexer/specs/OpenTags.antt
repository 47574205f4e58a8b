-- What the code's open tag denotes.
use Rattle.std.specs.Prelude.{Bool, Option, Some, None}
use Rattle.upon_types.specs.declared.types.Span.{Span}
use Rattle.upon_language_spec.specs.Delimiters.{expression, block}
use Rattle.upon_language_spec.specs.Cut.{Mode, outside, in_tag, in_comment}
use Rattle.upon_lexer.specs.declared.compile.roles.Sort.{Sort}
use Rattle.upon_lexer.specs.declared.compile.roles.Sort.TheVariants.{Expr, Block, Comment}
use Rattle.upon_lexer.specs.declared.compile.tags.OpenTag.{OpenTag}

-- the mode in a tag of a sort
abbrev pub mode_in : Sort → Bool → Mode
mode_in Expr in_path = in_tag expression in_path
mode_in Block in_path = in_tag block in_path
mode_in Comment in_path = in_comment

-- the mode of a lexer with this open tag, or with none
abbrev pub mode_of : Option OpenTag → Mode
mode_of None = outside
mode_of (Some tag) = mode_in tag.sort tag.in_path

-- where the open tag begins
abbrev pub begin_of : Option OpenTag → Option Span
begin_of None = None
begin_of (Some tag) = Some tag.begin
