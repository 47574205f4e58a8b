-- What a tag wants at an offset, as the code says it.
use Rattle.upon_language_spec.specs.Wanted as wanted
use Rattle.upon_tag_parser.specs.declared.compile.parse.want.Want.{Want}
use Rattle.upon_tag_parser.specs.declared.compile.parse.want.Want.TheVariants.{Expression, Text, NameOrIndex, EndExpr}
use Rattle.upon_tag_parser.specs.declared.compile.parse.want.Want.TheVariants.{EndBlock, CloseParen, CloseBracket}
use Rattle.upon_tag_parser.specs.declared.compile.parse.want.Want.TheVariants.{CloseBrace, In, As, BlockWord, Name, Number}
use Rattle.upon_tag_parser.specs.declared.compile.parse.want.Want.TheVariants.{Colon}

-- the definition that a wanted word of the code denotes
abbrev pub wanted_of : Want → wanted.Wanted
wanted_of Expression = wanted.an_expression
wanted_of Text = wanted.a_string
wanted_of NameOrIndex = wanted.a_name_or_index
wanted_of EndExpr = wanted.an_end_expression
wanted_of EndBlock = wanted.an_end_block
wanted_of CloseParen = wanted.a_close_paren
wanted_of CloseBracket = wanted.a_close_bracket
wanted_of CloseBrace = wanted.a_close_brace
wanted_of In = wanted.an_in
wanted_of As = wanted.an_as
wanted_of BlockWord = wanted.a_block_word
wanted_of Name = wanted.a_name
wanted_of Number = wanted.a_number
wanted_of Colon = wanted.a_colon
