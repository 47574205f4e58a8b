-- Which literals may be where a word is wanted.
use Rattle.std.specs.Prelude.{Bool, true, false}
use Rattle.upon_types.specs.declared.types.token.Token.{Token}
use Rattle.upon_types.specs.declared.types.token.Token.TheVariants.{Number, String, Index}
use Rattle.upon_language_spec.specs.Wanted.{Wanted, an_expression, a_string, a_name_or_index, a_number}

-- a number may be where an expression or a number is wanted, a string where an expression or a string is, an index
-- where a name or an index is
abbrev pub fits_word : Token → Wanted → Bool
fits_word Number an_expression = true
fits_word Number a_number = true
fits_word String an_expression = true
fits_word String a_string = true
fits_word Index a_name_or_index = true
fits_word t w = false
