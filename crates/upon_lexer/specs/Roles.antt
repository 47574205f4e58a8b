-- What the code's kinds of delimiters denote.
use Rattle.std.specs.Prelude.{◌≡◌, Some}
use Rattle.upon_types.specs.declared.types.Delimiter.{Delimiter}
use Rattle.upon_language_spec.specs.Delimiters.{expression, block, comment, begin_sort, end_sort}
use Rattle.upon_language_spec.specs.Delimiters as language
use Rattle.upon_lexer.specs.declared.compile.roles.Sort.{Sort}
use Rattle.upon_lexer.specs.declared.compile.roles.Sort.TheVariants.{Expr, Block, Comment}
use Rattle.upon_lexer.specs.declared.compile.roles.Role.{Role}
use Rattle.upon_lexer.specs.declared.compile.roles.Role.TheVariants.{Begin, End}

-- the sort that a sort of the code denotes
abbrev pub sort_of : Sort → language.Sort
sort_of Expr = expression
sort_of Block = block
sort_of Comment = comment

-- the kind of delimiter begins this sort, or ends it
abbrev pub HasRole : Delimiter → Role → Type 0
HasRole kind (Begin sort) = begin_sort kind ≡ Some (sort_of sort)
HasRole kind (End sort) = end_sort kind ≡ Some (sort_of sort)
