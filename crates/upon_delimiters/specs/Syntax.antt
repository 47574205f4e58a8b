-- The delimiters of a syntax.
use Rattle.std.specs.Prelude.{List}
use Rattle.upon_language_spec.specs.Search.{DelimiterText}
use Rattle.upon_delimiters.specs.Entries.{entries_list}
use Rattle.upon_delimiters.specs.declared.syntax.Syntax.{Syntax}

-- in the order of its list
abbrev pub syntax_delimiters : Syntax → List DelimiterText
syntax_delimiters syntax = entries_list syntax.entries
