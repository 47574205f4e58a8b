-- When two lists of delimiters are the same: where they have the same delimiters in the same order.
use Rattle.std.specs.Prelude.{Bool, List, ◌&&◌, bytes_eq}
use Rattle.std.specs.Cmp.Lexicographic.{pointwise}
use denote.Enum.Bare.{sameb}
use Rattle.upon_types.specs.contracts.types.Delimiter.{the_type}
use Rattle.upon_language_spec.specs.Search.{DelimiterText}

-- two delimiters are of one kind and have one text
abbrev pub delimiter_eq : DelimiterText → DelimiterText → Bool
delimiter_eq p q = sameb the_type p.kind q.kind && bytes_eq p.text q.text

-- two lists have the same delimiters in the same order
abbrev pub delimiters_eq : List DelimiterText → List DelimiterText → Bool
delimiters_eq = pointwise delimiter_eq
