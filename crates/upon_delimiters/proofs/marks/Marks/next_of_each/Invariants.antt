use Rattle.std.proofs.Common.{List}
use Rattle.upon_language_spec.specs.Search.{DelimiterText, HasTexts, NoneFrom}
use Rattle.upon_delimiters.specs.Marks.{MarksEach}
use Rattle.upon_delimiters.proofs.marks.Marks.next_of_each.Given as goal

abbrev pub invariant-loop-offset : goal.invariant-loop-offset
invariant-loop-offset l =
    (delimiters : List DelimiterText) → HasTexts delimiters → MarksEach l.self delimiters → NoneFrom delimiters l.bytes l.at l.offset
