-- How a searcher looks for the next delimiter.
use Rattle.std.specs.Prelude.{◌≡◌, List}
use Rattle.upon_language_spec.specs.DefaultDelimiters.{default_delimiters}
use Rattle.upon_language_spec.specs.Search.{DelimiterText}
use Rattle.upon_delimiters.specs.FewBytes.{HaveOneOf}
use Rattle.upon_delimiters.specs.Marks.{MarksEach}
use Rattle.upon_delimiters.specs.declared.search.Way.{Way}
use Rattle.upon_delimiters.specs.declared.search.Way.TheVariants.{Brace, Few, Marked}

-- by braces only the default delimiters are found; by a few bytes those that have one of them; by marks those that are
-- marked
abbrev pub WayFits : Way → List DelimiterText → Type 0
WayFits Brace delimiters = delimiters ≡ default_delimiters
WayFits (Few bytes marks) delimiters = HaveOneOf bytes delimiters × MarksEach marks delimiters
WayFits (Marked marks) delimiters = MarksEach marks delimiters
