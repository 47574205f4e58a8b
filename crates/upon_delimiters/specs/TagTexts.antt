-- What the code's pairs of texts denote.
use Rattle.std.specs.Prelude.{Option}
use Rattle.std.specs.Option.{ForSome}
use Rattle.upon_delimiters.specs.SetTexts.{Pair, HasBytes}
use Rattle.upon_delimiters.specs.declared.syntax.builder.TagTexts.{TagTexts}

-- the pair that two texts of the code denote
abbrev pub pair_of : TagTexts → Pair
pair_of texts = record { begin = texts.begin.now; end = texts.end.now }

-- if texts are set, each has a byte
abbrev pub HaveBytes : Option TagTexts → Type 0
HaveBytes texts = ForSome texts (λ t. HasBytes (pair_of t))
