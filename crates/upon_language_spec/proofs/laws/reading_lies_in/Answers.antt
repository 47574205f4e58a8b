use Rattle.std.proofs.lemmas.Str.{IsCharBoundary-start}
use Rattle.upon_language_spec.specs.Cut.{outside}
use Rattle.upon_language_spec.proofs.SpansLieIn.Cut.{cut_lies_from}
use Rattle.upon_language_spec.proofs.laws.reading_lies_in.Goals as goal

pub returns : goal.returns
returns c = λ delimiters s ls mode p texts utf8 text h. cut_lies_from delimiters s texts outside mode 0 p ls utf8 text (IsCharBoundary-start s text) h
